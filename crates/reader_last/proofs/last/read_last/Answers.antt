use Rattle.std.proofs.Common.{None, rules}
use mathlib.Core.Path.{refl}
use Rattle.answers.specs.Wire.{ex_version}
use Rattle.reader.specs.Reader.{read_last}
use Rattle.reader_last.proofs.last.read_last.Goals as goal

pub returns : goal.returns
unfolding read_last
returns c = (record { next_site_lem = None; version = ex_version }, search rules, refl)
