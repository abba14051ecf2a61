use Rattle.std.proofs.Common.{Some, rules}
use mathlib.Core.Path.{ap}
use Rattle.answers.specs.Wire.{ex_version_with_next_site}
use Rattle.reader.specs.Reader.{joined_name, read_last}
use Rattle.reader_names.specs.declared.NameAt.{NameAt}
use Rattle.reader_last.proofs.last.read_next_site.Goals as goal

pub returns : goal.returns
unfolding read_last
returns c =
    let (n, e, q) = c.in_ok-site.ensures in (
      record { next_site_lem = Some (joined_name c.args.at n); version = ex_version_with_next_site },
      search rules,
      ap (λ (x : NameAt). record { next_site = Some x; version = ex_version_with_next_site }) q,
    )
