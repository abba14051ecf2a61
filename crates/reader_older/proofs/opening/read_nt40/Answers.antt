use Rattle.std.proofs.Common.{rules}
use Rattle.answers.specs.Wire.{nt40_version}
use Rattle.reader.specs.Reader.{Fields, nt40, read_nt40}
use Rattle.reader_older.specs.declared.opening.Opening.{Opening}
use Rattle.reader_older.proofs.opening.read_nt40.Goals as goal

-- the fields that an opening makes
abbrev fields_of : Opening → Fields
fields_of o = nt40 (record { opcode = o.opcode; server = o.server; user = o.user; domain = o.domain; version = nt40_version })

pub returns-in_err-ending_at : goal.returns-in_err-ending_at
unfolding read_nt40
returns-in_err-ending_at c =
    let e = c.in_err-ending_at.ensures (fields_of c.in_ok-opening.opening.value) in
    rw (← c.in_ok-opening.ensures, ← e) (search rules)

pub returns : goal.returns
unfolding read_nt40
returns c =
    let e = c.in_ok-ending_at.ensures (fields_of c.in_ok-opening.opening.value) in
    rw (← c.in_ok-opening.ensures, ← e)
