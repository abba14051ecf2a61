use Rattle.std.proofs.Common.{rules}
use mathlib.Core.List.{List}
use Prim.Native.Nat.{ℕ}
use Rattle.answers.specs.Wire.{response_version}
use Rattle.octets.specs.declared.part.Stretch.{Stretch}
use Rattle.reader.specs.Reader.{NameRead, Fields, response, read_response}
use Rattle.reader_older.specs.declared.opening.Opening.{Opening}
use Rattle.reader_older.proofs.response.read_response.Goals as goal

-- the fields that the parts make
abbrev fields_of : Opening → Stretch → List NameRead → Stretch → ℕ → Fields
fields_of o guid names ipv4 flags =
    response
    (record {
      opcode = o.opcode;
      server = o.server;
      user = o.user;
      domain = o.domain;
      guid = guid;
      names = names;
      ipv4 = ipv4;
      flags = flags;
      version = response_version;
    })

pub returns-in_err-ending_at : goal.returns-in_err-ending_at
unfolding read_response
returns-in_err-ending_at c =
    let (given, names, same) = c.in_ok-names.ensures in
    let f = fields_of c.in_ok-opening.opening.value c.in_ok-guid.guid.value given c.in_ok-ipv4.ipv4.value c.in_ok-flags.flags.value in
    rw (
      ← c.in_ok-opening.ensures,
      ← c.in_ok-guid.ensures,
      ← c.in_ok-names_at.ensures.field,
      names,
      ← c.in_ok-ipv4.ensures,
      ← c.in_ok-flags.ensures,
      ← c.in_err-ending_at.ensures f,
    )
    (search rules)

pub returns : goal.returns
unfolding read_response
returns c =
    let (given, names, same) = c.in_ok-names.ensures in
    let f = fields_of c.in_ok-opening.opening.value c.in_ok-guid.guid.value given c.in_ok-ipv4.ipv4.value c.in_ok-flags.flags.value in
    rw (
      ← c.in_ok-opening.ensures,
      ← c.in_ok-guid.ensures,
      ← c.in_ok-names_at.ensures.field,
      names,
      ← c.in_ok-ipv4.ensures,
      ← c.in_ok-flags.ensures,
      ← c.in_ok-ending_at.ensures f,
      same,
    )
