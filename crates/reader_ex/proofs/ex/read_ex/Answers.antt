use Rattle.std.proofs.Common.{Option, rules}
use mathlib.Core.List.{List}
use Prim.Native.Nat.{ℕ}
use Rattle.octets.specs.declared.part.Stretch.{Stretch}
use Rattle.reader.specs.Reader.{NameRead, Fields, ex, Last, read_ex}
use Rattle.reader_ex.proofs.ex.read_ex.Goals as goal

-- the fields that the parts make
abbrev fields_of : ℕ → ℕ → Stretch → List NameRead → Option Stretch → Last → Fields
fields_of opcode flags guid names ipv4 last =
    ex (record { opcode = opcode; flags = flags; guid = guid; names = names; ipv4 = ipv4; next_site_lem = last.next_site_lem; version = last.version })

pub returns-in_err-tokens_at : goal.returns-in_err-tokens_at
unfolding read_ex
returns-in_err-tokens_at c =
    let (given, names, same) = c.in_ok-names.ensures in
    let (l, last, last_same) = c.in_ok-last.ensures in
    let f = fields_of c.in_ok-opcode.opcode.value c.in_ok-flags.flags.value c.in_ok-guid.guid.value given c.in_ok-ipv4.ipv4.value l in
    rw (
      ← c.in_ok-opcode.ensures,
      ← c.in_ok-flags_at.ensures.field,
      ← c.in_ok-flags.ensures,
      ← c.in_ok-guid.ensures,
      names,
      ← c.has_bits-with_address.ensures,
      ← c.in_ok-ipv4.ensures,
      ← c.has_next_site.ensures,
      last,
      ← c.in_err-tokens_at.ensures f,
    )
    (search rules)

pub returns : goal.returns
unfolding read_ex
returns c =
    let (given, names, same) = c.in_ok-names.ensures in
    let (l, last, last_same) = c.in_ok-last.ensures in
    let f = fields_of c.in_ok-opcode.opcode.value c.in_ok-flags.flags.value c.in_ok-guid.guid.value given c.in_ok-ipv4.ipv4.value l in
    rw (
      ← c.in_ok-opcode.ensures,
      ← c.in_ok-flags_at.ensures.field,
      ← c.in_ok-flags.ensures,
      ← c.in_ok-guid.ensures,
      names,
      ← c.has_bits-with_address.ensures,
      ← c.in_ok-ipv4.ensures,
      ← c.has_next_site.ensures,
      last,
      ← c.in_ok-tokens_at.ensures f,
      last_same,
      same,
    )
