use mathlib.Core.Path.{◌≡◌, ◌∙◌, subst}
use mathlib.Core.List.{List}
use Prim.Native.Nat.{ℕ}
use lib.ListN.{length}
use Rattle.octets.specs.Lists.{cut}
use Rattle.octets.specs.Number.{little_octets}
use Rattle.reader.specs.Field.{read_fixed, valued}
use Rattle.reader.proofs.Laws.Field.{two-octets}
use Rattle.reader.proofs.field.fixed_u16_at.Goals as goal

pub returns-clause-field : goal.returns-clause-field
unfolding little_octets
returns-clause-field c =
    let a = c.args in
    subst (λ (x : List ℕ). valued (cut a.reply.now a.at (length x)) c.fixed_at.result ≡ read_fixed a.reply.now a.at x) (c.to_le_bytes.ensures ∙ two-octets a.number) c.fixed_at.ensures.field
