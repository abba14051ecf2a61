use mathlib.Core.Path.{ap, ◌∙◌}
use mathlib.Core.List.{List}
use Prim.Native.Nat.{ℕ}
use Rattle.octets.specs.Label.{labels}
use Rattle.names.specs.Internal.Plan.{first_aim, tails_from, name_tails}
use Rattle.lent.proofs.Laws.Stretch.{text_short}
use Rattle.names.proofs.plan.PlannedName.aim.Goals as goal

pub aim_in-requires : goal.aim_in-requires
aim_in-requires c =
    let p = c.args in
    let f = c.requires in
    let e = c.text.ensures in
    (rw e (text_short p.lent.table.now p.lent.request.now p.self.now.text), f.low, rw e f.labels)

pub returns : goal.returns
unfolding name_tails
returns c =
    let p = c.args in
    record {
      value = c.aim_in.ensures.value ∙ ap (λ (x : List ℕ). first_aim (tails_from p.self.now.offset p.self.now.literal (labels x)) (labels p.text.now)) c.text.ensures;
      aim_within = c.aim_in.ensures.aim_within;
    }
