-- Laws of an EX's plan from name 8 on, by whether it is written.
use mathlib.Core.Path.{◌≡◌, refl, sym, ap, subst, ◌∙◌}
use mathlib.Core.Bool.{true, false}
use mathlib.Core.List.{List}
use Prim.Native.Nat.{ℕ, ◌+◌, ◌<◌}
use native.Mathlib.Omega.{arith}
use lib.ListN.{length, take, set}
use lib.Seq.{take-set-le, get_or-set_same}
use Rattle.answers.specs.Wire.{ex_version}
use Rattle.lent.specs.declared.stretch.Stretch.{Stretch}
use Rattle.lent.specs.Internal.Stretch.{octets_at}
use Rattle.names.specs.declared.plan.PlannedName.{PlannedName}
use Rattle.names.specs.Name.{write_name}
use Rattle.names.specs.Internal.Plan.{blank_name, Fit, name_octets, names_tails, writing_of, PlanOf}
use Rattle.reply.specs.Internal.Plan.{last_name, last_octets}
use Rattle.reply.proofs.Laws.Reply.{ending-length}
use Rattle.reply.proofs.Laws.Plan.{last-length}
use Rattle.reply_plan.specs.Internal.LastPlan.{LastPlan}

module _ (table request : List ℕ) (names : List PlannedName) (text : Stretch) (front : ℕ) where
  pub last_none : LastPlan table request names false text front (record { «names» = names; «length» = front + 8 })
  last_none = record { before = refl; next = tt; whole = ap (λ (k : ℕ). front + k) (sym (ending-length ex_version)) }

  module _ (name : PlannedName) (size : ℕ) (h : 8 < length names) (p : PlanOf table request (take 8 names) text front name) (e : size ≡ length (name_octets table request name)) where
    before : take 8 (set names 8 name) ≡ take 8 names
    before = take-set-le 8 names 8 name (omega arith)

    last : name ≡ last_name (set names 8 name)
    last = sym (get_or-set_same names 8 name blank_name h)

    pub last_planned : LastPlan table request names true text front (record { «names» = set names 8 name; «length» = front + size + 8 })
    last_planned =
        record {
          before = before;
          next = (
            subst (Fit table request) last p.fit,
            ap (λ (ns : List PlannedName). write_name (names_tails table request ns) front (octets_at table request text)) before ∙ p.writes ∙ ap (writing_of table request) last,
          );
          whole =
              let n : front + size + 8 ≡ front + length (last_octets table request true name) = omega (arith, last-length table request name) in
              n ∙ ap (λ (x : PlannedName). front + length (last_octets table request true x)) last;
        }
