-- What is laid into a buffer, field by field.
use mathlib.Core.Path.{◌≡◌, sym, ap, subst, ◌∙◌}
use mathlib.Core.List.{List, ◌++◌, append_assoc}
use Prim.Native.Nat.{ℕ, ◌+◌}
use native.Mathlib.Nat.{add_assoc}
use lib.ListN.{length, replicate, length-append, length-replicate}
use Rattle.lent.specs.Internal.OverAt.{over_at}
use Rattle.lent.proofs.Laws.OverAt.{Laid, laid_more}

module _ {base at next : ℕ} {d w d' d'' : List ℕ} where
  -- octets that a callee was handed, by what they are
  pub laid_as : {handed : List ℕ} (xs : List ℕ) → handed ≡ xs → Laid base d w d' at → next ≡ at + length handed → d'' ≡ over_at at handed d' → Laid base d (w ++ xs) d'' next
  laid_as {handed} xs e l n b = subst (λ (x : List ℕ). Laid base d (w ++ x) d'' next) e (laid_more handed l n b)

  pub laid_zeros : {handed : ℕ} (count : ℕ) → handed ≡ count → Laid base d w d' at → next ≡ at + handed → d'' ≡ over_at at (replicate handed 0) d' → Laid base d (w ++ replicate count 0) d'' next
  laid_zeros {handed} count e l n b =
      laid_as (replicate count 0) (ap (λ (k : ℕ). replicate k 0) e) l (n ∙ ap (λ (k : ℕ). at + k) (sym (length-replicate handed 0))) b

  -- a text and what ends it, laid at once
  pub laid_two : (t ends : List ℕ) → Laid base d w d' at → next ≡ at + length t + length ends → d'' ≡ over_at at (t ++ ends) d' → Laid base d (w ++ t ++ ends) d'' next
  laid_two t ends l n b =
      subst (λ (x : List ℕ). Laid base d x d'' next) (sym (append_assoc w t ends))
      (laid_more (t ++ ends) l (n ∙ add_assoc at (length t) (length ends) ∙ ap (λ (k : ℕ). at + k) (sym (length-append t ends))) b)
