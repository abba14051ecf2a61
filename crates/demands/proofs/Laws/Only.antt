-- What judgements in a row come to: they are refused for these reasons only, and what they give is so.
use Rattle.std.proofs.Common.{Ok, Err}
use mathlib.Core.Path.{◌≡◌, sym, ◌∙◌, subst}
use mathlib.Core.Bool.{Bool, true, false}
use Rattle.answers.specs.declared.Refusal.{Refusal}
use Rattle.answers.specs.Try.{Try, refused_if, ◌>>=◌}
use Rattle.answers.proofs.Laws.Try.{refused_not_good}

-- a reason that it may be refused for, or something so
abbrev pub Only : {A : Type 0} → (Refusal → Type 0) → (A → Type 0) → Try A → Type 0
Only P Q (Err r) = P r
Only P Q (Ok a) = Q a

-- where nothing is said of what is given
abbrev pub Any : {A : Type 0} → A → Type 0
Any a = Unit {0}

module _ (P : Refusal → Type 0) where
  pub only_if : {A : Type 0} (Q : A → Type 0) (b : Bool) (r : Refusal) (rest : Try A) → P r → Only P Q rest → Only P Q (refused_if b r rest)
  only_if Q true r rest p o = p
  only_if Q false r rest p o = o

  pub only_then : {A B : Type 0} (Q : B → Type 0) (t : Try A) (f : A → Try B) → Only P Any t → ((a : A) → Only P Q (f a)) → Only P Q (t >>= f)
  only_then Q (Err r) f o next = o
  only_then Q (Ok a) f o next = next a

pub only-good : {A : Type 0} (P : Refusal → Type 0) (Q : A → Type 0) (t : Try A) (a : A) → Only P Q t → t ≡ Ok a → Q a
only-good P Q t a o e = subst (Only P Q) e o

-- what a call returns, where it hands a refusal on and gives something for an answer: it refuses for such a reason, and where the definition does
module _ {A B : Type 0} (returns : Try A → Try B) (refuses : (q : Refusal) → returns (Err q) ≡ Err q) (gives : (a : A) → (b : B) × (returns (Ok a) ≡ Ok b)) where
  pub only-returned : (P : Refusal → Type 0) (Q : A → Type 0) (t : Try A) → Only P Q t → (x : Try B) (r : Refusal) → x ≡ returns t → x ≡ Err r → P r × (t ≡ Err r)
  only-returned P Q (Err q) o x r p e = let z = sym (refuses q) ∙ sym p ∙ e in (subst (Only {A = B} P Any) z o, same z)
    where
      same : ◌≡◌ {A = Try B} (Err q) (Err r) → ◌≡◌ {A = Try A} (Err q) (Err r)
      same z = cc
  only-returned P Q (Ok a) o x r p e = let g = gives a in absurd (refused_not_good r g.0 (sym e ∙ p ∙ g.1))
