-- What was good, part by part.
use Rattle.std.proofs.Common.{Ok, Err}
use mathlib.Core.Path.{◌≡◌, refl}
use mathlib.Core.Bool.{Bool, true, false}
use Prim.Native.Nat.{ℕ}
use native.Mathlib.Omega.{arith}
use Rattle.answers.specs.declared.Refusal.{Refusal}
use Rattle.answers.specs.Try.{Try, refused_if, ◌>>=◌}

module _ {A : Type 0} where
  pub refused_not_good : (r : Refusal) (a : A) → Err r ≡ Ok a → ⊥
  refused_not_good r a e = let z : ◌≡◌ {A = ℕ} 0 1 = cc in omega arith

  pub good-same : {a b : A} → ◌≡◌ {A = Try A} (Ok a) (Ok b) → a ≡ b
  good-same e = cc

  -- not refused: the test failed, and what followed was good
  pub refused_if-good : (b : Bool) (r : Refusal) (rest : Try A) (a : A) → refused_if b r rest ≡ Ok a → (b ≡ false) × (rest ≡ Ok a)
  refused_if-good true r rest a e = absurd (refused_not_good r a e)
  refused_if-good false r rest a e = (refl, e)

-- what came before was good, and then what followed
pub good_then : {A B : Type 0} (t : Try A) (f : A → Try B) (b : B) → (t >>= f) ≡ Ok b → (a : A) × (t ≡ Ok a) × (f a ≡ Ok b)
good_then (Err r) f b e = absurd (refused_not_good r b e)
good_then (Ok a) f b e = (a, refl, e)
