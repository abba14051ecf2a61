-- What a mapped option was before.
use Rattle.std.proofs.Common.{◌≡◌, refl, sym, Option, None, Some, option_map}
use Rattle.std.proofs.lemmas.Option.{none-some, same_Some}

module _ {A B : Type 0} (f : A → B) where
  pub mapped_some : (o : Option A) {b : B} → option_map f o ≡ Some b → (a : A) × (o ≡ Some a) × (f a ≡ b)
  mapped_some None {b} e = absurd (none-some b e)
  mapped_some (Some a) {b} e = (a, refl, same_Some (f a) b e)

  pub mapped_none : (o : Option A) → option_map f o ≡ None → o ≡ None
  mapped_none None e = refl
  mapped_none (Some a) e = absurd (none-some (f a) (sym e))
