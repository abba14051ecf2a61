-- A refusal, or what was asked for: how judgements stand one after the other.
use Rattle.std.specs.Prelude.{Bool, true, false, ℕ, Option, Some, None, Result, Ok, Err}
use Rattle.answers.specs.{declared.Refusal.Refusal, Refusal.number}

abbrev pub Try : Type 0 → Type 0
Try A = Result A Refusal

module _ {A : Type 0} where
  -- refused for this reason where the test holds, else as what follows says
  abbrev pub refused_if : Bool → Refusal → Try A → Try A
  refused_if true r rest = Err r
  refused_if false r rest = rest

  infixl 1 ◌>>=◌
  -- what follows, where nothing was refused so far; a `do` block is made of it
  abbrev pub ◌>>=◌ : {B : Type 0} → Try A → (A → Try B) → Try B
  Err r >>= f = Err r
  Ok a >>= f = f a

  -- document 01's number: 0, or that of the refusal
  abbrev pub number_of : Try A → ℕ
  number_of (Err r) = number r
  number_of (Ok a) = 0

  -- and its value: none with a refusal
  abbrev pub value_of : Try A → Option A
  value_of (Err r) = None
  value_of (Ok a) = Some a
