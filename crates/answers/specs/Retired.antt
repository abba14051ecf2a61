-- Document 02, #101: 10 is retired. No refusal has that number, so no call can give it.
use Rattle.std.specs.Prelude.{◌≡◌}
use Rattle.answers.specs.{declared.Refusal.Refusal, Refusal.number}

abbrev pub TenRetired : Type 0
TenRetired = (r : Refusal) → number r ≡ 10 → ⊥
