-- Each number is another than 10.
use mathlib.Core.Path.{◌≡◌, refl, subst}
use mathlib.Core.Bool.{true, false}
use native.Mathlib.Omega.{arith}
use Prim.Native.Nat.{ℕ}
use lib.Dec.{eqb}
use Rattle.answers.specs.declared.Refusal.{Refusal}
use Rattle.answers.specs.declared.Refusal.TheVariants.{ImageLength, BlockCheck, BlockLayout, TableWhole}
use Rattle.answers.specs.declared.Refusal.TheVariants.{FilterLength, FilterShape, UnknownClause, DuplicateClause, ClauseValue}
use Rattle.answers.specs.declared.Refusal.TheVariants.{GuidLength, GuidNotHeld, DnsNameEmpty, DnsNameNotHeld}
use Rattle.answers.specs.declared.Refusal.TheVariants.{SidShape, SidNotHeld, SidOfAnother, UserLabelEmpty, NoRoom}
use Rattle.answers.specs.declared.Refusal.TheVariants.{ReplyCut, ReplyOpcode, ReplyText, ReplyFixed, ReplyLeftOver, MailslotShape}
use Rattle.answers.specs.Refusal.{number}
use Rattle.answers.specs.Retired.{TenRetired}

another : (r : Refusal) → eqb (number r) 10 ≡ false
another ImageLength = refl
another BlockCheck = refl
another BlockLayout = refl
another TableWhole = refl
another FilterLength = refl
another FilterShape = refl
another UnknownClause = refl
another DuplicateClause = refl
another ClauseValue = refl
another GuidLength = refl
another GuidNotHeld = refl
another DnsNameEmpty = refl
another DnsNameNotHeld = refl
another SidShape = refl
another SidNotHeld = refl
another SidOfAnother = refl
another UserLabelEmpty = refl
another NoRoom = refl
another ReplyCut = refl
another ReplyOpcode = refl
another ReplyText = refl
another ReplyFixed = refl
another ReplyLeftOver = refl
another MailslotShape = refl

pub ten_retired : TenRetired
ten_retired r e = let clash : true ≡ false = subst (λ (n : ℕ). eqb n 10 ≡ false) e (another r) in let z : ◌≡◌ {A = ℕ} 0 1 = cc in omega arith
