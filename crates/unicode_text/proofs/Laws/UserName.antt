-- What the rule for users' names gives: a text that UTF-16 can say, of at most 63 octets.
use Rattle.std.proofs.Common.{Option, None, Some, is_some}
use mathlib.Core.Path.{◌≡◌, refl, sym}
use mathlib.Core.Bool.{true, ◌&&◌, not}
use mathlib.Core.List.{List}
use Prim.Native.Nat.{ℕ, ◌≤◌}
use native.Mathlib.Omega.{arith}
use lib.Dec.{eqb, leb}
use lib.ListN.{length}
use borrow.Author.Tests.{not-true, eqb-false, leb-true}
use Rattle.octets.proofs.Laws.Lists.{Every, every_all, both_left, both_right, true_not_false}
use Rattle.octets.specs.NameRule.{without}
use Rattle.unicode_text.specs.UserName.{is_user_name}
use Rattle.unicode_text.specs.Utf8.{points, is_utf8}
use Rattle.unicode_text.proofs.Laws.Utf16.{Spoken, spoken}

module _ (s : List ℕ) (e : is_user_name s ≡ true) where
  short-utf8 : leb (length s) 63 && is_utf8 s ≡ true
  unfolding is_user_name
  short-utf8 = both_left (leb (length s) 63 && is_utf8 s) (without 0 s) e

  pub user-name-short : length s ≤ 63
  user-name-short = leb-true (length s) 63 (both_left (leb (length s) 63) (is_utf8 s) short-utf8)

  nonzero : Every (λ x. 1 ≤ x) s
  unfolding is_user_name
  nonzero =
      every_all (λ y. not (eqb y 0)) (λ y. 1 ≤ y) (λ y q. let n : y ≡ 0 → ⊥ = eqb-false y 0 (not-true (eqb y 0) q) in omega arith) s
      (both_right (leb (length s) 63 && is_utf8 s) (without 0 s) e)

  pub user-name_spoken : Spoken s
  unfolding is_utf8
  user-name_spoken = go (points s) refl (both_right (leb (length s) 63) (is_utf8 s) short-utf8)
    where
      go : (p : Option (List ℕ)) → points s ≡ p → is_some p ≡ true → Spoken s
      go None q u = absurd (true_not_false (sym u))
      go (Some cs) q u = spoken s cs nonzero q
