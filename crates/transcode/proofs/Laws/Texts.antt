-- UTF-16LE texts as UTF-8, and back.
use Rattle.std.proofs.Common.{Some, is_some}
use mathlib.Core.Path.{◌≡◌, refl, ap, ◌∙◌, subst}
use mathlib.Core.Bool.{true}
use mathlib.Core.List.{List, [], ◌∷◌, flat_map}
use Rattle.octets.proofs.Laws.Option.{mapped_some}
use Prim.Native.Nat.{ℕ, suc, ◌≤◌, ◌<◌}
use native.Mathlib.Omega.{arith}
use lib.Dec.{ltb}
use lib.ListN.{length, get_or}
use borrow.Author.Tests.{le-leb, lt-ltb, ltb-true}
use Rattle.octets.specs.{Lists.all, NameRule.without, NameRule.user_name_most}
use Rattle.octets.proofs.Laws.Lists.{every_all}
use Rattle.unicode_text.specs.{UserName.is_user_name, Utf8.points, Utf8.is_utf8, Utf8.utf8_of, Utf16.utf16, Utf16.points_of16, Utf16.utf8_from16}
use Rattle.unicode_text.proofs.Laws.OneText.{text-back}
use Rattle.transcode.specs.Transcode.{are_octets, To8, Back8}
use Rattle.transcode.proofs.Laws.{Utf8Back.points-back, Utf16Octets.points16_comes, Length.three_each, Zeros.zeros-said}

-- what the elements of a slice of u8 are known to be
pub are_octets_lem : (s : List ℕ) → ((i : ℕ) → i < length s → get_or s i 0 < 256) → are_octets s ≡ true
unfolding all
are_octets_lem [] f = refl
are_octets_lem (x ∷ s) f = rw (lt-ltb x 256 (f 0 (omega arith)), are_octets_lem s (λ i h. f (suc i) (omega arith)))

pub back_8 : Back8
back_8 = text-back

pub to_8 : To8
unfolding utf8_from16 utf16 is_utf8
to_8 s t o e =
    let p = mapped_some (flat_map utf8_of) (points_of16 s) e in
    let cs : List ℕ = p.0 in
    let r = points16_comes s cs (every_all (λ x. ltb x 256) (λ x. x < 256) (λ x q. ltb-true x 256 q) s o) p.1 in
    let q : points t ≡ Some cs = subst (λ (x : List ℕ). points x ≡ Some cs) p.2 (points-back cs r.0) in
    record {
      utf8 = ap is_some q;
      back = rw q r.1;
      zeros = λ z. zeros-said s t e ∙ z;
      short = omega (arith, ap length p.2, ap length r.1, three_each cs);
    }

-- a user's name, 9
pub user_8 : (s t : List ℕ) → are_octets s ≡ true → utf8_from16 s ≡ Some t → without 0 t ≡ true → length t ≤ user_name_most → is_user_name t ≡ true
unfolding is_user_name
user_8 s t o e z h = rw (le-leb (length t) user_name_most h, (to_8 s t o e).utf8, z)
