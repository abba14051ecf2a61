-- Document 02, #105: a UTF-16LE text and the same text as UTF-8: either comes back from the other.
use Rattle.std.specs.Prelude.{◌≡◌, Bool, true, List, ℕ, ◌*◌, ◌≤◌, ltb, length, Some}
use Rattle.octets.specs.{Lists.all, Lists.holds, NameRule.without}
use Rattle.unicode_text.specs.{Utf8.is_utf8, Utf16.utf16, Utf16.points_of16, Utf16.utf8_from16}

-- lists in statements are of any numbers; these are octets
abbrev pub are_octets : List ℕ → Bool
are_octets = all (λ x. ltb x 256)

-- t says s: it is UTF-8, and in UTF-16LE s again; it has no zero octet where s has no zero code point; at most three octets for a unit's two
pub record SaidIn8 (s t : List ℕ) : Type 0 where
  pub utf8 : is_utf8 t ≡ true
  pub back : utf16 t ≡ s
  pub zeros : holds (without 0) (points_of16 s) ≡ true → without 0 t ≡ true
  pub short : 2 * length t ≤ 3 * length s

abbrev pub To8 : Type 0
To8 = (s t : List ℕ) → are_octets s ≡ true → utf8_from16 s ≡ Some t → SaidIn8 s t

abbrev pub Back8 : Type 0
Back8 = (t : List ℕ) → is_utf8 t ≡ true → utf8_from16 (utf16 t) ≡ Some t
