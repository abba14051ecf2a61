-- What the two encodings share: a code point's octets lead back to it, and octets that lead to code points are those of these.
use Rattle.std.proofs.Common.{Option, None, Some, option_map}
use mathlib.Core.Path.{◌≡◌, refl, ap, ◌∙◌, subst}
use mathlib.Core.List.{List, [], ◌∷◌, ◌++◌, flat_map}
use Prim.Native.Nat.{ℕ, ◌≤◌, ◌<◌}
use Rattle.octets.proofs.Laws.Lists.{Every, none_not_some}
use Rattle.unicode_text.specs.Utf8.{Partial, Decoded, bad, point, more, Decoder, between, partway, on_decoded}

-- a code point that both encodings have: no surrogate, and below 110000h
pub record Code (c : ℕ) : Type 0 where
  pub below : c < 0x110000
  pub unique : 0xD800 ≤ c → 0xE000 ≤ c

module _ (encode : ℕ → List ℕ) where
  -- octets lead back to code points where those of each one do, whatever comes after
  pub back-all : (read : List ℕ → Option (List ℕ)) → read [] ≡ Some [] → ((c : ℕ) (rest : List ℕ) → Code c → read (encode c ++ rest) ≡ option_map (λ cs. c ∷ cs) (read rest))
      → (cs : List ℕ) → Every Code cs → read (flat_map encode cs) ≡ Some cs
  unfolding flat_map
  back-all read e f [] h = e
  back-all read e f (c ∷ cs) h = f c (flat_map encode cs) h.0 ∙ ap (option_map (λ ds. c ∷ ds)) (back-all read e f cs h.1)

  -- code points, and what they are the octets of
  abbrev pub Comes : List ℕ → List ℕ → Type 0
  Comes octets cs = Every Code cs × (flat_map encode cs ≡ octets)

  -- `Owes i p`: whatever completes the character that was read up to i from the octets p makes a code point with just these octets
  module _ (Owes : Partial → List ℕ → Type 0) where
    abbrev pub Before : Decoder → List ℕ → Type 0
    Before between p = p ≡ []
    Before (partway i) p = Owes i p

    abbrev pub After : Decoded → List ℕ → Type 0
    After bad p = Unit {0}
    After (point c) p = Code c × (encode c ≡ p)
    After (more i) p = Owes i p

    -- one turn: what was read from p, and then the rest
    pub turn_comes : (v : Decoded) (p rest cs : List ℕ) (next : Decoder → Option (List ℕ)) → After v p → on_decoded v next ≡ Some cs
        → ((d : Decoder) (q ds : List ℕ) → Before d q → next d ≡ Some ds → Comes (q ++ rest) ds)
        → Comes (p ++ rest) cs
    unfolding flat_map
    turn_comes bad p rest cs next a e f = absurd (none_not_some cs e)
    turn_comes (more i) p rest cs next a e f = f (partway i) p cs a e
    turn_comes (point c) p rest cs next a e f = go (next between) refl e
      where
        go : (o : Option (List ℕ)) → next between ≡ o → option_map (λ ds. c ∷ ds) o ≡ Some cs → Comes (p ++ rest) cs
        go None q e = absurd (none_not_some cs e)
        go (Some ds) q e =
            let k : c ∷ ds ≡ cs = cc in
            let r : Comes rest ds = f between [] ds refl q in
            subst (Comes (p ++ rest)) k ((a.0, r.0), ap (λ (x : List ℕ). x ++ flat_map encode ds) a.1 ∙ ap (λ (x : List ℕ). p ++ x) r.1)
