-- A field that was read: where it stands and what it is; and the other way round.
use Rattle.std.proofs.Common.{Ok}
use mathlib.Core.Path.{◌≡◌, sym, ap, ap₂, ◌∙◌, subst}
use mathlib.Core.Bool.{not}
use mathlib.Core.List.{List, [], ◌∷◌}
use Prim.Native.Nat.{ℕ, ◌+◌, ◌*◌, ◌/◌, ◌%◌, ◌^◌, ◌≤◌, ◌<◌}
use native.Mathlib.Omega.{arith}
use lib.Dec.{eqb, ltb}
use lib.ListN.{length, get_or}
use borrow.Author.Tests.{ltb-false, le-ltb, eqb-true, eq-eqb, not-false}
use Rattle.answers.specs.declared.Refusal.TheVariants.{ReplyCut, ReplyFixed, ReplyLeftOver}
use Rattle.answers.specs.Try.{Try, ◌>>=◌}
use Rattle.answers.specs.Wire.{LmNtToken, Lm20Token}
use Rattle.answers.proofs.Laws.Try.{good_then, refused_if-good, good-same}
use Rattle.octets.specs.Lists.{cut}
use Rattle.octets.specs.Number.{little, little_octets, u16_at, u32_at}
use Rattle.octets.specs.Text.{same}
use Rattle.octets.proofs.Laws.Lists.{Every, every_at, cut-cons}
use Rattle.octets.proofs.Laws.Number.{length-little, little-back, u16-octets}
use Rattle.octets.proofs.Laws.Text.{same_equal, same_self}
use Rattle.reader.specs.{Reader.read_constant, Reader.read_number, Reader.read_tokens}
use Rattle.octets.specs.declared.part.Stretch.{Stretch}
use Rattle.reader.specs.declared.field.Read.{Read}
use Rattle.reader.specs.Field.{read_octets, read_stretch, read_fixed}

abbrev pub Octets : List ℕ → Type 0
Octets s = Every (λ x. x < 256) s

-- a field of which it is known what it is, and then what follows it
pub then_known : {A B C X : Type 0} (known : X → A) (t : Try A) (f : A → Try B) (b : B) → ((a : A) → t ≡ Ok a → (x : X) × (a ≡ known x)) → (t >>= f) ≡ Ok b
    → ((x : X) → f (known x) ≡ Ok b → C) → C
then_known known t f b got e goal =
    let a = good_then t f b e in
    let k = got a.0 a.1 in
    goal k.0 (subst (λ x. f x ≡ Ok b) k.1 a.2)

module _ (s : List ℕ) (at : ℕ) where
  pub octets_there : (n : ℕ) → at + n ≤ length s → read_octets s at n ≡ Ok (record { value = cut s at n; next = at + n })
  unfolding read_octets
  octets_there n h = rw (le-ltb (length s) (at + n) h)

  pub octets-read : (n : ℕ) (f : Read (List ℕ)) → read_octets s at n ≡ Ok f → (at + n ≤ length s) × (f ≡ record { value = cut s at n; next = at + n })
  unfolding read_octets
  octets-read n f e =
      let g = refused_if-good (ltb (length s) (at + n)) ReplyCut _ f e in
      (ltb-false (length s) (at + n) g.0, sym (good-same g.1))

  pub stretch_there : (n : ℕ) → at + n ≤ length s → read_stretch s at n ≡ Ok (record { value = record { start = at; len = n }; next = at + n })
  unfolding read_stretch
  stretch_there n h = rw (octets_there n h)

  pub stretch_read : (n : ℕ) (f : Read Stretch) → read_stretch s at n ≡ Ok f → (at + n ≤ length s) × (f ≡ record { value = record { start = at; len = n }; next = at + n })
  unfolding read_stretch
  stretch_read n f e =
      let g = good_then (read_octets s at n) _ f e in
      let o = octets-read n g.0 g.1 in
      (o.0, sym (good-same g.2) ∙ ap (λ (x : Read (List ℕ)). record { value = record { start = at; len = n }; next = x.next }) o.1)

  pub number_there : at + 4 ≤ length s → read_number s at ≡ Ok (record { value = u32_at s at; next = at + 4 })
  unfolding read_number
  number_there h = rw (octets_there 4 h)

  pub number_read : (f : Read ℕ) → read_number s at ≡ Ok f → (at + 4 ≤ length s) × (f ≡ record { value = u32_at s at; next = at + 4 })
  unfolding read_number
  number_read f e =
      let g = good_then (read_octets s at 4) _ f e in
      let o = octets-read 4 g.0 g.1 in
      (o.0, sym (good-same g.2) ∙ ap (λ (x : Read (List ℕ)). record { value = little x.value; next = x.next }) o.1)

  -- a unit's octets are those of its number
  pub unit_octets : Octets s → at + 2 ≤ length s → cut s at 2 ≡ little_octets 2 (u16_at s at)
  unfolding little_octets
  unit_octets o h =
      let a : get_or s at 0 < 256 = every_at (λ x. x < 256) s at 0 o (omega arith) in
      let b : get_or s (at + 1) 0 < 256 = every_at (λ x. x < 256) s (at + 1) 0 o (omega arith) in
      let e : u16_at s at ≡ get_or s at 0 + 256 * get_or s (at + 1) 0 = u16-octets s at h in
      let x : get_or s at 0 ≡ u16_at s at % 256 = omega arith in
      let z : u16_at s at / 256 ≡ get_or s (at + 1) 0 = omega arith in
      let y : get_or s (at + 1) 0 ≡ u16_at s at / 256 % 256 = rw z (omega arith) in
      cut-cons s at 1 0 (omega arith) ∙ ap (λ (l : List ℕ). get_or s at 0 ∷ l) (cut-cons s (at + 1) 0 0 (omega arith)) ∙ ap₂ (λ (a b : ℕ). a ∷ b ∷ []) x y

  pub constant_there : (n : ℕ) → Octets s → at + 2 ≤ length s → u16_at s at ≡ n → read_constant 2 n s at ≡ Ok (record { value = little_octets 2 n; next = at + 2 })
  unfolding read_fixed
  constant_there n o h e =
      let q : cut s at 2 ≡ little_octets 2 n = unit_octets o h ∙ ap (little_octets 2) e in
      rw (length-little 2 n, octets_there 2 h, q, same_self (little_octets 2 n))

  pub constant_read : (n : ℕ) (f : Read (List ℕ)) → n < 256 ^ 2 → read_constant 2 n s at ≡ Ok f → ((at + 2 ≤ length s) × (u16_at s at ≡ n)) × (f ≡ record { value = little_octets 2 n; next = at + 2 })
  unfolding read_fixed
  constant_read n f b e =
      let g = good_then (read_octets s at (length (little_octets 2 n))) _ f e in
      let o = octets-read (length (little_octets 2 n)) g.0 g.1 in
      let r = refused_if-good (not (same g.0.value (little_octets 2 n))) ReplyFixed (Ok g.0) f g.2 in
      let v : g.0.value ≡ little_octets 2 n = same_equal g.0.value (little_octets 2 n) (not-false (same g.0.value (little_octets 2 n)) r.0) in
      let k : g.0.value ≡ cut s at (length (little_octets 2 n)) = ap (λ (x : Read (List ℕ)). x.value) o.1 in
      let w : length (little_octets 2 n) ≡ 2 = length-little 2 n in
      let x : g.0.next ≡ at + 2 = ap (λ (x : Read (List ℕ)). x.next) o.1 ∙ ap (λ (j : ℕ). at + j) w in (
        (subst (λ (j : ℕ). at + j ≤ length s) w o.0, ap (λ (j : ℕ). little (cut s at j)) (sym w) ∙ ap little (sym k ∙ v) ∙ little-back 2 n b),
        sym (good-same r.1) ∙ ap₂ (λ (a : List ℕ) (i : ℕ). record { value = a; next = i }) v x,
      )

-- the two tokens, which end the message
module _ {A : Type 0} (s : List ℕ) (at : ℕ) (fields : A) where
  pub tokens_there : Octets s → at + 4 ≡ length s → u16_at s at ≡ LmNtToken → u16_at s (at + 2) ≡ Lm20Token → read_tokens s at fields ≡ Ok fields
  unfolding read_tokens
  tokens_there o h e f =
      let k : at + 2 + 2 ≡ length s = omega arith in
      rw (constant_there s at LmNtToken o (omega arith) e, constant_there s (at + 2) Lm20Token o (omega arith) f, eq-eqb (at + 2 + 2) (length s) k)

  pub tokens_read : (f : A) → read_tokens s at fields ≡ Ok f → (at + 4 ≡ length s) × (u16_at s at ≡ LmNtToken) × (u16_at s (at + 2) ≡ Lm20Token) × (fields ≡ f)
  unfolding read_tokens
  tokens_read f e =
      then_known (λ x. record { value = little_octets 2 LmNtToken; next = at + 2 }) (read_constant 2 LmNtToken s at) _ f (λ a. constant_read s at LmNtToken a (omega arith)) e (λ p e.
      then_known (λ x. record { value = little_octets 2 Lm20Token; next = at + 2 + 2 }) (read_constant 2 Lm20Token s (at + 2)) _ f (λ a. constant_read s (at + 2) Lm20Token a (omega arith)) e (λ q e.
      let d = refused_if-good (not (eqb (at + 2 + 2) (length s))) ReplyLeftOver (Ok fields) f e in
      let n : at + 2 + 2 ≡ length s = eqb-true (at + 2 + 2) (length s) (not-false (eqb (at + 2 + 2) (length s)) d.0) in
      let k : at + 4 ≡ length s = omega arith in
      (k, p.1, q.1, good-same d.1)))
