-- The name of a mailslot, octet by octet.
use mathlib.Core.Path.{◌≡◌, refl, sym, ap, ◌∙◌}
use mathlib.Core.Bool.{Bool, true, false, not, ◌||◌}
use mathlib.Core.List.{List}
use Prim.Native.Nat.{ℕ, suc, ◌+◌, ◌-◌, ◌≤◌, ◌<◌}
use native.Mathlib.Omega.{arith}
use lib.Dec.{eqb, leb, ltb}
use lib.ListN.{length, get_or, drop, length-take, length-drop}
use lib.Seq.{get_or-take, get_or-drop, take-length}
use borrow.Author.Tests.{eqb-true, eqb-false, ltb-true, ltb-false, leb-true, le-leb}
use Rattle.octets.specs.Lists.{all, cut}
use Rattle.octets.proofs.Laws.Lists.{every_all, every_at, all-last, cut-length, both_left, both_right, true_not_false}
use Rattle.octets.proofs.Laws.Text.{within_range, without_range}
use Rattle.mailslot.specs.Message.{is_mailslot_name}
use Rattle.mailslot.specs.Internal.Runs.{of_name, NameRun}
use Rattle.mailslot.specs.Internal.Shape.{EndsName}

-- an octet of a name, by the test that the code makes
pub name_octet : (x : ℕ) → (eqb x 0 || ltb 0x7F x) ≡ not (of_name x)
name_octet x = go (eqb x 0) (ltb 0x7F x) refl refl
  where
    go : (a b : Bool) → eqb x 0 ≡ a → ltb 0x7F x ≡ b → (a || b) ≡ not (of_name x)
    go true b p q = let z : x ≡ 0 = eqb-true x 0 p in rw z
    go false true p q = let h : 0x7F < x = ltb-true 0x7F x q in rw (without_range 1 0x7F x (λ k. h))
    go false false p q =
        let h : 1 ≤ x = omega (arith, eqb-false x 0 p) in
        rw (within_range 1 0x7F x h (ltb-false 0x7F x q))

-- what holds of each element of a stretch holds of the one at an offset
pub all-at : (p : ℕ → Bool) (s : List ℕ) (start n i : ℕ) → start ≤ i → i < start + n → i < length s → all p (cut s start n) ≡ true → p (get_or s i 0) ≡ true
all-at p s start n i h k l e =
    let m : i - start < length (cut s start n) = simp (length-take, length-drop) (omega arith) in
    let g : get_or (cut s start n) (i - start) 0 ≡ get_or s (start + (i - start)) 0 = get_or-take n (drop start s) (i - start) 0 (omega arith) ∙ get_or-drop start s (i - start) 0 in
    let j : start + (i - start) ≡ i = omega arith in
    sym (ap p (g ∙ ap (λ (x : ℕ). get_or s x 0) j)) ∙ every_at (λ x. p x ≡ true) (cut s start n) (i - start) 0 (every_all p (λ x. p x ≡ true) (λ x q. q) (cut s start n) e) m

pub name_starts : (s : List ℕ) (start : ℕ) → all of_name (cut s start (start - start)) ≡ true
unfolding all
name_starts s start = let e : start - start ≡ 0 = omega arith in rw e

pub name_goes : (s : List ℕ) (start at : ℕ) → start ≤ at → at < length s → all of_name (cut s start (at - start)) ≡ true → of_name (get_or s at 0) ≡ true
    → all of_name (cut s start (at + 1 - start)) ≡ true
name_goes s start at h k e q =
    let n : at + 1 - start ≡ suc (at - start) = omega arith in
    let j : start + (at - start) ≡ at = omega arith in
    let r : of_name (get_or s (start + (at - start)) 0) ≡ true = rw j q in
    rw n (all-last of_name s start (at - start) 0 (omega arith) ∙ rw (e, r))

-- octets that go on to the end are all of them
pub name-whole : (s : List ℕ) (end : ℕ) → NameRun s 0 end → eqb end (length s) ≡ all of_name s
name-whole s end run = go (eqb end (length s)) refl
  where
    none : (b : Bool) → end < length s → all of_name s ≡ b → b ≡ false
    none true h e = let k : true ≡ false = sym (all-at of_name s 0 (length s) end (omega arith) (omega arith) h (rw (take-length s) e)) ∙ run.next h in absurd (true_not_false k)
    none false h e = refl

    go : (b : Bool) → eqb end (length s) ≡ b → b ≡ all of_name s
    go true e =
        let q : end - 0 ≡ length s = omega (arith, eqb-true end (length s) e) in
        sym (rw (q, take-length s) at run.octets)
    go false e =
        let h : end < length s = omega (arith, eqb-false end (length s) e, run.to) in
        sym (none (all of_name s) h refl)

-- ---- where a name ends

module _ (s : List ℕ) (start : ℕ) where
  pub name-octets : (end : ℕ) → EndsName s start end → all of_name (cut s start (end - start)) ≡ true
  unfolding is_mailslot_name
  name-octets end e = both_right (leb (length (cut s start (end - start))) 64) (all of_name (cut s start (end - start))) e.name

  pub name-short : (end : ℕ) → EndsName s start end → end - start ≤ 64
  unfolding is_mailslot_name
  name-short end e =
      let n : length (cut s start (end - start)) ≡ end - start = cut-length s start (end - start) (omega (arith, e.from, e.to)) in
      omega (arith, leb-true (length (cut s start (end - start))) 64 (both_left (leb (length (cut s start (end - start))) 64) (all of_name (cut s start (end - start))) e.name))

  -- it ends where its octets do
  pub name-ends : (run : ℕ) → NameRun s start run → (end : ℕ) → EndsName s start end → end ≡ run
  name-ends run r end e = go (ltb end run) (ltb run end) refl refl
    where
      go : (a b : Bool) → ltb end run ≡ a → ltb run end ≡ b → end ≡ run
      go true b p q =
          let h : end < run = ltb-true end run p in
          let k : of_name (get_or s end 0) ≡ true = all-at of_name s start (run - start) end e.from (omega (arith, r.from)) (omega (arith, e.to)) r.octets in
          absurd (true_not_false (sym k ∙ ap of_name e.zero))
      go false true p q =
          let h : run < end = ltb-true run end q in
          let k : of_name (get_or s run 0) ≡ true = all-at of_name s start (end - start) run r.from (omega (arith, e.from)) (omega (arith, e.to)) (name-octets end e) in
          absurd (true_not_false (sym k ∙ r.next (omega (arith, e.to))))
      go false false p q = omega (arith, ltb-false end run p, ltb-false run end q)

  pub name-found : (run : ℕ) → NameRun s start run → run < length s → get_or s run 0 ≡ 0 → run - start ≤ 64 → EndsName s start run
  unfolding is_mailslot_name
  name-found run r h z n =
      let m : length (cut s start (run - start)) ≡ run - start = cut-length s start (run - start) (omega (arith, r.from)) in
      let k : length (cut s start (run - start)) ≤ 64 = omega arith in
      record { from = r.from; to = omega arith; zero = z; name = rw (le-leb (length (cut s start (run - start))) 64 k, r.octets) }
