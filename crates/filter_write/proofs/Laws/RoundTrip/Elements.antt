-- Elements that were written, read back where they stand.
use Rattle.std.proofs.Common.{Some}
use mathlib.Core.Path.{◌≡◌, refl, sym, ap, ◌∙◌}
use mathlib.Core.List.{List, [], ◌∷◌, ◌++◌, append_assoc}
use Prim.Native.Nat.{ℕ, ◌+◌, ◌-◌, ◌/◌, ◌%◌, ◌≤◌, ◌<◌}
use native.Mathlib.Nat.{add-zero}
use native.Mathlib.Omega.{arith}
use borrow.Author.Tests.{lt-ltb, eq-eqb}
use lib.ListN.{length, get_or, take, drop, length-append}
use lib.Seq.{get_or-drop, drop-drop, drop-append_seam, take-append_seam}
use Rattle.octets.specs.Lists.{cut}
use Rattle.octets.specs.Number.{little, big}
use Rattle.octets.specs.Stretch.{stretch_of}
use Rattle.filter_position.specs.declared.position.Element.{Element}
use Rattle.filter_position.specs.declared.position.RawClause.{RawClause}
use Rattle.filter.specs.declared.request.ClauseName.{ClauseName}
use Rattle.filter.specs.Request.{spelling}
use Rattle.filter_position.specs.Filter.{equality_tag, string_tag, element_at, equality, length_width}
use Rattle.filter_position.specs.Internal.Position.{contents_at}
use Rattle.filter_position.proofs.Laws.Position.{width_one, width_two, contents_are, value-at, element_known, ends-within}
use Rattle.filter_octets.specs.Octets.{length_octets, element, equality_for}
use Rattle.filter_octets.proofs.Laws.Octets.{octets-one, octets-two, octets_three}
use Rattle.filter_octets.specs.Internal.Size.{head_size, element_size}
use Rattle.filter_octets.proofs.Laws.Size.{by_size, head_two, head_three, head_four, head_length, head_bounds, element-length}

-- what stands after the first octets of a stretch
pub after : (s xs ys : List ℕ) (at n : ℕ) → drop at s ≡ xs ++ ys → length xs ≡ n → drop (at + n) s ≡ ys
after s xs ys at n e l =
    sym (drop-drop n at s) ∙ ap (drop n) e ∙ ap (λ (k : ℕ). drop k (xs ++ ys)) (sym l) ∙ drop-append_seam xs ys

-- the octets themselves
pub stands : (s xs ys : List ℕ) (at n : ℕ) → drop at s ≡ xs ++ ys → length xs ≡ n → cut s at n ≡ xs
stands s xs ys at n e l = ap (take n) e ∙ ap (λ (k : ℕ). take k (xs ++ ys)) (sym l) ∙ take-append_seam xs ys

octet : (s l : List ℕ) (at i : ℕ) → drop at s ≡ l → get_or s (at + i) 0 ≡ get_or l i 0
octet s l at i e = sym (get_or-drop at s i 0) ∙ ap (λ (x : List ℕ). get_or x i 0) e

module _ (s : List ℕ) (at end tag : ℕ) (xs rest : List ℕ) (here : drop at s ≡ element tag xs ++ rest) where
  abbrev n : ℕ
  n = length xs

  -- the octets from the tag on
  opened : drop at s ≡ (tag ∷ length_octets n) ++ (xs ++ rest)
  unfolding element
  opened = here ∙ append_assoc (tag ∷ length_octets n) xs rest

  by_octets : (first : ℕ) (more : List ℕ) → length_octets n ≡ first ∷ more → (get_or s (at + 1) 0 ≡ first) × (drop (at + 2) s ≡ more ++ (xs ++ rest))
  by_octets first more e =
      let d : drop at s ≡ tag ∷ first ∷ (more ++ (xs ++ rest)) = opened ∙ ap (λ (l : List ℕ). (tag ∷ l) ++ (xs ++ rest)) e in
      (octet s (tag ∷ first ∷ (more ++ (xs ++ rest))) at 1 d, after s (tag ∷ first ∷ []) (more ++ (xs ++ rest)) at 2 d refl)

  -- the length is read as it was written
  pub length_back : n < 65536 → at + head_size n ≤ end → contents_at s at end ≡ Some (record { start = at + head_size n; len = n })
  unfolding big little
  length_back below fits =
      by_size n (contents_at s at end ≡ Some (record { start = at + head_size n; len = n }))
      (λ h.
      let o = by_octets n [] (octets-one n h) in
      let w : length_width (get_or s (at + 1) 0) ≡ Some 0 = ap length_width o.0 ∙ rw (lt-ltb n 0x80 h) in
      let z = head_two n h in
      contents_are s at end 0 (at + head_size n) n w (omega arith) o.0 fits)
      (λ h k.
      let o = by_octets 0x81 (n ∷ []) (octets-two n h k) in
      let v : big (cut s (at + 2) 1) ≡ n = ap big (stands s (n ∷ []) (xs ++ rest) (at + 2) 1 o.1 refl) ∙ omega arith in
      let z = head_three n h k in
      contents_are s at end 1 (at + head_size n) n (width_one o.0) (omega arith) (value-at s at end 0 ∙ v) fits)
      (λ h.
      let o = by_octets 0x82 ((n / 256 % 256) ∷ (n % 256) ∷ []) (octets_three n h) in
      let v : big (cut s (at + 2) 2) ≡ n = ap big (stands s ((n / 256 % 256) ∷ (n % 256) ∷ []) (xs ++ rest) (at + 2) 2 o.1 refl) ∙ omega arith in
      let z = head_four n h in
      contents_are s at end 2 (at + head_size n) n (width_two o.0) (omega arith) (value-at s at end 1 ∙ v) fits)

  -- and so is the element
  pub element-back : n < 65536 → at + element_size n ≤ end → element_at s at end ≡ Some (record { tag = tag; start = at + head_size n; next = at + head_size n + n })
  element-back below fits =
      let b = head_bounds n in
      let t : get_or s at 0 ≡ tag = ap (λ (k : ℕ). get_or s k 0) (sym (add-zero at)) ∙ octet s ((tag ∷ length_octets n) ++ (xs ++ rest)) at 0 opened in
      element_known s at end (at + head_size n) n (omega arith) (length_back below (omega arith))
      ∙ ends-within (get_or s at 0) (at + head_size n) n end (omega arith)
      ∙ (λ i. Some (record { tag = t i; start = at + head_size n; next = at + head_size n + n }))

  -- the contents, and what stands after them
  pub contents-back : drop (at + head_size n) s ≡ xs ++ rest
  contents-back = after s (tag ∷ length_octets n) (xs ++ rest) at (head_size n) opened (head_length tag n)

-- a clause that was written, as it is found again: its element, its name and its value
pub record Again (s : List ℕ) (at end : ℕ) (name : ClauseName) (value : List ℕ) : Type 0 where
  pub element : Element
  pub clause : RawClause
  pub there : element_at s at end ≡ Some element
  pub tagged : element.tag ≡ equality_tag
  pub ends : element.next ≡ at + length (equality_for name (Some value))
  pub reads : equality s element.start element.next ≡ Some clause
  pub named : stretch_of s clause.name ≡ spelling name
  pub valued : stretch_of s clause.value ≡ value

pub equality-back : (s : List ℕ) (at end : ℕ) (name : ClauseName) (value rest : List ℕ) → drop at s ≡ equality_for name (Some value) ++ rest → at + length (equality_for name (Some value)) ≤ end → end < 65536 → Again s at end name value
unfolding equality
equality-back s at end name value rest here fits below =
    let x : List ℕ = element string_tag (spelling name) in
    let y : List ℕ = element string_tag value in
    let lx : length x ≡ element_size (length (spelling name)) = element-length string_tag (spelling name) in
    let ly : length y ≡ element_size (length value) = element-length string_tag value in
    let lxy : length (x ++ y) ≡ length x + length y = length-append x y in
    let l : length (equality_for name (Some value)) ≡ element_size (length (x ++ y)) = element-length equality_tag (x ++ y) in
    let b = head_bounds (length (spelling name)) in
    let c = head_bounds (length value) in
    let start : ℕ = at + head_size (length (x ++ y)) in
    let next : ℕ = start + length (x ++ y) in
    let e = element-back s at end equality_tag (x ++ y) rest here (omega arith) (omega arith) in
    let clause_names : drop start s ≡ x ++ (y ++ rest) = contents-back s at end equality_tag (x ++ y) rest here ∙ append_assoc x y rest in
    let ns : ℕ = start + head_size (length (spelling name)) in
    let n = element-back s start next string_tag (spelling name) (y ++ rest) clause_names (omega arith) (omega arith) in
    let spelled : drop ns s ≡ spelling name ++ (y ++ rest) = contents-back s start next string_tag (spelling name) (y ++ rest) clause_names in
    let values : drop (ns + length (spelling name)) s ≡ y ++ rest = after s (spelling name) (y ++ rest) ns (length (spelling name)) spelled refl in
    let vs : ℕ = ns + length (spelling name) + head_size (length value) in
    let v = element-back s (ns + length (spelling name)) next string_tag value rest values (omega arith) (omega arith) in
    let given : drop vs s ≡ value ++ rest = contents-back s (ns + length (spelling name)) next string_tag value rest values in
    let filled : vs + length value ≡ next = omega arith in
    let nl : ns + length (spelling name) - ns ≡ length (spelling name) = omega arith in
    let vl : vs + length value - vs ≡ length value = omega arith in
    record {
      element = record { tag = equality_tag; start = start; next = next };
      clause = record { name = record { start = ns; len = ns + length (spelling name) - ns }; value = record { start = vs; len = vs + length value - vs } };
      there = e;
      tagged = refl;
      ends = omega arith;
      reads = rw (equality, n, v, eq-eqb (vs + length value) next filled);
      named = stands s (spelling name) (y ++ rest) ns (ns + length (spelling name) - ns) spelled (sym nl);
      valued = stands s value rest vs (vs + length value - vs) given (sym vl);
    }
