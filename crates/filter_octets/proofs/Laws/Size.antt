-- Laws of how long the parts of a written filter are.
use Rattle.std.proofs.Common.{Some}
use mathlib.Core.Path.{◌≡◌, sym, ap, ◌∙◌}
use mathlib.Core.List.{List, ◌∷◌, ◌++◌, flat_map, append_assoc, append-nil}
use Prim.Native.Nat.{ℕ, suc, ◌+◌, ◌≤◌, ◌<◌}
use native.Mathlib.Decide.{dec_lt}
use native.Mathlib.Numerals.{add-one}
use native.Mathlib.Omega.{arith}
use borrow.Author.Tests.{lt-ltb, le-ltb}
use lib.ListN.{length, length-append, get_or, drop, drop_of_length-le}
use lib.Seq.{drop-cons}
use Rattle.filter.specs.declared.request.ClauseName.{ClauseName}
use Rattle.filter.specs.declared.request.ClauseName.TheVariants.{DnsDomain, Host, DnsHostName, User, Aac, DomainSid, DomainGuid, NtVer}
use Rattle.filter.specs.declared.request.Request.{Request}
use Rattle.filter_position.specs.Filter.{and_tag, equality_tag, string_tag}
use Rattle.filter.specs.Request.{clause_names, spelling, clause, octets_of}
use Rattle.filter_octets.specs.Octets.{length_octets, element, equality_for, filter_octets}
use Rattle.filter_octets.proofs.Laws.Octets.{octets-one, octets-two, octets_three}
use Rattle.filter_octets.specs.Internal.Size.{head_size, element_size, contents}

-- a name is short
pub name_bound : (n : ClauseName) → length (spelling n) ≤ 11
name_bound DnsDomain = omega arith
name_bound Host = omega arith
name_bound DnsHostName = omega arith
name_bound User = omega arith
name_bound Aac = omega arith
name_bound DomainSid = omega arith
name_bound DomainGuid = omega arith
name_bound NtVer = omega arith

pub head_two : (n : ℕ) → n < 0x80 → head_size n ≡ 2
head_two n h = rw (lt-ltb n 0x80 h)

pub head_three : (n : ℕ) → 0x80 ≤ n → n < 0x100 → head_size n ≡ 3
head_three n h k = rw (le-ltb n 0x80 h, lt-ltb n 0x100 k)

pub head_four : (n : ℕ) → 0x100 ≤ n → head_size n ≡ 4
head_four n h =
    let k : 0x80 ≤ n = omega arith in
    rw (le-ltb n 0x80 k, le-ltb n 0x100 h)

-- a head by its size
pub by_size : (n : ℕ) (G : Type 0) → (n < 0x80 → G) → (0x80 ≤ n → n < 0x100 → G) → (0x100 ≤ n → G) → G
by_size n G a b c = short (dec_lt n 0x80)
  where
    long : 0x80 ≤ n → Dec (n < 0x100) → G
    long h (yes k) = b h k
    long h (no k) = c (omega arith)

    short : Dec (n < 0x80) → G
    short (yes h) = a h
    short (no h) = long (omega arith) (dec_lt n 0x100)

pub head_length : (tag n : ℕ) → length (tag ∷ length_octets n) ≡ head_size n
head_length tag n =
    by_size n (length (tag ∷ length_octets n) ≡ head_size n)
    (λ h. ap (λ (l : List ℕ). suc (length l)) (octets-one n h) ∙ sym (head_two n h))
    (λ h k. ap (λ (l : List ℕ). suc (length l)) (octets-two n h k) ∙ sym (head_three n h k))
    (λ h. ap (λ (l : List ℕ). suc (length l)) (octets_three n h) ∙ sym (head_four n h))

pub head_bounds : (n : ℕ) → (2 ≤ head_size n) × (head_size n ≤ 4)
head_bounds n =
    by_size n ((2 ≤ head_size n) × (head_size n ≤ 4))
    (λ h. let e = head_two n h in omega arith)
    (λ h k. let e = head_three n h k in omega arith)
    (λ h. let e = head_four n h in omega arith)

pub element-length : (tag : ℕ) (xs : List ℕ) → length (element tag xs) ≡ element_size (length xs)
unfolding element
element-length tag xs = length-append (tag ∷ length_octets (length xs)) xs ∙ ap (λ (k : ℕ). k + length xs) (head_length tag (length xs))

pub equality-length : (name : ClauseName) (value : List ℕ) → length (equality_for name (Some value)) ≡ element_size (element_size (length (spelling name)) + element_size (length value))
equality-length name value =
    element-length equality_tag (element string_tag (spelling name) ++ element string_tag value)
    ∙ ap element_size (length-append (element string_tag (spelling name)) (element string_tag value) ∙ λ i. element-length string_tag (spelling name) i + element-length string_tag value i)

-- contents by their first name
module _ (source : List ℕ) (r : Request) where
  -- the equality of the i-th name
  abbrev pub equality_at : ℕ → List ℕ
  equality_at i = equality_for (get_or clause_names i DnsDomain) (octets_of source (clause r (get_or clause_names i DnsDomain)))

  pub contents-next : (i : ℕ) → i < 8 → contents source r (drop i clause_names) ≡ equality_at i ++ contents source r (drop (i + 1) clause_names)
  unfolding flat_map
  contents-next i h = rw (add-one) (ap (contents source r) (drop-cons clause_names i DnsDomain h))

  pub contents-size-next : (i : ℕ) → i < 8
      → length (contents source r (drop i clause_names)) ≡ length (equality_at i) + length (contents source r (drop (i + 1) clause_names))
  contents-size-next i h =
      ap length (contents-next i h)
      ∙ length-append (equality_at i) (contents source r (drop (i + 1) clause_names))

  pub contents-end : (i : ℕ) → 8 ≤ i → length (contents source r (drop i clause_names)) ≡ 0
  unfolding flat_map
  contents-end i h = ap (λ (l : List ClauseName). length (contents source r l)) (drop_of_length-le clause_names h)

  -- contents written as far as the i-th name, and that name's equality after them
  module _ (w : List ℕ) (i : ℕ) (e : w ++ contents source r (drop i clause_names) ≡ contents source r clause_names) where
    pub written_next : i < 8 → (w ++ equality_at i) ++ contents source r (drop (i + 1) clause_names) ≡ contents source r clause_names
    written_next h = append_assoc w (equality_at i) (contents source r (drop (i + 1) clause_names)) ∙ ap (λ (l : List ℕ). w ++ l) (sym (contents-next i h)) ∙ e

    pub written-within : length w ≤ length (contents source r clause_names)
    written-within =
        let l = sym (length-append w (contents source r (drop i clause_names))) ∙ ap length e in
        omega arith

    pub written_fits : i < 8 → length w + length (equality_at i) ≤ length (contents source r clause_names)
    written_fits h =
        let l = sym (length-append w (contents source r (drop i clause_names))) ∙ ap length e in
        let n = contents-size-next i h in
        omega arith

    pub written_all : 8 ≤ i → w ≡ contents source r clause_names
    unfolding flat_map
    written_all h = sym (append-nil w) ∙ ap (λ (l : List ClauseName). w ++ contents source r l) (sym (drop_of_length-le clause_names h)) ∙ e

pub filter-length : (source : List ℕ) (r : Request) → length (filter_octets source r) ≡ element_size (length (contents source r clause_names))
unfolding filter_octets
filter-length source r = element-length and_tag (contents source r clause_names)
