-- Names after a head, before anything: the reader finds each after the one before it.
use mathlib.Core.Path.{◌≡◌, refl, sym, subst}
use mathlib.Core.Bool.{true}
use mathlib.Core.List.{List, [], ◌++◌}
use Prim.Native.Nat.{ℕ, ◌+◌, ◌≤◌}
use native.Mathlib.Omega.{arith}
use lib.Dec.{ltb}
use lib.ListN.{length, length-append}
use borrow.Author.Tests.{lt-ltb}
use Rattle.names.specs.Name.{write_names}
use Rattle.names.proofs.Laws.Name.{Ready, sizes, names-short, starts, Row, row-longer, Chain, names-written}
use Rattle.octets.specs.Label.{labels}
use Rattle.octets.proofs.Laws.Label.{Plain, size}
use Rattle.octets.proofs.Laws.Lists.{Every, every_weaken}
use Rattle.reader.proofs.Laws.Reader.{NamesRow}

-- names that can be written, whose octets and whose head's are few enough for pointers of 14 bits
module _ (head : List ℕ) (texts : List (List ℕ)) (plain : Every (λ text. Plain (labels text)) texts) (short : Every (λ text. size (labels text) ≤ 255) texts) (room : length head + sizes texts ≤ 0x4000) where
  pub chain : Chain 0 (length head) [] texts (head ++ (write_names [] (length head) texts).octets)
  chain = names-written texts [] 0 head (length head) refl room tt plain

  -- in a reply that has them there, the reader finds them one after the other
  pub named-row : (q s : List ℕ) → s ≡ head ++ (write_names [] (length head) texts).octets ++ q → NamesRow s (length head) texts (write_names [] (length head) texts).octets
  named-row q s whole =
      let octets : List ℕ = (write_names [] (length head) texts).octets in
      let e : length (head ++ octets) ≡ length head + length octets = length-append head octets in
      let row : Row (head ++ octets ++ q) 0 (length head) (starts [] (length head) texts) texts chain.counts (length head + length octets) = rw e at (row-longer q chain.row) in
      record {
        starts = starts [] (length head) texts;
        counts = chain.counts;
        row = subst (λ (x : List ℕ). Row x 0 (length head) (starts [] (length head) texts) texts chain.counts (length head + length octets)) (sym whole) row;
        short = short;
      }

  -- the tails that they leave start below what names and head take
  pub tails-low : Every (λ t. ltb t.offset 0x4000 ≡ true) (write_names [] (length head) texts).tails
  tails-low =
      let s : List ℕ = head ++ (write_names [] (length head) texts).octets in
      let n : length s ≤ 0x4000 = simp length-append (omega (arith, names-short texts [] (length head))) in
      every_weaken (Ready (0 + length texts) (length s) s) (λ t. ltb t.offset 0x4000 ≡ true) (λ t ready. lt-ltb t.offset 0x4000 (omega (arith, ready.below)))
      (write_names [] (length head) texts).tails chain.ready
