-- Laws of texts that stretches lend.
use Rattle.std.proofs.Common.{Option, None, Some, is_some, option_map}
use mathlib.Core.Path.{◌≡◌, refl, sym, ap, ◌∙◌}
use mathlib.Core.List.{List, [], ◌∷◌}
use Prim.Native.Nat.{ℕ, zero, suc, ◌+◌, ◌/◌, ◌≤◌, ◌<◌}
use native.Mathlib.Omega.{arith}
use lib.ListN.{length, take, drop, get_or, length-take, length-drop}
use Rattle.lent.specs.declared.stretch.Stretch.{Stretch}
use Rattle.lent.specs.Internal.Stretch.{octets_at}
use Rattle.octets.specs.Lists.{cut}
use Rattle.octets.proofs.Laws.Lists.{cut-cut}
use Rattle.reply.specs.Internal.RawReply.{slot_text, text_if}
use Rattle.table.specs.Block.{block_size, body_offset, body_size}
use Rattle.table.specs.Forest.{forest_of}
use Rattle.table.specs.Server.{server_of}
use Rattle.table.specs.Table.{table_of, table_from}
use Rattle.table.proofs.Laws.Table.{body_there}
use Rattle.table_find.specs.Internal.Found.{site_at}
use Rattle.choose_reply.specs.Internal.Lends.{LendsEach, name_of}

-- a stretch by as many octets as it has
pub cut-own : {A : Type 0} (s : List A) (at n : ℕ) → cut s at (length (cut s at n)) ≡ cut s at n
cut-own {A} s at n = go n (drop at s)
  where
    go : (m : ℕ) (l : List A) → take (length (take m l)) l ≡ take m l
    go zero l = refl
    go (suc m) [] = refl
    go (suc m) (x ∷ l) = ap (λ (r : List A). x ∷ r) (go m l)

-- the same within a stretch that holds its start
pub cut-within : {A : Type 0} (s : List A) (at w from n : ℕ) → from ≤ w → cut s (at + from) (length (cut (cut s at w) from n)) ≡ cut (cut s at w) from n
cut-within s at w from n h =
    let k : from + length (cut (cut s at w) from n) ≤ w = simp (length-take, length-drop) (omega arith) in
    sym (cut-cut s at w from (length (cut (cut s at w) from n)) k) ∙ cut-own (cut s at w) from n

-- slots, one after the other
module _ (table request : List ℕ) where
  pub no_slots : LendsEach table request [] []
  no_slots = record { octets = λ k h. absurd (omega arith) }

  pub slot_then : (s : Stretch) (text : List ℕ) (slots : List Stretch) (texts : List (List ℕ))
      → octets_at table request s ≡ text → LendsEach table request slots texts → LendsEach table request (s ∷ slots) (text ∷ texts)
  slot_then s text slots texts l ls = record { octets = octets }
    where
      octets : (k : ℕ) → k < length (text ∷ texts) → slot_text table request (s ∷ slots) k ≡ get_or (text ∷ texts) k []
      octets zero h = l
      octets (suc k) h = ls.octets k (omega arith)

-- the next site's name is there where the site is
pub next_there : (image : List ℕ) (found : Option ℕ) → text_if (is_some found) (name_of (site_at image found)) ≡ option_map (λ s. s.name) (site_at image found)
next_there image (Some offset) = refl
next_there image None = refl

-- the server and the forest by the bodies of their blocks
pub server-body : (image : List ℕ) → block_size ≤ length image → server_of (cut image body_offset body_size) ≡ (table_from image).server
unfolding table_of
server-body image h =
    let k : 0 < length image / block_size = omega arith in
    ap server_of (sym (cut-cut image 0 block_size body_offset body_size (omega arith)) ∙ body_there image 0 k)

pub forest-body : (image : List ℕ) → block_size + block_size ≤ length image → forest_of (cut image (block_size + body_offset) body_size) ≡ (table_from image).forest
unfolding table_of
forest-body image h =
    let k : 1 < length image / block_size = omega arith in
    ap forest_of (sym (cut-cut image block_size block_size body_offset body_size (omega arith)) ∙ body_there image 1 k)
