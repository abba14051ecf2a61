-- The name as it is compared, by its cases; and a lookup of the table is a search in the used records of a kind.
use Rattle.std.proofs.Common.{option_map}
use mathlib.Core.Path.{◌≡◌, refl, sym, ap, ◌∙◌}
use mathlib.Core.Bool.{Bool, true, false, cond, not, ◌&&◌}
use mathlib.Core.List.{List, [], ◌∷◌, ◌++◌, map, flat_map}
use Prim.Native.Nat.{ℕ, suc, ◌+◌, ◌-◌, ◌≤◌, ◌<◌}
use native.Mathlib.Omega.{arith}
use lib.Dec.{eqb, leb}
use lib.ListN.{length, take, get_or, length-append}
use borrow.Author.Tests.{leb-true, leb-false, le-leb, lt-leb}
use Rattle.octets.specs.Lists.{first, keep}
use Rattle.octets.proofs.Laws.Lists.{first-map, first-keep}
use Rattle.table.specs.declared.record.RecordKind.{RecordKind}
use Rattle.table.specs.declared.record.RecordKind.TheVariants as kind
use Rattle.table.specs.Account.{Account, account_of}
use Rattle.table.specs.Context.{Context, context_of}
use Rattle.table.specs.Format.{format_of, records_in}
use Rattle.table.specs.Site.{Site, site_of}
use Rattle.table.specs.Table.{is_used, bodies, records_of, table_of}
use Rattle.table_find.specs.Find.{name_compared}
use Rattle.table_find.specs.Internal.Search.{first_in}

module _ (s : List ℕ) where
  pub compared-short : length s < 2 → name_compared s ≡ s
  unfolding name_compared
  compared-short h = rw (lt-leb 2 (length s) h)

  module _ (h : 2 ≤ length s) where
    pub compared_other : eqb (get_or s (length s - 1) 0) 46 ≡ false → name_compared s ≡ s
    unfolding name_compared
    compared_other e = rw (le-leb 2 (length s) h, e)

    module _ (e : eqb (get_or s (length s - 1) 0) 46 ≡ true) where
      pub compared_dots : eqb (get_or s (length s - 2) 0) 46 ≡ true → name_compared s ≡ s
      unfolding name_compared
      compared_dots d = rw (le-leb 2 (length s) h, e, d)

      pub compared_dot : eqb (get_or s (length s - 2) 0) 46 ≡ false → name_compared s ≡ take (length s - 1) s
      unfolding name_compared
      compared_dot d = rw (le-leb 2 (length s) h, e, d)

-- the last two octets of a text, and what is left without the last

get_d_behind : (m : List ℕ) (x : ℕ) (r : List ℕ) → get_or (m ++ (x ∷ r)) (length m) 0 ≡ x
get_d_behind [] x r = refl
get_d_behind (z ∷ m) x r = get_d_behind m x r

get_d_last : (m : List ℕ) (x y : ℕ) → get_or (m ++ (x ∷ y ∷ [])) (suc (length m)) 0 ≡ y
get_d_last [] x y = refl
get_d_last (z ∷ m) x y = get_d_last m x y

take_but_last : (m : List ℕ) (x y : ℕ) → take (suc (length m)) (m ++ (x ∷ y ∷ [])) ≡ m ++ (x ∷ [])
take_but_last [] x y = refl
take_but_last (z ∷ m) x y = ap (λ (r : List ℕ). z ∷ r) (take_but_last m x y)

-- the name as it is compared, by its last two octets
pub compared-ends : (m : List ℕ) (x y : ℕ) → name_compared (m ++ (x ∷ y ∷ [])) ≡ cond (eqb y 46 && not (eqb x 46)) (m ++ (x ∷ [])) (m ++ (x ∷ y ∷ []))
unfolding name_compared
compared-ends m x y =
    let n : length (m ++ (x ∷ y ∷ [])) ≡ length m + 2 = length-append m (x ∷ y ∷ []) in
    let last : length m + 2 - 1 ≡ suc (length m) = omega arith in
    let before : length m + 2 - 2 ≡ length m = omega arith in
    rw (n, le-leb 2 (length m + 2) (omega arith), last, before, get_d_last m x y, get_d_behind m x (y ∷ []), take_but_last m x y)

-- a value that does not end in a dot is compared as it is
pub compared_undotted : (m : List ℕ) (x : ℕ) → eqb x 46 ≡ false → name_compared (m ++ (x ∷ [])) ≡ m ++ (x ∷ [])
compared_undotted m x e = go (leb 2 (length (m ++ (x ∷ [])))) refl
  where
    go : (b : Bool) → leb 2 (length (m ++ (x ∷ []))) ≡ b → name_compared (m ++ (x ∷ [])) ≡ m ++ (x ∷ [])
    go false q = compared-short (m ++ (x ∷ [])) (leb-false 2 (length (m ++ (x ∷ []))) q)
    go true q =
        let n : length (m ++ (x ∷ [])) - 1 ≡ length m = omega (arith, length-append m (x ∷ [])) in
        compared_other (m ++ (x ∷ [])) (leb-true 2 (length (m ++ (x ∷ []))) q) (rw (n, get_d_behind m x [], e))

module _ (blocks : List (List ℕ)) where
  -- a search in the used records of a kind, read as f does
  used_search : {A : Type 0} (f : List ℕ → A) (p : A → Bool) (k : RecordKind) → option_map f (first_in k (λ r. p (f r)) blocks) ≡ first p (map f (records_of k blocks))
  unfolding first_in records_of
  used_search f p k =
      let records = flat_map (records_in (format_of k)) (bodies (format_of k).kind blocks) in
      sym (first-map f p (keep is_used records) ∙ ap (option_map f) (first-keep (λ r. p (f r)) is_used records))

  pub context_search : (p : Context → Bool) → option_map context_of (first_in kind.Context (λ r. p (context_of r)) blocks) ≡ first p (table_of blocks).contexts
  unfolding table_of
  context_search p = used_search context_of p kind.Context

  pub account_search : (p : Account → Bool) → option_map account_of (first_in kind.Account (λ r. p (account_of r)) blocks) ≡ first p (table_of blocks).accounts
  unfolding table_of
  account_search p = used_search account_of p kind.Account

  pub site_search : (p : Site → Bool) → option_map site_of (first_in kind.Site (λ r. p (site_of r)) blocks) ≡ first p (table_of blocks).sites
  unfolding table_of
  site_search p = used_search site_of p kind.Site
