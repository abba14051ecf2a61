-- Document 02, #107: what a DnsDomain value finds, with a closing dot and without, in every table that passed 1 to 4.
use Rattle.std.specs.Prelude.{◌≡◌, List, [], ◌∷◌, ◌++◌, ℕ, Ok, None, Some}
use Rattle.table.specs.{Context.Context, Table.Table}
use Rattle.table_lookup.specs.{Lookup.context_by_dns_name, NearestSubnet.Among}
use Rattle.table_whole.specs.Judgement.{table_in}

pub record ClosingDotIn (t : Table) : Type 0 where
  -- a context's own name finds it
  pub own : (c : Context) → Among c t.contexts → context_by_dns_name t c.dns ≡ Some c
  pub closed : (c : Context) → Among c t.contexts → context_by_dns_name t (c.dns ++ (46 ∷ [])) ≡ Some c
  -- a value that is not empty and does not end in a dot finds with a dot the context that it finds without, or none where it finds none
  pub one : (m : List ℕ) (x : ℕ) → (x ≡ 46 → ⊥) → context_by_dns_name t (m ++ (x ∷ 46 ∷ [])) ≡ context_by_dns_name t (m ++ (x ∷ []))
  pub alone : context_by_dns_name t (46 ∷ []) ≡ None
  pub two : (m : List ℕ) → context_by_dns_name t (m ++ (46 ∷ 46 ∷ [])) ≡ None

abbrev pub ClosingDot : Type 0
ClosingDot = (image : List ℕ) (t : Table) → table_in image ≡ Ok t → ClosingDotIn t
