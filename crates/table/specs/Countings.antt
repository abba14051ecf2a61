-- Document 01, "The table image": naming-context numbers, site numbers and block places are three countings, and none is used for another.
use Rattle.std.specs.Prelude.{Bool, cond, ℕ, ◌+◌, eqb, Option, None, Some}
use Rattle.table.specs.{declared.BlockPlace.BlockPlace, declared.ContextNumber.ContextNumber, declared.SiteNumber.SiteNumber}

abbrev pub context_number : ℕ → ContextNumber
context_number n = record { 0 = n }

abbrev pub site_number : ℕ → SiteNumber
site_number n = record { 0 = n }

abbrev pub block_place : ℕ → BlockPlace
block_place n = record { 0 = n }

-- the place of the next block
abbrev pub next_place : BlockPlace → BlockPlace
next_place place = block_place (place.0 + 1)

-- where 0 means none
abbrev pub site_or_none : ℕ → Option SiteNumber
site_or_none n = cond (eqb n 0) None (Some (site_number n))

abbrev pub same_context : ContextNumber → ContextNumber → Bool
same_context m n = eqb m.0 n.0

abbrev pub same_site_lem : SiteNumber → SiteNumber → Bool
same_site_lem m n = eqb m.0 n.0

abbrev pub same_place : BlockPlace → BlockPlace → Bool
same_place m n = eqb m.0 n.0
