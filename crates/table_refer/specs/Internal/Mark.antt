-- Site numbers marked as seen: a bit for each of 65,536, eight in an octet.
use Rattle.std.specs.Prelude.{◌≡◌, Bool, true, List, ℕ, ◌/◌, ◌%◌, ◌^◌, eqb, get_or, set, drop, replicate}
use Rattle.std.specs.Int.Bits.{bit_or}
use Rattle.octets.specs.Lists.{any, unique}
use Rattle.table.specs.declared.SiteNumber.{SiteNumber}
use Rattle.table.specs.declared.record.RecordKind.TheVariants as kind
use Rattle.table.specs.Countings.{same_site_lem}
use Rattle.table.specs.Site.{site_of}
use Rattle.table.specs.Internal.RecordAt.{record_at}
use Rattle.table_refer.specs.declared.mark.Marks.{Marks}

-- of no number
abbrev pub no_marks : Marks
no_marks = record { octets = replicate 8192 0 }

unfoldable pub is_marked : Marks → SiteNumber → Bool
is_marked marks n = eqb (get_or marks.octets (n.0 / 8) 0 / 2 ^ (n.0 % 8) % 2) 1

unfoldable pub with_mark : Marks → SiteNumber → Marks
with_mark marks n = record { octets = set marks.octets (n.0 / 8) (bit_or (get_or marks.octets (n.0 / 8) 0) (2 ^ (n.0 % 8))) }

-- the number of the site at an offset
abbrev pub number_at : List ℕ → ℕ → SiteNumber
number_at image offset = (site_of (record_at image kind.Site offset)).number

abbrev pub same_site_at : List ℕ → ℕ → ℕ → Bool
same_site_at image p q = same_site_lem (number_at image p) (number_at image q)

-- a number is marked exactly where a site at one of the offsets has it
abbrev pub Marked : Marks → List ℕ → List ℕ → Type 0
Marked marks image offsets = (n : SiteNumber) → is_marked marks n ≡ any (λ p. same_site_lem (number_at image p) n) offsets

-- from an index on, all numbers are marked, and no two are the same
pub record Seen (marks : Marks) (image : List ℕ) (offsets : List ℕ) (left : ℕ) : Type 0 where
  pub marked : Marked marks image (drop left offsets)
  pub uniquely : unique (same_site_at image) (drop left offsets) ≡ true
