-- The table as a whole in two halves, contexts with their accounts, and sites with what refers to them; the subnets by themselves come after.
use Rattle.std.specs.Prelude.{◌≡◌, Bool, not, ◌&&◌, List, ℕ, leb, length}
use Rattle.octets.specs.Lists.{all, holds}
use Rattle.octets.specs.Text.{within}
use Rattle.table.specs.declared.SiteNumber.{SiteNumber}
use Rattle.table.specs.declared.record.RecordKind.{RecordKind}
use Rattle.table.specs.Block.{blocks_of}
use Rattle.table.specs.Countings.{same_site_lem}
use Rattle.table.specs.Format.{format_of}
use Rattle.table.specs.Table.{Table, records_of}
use Rattle.table_records.specs.Internal.Offset.{records_at}
use Rattle.table_whole.specs.Whole.{contexts_unique, accounts_unique, sites_unique, has_context, has_site}
use Rattle.octets.specs.Lists.{none_or}
use Rattle.table_refer.specs.declared.mark.Marks.{Marks}
use Rattle.table_refer.specs.Internal.Mark.{is_marked}

-- the offsets are those of all used records of a kind
abbrev pub AllOf : RecordKind → List ℕ → List ℕ → Type 0
AllOf kind image offsets = records_at image (format_of kind).width offsets ≡ records_of kind (blocks_of image)

-- marks that say of each number whether the table has such a site
abbrev pub SiteMarks : Marks → Table → Type 0
SiteMarks marks t = (n : SiteNumber) → is_marked marks n ≡ has_site t n

unfoldable pub good_accounts : Table → Bool
good_accounts t = all (λ a. has_context t a.context) t.accounts && accounts_unique t.accounts

unfoldable pub good_contexts : Table → Bool
good_contexts t = contexts_unique t.contexts && has_context t t.server.default_context_lem && good_accounts t

unfoldable pub context_half : Table → Bool
context_half t = within 1 16 (length t.contexts) && good_contexts t

unfoldable pub good_next : Table → Bool
good_next t = all (λ s. none_or (has_site t) s.next) t.sites && all (λ s. not (holds (same_site_lem s.number) s.next)) t.sites

unfoldable pub good_subnets : Table → Bool
good_subnets t = all (λ n. none_or (has_site t) n.site) t.subnets

unfoldable pub good_references : Table → Bool
good_references t = has_site t t.server.site && good_next t && good_subnets t

unfoldable pub good_sites : Table → Bool
good_sites t = sites_unique t.sites && good_references t

unfoldable pub site_half : Table → Bool
site_half t = leb 1 (length t.sites) && good_sites t
