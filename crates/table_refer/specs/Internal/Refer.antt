-- References of records, by what is found of the contexts and among the marks.
use Rattle.std.specs.Prelude.{Bool, not, ◌&&◌, ◌||◌, List, ℕ, eqb, Option}
use Rattle.octets.specs.Lists.{all, any, none_or}
use Rattle.table.specs.declared.ContextNumber.{ContextNumber}
use Rattle.table.specs.declared.SiteNumber.{SiteNumber}
use Rattle.table.specs.declared.record.RecordKind.TheVariants as kind
use Rattle.table.specs.Account.{account_of}
use Rattle.table.specs.Block.{kind_in, body}
use Rattle.table.specs.Context.{context_of}
use Rattle.table.specs.Countings.{same_context, same_site_lem}
use Rattle.table.specs.Format.{records_in}
use Rattle.table.specs.Site.{site_of}
use Rattle.table.specs.Subnet.{subnet_format, subnet_of}
use Rattle.table.specs.Internal.RecordAt.{record_at}
use Rattle.table_refer.specs.declared.mark.Marks.{Marks}
use Rattle.table_refer.specs.Internal.Mark.{is_marked}

-- one of the contexts at offsets has a number
unfoldable pub has_number : List ℕ → List ℕ → ContextNumber → Bool
has_number image contexts n = any (λ q. same_context (context_of (record_at image kind.Context q)).number n) contexts

-- the context of the account at an offset is one of them
abbrev pub in_contexts : List ℕ → List ℕ → ℕ → Bool
in_contexts image contexts p = has_number image contexts (account_of (record_at image kind.Account p)).context

abbrev pub is_marked_or_none : Marks → Option SiteNumber → Bool
is_marked_or_none marks = none_or (is_marked marks)

abbrev pub is_other_or_none : SiteNumber → Option SiteNumber → Bool
is_other_or_none own = none_or (λ n. not (same_site_lem own n))

abbrev pub site_refers : Marks → List ℕ → Bool
site_refers marks r = is_marked_or_none marks (site_of r).next && is_other_or_none (site_of r).number (site_of r).next

-- of the site at an offset
abbrev pub site_refers_at : Marks → List ℕ → ℕ → Bool
site_refers_at marks image p = site_refers marks (record_at image kind.Site p)

abbrev pub subnet_refers : Marks → List ℕ → Bool
subnet_refers marks r = is_marked_or_none marks (subnet_of r).site

-- each subnet of a block, if it holds any; its unused records refer to no site
abbrev pub subnets_refer : Marks → List ℕ → Bool
subnets_refer marks block = not (eqb (kind_in block) subnet_format.kind) || all (subnet_refers marks) (records_in subnet_format (body block))
