-- Document 01, "The table image": the layout of each kind of block, octet for octet. Every octet not named is zero.
use Rattle.std.specs.Prelude.{Bool, true, false, cond, not, ◌&&◌, ◌||◌, List, [], ◌∷◌, ℕ, ◌+◌, eqb, leb, ltb, length, Option, None, Some}
use Rattle.octets.specs.{Lists.all, Lists.any, Sid.is_sid, Text.all_zero}
use Rattle.octets.specs.NameRule.{is_dns_name, is_netbios_name, is_site_name}
use Rattle.unicode_text.specs.UserName.{is_account_name}
use Rattle.table.specs.{declared.BlockPlace.BlockPlace, declared.record.RecordKind.RecordKind, Countings.same_place, Countings.next_place, Bits.roles_bound}
use Rattle.table.specs.Bits.{state_bound}
use Rattle.table.specs.declared.record.RecordKind.TheVariants.{Context, Account, Site, Subnet}
use Rattle.table.specs.Account.{account_format, control_offset, account_name, account_of}
use Rattle.table.specs.Address.{address_bits, address_number, is_prefix_only}
use Rattle.table.specs.Block.{kind_in, version_in, place_in, body_size, body}
use Rattle.table.specs.Context.{context_format, application_octet, has_sid_octet, sid_offset, sid_room, context_netbios_lem, context_dns_name, context_of}
use Rattle.table.specs.Forest.{forest_kind, forest_place, forest_name}
use Rattle.table.specs.Format.{format_of, record_kinds, records_in}
use Rattle.table.specs.Server.{server_kind, server_place, server_netbios_lem, server_host, server_of}
use Rattle.table.specs.Site.{site_format, site_name, next_offset, site_of}
use Rattle.table.specs.Subnet.{subnet_format, in_use_octet, subnet_site_offset, subnet_of}
use Rattle.table_layout.specs.Field.{zeros, text_field, last_text}

-- a number that must be there is not 0
abbrev pub nonzero : ℕ → Bool
nonzero n = not (eqb n 0)

-- kind 1: twelve roles and four states, other bits zero
unfoldable pub server_layout : List ℕ → Bool
server_layout b =
    let s = server_of b in
    ltb s.roles roles_bound
    && ltb s.state state_bound
    && nonzero s.site.0
    && nonzero s.default_context_lem.0
    && text_field is_netbios_name b server_netbios_lem
    && last_text is_dns_name b server_host body_size

-- kind 2
unfoldable pub forest_layout : List ℕ → Bool
forest_layout b = last_text is_dns_name b forest_name body_size

-- each flag is 0 or 1, and an application context has no SID
unfoldable pub flags_layout : List ℕ → Bool
flags_layout b =
    ltb (application_octet b) 2
    && ltb (has_sid_octet b) 2
    && not (eqb (application_octet b) 1 && eqb (has_sid_octet b) 1)

-- a SID where the context has one; the room that it doesn't use is zero
abbrev pub sid_layout : Option (List ℕ) → List ℕ → Bool
sid_layout (Some s) b = is_sid s && zeros b (sid_offset + length s) (sid_offset + sid_room)
sid_layout None b = zeros b sid_offset (sid_offset + sid_room)

abbrev pub is_empty : List ℕ → Bool
is_empty s = eqb (length s) 0

-- an application context's NetBIOS name may be empty
abbrev pub is_context_netbios : Bool → List ℕ → Bool
is_context_netbios true s = is_empty s || is_netbios_name s
is_context_netbios false s = is_netbios_name s

-- kind 3
unfoldable pub context_layout : List ℕ → Bool
context_layout b =
    let c = context_of b in
    nonzero c.number.0
    && flags_layout b
    && not (all_zero c.guid)
    && sid_layout c.sid b
    && text_field (is_context_netbios c.application) b context_netbios_lem
    && last_text is_dns_name b context_dns_name context_format.width

-- kind 4
unfoldable pub account_layout : List ℕ → Bool
account_layout r =
    nonzero (account_of r).context.0
    && zeros r 2 control_offset
    && last_text is_account_name r account_name account_format.width

-- kind 5
unfoldable pub site_layout : List ℕ → Bool
site_layout r =
    nonzero (site_of r).number.0
    && text_field is_site_name r site_name
    && zeros r (next_offset + 2) site_format.width

-- kind 6
unfoldable pub subnet_layout : List ℕ → Bool
subnet_layout r =
    let n = subnet_of r in
    leb n.prefix address_bits
    && is_prefix_only n.prefix (address_number n.address)
    && eqb (in_use_octet r) 1
    && zeros r (subnet_site_offset + 2) subnet_format.width

abbrev pub unused_or : (List ℕ → Bool) → List ℕ → Bool
unused_or rule r = all_zero r || rule r

-- an unused record is all zeros; a context's block holds a context
abbrev pub record_layout : RecordKind → List ℕ → Bool
record_layout Context r = context_layout r
record_layout Account r = unused_or account_layout r
record_layout Site r = unused_or site_layout r
record_layout Subnet r = unused_or subnet_layout r

-- a block of this kind octet holds records of this kind, each by its layout
unfoldable pub records_layout : ℕ → List ℕ → RecordKind → Bool
records_layout octet b kind = eqb octet (format_of kind).kind && all (record_layout kind) (records_in (format_of kind) b)

-- the body by its kind octet: kind 1 at block 0, kind 2 at block 1, and neither elsewhere
unfoldable pub body_layout : BlockPlace → ℕ → List ℕ → Bool
body_layout place octet b =
    cond (same_place place server_place) (eqb octet server_kind && server_layout b)
    (cond (same_place place forest_place) (eqb octet forest_kind && forest_layout b)
    (any (records_layout octet b) record_kinds))

-- a block at a place: version 1, its own place, and the body
unfoldable pub block_layout : BlockPlace → List ℕ → Bool
block_layout place block = eqb (version_in block) 1 && same_place (place_in block) place && body_layout place (kind_in block) (body block)

-- blocks from a place on
unfoldable pub layouts_from : BlockPlace → List (List ℕ) → Bool
layouts_from place [] = true
layouts_from place (block ∷ blocks) = block_layout place block && layouts_from (next_place place) blocks
