-- Texts that stretches lend, and the texts of a reply in the order of their slots.
use Rattle.std.specs.Prelude.{◌≡◌, List, [], ◌∷◌, ℕ, ◌<◌, length, get_or, Option, option_map, unwrap_or}
use Rattle.filter_read.specs.Value.{Ping}
use Rattle.lent.specs.declared.stretch.Stretch.{Stretch}
use Rattle.lent.specs.Internal.Stretch.{octets_at}
use Rattle.reply.specs.Internal.RawReply.{slot_text}
use Rattle.table.specs.Context.{Context}
use Rattle.table.specs.Site.{Site}
use Rattle.table.specs.Table.{Table}
use Rattle.table_lookup.specs.Lookup.{site_by_number}

-- a stretch of the table image that holds a text, whatever the request
abbrev pub InTable : List ℕ → Stretch → List ℕ → Type 0
InTable table s text = (request : List ℕ) → octets_at table request s ≡ text

-- one of the request, whatever the table image
abbrev pub InRequest : List ℕ → Stretch → List ℕ → Type 0
InRequest request s text = (table : List ℕ) → octets_at table request s ≡ text

-- the same of each slot
pub record LendsEach (table request : List ℕ) (slots : List Stretch) (texts : List (List ℕ)) : Type 0 where
  pub octets : (k : ℕ) → k < length texts → slot_text table request slots k ≡ get_or texts k []

-- a name that may be absent
abbrev pub name_of : Option Site → List ℕ
name_of site = unwrap_or (option_map (λ s. s.name) site) []

abbrev pub texts : Table → Ping → Context → Option Site → Option (List ℕ) → List (List ℕ)
texts t p c client next =
    t.forest
    ∷ c.dns
    ∷ t.server.host
    ∷ c.netbios
    ∷ t.server.netbios
    ∷ unwrap_or p.user []
    ∷ name_of (site_by_number t t.server.site)
    ∷ name_of client
    ∷ unwrap_or next []
    ∷ []
