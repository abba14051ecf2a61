-- 11 to 17 step by step, as the code goes: what each clause asks for, the context used, and what the code returns for them.
use Rattle.std.specs.Prelude.{◌≡◌, Bool, not, List, ℕ, ◌+◌, ◌≤◌, eqb, length, Ok, Err, IfOk, Option, None, Some, is_some}
use Rattle.answers.specs.declared.Refusal.{Refusal}
use Rattle.answers.specs.declared.Refusal.TheVariants.{GuidLength, GuidNotHeld, DnsNameEmpty, DnsNameNotHeld, SidShape, SidNotHeld, SidOfAnother}
use Rattle.answers.specs.Try.{Try, refused_if, ◌>>=◌}
use Rattle.octets.specs.Lists.{cut, holds}
use Rattle.octets.specs.Sid.{is_sid, guid_size}
use Rattle.table.specs.declared.record.RecordKind.TheVariants as kind
use Rattle.table.specs.Context.{Context, context_of, context_format}
use Rattle.table.specs.Table.{Table}
use Rattle.table_find.specs.Find.{holds_sid}
use Rattle.table_find.specs.Internal.Found.{LiesIn, context_at}
use Rattle.table_lookup.specs.Lookup.{context_by_guid, context_by_dns_name, context_by_sid, default_context_lem}
use Rattle.choose_context.specs.declared.context.ContextUsed.{ContextUsed}

-- what a clause asks for: the context that the offset found shows
abbrev pub asked_as : List ℕ → Try (Option ℕ) → Try (Option Context)
asked_as image asked = asked >>= λ found. Ok (context_at image found)

abbrev pub AskedIn : List ℕ → Try (Option ℕ) → Type 0
AskedIn image asked = IfOk asked (LiesIn image kind.Context)

-- the context used: the one whose record stands at the offset
abbrev pub used_as : List ℕ → Try ContextUsed → Try Context
used_as image used = used >>= λ u. Ok (context_of (cut image u.context context_format.width))

-- its record lies in the image, and DnsDomain names an application context as told
abbrev pub UsedIn : List ℕ → Bool → Try ContextUsed → Type 0
UsedIn image told used = IfOk used (λ u. (u.context + context_format.width ≤ length image) × (u.application ≡ told))

abbrev pub held_if : Refusal → Option Context → Try (Option Context)
held_if r None = Err r
held_if r (Some c) = Ok (Some c)

-- 11 and 12
abbrev pub guid_asked : Table → Option (List ℕ) → Try (Option Context)
guid_asked t None = Ok None
guid_asked t (Some guid) = refused_if (not (eqb (length guid) guid_size)) GuidLength (held_if GuidNotHeld (context_by_guid t guid))

-- 13 and 14
abbrev pub dns_name_asked : Table → Option (List ℕ) → Try (Option Context)
dns_name_asked t None = Ok None
dns_name_asked t (Some name) = refused_if (eqb (length name) 0) DnsNameEmpty (held_if DnsNameNotHeld (context_by_dns_name t name))

-- the context used, from those that the two clauses ask for
abbrev pub preferred : Table → Option Context → Option Context → Option Context
preferred t (Some c) name = Some c
preferred t None (Some c) = Some c
preferred t None None = default_context_lem t

-- 15 to 17
abbrev pub sid_judged : Table → Option (List ℕ) → Context → Try Context
sid_judged t sid c =
    refused_if (holds (λ s. not (is_sid s)) sid) SidShape
    (refused_if (holds (λ s. not (is_some (context_by_sid t s))) sid) SidNotHeld
    (refused_if (holds (λ s. not (holds_sid s c)) sid) SidOfAnother (Ok c)))

-- the context itself, where its SID is judged good
abbrev pub sid_as : Context → Try (Unit {0}) → Try Context
sid_as c judged = judged >>= λ _. Ok c
