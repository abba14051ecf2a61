-- The plan of an EX from name 8 on.
use Rattle.std.specs.Prelude.{◌≡◌, Bool, List, ℕ, ◌+◌, length, take}
use Rattle.lent.specs.declared.stretch.Stretch.{Stretch}
use Rattle.lent.specs.Internal.Stretch.{octets_at}
use Rattle.names.specs.declared.plan.PlannedName.{PlannedName}
use Rattle.reply.specs.declared.plan.Plan.{Plan}
use Rattle.reply.specs.Internal.RawReply.{text_if}
use Rattle.reply.specs.Internal.Plan.{last_name, last_octets, NextPlan}

-- the eight names before it stay as planned
pub record LastPlan (table request : List ℕ) (names : List PlannedName) (withNextSite : Bool) (next_site_lem : Stretch) (front : ℕ) (r : Plan) : Type 0 where
  pub before : take 8 r.«names» ≡ take 8 names
  pub next : NextPlan table request (text_if withNextSite (octets_at table request next_site_lem)) r.«names» front
  pub whole : r.«length» ≡ front + length (last_octets table request withNextSite (last_name r.«names»))
