-- The next closest site, by whether it is asked for and the level is there.
use Rattle.std.proofs.Common.{Option, None, Some, option_map}
use mathlib.Core.Path.{◌≡◌}
use mathlib.Core.Bool.{true, false, ◌&&◌}
use Prim.Native.Nat.{ℕ}
use Rattle.answers.specs.Wire.{netlogon_nt_version_with_closest_site}
use Rattle.octets.specs.Number.{has}
use Rattle.table.specs.Bits.{role_level2008}
use Rattle.table.specs.Site.{Site}
use Rattle.table.specs.Table.{Table}
use Rattle.table_lookup.specs.Lookup.{site_if_any}
use Rattle.choose.specs.Choose.{next_site_lem}

module _ (t : Table) (v : ℕ) where
  pub next_unasked : (client : Option Site) → (has v netlogon_nt_version_with_closest_site && has t.server.roles role_level2008) ≡ false → None ≡ next_site_lem t v client
  unfolding next_site_lem
  next_unasked client e = rw e

  module _ (asked : (has v netlogon_nt_version_with_closest_site && has t.server.roles role_level2008) ≡ true) where
    pub next_of_none : None ≡ next_site_lem t v None
    unfolding next_site_lem
    next_of_none = rw asked

    pub next_of : (client : Site) → option_map (λ s. s.name) (site_if_any t client.next) ≡ next_site_lem t v (Some client)
    unfolding next_site_lem
    next_of client = rw asked
