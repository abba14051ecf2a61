-- The flags by roles and two tests are those of the definitions.
use Rattle.std.proofs.Common.{Option}
use mathlib.Core.Path.{◌≡◌, refl}
use native.Mathlib.Omega.{arith}
use Rattle.answers.specs.declared.Form.{Form}
use Rattle.answers.specs.declared.Form.TheVariants.{Nt40, Response, Ex}
use Rattle.filter_read.specs.Value.{Ping}
use Rattle.octets.specs.Lists.{holds}
use Rattle.table.specs.Countings.{same_site_lem}
use Rattle.table.specs.Site.{Site}
use Rattle.table.specs.Table.{Table}
use Rattle.choose.specs.Choose.{names_application, ex_flags, response_flags, flags_of}
use Rattle.choose.specs.Internal.Flags.{flags_by}

pub flags_by_lem : (form : Form) (t : Table) (p : Ping) (site : Option Site)
    → flags_by form t.server.roles (holds (λ s. same_site_lem s.number t.server.site) site) (names_application t p) ≡ flags_of form t p site
unfolding ex_flags response_flags
flags_by_lem Nt40 t p site = refl
flags_by_lem Response t p site = refl
flags_by_lem Ex t p site = omega arith
