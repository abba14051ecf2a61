-- Document 01, "Choosing the answer" and its slip of the application flag: a ping without DnsDomain never gets 400h, whatever its GUID or the default.
use Rattle.std.specs.Prelude.{◌≡◌, false, Option, None}
use Rattle.answers.specs.Wire.{ds_ndnc_flag}
use Rattle.filter_read.specs.Value.{Ping}
use Rattle.octets.specs.Number.{has}
use Rattle.table.specs.{Site.Site, Table.Table}
use Rattle.choose.specs.Choose.{ex_flags}

abbrev pub ApplicationFlag : Type 0
ApplicationFlag = (t : Table) (p : Ping) (site : Option Site) → p.dns_domain_lem ≡ None → has (ex_flags t p site) ds_ndnc_flag ≡ false
