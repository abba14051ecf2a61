-- The flags by roles and two tests, in the groups that the code sums.
use Rattle.std.specs.Prelude.{Bool, not, ◌&&◌, ℕ, ◌+◌}
use Rattle.answers.specs.declared.Form.{Form}
use Rattle.answers.specs.declared.Form.TheVariants.{Nt40, Response, Ex}
use Rattle.answers.specs.Wire.{ds_pdc_flag, ds_gc_flag, ds_ldap_flag, ds_ds_flag, ds_kdc_flag, ds_timeserv_flag, ds_closest_flag, ds_writable_flag, ds_good_timeserv_flag, ds_ndnc_flag, ds_select_secret_domain_6_flag, ds_full_secret_domain_6_flag, ds_ws_flag, ds_ds_8_flag, ds_ds_9_flag}
use Rattle.octets.specs.Number.{has}
use Rattle.table.specs.Bits.{role_pdc, role_global_catalog, role_kdc, role_time_service, role_read_only, role_good_time, role_web_service, role2012, role2012_r2, role_later_than2003_r2}
use Rattle.choose.specs.Choose.{flag}

abbrev pub service_flags : ℕ → ℕ
service_flags roles =
    flag (has roles role_pdc) ds_pdc_flag
    + flag (has roles role_global_catalog) ds_gc_flag
    + ds_ldap_flag
    + ds_ds_flag
    + flag (has roles role_kdc) ds_kdc_flag
    + flag (has roles role_time_service) ds_timeserv_flag
    + flag (has roles role_good_time) ds_good_timeserv_flag

abbrev pub secret_flags : ℕ → ℕ
secret_flags roles =
    flag (not (has roles role_read_only)) ds_writable_flag
    + flag (has roles role_read_only) ds_select_secret_domain_6_flag
    + flag (not (has roles role_read_only) && has roles role_later_than2003_r2) ds_full_secret_domain_6_flag

abbrev pub release_flags : ℕ → ℕ
release_flags roles = flag (has roles role_web_service) ds_ws_flag + flag (has roles role2012) ds_ds_8_flag + flag (has roles role2012_r2) ds_ds_9_flag

abbrev pub ex_flags_by : ℕ → Bool → Bool → ℕ
ex_flags_by roles same_site_lem application =
    service_flags roles + flag same_site_lem ds_closest_flag + secret_flags roles + flag application ds_ndnc_flag + release_flags roles

abbrev pub flags_by : Form → ℕ → Bool → Bool → ℕ
flags_by Nt40 roles same_site_lem application = 0
flags_by Response roles same_site_lem application = flag (has roles role_pdc) ds_pdc_flag + ds_ds_flag
flags_by Ex roles same_site_lem application = ex_flags_by roles same_site_lem application
