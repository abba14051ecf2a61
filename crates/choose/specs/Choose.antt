-- Document 01, "Choosing the answer": the user, the form, the opcode and the flags, and the reply they make.
use Rattle.std.specs.Prelude.{Bool, cond, not, ◌&&◌, ◌||◌, List, [], ℕ, ◌+◌, Option, None, option_map, unwrap_or, option_and_then}
use Rattle.answers.specs.declared.Form.{Form}
use Rattle.answers.specs.declared.Form.TheVariants.{Nt40, Response, Ex}
use Rattle.answers.specs.Wire.{netlogon_nt_version_5, netlogon_nt_version_5ex, netlogon_nt_version_5ex_with_ip, netlogon_nt_version_with_closest_site, netlogon_nt_version_avoid_nt4emul, netlogon_nt_version_pdc, netlogon_nt_version_local}
use Rattle.answers.specs.Wire.{opcodes_of, ds_pdc_flag, ds_gc_flag, ds_ldap_flag, ds_ds_flag, ds_kdc_flag, ds_timeserv_flag, ds_closest_flag, ds_writable_flag, ds_good_timeserv_flag, ds_ndnc_flag, ds_select_secret_domain_6_flag, ds_full_secret_domain_6_flag, ds_ws_flag, ds_ds_8_flag, ds_ds_9_flag}
use Rattle.filter_read.specs.Value.{Ping}
use Rattle.octets.specs.{Lists.holds, Number.has}
use Rattle.reply.specs.Reply.{Reply}
use Rattle.table.specs.Bits.{role_pdc, role_global_catalog, role_kdc, role_time_service, role_read_only, role_good_time, role_web_service, role2012, role2012_r2, role_nt4_wanted, role_later_than2003_r2, role_level2008}
use Rattle.table.specs.Bits.{state_paused, state_synchronized, state_rpc_initialized, state_frs_paused}
use Rattle.table.specs.{declared.Caller.Caller, Server.Server, Context.Context, Site.Site, Countings.same_site_lem, Table.Table}
use Rattle.table_lookup.specs.Lookup.{context_by_dns_name, account_by_name, site_by_number, site_if_any, client_site_lem}
use Rattle.table_find.specs.LogOn.{may_log_on}

-- document 01's user x is not none, for the user asked for
unfoldable pub is_known : Table → Context → ℕ → List ℕ → Bool
is_known t c aac name = holds (may_log_on aac) (account_by_name t c.number name)

-- a user was asked for, empty or not, and x is none
unfoldable pub is_user_unknown : Table → Context → Ping → Bool
is_user_unknown t c p = holds (λ name. not (is_known t c p.aac name)) p.user

-- the reply's form; v is the version asked
unfoldable pub form_of : Server → ℕ → Form
form_of s v =
    cond (has s.roles role_nt4_wanted && not (has v netlogon_nt_version_avoid_nt4emul)) Nt40
    (cond (has v netlogon_nt_version_5ex || has v netlogon_nt_version_5ex_with_ip) Ex (cond (has v netlogon_nt_version_5) Response Nt40))

-- document 01's t is 1
unfoldable pub is_held_back : Server → ℕ → Bool
is_held_back s v =
    has s.state state_paused && (not (has v netlogon_nt_version_pdc) || not (has s.roles role_pdc))
    || not (has s.state state_synchronized)
    || not (has s.state state_rpc_initialized) && not (has v netlogon_nt_version_local)
    || has s.state state_frs_paused

unfoldable pub opcode_of : Form → Bool → Bool → ℕ
opcode_of form heldBack unknown =
    let codes = opcodes_of form in
    cond heldBack codes.pause_response (cond unknown codes.user_unknown codes.logon_response)

-- DnsDomain was given and names an application context
unfoldable pub names_application : Table → Ping → Bool
names_application t p = holds (λ name. holds (λ c. c.application) (context_by_dns_name t name)) p.dns_domain_lem

abbrev pub flag : Bool → ℕ → ℕ
flag b n = cond b n 0

-- document 01's EX flags, in its order
unfoldable pub ex_flags : Table → Ping → Option Site → ℕ
ex_flags t p site =
    let role = has t.server.roles in
    flag (role role_pdc) ds_pdc_flag
    + flag (role role_global_catalog) ds_gc_flag
    + ds_ldap_flag
    + ds_ds_flag
    + flag (role role_kdc) ds_kdc_flag
    + flag (role role_time_service) ds_timeserv_flag
    + flag (holds (λ s. same_site_lem s.number t.server.site) site) ds_closest_flag
    + flag (not (role role_read_only)) ds_writable_flag
    + flag (role role_good_time) ds_good_timeserv_flag
    + flag (names_application t p) ds_ndnc_flag
    + flag (role role_read_only) ds_select_secret_domain_6_flag
    + flag (not (role role_read_only) && role role_later_than2003_r2) ds_full_secret_domain_6_flag
    + flag (role role_web_service) ds_ws_flag
    + flag (role role2012) ds_ds_8_flag
    + flag (role role2012_r2) ds_ds_9_flag

-- RESPONSE flags: PDC, and DS always
unfoldable pub response_flags : Server → ℕ
response_flags s = flag (has s.roles role_pdc) ds_pdc_flag + ds_ds_flag

abbrev pub flags_of : Form → Table → Ping → Option Site → ℕ
flags_of Nt40 t p site = 0
flags_of Response t p site = response_flags t.server
flags_of Ex t p site = ex_flags t p site

-- name 8: the site next closest to the client's, where it is asked for and the level is there
unfoldable pub next_site_lem : Table → ℕ → Option Site → Option (List ℕ)
next_site_lem t v site =
    cond (has v netlogon_nt_version_with_closest_site && has t.server.roles role_level2008)
    (option_map (λ s. s.name) (option_and_then (λ s. site_if_any t s.next) site)) None

-- the reply to a ping from a caller, in the context used; a text that is absent has no octets
unfoldable pub reply_for : Table → Caller → Ping → Context → Form → Reply
reply_for t caller p c form =
    let site = client_site_lem t caller in
    let v = p.version in
    record {
      opcode = opcode_of form (is_held_back t.server v) (is_user_unknown t c p);
      flags = flags_of form t p site;
      guid = c.guid;
      forest = t.forest;
      dns = c.dns;
      host = t.server.host;
      netbios = c.netbios;
      server = t.server.netbios;
      user = unwrap_or p.user [];
      own_site_lem = unwrap_or (option_map (λ s. s.name) (site_by_number t t.server.site)) [];
      client_site_lem = unwrap_or (option_map (λ s. s.name) site) [];
      ipv4 = t.server.address;
      with_address_lem = has v netlogon_nt_version_5ex_with_ip;
      next_site_lem = next_site_lem t v site;
    }
