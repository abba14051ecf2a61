-- Document 01, "The table image": the roles and states of the server block, and the control bits of an account that the answer goes by.
use Rattle.std.specs.Prelude.{ℕ, ◌+◌}

-- the twelve roles, from bit 0
abbrev pub role_pdc : ℕ
role_pdc = 0x1

abbrev pub role_global_catalog : ℕ
role_global_catalog = 0x2

abbrev pub role_kdc : ℕ
role_kdc = 0x4

abbrev pub role_time_service : ℕ
role_time_service = 0x8

abbrev pub role_read_only : ℕ
role_read_only = 0x10

abbrev pub role_good_time : ℕ
role_good_time = 0x20

abbrev pub role_web_service : ℕ
role_web_service = 0x40

abbrev pub role2012 : ℕ
role2012 = 0x80

abbrev pub role2012_r2 : ℕ
role2012_r2 = 0x100

abbrev pub role_nt4_wanted : ℕ
role_nt4_wanted = 0x200

abbrev pub role_later_than2003_r2 : ℕ
role_later_than2003_r2 = 0x400

abbrev pub role_level2008 : ℕ
role_level2008 = 0x800

-- the four states, from bit 0
abbrev pub state_paused : ℕ
state_paused = 0x1

abbrev pub state_synchronized : ℕ
state_synchronized = 0x2

abbrev pub state_rpc_initialized : ℕ
state_rpc_initialized = 0x4

abbrev pub state_frs_paused : ℕ
state_frs_paused = 0x8

-- twelve roles and four states: numbers below these have no other bit
abbrev pub roles_bound : ℕ
roles_bound = 0x1000

abbrev pub state_bound : ℕ
state_bound = 0x10

-- control bits, under their names in MS-SAMR 2.2.1.12
abbrev pub user_account_disabled : ℕ
user_account_disabled = 0x1

abbrev pub user_temp_duplicate_account : ℕ
user_temp_duplicate_account = 0x8

abbrev pub user_normal_account : ℕ
user_normal_account = 0x10

abbrev pub user_interdomain_trust_account : ℕ
user_interdomain_trust_account = 0x40

abbrev pub user_workstation_trust_account : ℕ
user_workstation_trust_account = 0x80

abbrev pub user_server_trust_account : ℕ
user_server_trust_account = 0x100

-- document 01's 1D8h: the kinds of account that an AAC can allow
abbrev pub account_kinds : ℕ
account_kinds =
    user_temp_duplicate_account
    + user_normal_account
    + user_interdomain_trust_account
    + user_workstation_trust_account
    + user_server_trust_account
