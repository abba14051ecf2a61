-- The numbers of pings and replies under their names in MS-ADTS 6.3.1, for whoever chooses, writes or reads a reply.
use Rattle.std.specs.Prelude.{Bool, ◌||◌, List, ℕ, ◌+◌, eqb, replicate}
use Rattle.answers.specs.declared.Form.{Form}
use Rattle.answers.specs.declared.Form.TheVariants.{Nt40, Response, Ex}

-- the bits of the version asked, NtVer
abbrev pub netlogon_nt_version_1 : ℕ
netlogon_nt_version_1 = 0x1

abbrev pub netlogon_nt_version_5 : ℕ
netlogon_nt_version_5 = 0x2

abbrev pub netlogon_nt_version_5ex : ℕ
netlogon_nt_version_5ex = 0x4

abbrev pub netlogon_nt_version_5ex_with_ip : ℕ
netlogon_nt_version_5ex_with_ip = 0x8

abbrev pub netlogon_nt_version_with_closest_site : ℕ
netlogon_nt_version_with_closest_site = 0x10

abbrev pub netlogon_nt_version_avoid_nt4emul : ℕ
netlogon_nt_version_avoid_nt4emul = 0x01000000

abbrev pub netlogon_nt_version_pdc : ℕ
netlogon_nt_version_pdc = 0x10000000

abbrev pub netlogon_nt_version_local : ℕ
netlogon_nt_version_local = 0x40000000

-- the version in a reply, from the same bits: document 01's 1, 3, 5, and 15h where name 8 is written
abbrev pub nt40_version : ℕ
nt40_version = netlogon_nt_version_1

abbrev pub response_version : ℕ
response_version = netlogon_nt_version_1 + netlogon_nt_version_5

abbrev pub ex_version : ℕ
ex_version = netlogon_nt_version_1 + netlogon_nt_version_5ex

abbrev pub ex_version_with_next_site : ℕ
ex_version_with_next_site = ex_version + netlogon_nt_version_with_closest_site

-- the opcodes: of a mailslot message, of the two older forms and of EX
abbrev pub logon_sam_logon_request : ℕ
logon_sam_logon_request = 18

abbrev pub logon_sam_logon_response : ℕ
logon_sam_logon_response = 19

abbrev pub logon_sam_pause_response : ℕ
logon_sam_pause_response = 20

abbrev pub logon_sam_user_unknown : ℕ
logon_sam_user_unknown = 21

abbrev pub logon_sam_logon_response_ex : ℕ
logon_sam_logon_response_ex = 23

abbrev pub logon_sam_pause_response_ex : ℕ
logon_sam_pause_response_ex = 24

abbrev pub logon_sam_user_unknown_ex : ℕ
logon_sam_user_unknown_ex = 25

pub record Opcodes : Type 0 where
  pub logon_response : ℕ
  pub pause_response : ℕ
  pub user_unknown : ℕ

abbrev pub older_opcodes : Opcodes
older_opcodes =
    record {
      logon_response = logon_sam_logon_response;
      pause_response = logon_sam_pause_response;
      user_unknown = logon_sam_user_unknown;
    }

abbrev pub ex_opcodes : Opcodes
ex_opcodes =
    record {
      logon_response = logon_sam_logon_response_ex;
      pause_response = logon_sam_pause_response_ex;
      user_unknown = logon_sam_user_unknown_ex;
    }

abbrev pub opcodes_of : Form → Opcodes
opcodes_of Nt40 = older_opcodes
opcodes_of Response = older_opcodes
opcodes_of Ex = ex_opcodes

abbrev pub is_one_of : Opcodes → ℕ → Bool
is_one_of codes n = eqb n codes.logon_response || eqb n codes.pause_response || eqb n codes.user_unknown

-- the flags of a RESPONSE or EX reply
abbrev pub ds_pdc_flag : ℕ
ds_pdc_flag = 0x1

abbrev pub ds_gc_flag : ℕ
ds_gc_flag = 0x4

abbrev pub ds_ldap_flag : ℕ
ds_ldap_flag = 0x8

abbrev pub ds_ds_flag : ℕ
ds_ds_flag = 0x10

abbrev pub ds_kdc_flag : ℕ
ds_kdc_flag = 0x20

abbrev pub ds_timeserv_flag : ℕ
ds_timeserv_flag = 0x40

abbrev pub ds_closest_flag : ℕ
ds_closest_flag = 0x80

abbrev pub ds_writable_flag : ℕ
ds_writable_flag = 0x100

abbrev pub ds_good_timeserv_flag : ℕ
ds_good_timeserv_flag = 0x200

abbrev pub ds_ndnc_flag : ℕ
ds_ndnc_flag = 0x400

abbrev pub ds_select_secret_domain_6_flag : ℕ
ds_select_secret_domain_6_flag = 0x800

abbrev pub ds_full_secret_domain_6_flag : ℕ
ds_full_secret_domain_6_flag = 0x1000

abbrev pub ds_ws_flag : ℕ
ds_ws_flag = 0x2000

abbrev pub ds_ds_8_flag : ℕ
ds_ds_8_flag = 0x4000

abbrev pub ds_ds_9_flag : ℕ
ds_ds_9_flag = 0x8000

-- fixed fields: the second number of an EX, the second GUID of a RESPONSE, and the tokens that end every reply
abbrev pub Sbz : ℕ
Sbz = 0

abbrev pub NullGuid : List ℕ
NullGuid = replicate 16 0

abbrev pub LmNtToken : ℕ
LmNtToken = 0xFFFF

abbrev pub Lm20Token : ℕ
Lm20Token = 0xFFFF

-- the header of the EX form's address: the size of what follows, the family (AF_INET, with port 0) before the four octets, the padding after them
abbrev pub DcSockAddrSize : ℕ
DcSockAddrSize = 0x10

abbrev pub sin_family : ℕ
sin_family = 2

abbrev pub sin_zero : List ℕ
sin_zero = replicate 8 0
