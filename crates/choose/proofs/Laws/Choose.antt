-- Opcodes are those of their form, and flags fit their four octets.
use Rattle.std.proofs.Common.{Option}
use mathlib.Core.Path.{◌≡◌, refl}
use mathlib.Core.Bool.{Bool, true, false, not, ◌&&◌}
use Prim.Native.Nat.{ℕ, ◌+◌, ◌*◌, ◌^◌, ◌<◌, ◌≤◌}
use native.Mathlib.Omega.{arith}
use Rattle.answers.specs.declared.Form.{Form}
use Rattle.answers.specs.declared.Form.TheVariants.{Nt40, Response, Ex}
use Rattle.answers.specs.Wire.{older_opcodes, ex_opcodes, opcodes_of, ds_pdc_flag, ds_gc_flag, ds_kdc_flag, ds_timeserv_flag, ds_closest_flag, ds_writable_flag, ds_good_timeserv_flag, ds_ndnc_flag, ds_select_secret_domain_6_flag, ds_full_secret_domain_6_flag, ds_ws_flag, ds_ds_8_flag, ds_ds_9_flag}
use Rattle.filter_read.specs.Value.{Ping}
use Rattle.octets.specs.Lists.{holds}
use Rattle.octets.specs.Number.{has}
use Rattle.reader.proofs.Laws.Reader.{GoodOpcode}
use Rattle.table.specs.Bits.{role_pdc, role_global_catalog, role_kdc, role_time_service, role_read_only, role_good_time, role_web_service, role2012, role2012_r2, role_later_than2003_r2}
use Rattle.table.specs.Site.{Site}
use Rattle.table.specs.Countings.{same_site_lem}
use Rattle.table.specs.Table.{Table}
use Rattle.choose.specs.Choose.{opcode_of, names_application, flag, ex_flags, response_flags, flags_of}

older_good : (heldBack unknown : Bool) → GoodOpcode older_opcodes (opcode_of Nt40 heldBack unknown)
unfolding opcode_of
older_good true u = record { known = refl; fits = omega arith }
older_good false true = record { known = refl; fits = omega arith }
older_good false false = record { known = refl; fits = omega arith }

ex-good : (heldBack unknown : Bool) → GoodOpcode ex_opcodes (opcode_of Ex heldBack unknown)
unfolding opcode_of
ex-good true u = record { known = refl; fits = omega arith }
ex-good false true = record { known = refl; fits = omega arith }
ex-good false false = record { known = refl; fits = omega arith }

pub opcode-good : (form : Form) (heldBack unknown : Bool) → GoodOpcode (opcodes_of form) (opcode_of form heldBack unknown)
unfolding opcode_of
opcode-good Nt40 h u = older_good h u
opcode-good Response h u = older_good h u
opcode-good Ex h u = ex-good h u

-- a flag is its number once, or not at all
flag_times : (b : Bool) (n : ℕ) → (k : ℕ) × (k ≤ 1) × (flag b n ≡ k * n)
flag_times true n = (1, omega arith, omega arith)
flag_times false n = (0, omega arith, omega arith)

-- the flags around the application flag: those below sum to less than it, and those above are multiples of twice its number
pub record FlagsAround (t : Table) (p : Ping) (site : Option Site) : Type 0 where
  pub low : ℕ
  pub high : ℕ
  pub low_below : low < 0x400
  pub high_below : high < 0x20
  pub sum : ex_flags t p site ≡ low + flag (names_application t p) ds_ndnc_flag + high * 0x800

pub flags_around : (t : Table) (p : Ping) (site : Option Site) → FlagsAround t p site
unfolding ex_flags
flags_around t p site =
    let role : ℕ → Bool = has t.server.roles in
    let pdc = flag_times (role role_pdc) ds_pdc_flag in
    let gc = flag_times (role role_global_catalog) ds_gc_flag in
    let kdc = flag_times (role role_kdc) ds_kdc_flag in
    let time = flag_times (role role_time_service) ds_timeserv_flag in
    let closest = flag_times (holds (λ s. same_site_lem s.number t.server.site) site) ds_closest_flag in
    let writable = flag_times (not (role role_read_only)) ds_writable_flag in
    let good-time = flag_times (role role_good_time) ds_good_timeserv_flag in
    let read_only_lem = flag_times (role role_read_only) ds_select_secret_domain_6_flag in
    let full = flag_times (not (role role_read_only) && role role_later_than2003_r2) ds_full_secret_domain_6_flag in
    let web = flag_times (role role_web_service) ds_ws_flag in
    let eight = flag_times (role role2012) ds_ds_8_flag in
    let nine = flag_times (role role2012_r2) ds_ds_9_flag in
    record {
      low = pdc.0 + 4 * gc.0 + 0x18 + 0x20 * kdc.0 + 0x40 * time.0 + 0x80 * closest.0 + 0x100 * writable.0 + 0x200 * good-time.0;
      high = read_only_lem.0 + 2 * full.0 + 4 * web.0 + 8 * eight.0 + 16 * nine.0;
      low_below = omega (arith, pdc.1, gc.1, kdc.1, time.1, closest.1, writable.1, good-time.1);
      high_below = omega (arith, read_only_lem.1, full.1, web.1, eight.1, nine.1);
      sum =
          omega (
            arith,
            pdc.2,
            gc.2,
            kdc.2,
            time.2,
            closest.2,
            writable.2,
            good-time.2,
            read_only_lem.2,
            full.2,
            web.2,
            eight.2,
            nine.2,
          );
    }

ex-flags : (t : Table) (p : Ping) (site : Option Site) → ex_flags t p site < 256 ^ 4
ex-flags t p site =
    let f = flags_around t p site in
    let application = flag_times (names_application t p) ds_ndnc_flag in
    omega (arith, f.low_below, f.high_below, f.sum, application.1, application.2)

pub flags-fit : (form : Form) (t : Table) (p : Ping) (site : Option Site) → flags_of form t p site < 256 ^ 4
unfolding response_flags
flags-fit Nt40 t p site = omega arith
flags-fit Response t p site = let pdc = flag_times (has t.server.roles role_pdc) ds_pdc_flag in omega (arith, pdc.1, pdc.2)
flags-fit Ex t p site = ex-flags t p site
