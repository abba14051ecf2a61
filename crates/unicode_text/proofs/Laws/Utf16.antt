-- Laws of UTF-16LE: how many octets a text takes, and that each unit's octets make its number again.
use Rattle.std.proofs.Common.{Some, is_some}
use mathlib.Core.Path.{◌≡◌, refl, ap}
use mathlib.Core.Bool.{Bool, true, false, cond}
use mathlib.Core.List.{List, [], ◌∷◌, ◌++◌, flat_map}
use Prim.Native.Nat.{ℕ, ◌+◌, ◌*◌, ◌-◌, ◌/◌, ◌%◌, ◌<◌, ◌≤◌}
use native.Mathlib.Omega.{arith}
use lib.Dec.{ltb}
use lib.ListN.{length, length-append}
use borrow.Author.Tests.{le-ltb, lt-ltb}
use Rattle.octets.specs.Lists.{all}
use Rattle.octets.proofs.Laws.Lists.{Every, every_all, every_weaken}
use Rattle.octets.specs.NameRule.{printable, is_netbios_name}
use Rattle.octets.proofs.Laws.NameRule.{netbios-printable}
use Rattle.octets.specs.Text.{is_printable}
use Rattle.octets.proofs.Laws.Text.{within_low, within-high}
use Rattle.octets.specs.Number.{little, little_octets}
use Rattle.unicode_text.specs.Utf8.{points, is_utf8}
use Rattle.unicode_text.proofs.Laws.Utf8.{Scalar, units, units_of, sayable, points_ascii}
use Rattle.unicode_text.specs.Utf16.{high_unit, low_unit, point_octets, points_octets, utf16}

-- a code point below 10000h is one unit, whose octets make it again
pub one_unit : (c : ℕ) → c < 0x10000 → (a b : ℕ) × (point_octets c ≡ a ∷ b ∷ []) × (little (a ∷ b ∷ []) ≡ c)
unfolding point_octets little_octets little
one_unit c h = (c % 256, c / 256 % 256, rw (lt-ltb c 0x10000 h), omega arith)

-- another is a high surrogate, then a low one
pub two-units : (c : ℕ) → 0x10000 ≤ c → c < 0x110000
    → (a b d e : ℕ) × (point_octets c ≡ a ∷ b ∷ d ∷ e ∷ []) × (little (a ∷ b ∷ []) ≡ high_unit c) × (little (d ∷ e ∷ []) ≡ low_unit c)
unfolding point_octets little_octets little
two-units c h k =
    (high_unit c % 256, high_unit c / 256 % 256, low_unit c % 256, low_unit c / 256 % 256, rw (le-ltb c 0x10000 h), omega arith, omega arith)

pub point-length : (c : ℕ) → length (point_octets c) ≡ 2 * units c
unfolding point_octets little_octets
point-length c = go (ltb c 0x10000)
  where
    go : (b : Bool) → length (cond b (little_octets 2 c) (little_octets 2 (high_unit c) ++ little_octets 2 (low_unit c))) ≡ 2 * cond b 1 2
    go true = refl
    go false = refl

pub length-points : (cs : List ℕ) → length (points_octets cs) ≡ 2 * units_of cs
unfolding flat_map
length-points [] = refl
length-points (c ∷ cs) = simp length-append (omega (arith, point-length c, length-points cs))

-- a code point's octets, by the test that the code makes
module _ (c : ℕ) where
  pub one_unit_octets : c < 0x10000 → point_octets c ≡ little_octets 2 c
  unfolding point_octets
  one_unit_octets h = rw (lt-ltb c 0x10000 h)

  pub two-units-octets : 0x10000 ≤ c → point_octets c ≡ little_octets 2 (high_unit c) ++ little_octets 2 (low_unit c)
  unfolding point_octets
  two-units-octets h = rw (le-ltb c 0x10000 h)

-- a text that UTF-16 can say: UTF-8, its code points, and their octets at most twice as many as its own
pub record Spoken (s : List ℕ) : Type 0 where
  pub utf8 : is_utf8 s ≡ true
  pub codes : List ℕ
  pub said : utf16 s ≡ points_octets codes
  pub scalars : Every Scalar codes
  pub short : length (utf16 s) ≤ 2 * length s

pub spoken : (s cs : List ℕ) → Every (λ x. 1 ≤ x) s → points s ≡ Some cs → Spoken s
unfolding utf16 is_utf8
spoken s cs z e =
    let k : Every Scalar cs × (units_of cs ≤ length s) = sayable s cs z e in
    let q : utf16 s ≡ points_octets cs = rw e in
    record { utf8 = ap is_some e; codes = cs; said = q; scalars = k.0; short = rw q (omega (arith, length-points cs)) }

-- printable ASCII, as NetBIOS names are
printable_spoken : (s : List ℕ) → printable s ≡ true → Spoken s
printable_spoken s e =
    let a : Every (λ x. (0x21 ≤ x) × (x ≤ 0x7E)) s = every_all is_printable (λ x. (0x21 ≤ x) × (x ≤ 0x7E)) (λ x q. (within_low 0x21 0x7E x q, within-high 0x21 0x7E x q)) s e in
    let b : Every (λ x. 1 ≤ x) s = every_weaken (λ x. (0x21 ≤ x) × (x ≤ 0x7E)) (λ x. 1 ≤ x) (λ x q. omega arith) s a in
    let c : Every (λ x. x < 0x80) s = every_weaken (λ x. (0x21 ≤ x) × (x ≤ 0x7E)) (λ x. x < 0x80) (λ x q. omega arith) s a in
    spoken s s b (points_ascii s c)

pub netbios_spoken_lem : (s : List ℕ) → is_netbios_name s ≡ true → Spoken s
netbios_spoken_lem s e = printable_spoken s (netbios-printable s e)

pub empty_spoken : Spoken []
empty_spoken = printable_spoken [] (unfold all in refl)
