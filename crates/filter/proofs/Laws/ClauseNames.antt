-- Laws of the clause names: each has its number, no two are spelled alike, and a request has a clause for each.
use Rattle.std.proofs.Common.{Some}
use mathlib.Core.Path.{◌≡◌, refl, sym, ap, fun_ext, ◌∙◌}
use mathlib.Core.Bool.{Bool, true, false}
use Prim.Native.Nat.{ℕ, ◌<◌}
use native.Mathlib.Omega.{arith}
use lib.ListN.{length, get_or}
use Rattle.octets.specs.Lists.{any, first}
use Rattle.octets.proofs.Laws.Lists.{any_false, first_holds}
use Rattle.octets.specs.Text.{same, lower}
use Rattle.octets.proofs.Laws.Text.{folded_left}
use Rattle.filter.specs.declared.request.ClauseName.{ClauseName}
use Rattle.filter.specs.declared.request.ClauseName.TheVariants.{DnsDomain, Host, DnsHostName, User, Aac, DomainSid, DomainGuid, NtVer}
use Rattle.filter.specs.Request.{Clause, clause_names, spelling, clause, request_by}
use Rattle.filter.specs.Internal.ClauseNames.{is_same_name}

-- the number of a name
numbered : (n : ClauseName) → (i : ℕ) × (i < length clause_names) × (get_or clause_names i NtVer ≡ n)
numbered DnsDomain = (0, omega arith, refl)
numbered Host = (1, omega arith, refl)
numbered DnsHostName = (2, omega arith, refl)
numbered User = (3, omega arith, refl)
numbered Aac = (4, omega arith, refl)
numbered DomainSid = (5, omega arith, refl)
numbered DomainGuid = (6, omega arith, refl)
numbered NtVer = (7, omega arith, refl)

-- a test that no name passes
pub names_none : (p : ClauseName → Bool) (n : ClauseName) → any p clause_names ≡ false → p n ≡ false
names_none p n e =
    let k = numbered n in
    ap p (sym k.2) ∙ any_false p clause_names k.0 NtVer k.1 e

-- a test that holds of a name holds of some name
pub names-any : (p : ClauseName → Bool) (n : ClauseName) → p n ≡ true → any p clause_names ≡ true
names-any p n e = by (any p clause_names) refl
  where
    by : (b : Bool) → any p clause_names ≡ b → any p clause_names ≡ true
    by true q = q
    by false q =
        let h : p n ≡ false = names_none p n q in
        let z : ◌≡◌ {A = ℕ} 0 1 = cc in
        absurd (omega arith)

-- a name is the first, and so the only one, that is spelled like itself
spelled : (n : ClauseName) → first (is_same_name n) clause_names ≡ Some n
unfolding first same lower
spelled DnsDomain = refl
spelled Host = refl
spelled DnsHostName = refl
spelled User = refl
spelled Aac = refl
spelled DomainSid = refl
spelled DomainGuid = refl
spelled NtVer = refl

pub same_self : (n : ClauseName) → is_same_name n n ≡ true
same_self n = first_holds (is_same_name n) clause_names n (spelled n)

pub same-name : (m n : ClauseName) → is_same_name m n ≡ true → m ≡ n
same-name m n e =
    let alike : is_same_name m ≡ is_same_name n = fun_ext (λ k. folded_left (spelling m) (spelling n) (spelling k) e) in
    let q : Some m ≡ Some n = sym (spelled m) ∙ ap (λ (p : ClauseName → Bool). first p clause_names) alike ∙ spelled n in
    cc

pub clause_by : (f : ClauseName → Clause) (n : ClauseName) → clause (request_by f) n ≡ f n
clause_by f DnsDomain = refl
clause_by f Host = refl
clause_by f DnsHostName = refl
clause_by f User = refl
clause_by f Aac = refl
clause_by f DomainSid = refl
clause_by f DomainGuid = refl
clause_by f NtVer = refl
