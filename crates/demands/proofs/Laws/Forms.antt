-- A reply's octets, bracketed as the reader takes them, and how long its parts are.
use mathlib.Core.Path.{◌≡◌, refl, subst}
use mathlib.Core.Bool.{Bool, true, false}
use mathlib.Core.List.{List, ◌++◌, append_assoc}
use Prim.Native.Nat.{ℕ, ◌+◌, ◌≤◌}
use native.Mathlib.Omega.{arith}
use lib.ListN.{length, length-append}
use Rattle.answers.specs.declared.Form.{Form}
use Rattle.answers.specs.Wire.{Lm20Token}
use Rattle.octets.specs.Label.{labels}
use Rattle.octets.proofs.Laws.Label.{size, size-labels}
use Rattle.octets.proofs.Laws.NameRule.{Writable}
use Rattle.octets.proofs.Laws.Number.{length-little}
use Rattle.octets.specs.Lists.{cut}
use Rattle.reader.proofs.Laws.Field.{Left, left_cut}
use Rattle.reader.proofs.Laws.Reader as reading
use Rattle.reply.specs.Reply.{Reply, text16, ending, opening, address_if}
use Rattle.demands.proofs.Laws.Sound.{Sound}
pub mod Names
pub mod Nt40
pub mod Response
pub mod Ex

-- ---- the same octets, bracketed as the reader takes them

pub ending-same : (version : ℕ) → ending version ≡ reading.ending version
unfolding ending
ending-same version = simp append_assoc

pub opening-same : (r : Reply) (rest : List ℕ) → opening r ++ rest ≡ reading.opening r.opcode r.server r.user r.netbios rest
unfolding opening text16
opening-same r rest = simp append_assoc

pub address_same : (b : Bool) (ipv4 : List ℕ) → address_if b ipv4 ≡ reading.address b ipv4
address_same true ipv4 = simp append_assoc
address_same false ipv4 = refl

-- a field of n octets that stands at an offset is the stretch there
pub stretch_is : {s : List ℕ} {at : ℕ} (x rest : List ℕ) (n : ℕ) → length x ≡ n → Left s at (x ++ rest) → cut s at n ≡ x
stretch_is {s} {at} x rest n e l = subst (λ (m : ℕ). cut s at m ≡ x) e (left_cut x rest l)

-- ---- how long names are, by their rules

pub size-most : (n : ℕ) (s : List ℕ) → Writable n s → size (labels s) ≤ n + 2
size-most n s w = omega (arith, size-labels s, w.short)

-- the opcode and the three texts
pub opening-length : (form : Form) (v : ℕ) (r : Reply) → Sound form v r → length (opening r) ≤ 194
unfolding opening text16
opening-length form v r k =
    simp length-append
    (omega (
      arith,
      length-little 2 r.opcode,
      length-little 2 0,
      k.server_spoken.short,
      k.server.short,
      k.user_spoken.short,
      k.user_short,
      k.netbios_spoken.short,
      k.netbios.short,
    ))

pub ending-length : (version : ℕ) → length (reading.ending version) ≡ 8
ending-length version = simp length-append (omega (arith, length-little 4 version, length-little 2 Lm20Token))
