-- Laws of a reply's octets: how many there are.
use mathlib.Core.Path.{◌≡◌}
use mathlib.Core.Bool.{true}
use mathlib.Core.List.{List}
use Prim.Native.Nat.{ℕ, ◌+◌}
use native.Mathlib.Omega.{arith}
use lib.ListN.{length, length-append}
use Rattle.octets.proofs.Laws.Number.{length-little}
use Rattle.unicode_text.specs.Utf16.{utf16}
use Rattle.reply.specs.Reply.{Reply, text16, ending, opening, nt40_octets, response_head, ex_head, address_if}

pub text-length : (s : List ℕ) → length (text16 s) ≡ length (utf16 s) + 2
unfolding text16
text-length s = simp (length-append, length-little) (omega arith)

pub ending-length : (version : ℕ) → length (ending version) ≡ 8
unfolding ending
ending-length version = simp (length-append, length-little) (omega arith)

pub opening-length : (r : Reply) → length (opening r) ≡ 2 + length (text16 r.server) + length (text16 r.user) + length (text16 r.netbios)
unfolding opening
opening-length r = simp (length-append, length-little) (omega arith)

pub nt40-length : (r : Reply) → length (nt40_octets r) ≡ length (opening r) + 8
unfolding nt40_octets
nt40-length r = simp (length-append, ending-length)

pub response_head_length : (r : Reply) → length (response_head r) ≡ length (opening r) + length r.guid + 16
unfolding response_head
response_head_length r = simp length-append

pub ex_head_length : (r : Reply) → length (ex_head r) ≡ 8 + length r.guid
unfolding ex_head
ex_head_length r = simp (length-append, length-little)

pub address-length : (ipv4 : List ℕ) → length (address_if true ipv4) ≡ length ipv4 + 13
address-length ipv4 = simp (length-append, length-little) (omega arith)
