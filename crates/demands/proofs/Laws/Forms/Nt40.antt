-- The octets of an NT40 reply in the order of the reader's fields.
use mathlib.Core.Path.{◌≡◌}
use Prim.Native.Nat.{ℕ, ◌≤◌}
use native.Mathlib.Omega.{arith}
use lib.ListN.{length, length-append}
use Rattle.answers.specs.declared.Form.TheVariants.{Nt40}
use Rattle.answers.specs.Wire.{nt40_version}
use Rattle.reader.proofs.Laws.Reader as reading
use Rattle.reader.proofs.Laws.Reader.{Opened, opened}
use Rattle.reply.specs.Reply.{Reply, opening, nt40_octets}
use Rattle.demands.proofs.Laws.Sound.{Sound}
use Rattle.demands.proofs.Laws.Forms.{ending-same, opening-same, opening-length, ending-length}

pub nt40_opened : (v : ℕ) (r : Reply) → Sound Nt40 v r → Opened (nt40_octets r) r.opcode r.server r.user r.netbios (reading.ending nt40_version)
unfolding nt40_octets
nt40_opened v r k =
    let e : nt40_octets r ≡ reading.opening r.opcode r.server r.user r.netbios (reading.ending nt40_version) = rw (ending-same nt40_version) (opening-same r (reading.ending nt40_version)) in
    opened (nt40_octets r) r.opcode r.server r.user r.netbios (reading.ending nt40_version) e k.opcode k.server_spoken k.user_spoken k.netbios_spoken

pub nt40-length : (v : ℕ) (r : Reply) → Sound Nt40 v r → length (nt40_octets r) ≤ 202
unfolding nt40_octets
nt40-length v r k = rw (ending-same nt40_version) (simp (length-append (opening r)) (omega (arith, opening-length Nt40 v r k, ending-length nt40_version)))
