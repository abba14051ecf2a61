-- No reply is longer than 1,108 octets, field by field, with names no longer than their labels written out: what the header and the bindings have as the most.
use Prim.Native.Nat.{ℕ, ◌≤◌}
use native.Mathlib.Omega.{arith}
use lib.ListN.{length}
use Rattle.answers.specs.declared.Form.{Form}
use Rattle.answers.specs.declared.Form.TheVariants.{Nt40, Response, Ex}
use Rattle.reply.specs.Reply.{Reply, octets_in}
use Rattle.demands.specs.Pointers.{LengthBoundOver}
use Rattle.demands.proofs.Laws.Forms.Ex.{ex-length}
use Rattle.demands.proofs.Laws.Forms.Nt40.{nt40-length}
use Rattle.demands.proofs.Laws.Forms.Response.{response-length}
use Rattle.demands.proofs.Laws.Sound.{Sound, every_sound}

pub sound_length : (form : Form) (v : ℕ) (r : Reply) → Sound form v r → length (octets_in form r) ≤ 1108
sound_length Nt40 v r k = omega (arith, nt40-length v r k)
sound_length Response v r k = omega (arith, response-length v r k)
sound_length Ex v r k = ex-length v r k

pub length_bound_over : LengthBoundOver
length_bound_over = every_sound (λ form v r s. length s ≤ 1108) sound_length
