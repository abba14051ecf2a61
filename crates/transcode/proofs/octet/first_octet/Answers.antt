use native.Mathlib.Omega.{arith}
use Rattle.transcode.proofs.Laws.Texts.{are_octets_lem}
use Rattle.transcode.proofs.octet.first_octet.Goals as goal

pub returns-then-s-eq0 : goal.returns-then-s-eq0
returns-then-s-eq0 c = are_octets_lem c.args.s.now (λ i h. omega (arith, c.if-s-eq0.true, h))

pub returns : goal.returns
returns c = are_octets_lem c.args.s.now (λ i h. omega (arith, c.shared_slice_known-1.given i))
