use Rattle.std.proofs.Common.{◌≡◌, ◌+◌, ◌-◌, length, List, ℕ, take, drop}
use mathlib.Core.Path.{sym, ap, ◌∙◌}
use native.Mathlib.Omega.{arith}
use lib.ListN.{length-drop}
use lib.Seq.{take-length}
use Rattle.names.specs.Internal.Plan.{to_dot}
use Rattle.names.proofs.Laws.Plan.Labels.{dot_within, to_dot_taken}
use Rattle.names.proofs.plan.label_end.Goals as goal

pub returns : goal.returns
returns c =
    let s : List ℕ = drop c.args.start c.args.text.now in
    let w : take (length c.args.text.now - c.args.start) s ≡ s = ap (λ (n : ℕ). take n s) (sym (length-drop c.args.start c.args.text.now)) ∙ take-length s in
    let e : c.label_size.result ≡ to_dot s = c.label_size.ensures ∙ to_dot_taken (take (length c.args.text.now - c.args.start) s) ∙ ap to_dot w in
    (ap (λ (n : ℕ). c.args.start + n) e, omega (arith, dot_within s, length-drop c.args.start c.args.text.now))
