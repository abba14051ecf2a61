use Rattle.std.proofs.Common.{rules}
use mathlib.Core.Path.{◌≡◌, ap, ◌∙◌}
use mathlib.Core.List.{List}
use Prim.Native.Nat.{ℕ, ◌-◌}
use lib.ListN.{length}
use Rattle.lent.specs.Internal.OverAt.{over_at}
use Rattle.reader_text.specs.Internal.Label.{dotted}
use Rattle.reader_names.specs.declared.step.NameStep.TheVariants as step
use Rattle.reader_names.specs.declared.walk.NameWalk.{NameWalk}
use Rattle.reader_names.specs.Internal.Step.{StepWithin}
use Rattle.reader_names.specs.Internal.Walk.{moved}
use Rattle.reader_text.proofs.Laws.Text.{text-start, text-ends, text-refused, text-label, text-pointer, name-text_promised}
use Rattle.reader_text.proofs.text.name_text.Goals as goal

pub loop-octets-init : goal.loop-octets-init
loop-octets-init c = rw c.starting-walk.ensures (text-start c.args.reply.now c.args.start)

pub returns-in-Ok-Ends : goal.returns-in-Ok-Ends
returns-in-Ok-Ends c =
    let a = c.args in
    let w : NameWalk = c.loop-octets.walk in
    let at_end : c.step.new.self ≡ moved w step.Ends = search rules in
    let long : c.text_len.result ≡ w.spent - 1 = c.text_len.ensures ∙ ap (λ (x : NameWalk). x.spent - 1) at_end in
    name-text_promised _ _ _ (text-ends a.reply.now a.start c.loop-octets.invariant c.text_len.result long (search rules))

pub loop-octets-preserved-in-Ok-Label : goal.loop-octets-preserved-in-Ok-Label
loop-octets-preserved-in-Ok-Label c =
    let a = c.args in
    let l = c.loop-octets in
    let n : ℕ = c.in-Ok-Label.len in
    let more : c.step.new.self ≡ moved l.walk (step.Label n) = search rules in
    let within : StepWithin (length a.reply.now) l.walk.run l.walk.at l.walk.spent l.walk.pointers (step.Label n) = search rules in
    rw more
    (text-label a.reply.now a.start l.invariant n c.put_label.new.text (search rules) within (c.put_label.auto.text ∙ l.invariant.room)
    (c.put_label.ensures ∙ ap (λ (x : List ℕ). over_at (l.walk.spent - 1) (dotted l.walk.spent x) l.octets) c.part.ensures))

pub loop-octets-preserved : goal.loop-octets-preserved
loop-octets-preserved c =
    let a = c.args in
    let l = c.loop-octets in
    let t : ℕ = c.in-Ok-Pointer.field-0-0 in
    let more : c.step.new.self ≡ moved l.walk (step.Pointer t) = search rules in
    let within : StepWithin (length a.reply.now) l.walk.run l.walk.at l.walk.spent l.walk.pointers (step.Pointer t) = search rules in
    rw more (text-pointer a.reply.now a.start l.invariant t (search rules) within)

pub returns-in-Err : goal.returns-in-Err
returns-in-Err c =
    let a = c.args in
    name-text_promised _ _ _ (text-refused a.reply.now a.start c.loop-octets.invariant c.in-Err.refusal (search rules))
