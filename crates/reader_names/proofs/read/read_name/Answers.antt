use Rattle.std.proofs.Common.{Ok, Err, rules}
use mathlib.Core.Path.{◌≡◌, sym, ap, ◌∙◌, subst}
use mathlib.Core.List.{List, []}
use Prim.Native.Nat.{ℕ, ◌-◌}
use native.Mathlib.Omega.{arith}
use lib.ListN.{length}
use Rattle.answers.specs.Try.{Try}
use Rattle.octets.specs.Label.{joined}
use Rattle.reader.specs.declared.field.Read.{Read}
use Rattle.reader_names.specs.declared.NameAt.{NameAt}
use Rattle.reader_names.specs.declared.step.NameStep.TheVariants as step
use Rattle.reader_names.specs.declared.walk.NameWalk.{NameWalk}
use Rattle.reader_names.specs.Internal.NameRead.{NameOf}
use Rattle.reader_names.specs.Internal.Walk.{moved}
use Rattle.reader_names.proofs.Laws.Label.{joined_length}
use Rattle.reader_names.proofs.Laws.NameRead.{Stands, name-start, name-ends, name-refused, name-moved}
use Rattle.reader_names.proofs.read.read_name.Goals as goal

pub loop-init : goal.loop-init
loop-init c = rw c.starting-walk.ensures ([], name-start c.args.reply.now c.args.start 0)

pub returns-in_err-step : goal.returns-in_err-step
returns-in_err-step c =
    let a = c.args in
    let e : ◌≡◌ {A = Try (Read NameAt)} c.from_residual.result (Err c.in_err-step.field-0.0) = search rules in
    subst (NameOf a.reply.now a.start) (sym e) (name-refused a.reply.now a.start c.loop.invariant.1 _ (sym c.in_err-step.ensures.value))

pub returns-in-Ends : goal.returns-in-Ends
returns-in-Ends c =
    let a = c.args in
    let w : NameWalk = c.loop.walk in
    let read : List (List ℕ) = c.loop.invariant.0 in
    let n : Stands a.reply.now a.start read w = c.loop.invariant.1 in
    let at_end : c.step.new.self ≡ moved w step.Ends = search rules in
    let e = name-ends a.reply.now a.start n (search rules) in
    let long : c.text_len.result ≡ length (joined read) = c.text_len.ensures ∙ ap (λ (x : NameWalk). x.spent - 1) at_end ∙ omega (arith, joined_length read, n.written) in (
      record { labels = read; pointers = w.pointers },
      e ∙ ap (λ (x : NameWalk). Ok (record { value = record { labels = read; pointers = w.pointers }; next = x.next })) (sym at_end),
      rw (long, at_end),
    )

pub loop-preserved : goal.loop-preserved
loop-preserved c =
    let a = c.args in
    let w : NameWalk = c.loop.walk in
    let more : c.step.new.self ≡ moved w c.in_ok-step.field-0 = c.in_ok-step.ensures.ok in
    subst (λ (x : NameWalk). (read : List (List ℕ)) × Stands a.reply.now a.start read x) (sym more)
    (name-moved a.reply.now a.start w c.loop.invariant.1 c.in_ok-step.field-0 (sym c.in_ok-step.ensures.value) c.in_ok-step.ensures.within (search rules))
