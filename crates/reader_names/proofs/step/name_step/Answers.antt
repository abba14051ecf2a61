use mathlib.Core.Path.{◌≡◌, sym}
use Prim.Native.Nat.{ℕ}
use Rattle.names.specs.Walk.{look_at, end, label, pointer, missing, reserved}
use Rattle.names.proofs.Laws.Walk.{seen}
use Rattle.reader_names.specs.Internal.Step.{name_step}
use Rattle.reader_names.proofs.Laws.Step.{label-within, pointer-within}
use Rattle.reader_names.proofs.step.name_step.Goals as goal

pub label_step-requires : goal.label_step-requires
label_step-requires c =
    let a = c.args in
    let e : look_at a.reply.now a.at ≡ label c.in-Label.len = sym c.in-Label.ensures in
    let f = seen a.reply.now a.at (label c.in-Label.len) e in
    (f.0, f.3, c.requires.0)

pub returns-in-End : goal.returns-in-End
unfolding name_step
returns-in-End c =
    let a = c.args in
    let e : look_at a.reply.now a.at ≡ end = sym c.in-End.ensures in
    record {
      value = rw e;
      step_within = (seen a.reply.now a.at end e).0;
    }

pub returns-in-Label : goal.returns-in-Label
unfolding name_step
returns-in-Label c =
    let a = c.args in
    let n : ℕ = c.in-Label.len in
    let e : look_at a.reply.now a.at ≡ label n = sym c.in-Label.ensures in
    record {
      value = rw e c.label_step.ensures;
      step_within =
          rw c.label_step.ensures
          (label-within a.reply.now a.run a.at a.spent a.pointers n (seen a.reply.now a.at (label n) e).2);
    }

pub returns-in-Pointer : goal.returns-in-Pointer
unfolding name_step
returns-in-Pointer c =
    let a = c.args in
    let t : ℕ = c.in-Pointer.aim in
    let e : look_at a.reply.now a.at ≡ pointer t = sym c.in-Pointer.ensures in
    record {
      value = rw e c.pointer_step.ensures;
      step_within =
          rw c.pointer_step.ensures
          (pointer-within a.reply.now a.run a.at a.spent a.pointers t (seen a.reply.now a.at (pointer t) e).0 c.requires.1);
    }

pub returns-in-Missing-clause-value : goal.returns-in-Missing-clause-value
unfolding name_step
returns-in-Missing-clause-value c =
    let e : look_at c.args.reply.now c.args.at ≡ missing = sym c.in-Missing.ensures in
    rw (e, c.cut_after.ensures)

pub returns-in-Reserved-clause-value : goal.returns-in-Reserved-clause-value
unfolding name_step
returns-in-Reserved-clause-value c =
    let e : look_at c.args.reply.now c.args.at ≡ reserved = sym c.in-Reserved.ensures in
    rw e
