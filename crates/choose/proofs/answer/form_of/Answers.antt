use mathlib.Core.Path.{◌≡◌, sym, ap, ◌∙◌}
use mathlib.Core.Bool.{Bool, cond}
use Rattle.answers.specs.declared.Form.TheVariants.{Nt40, Response}
use Rattle.table.specs.Server.{server_of}
use Rattle.choose.specs.Choose.{form_of}
use Rattle.choose.proofs.answer.form_of.Goals as goal
use Rattle.choose.proofs.answer.form_of.Goals.{After-has_bits-5}

-- neither NT4 is wanted nor EX asked for
older : (c : After-has_bits-5) → form_of (server_of c.args.body.now) c.args.version ≡ cond c.has_bits-5.result Response Nt40
unfolding form_of
older c =
    rw (
      form_of,
      ← c.roles-roles.ensures,
      ← c.has_bits.ensures,
      ← c.has_bits-2.ensures,
      ← c.has_bits-3.ensures,
      ← c.has_bits-4.ensures,
      ← c.has_bits-5.ensures,
      c.if-has_bits.false,
      c.if-has_bits-2.false,
    )

pub returns-then-has_bits : goal.returns-then-has_bits
unfolding form_of
returns-then-has_bits c =
    rw (
      form_of,
      ← c.roles-roles.ensures,
      ← c.has_bits.ensures,
      ← c.has_bits-2.ensures,
      c.if-has_bits.true,
    )

pub returns-then-has_bits-2 : goal.returns-then-has_bits-2
unfolding form_of
returns-then-has_bits-2 c =
    rw (
      form_of,
      ← c.roles-roles.ensures,
      ← c.has_bits.ensures,
      ← c.has_bits-2.ensures,
      ← c.has_bits-3.ensures,
      ← c.has_bits-4.ensures,
      c.if-has_bits.false,
      c.if-has_bits-2.true,
    )

pub returns-then-has_bits-3 : goal.returns-then-has_bits-3
returns-then-has_bits-3 c = sym (older (goal.at.returns-then-has_bits-3 c).After-has_bits-5 ∙ ap (λ (b : Bool). cond b Response Nt40) c.if-has_bits-3.true)

pub returns : goal.returns
returns c = sym (older (goal.at.returns c).After-has_bits-5 ∙ ap (λ (b : Bool). cond b Response Nt40) c.if-has_bits-3.false)
