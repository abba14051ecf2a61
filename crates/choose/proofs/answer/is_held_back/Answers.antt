use Rattle.choose.specs.Choose.{is_held_back}
use Rattle.choose.proofs.answer.is_held_back.Goals as goal

pub returns : goal.returns
unfolding is_held_back
returns c =
    rw (
      c.has_bits.ensures,
      c.has_bits-2.ensures,
      c.has_bits-3.ensures,
      c.has_bits-not_local.ensures,
      c.has_bits-4.ensures,
      c.has_bits-not_synchronized.ensures,
      c.has_bits-5.ensures,
      c.state-state.ensures,
      c.roles-roles.ensures,
    )
