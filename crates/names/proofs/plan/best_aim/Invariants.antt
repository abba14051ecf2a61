use Rattle.std.proofs.Common.{◌≡◌, length, take}
use Rattle.octets.specs.Label.{labels}
use Rattle.names.specs.Internal.Plan.{first_aim, AimWithin, names_tails}
use Rattle.names.proofs.plan.best_aim.Given as goal

abbrev pub invariant-loop-name : goal.invariant-loop-name
invariant-loop-name l =
    (l.aim ≡ first_aim (names_tails l.lent.table.now l.lent.request.now (take l.name-index l.names)) (labels l.text)) × AimWithin (length l.text) l.aim
