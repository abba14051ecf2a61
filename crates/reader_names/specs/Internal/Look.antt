-- What the enum says that stands at an offset.
use Rattle.names.specs.Walk as walk
use Rattle.reader_names.specs.declared.look.Look.{Look}
use Rattle.reader_names.specs.declared.look.Look.TheVariants.{End, Label, Pointer, Missing, Reserved}

abbrev pub look_in : Look → walk.Look
look_in End = walk.end
look_in (Label n) = walk.label n
look_in (Pointer t) = walk.pointer t
look_in Missing = walk.missing
look_in Reserved = walk.reserved
