use Rattle.table_layout.specs.Layout.{forest_layout}
use Rattle.table_layout.proofs.layout.forest_layout.Goals as goal

pub returns : goal.returns
unfolding forest_layout
returns c = c.is_last_text.ensures
