use Prim.Native.Nat.{◌<◌, ◌/◌}
use mathlib.Core.Path.{ap, ◌∙◌}
use native.Mathlib.Omega.{arith}
use lib.ListN.{length}
use Rattle.table.specs.Block.{block_size, body}
use Rattle.table.specs.Server.{server_of}
use Rattle.table.specs.Table.{table_of}
use Rattle.table.proofs.Laws.Table.{body_there}
use Rattle.table.proofs.server.server_of.Goals as goal

pub returns : goal.returns
unfolding table_of
returns c =
    let s = c.args.image.now in
    let h : 0 < length s / block_size = omega arith in
    ap server_of (c.body_of.ensures ∙ ap body c.block_at.ensures ∙ body_there s 0 h)
