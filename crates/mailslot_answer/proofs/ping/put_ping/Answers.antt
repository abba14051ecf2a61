use native.Mathlib.Omega.{arith}
use Rattle.mailslot_answer.proofs.Laws.Ping.{user_room, sid_room_lem, ping_made}
use Rattle.mailslot_answer.proofs.ping.put_ping.Goals as goal

pub put_utf8-user_size-requires : goal.put_utf8-user_size-requires
put_utf8-user_size-requires c =
    let start = c in
    let fits = user_room start.args.message.now start.args.read start.requires.0 c.of.result.now c.of.ensures in
    omega (arith, start.requires.1)

pub put_octets_at-end-requires : goal.put_octets_at-end-requires
put_octets_at-end-requires c =
    let start = c in
    let put = c.put_utf8-user_size in
    let user = user_room start.args.message.now start.args.read start.requires.0 c.of.result.now c.of.ensures in
    let sid = sid_room_lem start.args.message.now start.args.read start.requires.0 c.of-2.result.now c.of-2.ensures in
    omega (arith, start.requires.1, put.ensures.value, put.auto)

pub returns : goal.returns
returns c =
    let a = c.args in
    let put = c.put_utf8-user_size in
    let laid = c.put_octets_at-end in
    ping_made a.message.now a.read c.of.result.now c.of-2.result.now a.source.now _ _ _ _ c.clause_at.result c.clause_at-2.result
    c.of.ensures
    c.of-2.ensures
    put.ensures.value
    put.ensures.out_after
    laid.ensures.value
    laid.ensures.out_after
    c.clause_at.ensures
    c.clause_at-2.ensures
