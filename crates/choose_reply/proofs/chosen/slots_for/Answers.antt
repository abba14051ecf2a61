use mathlib.Core.Path.{ap, ◌∙◌}
use native.Mathlib.Omega.{arith}
use lib.ListN.{length}
use Rattle.table_whole.proofs.Laws.Judgement.{accepted_bounds}
use Rattle.table.specs.Context.{context_of}
use Rattle.table.specs.Forest.{forest_of}
use Rattle.table.specs.Server.{Server, server_of}
use Rattle.table.specs.Table.{table_from}
use Rattle.table_lookup.specs.Lookup.{site_by_number}
use Rattle.choose_reply.specs.Internal.Lends.{name_of, InTable}
use Rattle.choose_reply.proofs.Laws.Lends.{no_slots, slot_then, server-body, forest-body}
use Rattle.choose_reply.proofs.chosen.slots_for.Goals as goal

pub server_of-requires : goal.server_of-requires
server_of-requires c = omega (arith, (accepted_bounds c.args.image.now c.octets-octets.ensures.accepted).0, ap length c.octets-octets.ensures.same)

pub text_stretch-requires : goal.text_stretch-requires
text_stretch-requires c = (omega (arith, (accepted_bounds c.args.image.now c.octets-octets.ensures.accepted).0, ap length c.octets-octets.ensures.same), omega arith, omega arith)

pub text_stretch-requires-2 : goal.text_stretch-requires-2
text_stretch-requires-2 c = (omega (arith, c.requires.asked.0, ap length c.octets-octets.ensures.same), omega arith, omega arith)

pub text_stretch-requires-3 : goal.text_stretch-requires-3
text_stretch-requires-3 c = (omega (arith, (accepted_bounds c.args.image.now c.octets-octets.ensures.accepted).0, ap length c.octets-octets.ensures.same), omega arith, omega arith)

pub text_stretch-requires-4 : goal.text_stretch-requires-4
text_stretch-requires-4 c = (omega (arith, c.requires.asked.0, ap length c.octets-octets.ensures.same), omega arith, omega arith)

pub text_stretch-requires-5 : goal.text_stretch-requires-5
text_stretch-requires-5 c = (omega (arith, (accepted_bounds c.args.image.now c.octets-octets.ensures.accepted).0, ap length c.octets-octets.ensures.same), omega arith, omega arith)

pub user_text-requires : goal.user_text-requires
user_text-requires c = c.requires.asked.1

pub site_name-requires : goal.site_name-requires
site_name-requires c = rw c.octets-octets.ensures.same c.site_by_number-own.ensures.lies_in

pub site_name-requires-2 : goal.site_name-requires-2
site_name-requires-2 c = rw c.octets-octets.ensures.same c.requires.lies_in.0

pub site_name-requires-3 : goal.site_name-requires-3
site_name-requires-3 c = rw c.octets-octets.ensures.same c.requires.lies_in.1

pub returns : goal.returns
unfolding context_of forest_of server_of
returns c =
    let image = c.args.image.now in
    let source = c.args.source.now in
    let t = table_from image in
    let same = c.octets-octets.ensures.same in
    let long = (accepted_bounds image c.octets-octets.ensures.accepted).0 in
    let server = server-body image (omega arith) in
    let forest = forest-body image (omega arith) in
    let own-number = c.own_site.ensures ∙ ap (λ (s : Server). s.site) (rw same at c.server_of.ensures) in
    let own = ap name_of (c.site_by_number-own.ensures.result_value ∙ ap (site_by_number t) own-number) in
    slot_then image source _ _ _ _ ((rw same at c.text_stretch.ensures) source ∙ forest)
    (slot_then image source _ _ _ _ ((rw same at c.text_stretch-2.ensures) source)
    (slot_then image source _ _ _ _ ((rw same at c.text_stretch-3.ensures) source ∙ ap (λ (s : Server). s.host) server)
    (slot_then image source _ _ _ _ ((rw same at c.text_stretch-4.ensures) source)
    (slot_then image source _ _ _ _ ((rw same at c.text_stretch-5.ensures) source ∙ ap (λ (s : Server). s.netbios) server)
    (slot_then image source _ _ _ _ (c.user_text.ensures image)
    (slot_then image source _ _ _ _ ((rw same at c.site_name.ensures) source ∙ own)
    (slot_then image source _ _ _ _ ((rw same at c.site_name-2.ensures) source)
    (slot_then image source _ _ _ _ ((rw same at c.site_name-3.ensures) source) (no_slots image source)))))))))
