use mathlib.Core.Path.{sym, ap, ◌∙◌}
use native.Mathlib.Omega.{arith}
use lib.ListN.{length}
use Rattle.table_whole.proofs.Laws.Judgement.{accepted_bounds}
use Rattle.octets.specs.Lists.{holds}
use Rattle.octets.proofs.Laws.Lists.{cut-cut}
use Rattle.filter_read.specs.Internal.RawPing.{ping_at}
use Rattle.reply.specs.Internal.RawReply.{text_if}
use Rattle.octets.specs.Sid.{guid_size, ipv4_size}
use Rattle.table.specs.Block.{body_offset, body_size}
use Rattle.table.specs.Context.{context_of}
use Rattle.table.specs.Countings.{same_site_lem}
use Rattle.table.specs.Server.{Server, server_of}
use Rattle.table.specs.Table.{table_from}
use Rattle.table_lookup.specs.Lookup.{client_site_lem}
use Rattle.choose.specs.Choose.{next_site_lem, reply_for}
use Rattle.choose.specs.Internal.Flags.{flags_by}
use Rattle.choose.proofs.Laws.Flags.{flags_by_lem}
use Rattle.choose_reply.specs.Internal.Lends.{name_of}
use Rattle.choose_reply.proofs.Laws.Lends.{server-body, next_there}
use Rattle.choose_reply.proofs.chosen.reply_for.Goals as goal

pub overflow_add-guid : goal.overflow_add-guid
overflow_add-guid c = omega (arith, (accepted_bounds c.args.image.now c.octets.ensures.accepted).1, c.requires.asked.0)

pub flags_for-flags-requires : goal.flags_for-flags-requires
flags_for-flags-requires c = omega (arith, (accepted_bounds c.args.image.now c.octets.ensures.accepted).0, ap length c.octets.ensures.same)

pub returns : goal.returns
unfolding context_of server_of reply_for
returns c =
    let entry = c in
    let a = entry.args in
    let image = a.image.now in
    let t = table_from image in
    let p = ping_at a.source.now a.ping in
    let long = (accepted_bounds image c.octets.ensures.accepted).0 in
    let site = c.client_site-client.ensures.result_value in
    let found = c.next_site-next in
    let slots = c.slots_for-slots.ensures in
    let same-site = ap (holds (λ s. same_site_lem s.number t.server.site)) site in
    let flags =
    (rw c.octets.ensures.same at c.flags_for-flags.ensures)
    ∙ (λ i. flags_by a.form t.server.roles (same-site i) (entry.requires.application_value i))
    ∙ flags_by_lem a.form t p (client_site_lem t a.caller) in
    let address = sym (cut-cut image body_offset body_size 8 ipv4_size (omega arith)) ∙ ap (λ (s : Server). s.address) (server-body image (omega arith)) in
    let next =
    (λ i. text_if (c.is_some.ensures i) (slots.octets 8 (omega arith) i))
    ∙ next_there image found.result
    ∙ found.ensures.result_value
    ∙ ap (next_site_lem t p.version) site in
    λ i.
    record {
      opcode = c.opcode_for-opcode.ensures i;
      flags = flags i;
      guid = sym (cut-cut image a.context body_size 4 guid_size (omega arith)) i;
      forest = (slots.octets 0 (omega arith)) i;
      dns = slots.octets 1 (omega arith) i;
      host = slots.octets 2 (omega arith) i;
      netbios = slots.octets 3 (omega arith) i;
      server = slots.octets 4 (omega arith) i;
      user = slots.octets 5 (omega arith) i;
      own_site_lem = slots.octets 6 (omega arith) i;
      client_site_lem = (slots.octets 7 (omega arith) ∙ ap name_of site) i;
      ipv4 = address i;
      with_address_lem = c.has_bits.ensures i;
      next_site_lem = next i;
    }
