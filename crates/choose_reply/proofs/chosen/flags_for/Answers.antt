use Rattle.choose_reply.proofs.chosen.flags_for.Goals as goal

pub returns : goal.returns
returns c = rw (c.flags_of.ensures, c.is_numbered-same_site.ensures, c.roles.ensures, c.own_site.ensures, c.server_of-body.ensures)
