use mathlib.Core.Path.{sym, ◌∙◌}
use Rattle.table_blocks.proofs.layout.record_layout.Goals as goal

pub returns-in-Context : goal.returns-in-Context
returns-in-Context c = rw c.in-Context.is c.context_layout.ensures

pub returns-then-all_zero : goal.returns-then-all_zero
returns-then-all_zero c = rw (c.in-Account.is, sym c.all_zero.ensures ∙ c.if-all_zero.true) c.if-all_zero.true

pub returns-else-all_zero : goal.returns-else-all_zero
returns-else-all_zero c = rw (c.in-Account.is, sym c.all_zero.ensures ∙ c.if-all_zero.false) c.account_layout.ensures

pub returns-then-all_zero-2 : goal.returns-then-all_zero-2
returns-then-all_zero-2 c = rw (c.in-Site.is, sym c.all_zero-in-Site.ensures ∙ c.if-all_zero-2.true) c.if-all_zero-2.true

pub returns-else-all_zero-2 : goal.returns-else-all_zero-2
returns-else-all_zero-2 c = rw (c.in-Site.is, sym c.all_zero-in-Site.ensures ∙ c.if-all_zero-2.false) c.site_layout.ensures

pub returns-then-all_zero-3 : goal.returns-then-all_zero-3
returns-then-all_zero-3 c = rw (c.in-Subnet.is, sym c.all_zero-in-Subnet.ensures ∙ c.if-all_zero-3.true) c.if-all_zero-3.true

pub returns-else-all_zero-3 : goal.returns-else-all_zero-3
returns-else-all_zero-3 c = rw (c.in-Subnet.is, sym c.all_zero-in-Subnet.ensures ∙ c.if-all_zero-3.false) c.subnet_layout.ensures
