-- A line for each case: that it is told apart, and then its number.
use borrow.Author.Rules.{rules}
use Rattle.answers.proofs.number_of.Goals as goal

pub returns-in-ImageLength : goal.returns-in-ImageLength
returns-in-ImageLength c = rw c.in-ImageLength.is

pub returns-in-BlockCheck : goal.returns-in-BlockCheck
returns-in-BlockCheck c = rw c.in-BlockCheck.is

pub returns-in-BlockLayout : goal.returns-in-BlockLayout
returns-in-BlockLayout c = rw c.in-BlockLayout.is

pub returns-in-TableWhole : goal.returns-in-TableWhole
returns-in-TableWhole c = rw c.in-TableWhole.is

pub returns-in-FilterLength : goal.returns-in-FilterLength
returns-in-FilterLength c = rw c.in-FilterLength.is

pub returns-in-FilterShape : goal.returns-in-FilterShape
returns-in-FilterShape c = rw c.in-FilterShape.is

pub returns-in-UnknownClause : goal.returns-in-UnknownClause
returns-in-UnknownClause c = rw c.in-UnknownClause.is

pub returns-in-DuplicateClause : goal.returns-in-DuplicateClause
returns-in-DuplicateClause c = rw c.in-DuplicateClause.is

pub returns-in-ClauseValue : goal.returns-in-ClauseValue
returns-in-ClauseValue c = rw c.in-ClauseValue.is

pub returns-in-GuidLength : goal.returns-in-GuidLength
returns-in-GuidLength c = rw c.in-GuidLength.is

pub returns-in-GuidNotHeld : goal.returns-in-GuidNotHeld
returns-in-GuidNotHeld c = rw c.in-GuidNotHeld.is

pub returns-in-DnsNameEmpty : goal.returns-in-DnsNameEmpty
returns-in-DnsNameEmpty c = rw c.in-DnsNameEmpty.is

pub returns-in-DnsNameNotHeld : goal.returns-in-DnsNameNotHeld
returns-in-DnsNameNotHeld c = rw c.in-DnsNameNotHeld.is

pub returns-in-SidShape : goal.returns-in-SidShape
returns-in-SidShape c = rw c.in-SidShape.is

pub returns-in-SidNotHeld : goal.returns-in-SidNotHeld
returns-in-SidNotHeld c = rw c.in-SidNotHeld.is

pub returns-in-SidOfAnother : goal.returns-in-SidOfAnother
returns-in-SidOfAnother c = rw c.in-SidOfAnother.is

pub returns-in-UserLabelEmpty : goal.returns-in-UserLabelEmpty
returns-in-UserLabelEmpty c = rw c.in-UserLabelEmpty.is

pub returns-in-NoRoom : goal.returns-in-NoRoom
returns-in-NoRoom c = rw c.in-NoRoom.is

pub returns-in-ReplyCut : goal.returns-in-ReplyCut
returns-in-ReplyCut c = rw c.in-ReplyCut.is

pub returns-in-ReplyOpcode : goal.returns-in-ReplyOpcode
returns-in-ReplyOpcode c = rw c.in-ReplyOpcode.is

pub returns-in-ReplyText : goal.returns-in-ReplyText
returns-in-ReplyText c = rw c.in-ReplyText.is

pub returns-in-ReplyFixed : goal.returns-in-ReplyFixed
returns-in-ReplyFixed c = rw c.in-ReplyFixed.is

pub returns-in-ReplyLeftOver : goal.returns-in-ReplyLeftOver
returns-in-ReplyLeftOver c = rw c.in-ReplyLeftOver.is

pub returns-in-MailslotShape : goal.returns-in-MailslotShape
returns-in-MailslotShape c = rw c.in-MailslotShape.is
