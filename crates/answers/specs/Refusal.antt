-- Document 01, "Answer numbers" and "Reading a reply", and document 02, #105: the number that each refusal has.
use Rattle.std.specs.Prelude.{◌≡◌, ℕ}
use Rattle.answers.specs.declared.Refusal.{Refusal}
use Rattle.answers.specs.declared.Refusal.TheVariants.{ImageLength, BlockCheck, BlockLayout, TableWhole}
use Rattle.answers.specs.declared.Refusal.TheVariants.{FilterLength, FilterShape, UnknownClause, DuplicateClause, ClauseValue}
use Rattle.answers.specs.declared.Refusal.TheVariants.{GuidLength, GuidNotHeld, DnsNameEmpty, DnsNameNotHeld}
use Rattle.answers.specs.declared.Refusal.TheVariants.{SidShape, SidNotHeld, SidOfAnother, UserLabelEmpty, NoRoom}
use Rattle.answers.specs.declared.Refusal.TheVariants.{ReplyCut, ReplyOpcode, ReplyText, ReplyFixed, ReplyLeftOver, MailslotShape}

abbrev pub number : Refusal → ℕ
number ImageLength = 1
number BlockCheck = 2
number BlockLayout = 3
number TableWhole = 4
number FilterLength = 5
number FilterShape = 6
number UnknownClause = 7
number DuplicateClause = 8
number ClauseValue = 9
number GuidLength = 11
number GuidNotHeld = 12
number DnsNameEmpty = 13
number DnsNameNotHeld = 14
number SidShape = 15
number SidNotHeld = 16
number SidOfAnother = 17
number UserLabelEmpty = 18
number NoRoom = 19
number ReplyCut = 31
number ReplyOpcode = 32
number ReplyText = 33
number ReplyFixed = 34
number ReplyLeftOver = 35
number MailslotShape = 41

-- what `number_of` promises
abbrev pub NumberOfPromise : Refusal → ℕ → Type 0
NumberOfPromise refusal r = r ≡ number refusal
