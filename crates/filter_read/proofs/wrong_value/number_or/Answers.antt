use borrow.Author.Tests.{not-false}
use Rattle.filter_read.proofs.wrong_value.number_or.Goals as goal

pub clause_number-requires : goal.clause_number-requires
clause_number-requires c =
    let e = c.requires in
    let f = rw c.in-Some.is at e in
    not-false _ f

pub returns : goal.returns
returns c = rw c.in-Some.is c.clause_number.ensures
