-- What taking a filter apart promises.
use Rattle.std.proofs.Common.{◌≡◌, ap, List, ℕ}
use Rattle.answers.specs.Try.{Try, number_of, value_of}
use Rattle.filter.specs.declared.request.Request.{Request}
use Rattle.filter_read.specs.Taken.{request_in, TakeApartPromise}

pub take_apart_promised : (filter : List ℕ) (r : Try Request) → r ≡ request_in filter → TakeApartPromise filter r
take_apart_promised filter r e = record { same = e; numbered = ap number_of e; given = ap value_of e }
