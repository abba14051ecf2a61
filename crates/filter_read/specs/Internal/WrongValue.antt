-- 9, clause by clause.
use Rattle.std.specs.Prelude.{Bool, not, List, ℕ}
use Rattle.octets.specs.Lists.{holds}
use Rattle.unicode_text.specs.UserName.{is_user_name}
use Rattle.filter.specs.Request.{Clause, octets_of}
use Rattle.filter_read.specs.Value.{is_number}

abbrev pub wrong_number : List ℕ → Clause → Bool
wrong_number s c = holds (λ x. not (is_number x)) (octets_of s c)

abbrev pub wrong_user : List ℕ → Clause → Bool
wrong_user s c = holds (λ x. not (is_user_name x)) (octets_of s c)
