-- Document 02, #108: in every table that passed 1 to 4, the account found is the only one of its name in its context.
use Rattle.std.specs.Prelude.{◌≡◌, List, [], ◌∷◌, ℕ, Ok, Option, None, Some}
use Rattle.octets.specs.Lists.{keep}
use Rattle.table.specs.{declared.ContextNumber.ContextNumber, Account.Account, Table.Table}
use Rattle.table_find.specs.Find.{is_account_of}
use Rattle.table_lookup.specs.Lookup.{account_by_name}
use Rattle.table_whole.specs.Judgement.{table_in}

-- what was found and nothing else
abbrev pub alone : Option Account → List Account
alone None = []
alone (Some a) = a ∷ []

abbrev pub OnlyAccount : Type 0
OnlyAccount = (image : List ℕ) (t : Table) (n : ContextNumber) (name : List ℕ) → table_in image ≡ Ok t → keep (is_account_of n name) t.accounts ≡ alone (account_by_name t n name)
