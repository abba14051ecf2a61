-- Document 01, "Choosing the answer": the accounts that a ping's AAC allows.
use Rattle.std.specs.Prelude.{Bool, not, ◌&&◌, ℕ}
use Rattle.std.specs.Int.Bits.{bit_and}
use Rattle.octets.specs.Number.{has}
use Rattle.table.specs.{Account.Account, Bits.user_account_disabled, Bits.account_kinds}

-- an account is not disabled, and the allowed kinds meet its own
unfoldable pub may_log_on : ℕ → Account → Bool
may_log_on aac a = not (has a.control user_account_disabled) && has (bit_and aac a.control) account_kinds
