-- Document 01, "The table image" and "Answer numbers" 9: the names of accounts, and of the users asked for.
use Rattle.std.specs.Prelude.{Bool, ◌&&◌, List, ℕ, leb, length}
use Rattle.octets.specs.NameRule.{without, user_name_most}
use Rattle.unicode_text.specs.Utf8.{is_utf8}

-- a user's name: at most so many octets of UTF-8, none zero
unfoldable pub is_user_name : List ℕ → Bool
is_user_name s = leb (length s) user_name_most && is_utf8 s && without 0 s

-- an account's is not empty
unfoldable pub is_account_name : List ℕ → Bool
is_account_name s = leb 1 (length s) && is_user_name s
