-- Document 01, "The table image" and "Choosing the answer": when two DNS names, or two SIDs, are the same, for the judgement of a table and for looking a name up.
use Rattle.std.specs.Prelude.{Bool, false, List, ℕ, Option, None, Some}
use Rattle.octets.specs.Text.{same, same_folded}

-- a context without SID has the SID of no other
abbrev pub same_sid : Option (List ℕ) → Option (List ℕ) → Bool
same_sid None t = false
same_sid (Some s) None = false
same_sid (Some s) (Some t) = same s t

-- the same DNS name: ASCII case ignored
unfoldable pub same_dns_name : List ℕ → List ℕ → Bool
same_dns_name = same_folded
