-- Document 01, "The table image": a SID has revision 1, a count n of at most 15, and 8 + 4n octets; a GUID has 16, an IPv4 address 4.
use Rattle.std.specs.Prelude.{Bool, ◌&&◌, List, ℕ, ◌+◌, ◌*◌, eqb, leb, length, get_or}

abbrev pub guid_size : ℕ
guid_size = 16

abbrev pub ipv4_size : ℕ
ipv4_size = 4

-- the length that a SID's own count gives it
abbrev pub sid_length : List ℕ → ℕ
sid_length s = 8 + 4 * get_or s 1 0

unfoldable pub is_sid : List ℕ → Bool
is_sid s = eqb (get_or s 0 0) 1 && leb (get_or s 1 0) 15 && eqb (length s) (sid_length s)
