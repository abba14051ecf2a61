-- Document 01, "The table image" and "Choosing the answer": addresses, the client's too, as the numbers that prefixes are taken of.
use Rattle.std.specs.Prelude.{Bool, List, ℕ, ◌+◌, ◌-◌, ◌*◌, ◌/◌, ◌^◌, eqb, get_or}

-- four octets in dotted order
unfoldable pub address_number : List ℕ → ℕ
address_number a = 0x1000000 * get_or a 0 0 + 0x10000 * get_or a 1 0 + 0x100 * get_or a 2 0 + get_or a 3 0

abbrev pub address_bits : ℕ
address_bits = 32

-- how many addresses share a prefix
abbrev pub share_size : ℕ → ℕ
share_size prefix = 2 ^ (address_bits - prefix)

-- an address with the bits past a prefix zero
unfoldable pub network_of : ℕ → ℕ → ℕ
network_of prefix address = address / share_size prefix * share_size prefix

-- the address bits past a prefix are zero
unfoldable pub is_prefix_only : ℕ → ℕ → Bool
is_prefix_only prefix address = eqb (network_of prefix address) address

-- two addresses agree in the bits of a prefix
unfoldable pub share_prefix : ℕ → ℕ → ℕ → Bool
share_prefix prefix a b = eqb (network_of prefix a) (network_of prefix b)
