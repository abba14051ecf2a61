-- Document 01, "The table image": what DNS, NetBIOS and site names must be.
use Rattle.std.specs.Prelude.{Bool, ◌&&◌, not, List, ℕ, eqb, length}
use Rattle.octets.specs.{Label.parts, Lists.all, Text.within, Text.is_printable}

abbrev pub sized : ℕ → ℕ → List ℕ → Bool
sized low high s = within low high (length s)

abbrev pub printable : List ℕ → Bool
printable = all is_printable

abbrev pub without : ℕ → List ℕ → Bool
without x = all (λ y. not (eqb y x))

-- how many octets a label and a name of each kind may have; the table has room for as many
abbrev pub label_most : ℕ
label_most = 63

abbrev pub dns_name_most : ℕ
dns_name_most = 253

abbrev pub netbios_name_most : ℕ
netbios_name_most = 15

abbrev pub site_name_most : ℕ
site_name_most = 63

abbrev pub user_name_most : ℕ
user_name_most = 63

unfoldable pub is_dns_name : List ℕ → Bool
is_dns_name s = sized 1 dns_name_most s && printable s && all (sized 1 label_most) (parts s)

-- NetBIOS and site names: the same octets, no dot, and as many as there is room for
unfoldable pub is_plain_name : ℕ → List ℕ → Bool
is_plain_name room s = sized 1 room s && printable s && without 46 s

abbrev pub is_netbios_name : List ℕ → Bool
is_netbios_name = is_plain_name netbios_name_most

abbrev pub is_site_name : List ℕ → Bool
is_site_name = is_plain_name site_name_most
