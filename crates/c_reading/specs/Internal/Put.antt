-- What is present in a reading, stored member by member.
use Rattle.std.specs.Prelude.{List, ℕ, ◌+◌, set, Option, None, Some}
use Rattle.octets.specs.declared.part.Stretch.{Stretch}
use Rattle.reader_names.specs.declared.NameAt.{NameAt}
use Rattle.reader_forms.specs.declared.reading.ExFields.{ExFields}

abbrev pub number_put : List ℕ → ℕ → ℕ → List ℕ
number_put d at n = set (set d at 1) (at + 1) n

abbrev pub text_put : List ℕ → ℕ → Stretch → List ℕ
text_put d at t = set (set (set d at 1) (at + 1) t.start) (at + 2) t.len

abbrev pub name_put : List ℕ → ℕ → NameAt → List ℕ
name_put d at n = set (set (set (set d at 1) (at + 1) n.start) (at + 2) n.len) (at + 3) n.pointers

abbrev pub texts_put : List ℕ → Stretch → Stretch → Stretch → List ℕ
texts_put d server user domain = text_put (text_put (text_put d 9 server) 12 user) 15 domain

abbrev pub dns_names_put : List ℕ → NameAt → NameAt → NameAt → List ℕ
dns_names_put d forest context host = name_put (name_put (name_put d 18 forest) 22 context) 26 host

abbrev pub other_names_put : List ℕ → ExFields → List ℕ
other_names_put d f =
    name_put (name_put (name_put (name_put (name_put d 30 f.context_netbios) 34 f.server_netbios) 38 f.user) 42 f.own_site) 46 f.client_site

abbrev pub address_put : List ℕ → Option Stretch → List ℕ
address_put d None = d
address_put d (Some t) = number_put d 7 t.start

abbrev pub next_site_put : List ℕ → Option NameAt → List ℕ
next_site_put d None = d
next_site_put d (Some n) = name_put d 50 n
