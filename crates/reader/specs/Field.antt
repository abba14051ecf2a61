-- Document 01, "Reading a reply": fields of a received reply, what was read, and where the next field starts. A field counts whole at its first octet.
use Rattle.std.specs.Prelude.{not, List, ℕ, ◌+◌, ltb, length, Ok}
use Rattle.answers.specs.declared.Refusal.TheVariants.{ReplyCut, ReplyFixed}
use Rattle.answers.specs.Try.{Try, refused_if, ◌>>=◌}
use Rattle.octets.specs.{Lists.cut, Text.same}
use Rattle.octets.specs.declared.part.Stretch.{Stretch}
use Rattle.reader.specs.declared.field.Read.{Read}

-- n octets from `at`; 31 if they are not all there
unfoldable pub read_octets : List ℕ → ℕ → ℕ → Try (Read (List ℕ))
read_octets s at n = refused_if (ltb (length s) (at + n)) ReplyCut (Ok (record { value = cut s at n; next = at + n }))

-- the same as a stretch of the reply
unfoldable pub read_stretch : List ℕ → ℕ → ℕ → Try (Read Stretch)
read_stretch s at n = do
  f ← read_octets s at n
  Ok (record { value = record { start = at; len = n }; next = f.next })

-- a fixed field: 31 if it is not all there, 34 if it is another
unfoldable pub read_fixed : List ℕ → ℕ → List ℕ → Try (Read (List ℕ))
read_fixed s at octets = do
  f ← read_octets s at (length octets)
  refused_if (not (same f.value octets)) ReplyFixed (Ok f)

-- a value that is known, where the next field starts or a refusal is
abbrev pub valued : {A : Type 0} → A → Try ℕ → Try (Read A)
valued value end = do
  next ← end
  Ok (record { value = value; next = next })
