-- Document 01, "Reading a reply": a UTF-16 text of a received reply, two-octet units up to a zero unit, 33 at a lone surrogate.
use Rattle.std.specs.Prelude.{Bool, true, false, cond, List, ℕ, zero, suc, ◌-◌, eqb, length, Ok, Err}
use Rattle.answers.specs.declared.Refusal.TheVariants.{ReplyCut, ReplyText}
use Rattle.answers.specs.Try.{Try, ◌>>=◌}
use Rattle.octets.specs.Number.{little}
use Rattle.unicode_text.specs.Utf16.{is_high, is_low}
use Rattle.octets.specs.declared.part.Stretch.{Stretch}
use Rattle.reader.specs.{declared.text.Unit16.Unit16, declared.text.Turn.Turn, declared.field.Read.Read, Field.read_octets}
use Rattle.reader.specs.declared.text.Unit16.TheVariants.{Ends, Plain, High, Low}
use Rattle.reader.specs.declared.text.Turn.TheVariants.{Stop, Go, Wrong}

unfoldable pub unit_of : ℕ → Unit16
unit_of u = cond (eqb u 0) Ends (cond (is_high u) High (cond (is_low u) Low Plain))

-- what a unit leads to, after a high surrogate or not: the text ends, it goes on, or 33
abbrev pub turn : Bool → Unit16 → Turn
turn true Ends = Wrong
turn true Plain = Wrong
turn true High = Wrong
turn true Low = Go false
turn false Ends = Stop
turn false Plain = Go false
turn false High = Go true
turn false Low = Wrong

abbrev pub on_turn : Turn → Try (Read Stretch) → (Bool → Try (Read Stretch)) → Try (Read Stretch)
on_turn Stop end next = end
on_turn (Go after_high_lem) end next = next after_high_lem
on_turn Wrong end next = Err ReplyText

-- k units at most from `at`, in the text that starts at `start`
unfoldable pub read_text_from : ℕ → List ℕ → ℕ → ℕ → Bool → Try (Read Stretch)
read_text_from zero s start at after_high_lem = Err ReplyCut
read_text_from (suc k) s start at after_high_lem = do
  u ← read_octets s at 2
  on_turn (turn after_high_lem (unit_of (little u.value)))
      (Ok (record { value = record { start = start; len = at - start }; next = u.next }))
      (λ h. read_text_from k s start u.next h)

-- the text at `at`, as its stretch before the zero unit
unfoldable pub read_text : List ℕ → ℕ → Try (Read Stretch)
read_text s at = read_text_from (suc (length s)) s at at false
