-- What reading promises, by what it returns.
use Rattle.std.proofs.Common.{Ok, Err, option_map}
use mathlib.Core.Path.{◌≡◌, refl, ap, ◌∙◌}
use mathlib.Core.List.{List}
use Prim.Native.Nat.{ℕ}
use Rattle.answers.specs.declared.Form.{Form}
use Rattle.answers.specs.Try.{Try, number_of, value_of}
use Rattle.reader.specs.Reader as reader
use Rattle.reader.specs.Reader.{read_in, read_length}
use Rattle.reader_forms.specs.declared.reading.Reading.{Reading}
use Rattle.reader_forms.specs.Reading.{fields_as, reading_as, reading_length, reading_fields, ReadReplyPromise}

pub read_reply_promised : (reply : List ℕ) (form : Form) (v : ℕ) (r : Try Reading) → r ≡ reading_as reply (read_in form v reply) → ReadReplyPromise reply form v r
read_reply_promised reply form v r e =
    let t : Try reader.Fields = read_in form v reply in
    record { same = e; numbered = ap number_of e ∙ numbers t; sized = ap reading_length e ∙ sizes t; given = ap reading_fields e ∙ gives t }
  where
    numbers : (t : Try reader.Fields) → number_of (reading_as reply t) ≡ number_of t
    numbers (Err x) = refl
    numbers (Ok f) = refl

    sizes : (t : Try reader.Fields) → reading_length (reading_as reply t) ≡ read_length t reply
    sizes (Err x) = refl
    sizes (Ok f) = refl

    gives : (t : Try reader.Fields) → reading_fields (reading_as reply t) ≡ option_map fields_as (value_of t)
    gives (Err x) = refl
    gives (Ok f) = refl
