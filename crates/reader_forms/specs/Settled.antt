-- The two calls of the reader together give what document 01 says that reading gives: the reading has everything but the texts of names, and the second
-- call gives those, from a name's first offset.
use Rattle.std.specs.Prelude.{◌≡◌, List, [], ◌∷◌, map, ℕ, ◌<◌, length, Ok, Err, Option, None, option_map}
use Rattle.answers.specs.declared.Form.{Form}
use Rattle.answers.specs.Try.{Try}
use Rattle.reader.specs.{Reader.read_in, Reader.read_length}
use Rattle.reader.specs.Reader as reader
use Rattle.reader_names.specs.declared.NameAt.{NameAt}
use Rattle.reader_text.specs.{declared.NameText.NameText, Text.text_given, Text.NameTextPromise}
use Rattle.reader_forms.specs.{declared.reading.Nt40Fields.Nt40Fields, declared.reading.ResponseFields.ResponseFields, declared.reading.ExFields.ExFields}
use Rattle.reader_forms.specs.{declared.reading.Fields.Fields, declared.reading.Reading.Reading}
use Rattle.reader_forms.specs.Reading.{reading_length, ReadReplyPromise}
use Rattle.reader_forms.specs.declared.reading.Fields.TheVariants as fields

-- the names of a reading, in their places
abbrev pub names_read : Fields → List NameAt
names_read (fields.Nt40 f) = []
names_read (fields.Response f) = f.forest ∷ f.context ∷ f.host ∷ []
names_read (fields.Ex f) =
    f.forest ∷ f.context ∷ f.host ∷ f.context_netbios ∷ f.server_netbios ∷ f.user ∷ f.own_site ∷ f.client_site ∷ []

-- and name 8
abbrev pub last_read : Fields → Option NameAt
last_read (fields.Nt40 f) = None
last_read (fields.Response f) = None
last_read (fields.Ex f) = f.next_site

-- a name with its text, by what the second call gives at each offset
abbrev pub name_from : (ℕ → List ℕ) → NameAt → reader.NameRead
name_from text n = record { start = n.start; text = text n.start; pointers = n.pointers }

abbrev pub nt40_from : Nt40Fields → reader.Nt40Fields
nt40_from f = record { opcode = f.opcode; server = f.server; user = f.user; domain = f.domain; version = f.version }

abbrev pub response_from : (ℕ → List ℕ) → ResponseFields → reader.ResponseFields
response_from text f =
    record {
      opcode = f.opcode;
      server = f.server;
      user = f.user;
      domain = f.domain;
      guid = f.guid;
      names = map (name_from text) (names_read (fields.Response f));
      ipv4 = f.ipv4;
      flags = f.flags;
      version = f.version;
    }

abbrev pub ex_from : (ℕ → List ℕ) → ExFields → reader.ExFields
ex_from text f =
    record {
      opcode = f.opcode;
      flags = f.flags;
      guid = f.guid;
      names = map (name_from text) (names_read (fields.Ex f));
      ipv4 = f.ipv4;
      next_site_lem = option_map (name_from text) (last_read (fields.Ex f));
      version = f.version;
    }

abbrev pub fields_from : (ℕ → List ℕ) → Fields → reader.Fields
fields_from text (fields.Nt40 f) = reader.nt40 (nt40_from f)
fields_from text (fields.Response f) = reader.response (response_from text f)
fields_from text (fields.Ex f) = reader.ex (ex_from text f)

abbrev pub read_from : (ℕ → List ℕ) → Try Reading → Try reader.Fields
read_from text (Ok read) = Ok (fields_from text read.fields)
read_from text (Err r) = Err r

-- whatever octets, form and version: from what both calls promise, the second at offsets within the reply, what document 01 says follows
abbrev pub ReadingSettled : Type 0
ReadingSettled =
    (s : List ℕ) (form : Form) (v : ℕ) (given : Try Reading) (texts : ℕ → NameText)
    → ReadReplyPromise s form v given
    → ((at : ℕ) → at < length s → NameTextPromise s at (texts at))
    → (read_from (λ at. text_given (texts at)) given ≡ read_in form v s) × (reading_length given ≡ read_length (read_in form v s) s)
