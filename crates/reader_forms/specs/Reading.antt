-- Document 01, "Reading a reply": what the reader gives, as the call returns it. A name is its first offset, the length of its text and its pointer count.
use Rattle.std.specs.Prelude.{◌≡◌, List, [], map, ℕ, length, get_or, Ok, Err, Option, None, Some, option_map}
use Rattle.answers.specs.declared.Form.{Form}
use Rattle.answers.specs.Try.{Try, number_of, value_of}
use Rattle.reader.specs.Reader as reader
use Rattle.reader_names.specs.{declared.NameAt.NameAt, Name.name_as}
use Rattle.reader_forms.specs.{declared.reading.Nt40Fields.Nt40Fields, declared.reading.ResponseFields.ResponseFields, declared.reading.ExFields.ExFields}
use Rattle.reader_forms.specs.{declared.reading.Fields.Fields, declared.reading.Reading.Reading}
use Rattle.reader_forms.specs.declared.reading.Fields.TheVariants as fields

-- what stands past the last name, where no form has a place: a reading has 3 names or 8, as `ReadingSettled` implies
abbrev pub no_name : reader.NameRead
no_name = record { start = 0; text = []; pointers = 0 }

-- the name at a place
abbrev pub name_in : List reader.NameRead → ℕ → NameAt
name_in names k = get_or (map name_as names) k (name_as no_name)

abbrev pub nt40_as : reader.Nt40Fields → Nt40Fields
nt40_as f = record { opcode = f.opcode; server = f.server; user = f.user; domain = f.domain; version = f.version }

abbrev pub response_as : reader.ResponseFields → ResponseFields
response_as f =
    record {
      opcode = f.opcode;
      server = f.server;
      user = f.user;
      domain = f.domain;
      guid = f.guid;
      forest = name_in f.names 0;
      context = name_in f.names 1;
      host = name_in f.names 2;
      ipv4 = f.ipv4;
      flags = f.flags;
      version = f.version;
    }

-- the names at places 0 to 7, and name 8 where it is present
abbrev pub ex_as : reader.ExFields → ExFields
ex_as f =
    record {
      opcode = f.opcode;
      flags = f.flags;
      guid = f.guid;
      forest = name_in f.names 0;
      context = name_in f.names 1;
      host = name_in f.names 2;
      context_netbios = name_in f.names 3;
      server_netbios = name_in f.names 4;
      user = name_in f.names 5;
      own_site = name_in f.names 6;
      client_site = name_in f.names 7;
      ipv4 = f.ipv4;
      next_site = option_map name_as f.next_site_lem;
      version = f.version;
    }

abbrev pub fields_as : reader.Fields → Fields
fields_as (reader.nt40 f) = fields.Nt40 (nt40_as f)
fields_as (reader.response f) = fields.Response (response_as f)
fields_as (reader.ex f) = fields.Ex (ex_as f)

-- the reading of a reply's octets, as the call returns it
abbrev pub reading_as : List ℕ → Try reader.Fields → Try Reading
reading_as s (Err r) = Err r
reading_as s (Ok f) = Ok (record { length = length s; fields = fields_as f })

-- document 01's values of a reading beside its number: with a refusal length 0 and no fields
abbrev pub reading_length : Try Reading → ℕ
reading_length (Err r) = 0
reading_length (Ok read) = read.length

abbrev pub reading_fields : Try Reading → Option Fields
reading_fields (Err r) = None
reading_fields (Ok read) = Some read.fields

-- what `read_reply` promises
pub record ReadReplyPromise (reply : List ℕ) (form : Form) (v : ℕ) (r : Try Reading) : Type 0 where
  pub same : r ≡ reading_as reply (reader.read_in form v reply)
  pub numbered : number_of r ≡ number_of (reader.read_in form v reply)
  pub sized : reading_length r ≡ reader.read_length (reader.read_in form v reply) reply
  pub given : reading_fields r ≡ option_map fields_as (value_of (reader.read_in form v reply))
