-- Demand 3 of the definitions: the names stand in a row from where the layout starts them, and reader and walk find each at its place.
use Rattle.std.proofs.Common.{Ok, Option, None, Some}
use mathlib.Core.Path.{◌≡◌, refl}
use mathlib.Core.List.{List, []}
use Prim.Native.Nat.{ℕ, ◌+◌, ◌<◌}
use native.Mathlib.Omega.{arith}
use lib.ListN.{length, get_or}
use Rattle.answers.specs.declared.Form.{Form}
use Rattle.answers.specs.declared.Form.TheVariants.{Nt40, Response, Ex}
use Rattle.names.proofs.Laws.Name.{Spot, row_spot}
use Rattle.names.proofs.Laws.Walk.{finds}
use Rattle.octets.specs.Label.{labels}
use Rattle.octets.proofs.Laws.Label.{joined-labels}
use Rattle.reader.specs.Reader.{NameRead, Fields, nt40, response, ex, read_in}
use Rattle.reader.proofs.Laws.Reader.{NamesRow, given_back_lem, read-nt40, given-at, given-length, last_given}
use Rattle.reader_forms.specs.Reading.{no_name}
use Rattle.reply.specs.Reply.{Reply, nt40_octets, response_octets, ex_octets, octets_in}
use Rattle.demands.specs.Demand3.{names_of, last_of, NameWalked, WhereWritten}
use Rattle.demands.specs.Places.{names_start, name_start, last_start}
use Rattle.demands.proofs.Laws.Forms.Ex.{ex_front, ex-row, ex-start, ex-last-start, ex-read, LastSpot, last_there}
use Rattle.demands.proofs.Laws.Forms.Nt40.{nt40_opened}
use Rattle.demands.proofs.Laws.Forms.Response.{response-row, response-start, response-read}
use Rattle.demands.proofs.Laws.Places.{name-placed}
use Rattle.demands.proofs.Laws.Sound.{Sound}

-- what the reader gives back of names
abbrev pub names_in : Fields → List NameRead
names_in (nt40 f) = []
names_in (response f) = f.names
names_in (ex f) = f.names

abbrev pub last_in : Fields → Option NameRead
last_in (nt40 f) = None
last_in (response f) = None
last_in (ex f) = f.next_site_lem

-- one name, walked, and as the reader gave it back
pub record NameGiven (s : List ℕ) (start k : ℕ) (text : List ℕ) (given : NameRead) : Type 0 where
  pub walked : NameWalked s start k text
  pub placed : given.start ≡ start
  pub told : given.text ≡ text
  pub counted : given.pointers ≡ walked.name.pointers

-- every name of a reply r in its form, whose octets are s
pub record NamesWalked (form : Form) (v : ℕ) (r : Reply) (s : List ℕ) : Type 0 where
  pub fields : Fields
  pub accepted : read_in form v s ≡ Ok fields
  pub many : length (names_in fields) ≡ length (names_of form r)
  pub names : (k : ℕ) → k < length (names_of form r) → NameGiven s (name_start form s k) k (get_or (names_of form r) k []) (get_or (names_in fields) k no_name)
  pub last : WhereWritten (NameGiven s (last_start v s) 8) (last_of form r) (last_in fields)

-- a name where the walk finds it, and where the reader found it
given : {s : List ℕ} {start : ℕ} {text : List ℕ} {count : ℕ} (k : ℕ) → Spot s start (0 + k) text count → NameGiven s start k text (record { start = start; text = text; pointers = count })
given {text = text} {count = count} k spot =
    record {
      walked =
          record {
            name = record { labels = labels text; pointers = count };
            found = finds spot.walks;
            reads = refl;
            joins = joined-labels text;
            few = omega (arith, spot.by_place, spot.by_labels);
          };
      placed = refl;
      told = refl;
      counted = refl;
    }

-- the names of a row, from where the layout places them
row-given : (form : Form) {s : List ℕ} {at : ℕ} {texts : List (List ℕ)} {octets : List ℕ} (row : NamesRow s at texts octets) → names_start form s ≡ at → (i : ℕ) → i < length texts
    → NameGiven s (name_start form s i) i (get_or texts i []) (get_or (given_back_lem row.starts texts row.counts) i no_name)
row-given form {texts = texts} row first i h = rw (name-placed form row first i h, given-at row.row no_name i h) (given i (row_spot row.row i h))

nt40-walked : (v : ℕ) (r : Reply) → Sound Nt40 v r → NamesWalked Nt40 v r (nt40_octets r)
nt40-walked v r k =
    record {
      fields = _;
      accepted = read-nt40 (nt40_octets r) r.opcode r.server r.user r.netbios (nt40_opened v r k);
      many = refl;
      names = λ i h. absurd (omega arith);
      last = tt;
    }

response-walked : (v : ℕ) (r : Reply) → Sound Response v r → NamesWalked Response v r (response_octets r)
response-walked v r k =
    let row = response-row v r k in
    record {
      fields = _;
      accepted = response-read v r k;
      many = given-length row.row;
      names = row-given Response row (response-start v r k);
      last = tt;
    }

last-given : (v : ℕ) (r : Reply) (k : Sound Ex v r) (site : Option (List ℕ)) (count : ℕ) → LastSpot v r k site count
    → WhereWritten (NameGiven (ex_octets r) (length (ex_front v r k)) 8) site (last_given site (length (ex_front v r k)) count).next_site_lem
last-given v r k None count spot = tt
last-given v r k (Some text) count spot = given 8 spot

ex-walked : (v : ℕ) (r : Reply) → Sound Ex v r → NamesWalked Ex v r (ex_octets r)
ex-walked v r k =
    let row = ex-row v r k in
    let last = last_there v r k r.next_site_lem refl in
    record {
      fields = _;
      accepted = ex-read v r k;
      many = given-length row.row;
      names = row-given Ex row (ex-start v r k);
      last = rw (ex-last-start v r k) (last-given v r k r.next_site_lem last.0 last.2);
    }

pub names-walked : (form : Form) (v : ℕ) (r : Reply) → Sound form v r → NamesWalked form v r (octets_in form r)
names-walked Nt40 v r k = nt40-walked v r k
names-walked Response v r k = response-walked v r k
names-walked Ex v r k = ex-walked v r k
