-- The reply law is proved: each form's octets stand in the order of the reader's fields.
use Rattle.std.proofs.Common.{Option, None, Some, option_map}
use mathlib.Core.Path.{◌≡◌, refl, sym, ap, ◌∙◌}
use mathlib.Core.Bool.{Bool, true, false}
use mathlib.Core.List.{List, [], ◌∷◌, ◌++◌, append_assoc}
use Prim.Native.Nat.{ℕ, ◌+◌}
use lib.ListN.{length}
use Rattle.answers.specs.declared.Form.{Form}
use Rattle.answers.specs.declared.Form.TheVariants.{Nt40, Response, Ex}
use Rattle.answers.specs.Wire.{netlogon_nt_version_5ex_with_ip, DcSockAddrSize, sin_family, sin_zero}
use Rattle.octets.specs.Number.{little_octets, has}
use Rattle.octets.proofs.Laws.Number.{length-little}
use Rattle.octets.specs.Sid.{ipv4_size}
use Rattle.reader.specs.Reader.{read_in, read_length}
use Rattle.reader.proofs.Laws.Field.{Left, left-next}
use Rattle.reader.proofs.Laws.Reader as reading
use Rattle.reader.proofs.Laws.Reader.{read-nt40, texts-given, address_given, last_given}
use Rattle.reply.specs.Reply.{Reply, nt40_octets, response_octets, ex_octets, octets_in}
use Rattle.unicode_text.specs.Utf16.{utf16}
use Rattle.unicode_text.proofs.Laws.OneText.{one-text}
use Rattle.unicode_text.proofs.Laws.Utf16.{Spoken}
use Rattle.demands.specs.Derivation.{ReplyIs}
use Rattle.octets.specs.Stretch.{stretch_of}
use Rattle.demands.specs.ReplyLaw.{TextBack, GivenBack, ReadBack, ReplyLawOver, ReplyLaw, address_written, text_of, version_written}
use Rattle.demands.proofs.Laws.Derivation.{every_answer}
use Rattle.demands.proofs.Laws.Forms.Ex.{ex-row, ex_rest_left, ex-guid, ex-read, last_there}
use Rattle.demands.proofs.Laws.Forms.{stretch_is}
use Rattle.demands.proofs.Laws.Forms.Nt40.{nt40_opened}
use Rattle.demands.proofs.Laws.Forms.Response.{response_opened, response-row, response-read, response-guid, response-ipv4}
use Rattle.demands.proofs.Laws.Sound.{Sound, every_sound}

-- a text that UTF-16 can say is given back by its octets
text-back : {text octets : List ℕ} → Spoken text → octets ≡ utf16 text → TextBack text octets
text-back {text} k e = record { units = e; utf8 = k.utf8; only = λ other u f. one-text other text u k.utf8 (sym f ∙ e) }

nt40-back : (v : ℕ) (r : Reply) → Sound Nt40 v r → GivenBack Nt40 r (nt40_octets r) (read_in Nt40 v (nt40_octets r))
nt40-back v r k =
    let o = nt40_opened v r k in (
      _,
      read-nt40 (nt40_octets r) r.opcode r.server r.user r.netbios o,
      record {
        opcode = refl;
        server = text-back k.server_spoken o.server_is;
        user = text-back k.user_spoken o.user_is;
        domain = text-back k.netbios_spoken o.domain_is;
        version = refl;
      },
    )

response-back : (v : ℕ) (r : Reply) → Sound Response v r → GivenBack Response r (response_octets r) (read_in Response v (response_octets r))
response-back v r k =
    let o = response_opened v r k in
    let row = response-row v r k in (
      _,
      response-read v r k,
      record {
        opcode = refl;
        server = text-back k.server_spoken o.server_is;
        user = text-back k.user_spoken o.user_is;
        domain = text-back k.netbios_spoken o.domain_is;
        guid = response-guid v r k;
        names = texts-given row.row;
        ipv4 = response-ipv4 v r k;
        flags = refl;
        version = refl;
      },
    )

-- the address and name 8 are given back where they were written
address-back : {s : List ℕ} {at : ℕ} (r : Reply) (b : Bool) (rest : List ℕ) → length r.ipv4 ≡ ipv4_size → Left s at (reading.address b r.ipv4 ++ rest)
    → option_map (stretch_of s) (address_given b at) ≡ address_written r b
address-back {s} {at} r true rest i l =
    let after : List ℕ = r.ipv4 ++ (sin_zero ++ rest) in
    let sized : Left s at ((DcSockAddrSize ∷ []) ++ (little_octets 4 sin_family ++ after)) = simp append_assoc at l in
    let family : Left s (at + 1) (little_octets 4 sin_family ++ after) = left-next (DcSockAddrSize ∷ []) (little_octets 4 sin_family ++ after) 1 refl sized in
    ap Some (stretch_is r.ipv4 (sin_zero ++ rest) ipv4_size i (left-next (little_octets 4 sin_family) after 4 (length-little 4 sin_family) family))
address-back r false rest i l = refl

last-back : (site : Option (List ℕ)) (at count : ℕ) → option_map text_of (last_given site at count).next_site_lem ≡ site
last-back None at count = refl
last-back (Some text) at count = refl

version-back : (site : Option (List ℕ)) (at count : ℕ) → (last_given site at count).version ≡ version_written site
version-back None at count = refl
version-back (Some text) at count = refl

ex-back : (v : ℕ) (r : Reply) → Sound Ex v r → GivenBack Ex r (ex_octets r) (read_in Ex v (ex_octets r))
ex-back v r k =
    let row = ex-row v r k in
    let count : ℕ = (last_there v r k r.next_site_lem refl).0 in (
      _,
      ex-read v r k,
      record {
        opcode = refl;
        flags = refl;
        guid = ex-guid v r k;
        names = texts-given row.row;
        ipv4 = address-back r (has v netlogon_nt_version_5ex_with_ip) _ k.ipv4 (ex_rest_left v r k) ∙ ap (address_written r) (sym k.address);
        next_site_lem = last-back r.next_site_lem _ count;
        version = version-back r.next_site_lem _ count;
      },
    )

given_back : (form : Form) (v : ℕ) (r : Reply) → Sound form v r → GivenBack form r (octets_in form r) (read_in form v (octets_in form r))
given_back Nt40 v r k = nt40-back v r k
given_back Response v r k = response-back v r k
given_back Ex v r k = ex-back v r k

-- a reply that the reader accepts is read with its length
read_whole : (form : Form) (v : ℕ) (r : Reply) (s : List ℕ) → GivenBack form r s (read_in form v s) → read_length (read_in form v s) s ≡ length s
read_whole Nt40 v r s g = rw g.1
read_whole Response v r s g = rw g.1
read_whole Ex v r s g = rw g.1

read_back : (form : Form) (v : ℕ) (r : Reply) → Sound form v r → ReadBack form v r (octets_in form r)
read_back form v r k = let g = given_back form v r k in (g, read_whole form v r (octets_in form r) g)

pub reply_law_over : ReplyLawOver
reply_law_over = every_sound ReadBack read_back

pub reply_law : ReplyLaw
reply_law = every_answer (ReplyIs ReadBack) reply_law_over
