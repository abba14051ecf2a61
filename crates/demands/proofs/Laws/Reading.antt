-- A reply is refused for the reader's five reasons only, a name for two of them, and what is read has the fields of its form.
use mathlib.Core.Path.{◌≡◌}
use mathlib.Core.Bool.{Bool, true, false}
use mathlib.Core.List.{List}
use Prim.Native.Nat.{ℕ, zero, suc}
use lib.Dec.{eqb}
use Rattle.answers.specs.declared.Form.{Form}
use Rattle.answers.specs.declared.Form.TheVariants.{Nt40, Response, Ex}
use Rattle.answers.specs.declared.Refusal.{Refusal}
use Rattle.answers.specs.declared.Refusal.TheVariants.{ReplyCut, ReplyOpcode, ReplyText, ReplyFixed, ReplyLeftOver}
use Rattle.answers.specs.Try.{Try}
use Rattle.answers.specs.Wire.{Opcodes}
use Rattle.names.specs.Walk.{Look, end, label, pointer, missing, reserved, on_look}
use Rattle.octets.proofs.Laws.Lists.{cond_has}
use Rattle.octets.specs.declared.part.Stretch.{Stretch}
use Rattle.reader.specs.declared.field.Read.{Read}
use Rattle.reader.specs.Field.{read_octets, read_stretch, read_fixed}
use Rattle.reader.specs.Name.{cut_after, read_name_from, read_name}
use Rattle.reader.specs.declared.text.Turn.{Turn}
use Rattle.reader.specs.declared.text.Turn.TheVariants.{Stop, Go, Wrong}
use Rattle.reader.specs.Text.{on_turn, read_text_from, read_text}
use Rattle.reader.specs.Reader.{Fields, nt40, response, ex, read_opcode, read_number, read_names, read_tokens, read_opening, read_nt40, read_response, read_address, read_last, read_ex, read_in}
use Rattle.demands.proofs.Laws.Only.{Only, Any, only_if, only_then}

-- the form that fields are of
abbrev pub form_read : Fields → Form
form_read (nt40 f) = Nt40
form_read (response f) = Response
form_read (ex f) = Ex

module _ (P : Refusal → Type 0) (cut : P ReplyCut) (text : P ReplyText) where
  cut-after : (pointers : ℕ) → P (cut_after pointers)
  cut-after pointers = cond_has P (eqb pointers 0) ReplyCut ReplyText (λ e. cut) (λ e. text)

  only_look : {A : Type 0} (v : Look) (a : Try A) (f g : ℕ → Try A) (b c : Try A) → Only P Any a → ((n : ℕ) → Only P Any (f n)) → ((n : ℕ) → Only P Any (g n)) → Only P Any b → Only P Any c
      → Only P Any (on_look v a f g b c)
  only_look end a f g b c i j k l m = i
  only_look (label n) a f g b c i j k l m = j n
  only_look (pointer n) a f g b c i j k l m = k n
  only_look missing a f g b c i j k l m = l
  only_look reserved a f g b c i j k l m = m

  name-from : (k : ℕ) (s : List ℕ) (run at spent pointers : ℕ) → Only P Any (read_name_from k s run at spent pointers)
  unfolding read_name_from
  name-from zero s run at spent pointers = text
  name-from (suc k) s run at spent pointers =
      let deeper : (r a n p : ℕ) → Only P Any (read_name_from k s r a n p) = λ r a n p. name-from k s r a n p in
      search (only_look, only_if P, only_then P, cut-after) depth 8

  pub name-only : (s : List ℕ) (at : ℕ) → Only P Any (read_name s at)
  unfolding read_name
  name-only s at = name-from _ s at at 0 0

-- the reasons of the reader
module _ (P : Refusal → Type 0) (cut : P ReplyCut) (opcode : P ReplyOpcode) (text : P ReplyText) (fixed : P ReplyFixed) (over : P ReplyLeftOver) where
  octets-only : (s : List ℕ) (at n : ℕ) → Only P Any (read_octets s at n)
  unfolding read_octets
  octets-only s at n = search (only_if P)

  stretch_only : (s : List ℕ) (at n : ℕ) → Only P Any (read_stretch s at n)
  unfolding read_stretch
  stretch_only s at n = search (only_then P, octets-only)

  fixed-only : (s : List ℕ) (at : ℕ) (octets : List ℕ) → Only P Any (read_fixed s at octets)
  unfolding read_fixed
  fixed-only s at octets = search (only_then P, only_if P, octets-only)

  opcode-only : (codes : Opcodes) (s : List ℕ) → Only P Any (read_opcode codes s)
  unfolding read_opcode
  opcode-only codes s = search (only_then P, only_if P, octets-only)

  number-only : (s : List ℕ) (at : ℕ) → Only P Any (read_number s at)
  unfolding read_number
  number-only s at = search (only_then P, octets-only)

  only-turn : (t : Turn) (a : Try (Read Stretch)) (f : Bool → Try (Read Stretch)) → Only P Any a → ((h : Bool) → Only P Any (f h)) → Only P Any (on_turn t a f)
  only-turn Stop a f i j = i
  only-turn (Go h) a f i j = j h
  only-turn Wrong a f i j = text

  text-from : (k : ℕ) (s : List ℕ) (start at : ℕ) (after_high_lem : Bool) → Only P Any (read_text_from k s start at after_high_lem)
  unfolding read_text_from
  text-from zero s start at after_high_lem = cut
  text-from (suc k) s start at after_high_lem =
      let deeper : (a : ℕ) (h : Bool) → Only P Any (read_text_from k s start a h) = λ a h. text-from k s start a h in
      search (only_then P, only-turn, octets-only)

  text-only : (s : List ℕ) (at : ℕ) → Only P Any (read_text s at)
  unfolding read_text
  text-only s at = text-from _ s at at false

  names-only : (n : ℕ) (s : List ℕ) (at : ℕ) → Only P Any (read_names n s at)
  unfolding read_names
  names-only zero s at = tt
  names-only (suc n) s at =
      let deeper : (a : ℕ) → Only P Any (read_names n s a) = λ a. names-only n s a in
      search (only_then P, name-only P cut text)

  tokens_only : (Q : Fields → Type 0) (s : List ℕ) (at : ℕ) (fields : Fields) → Q fields → Only P Q (read_tokens s at fields)
  unfolding read_tokens
  tokens_only Q s at fields q = search (only_then P, only_if P, fixed-only)

  opening-only : (s : List ℕ) → Only P Any (read_opening s)
  unfolding read_opening
  opening-only s = search (only_then P, opcode-only, text-only)

  address-only : (b : Bool) (s : List ℕ) (at : ℕ) → Only P Any (read_address b s at)
  unfolding read_address
  address-only false s at = tt
  address-only true s at = search (only_then P, fixed-only, stretch_only)

  last-only : (b : Bool) (v : ℕ) (s : List ℕ) (at : ℕ) → Only P Any (read_last b v s at)
  unfolding read_last
  last-only false v s at = search (only_then P, fixed-only)
  last-only true v s at = search (only_then P, only_if P, fixed-only, name-only P cut text)

  pub reading_only : (form : Form) (v : ℕ) (s : List ℕ) → Only P (λ f. form_read f ≡ form) (read_in form v s)
  unfolding read_nt40 read_response read_ex
  reading_only Nt40 v s = search (only_then P, opening-only, fixed-only, tokens_only)
  reading_only Response v s = search (only_then P, opening-only, stretch_only, fixed-only, names-only, number-only, tokens_only) depth 9
  reading_only Ex v s = search (only_then P, opcode-only, fixed-only, number-only, stretch_only, names-only, address-only, last-only, tokens_only) depth 9
