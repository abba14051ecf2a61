-- What pointers aim at. The tails that a name may point to are those that the names before it left: each starts at an offset of 14 bits, and
-- none is written twice. So of the tails that fit, the first is the only one, and the lowest.
use Rattle.std.specs.Prelude.{◌≡◌, true, not, ◌||◌, List, [], ℕ, ◌≤◌, leb, ltb, length, take, Some}
use Rattle.answers.specs.declared.Form.{Form}
use Rattle.answers.specs.declared.Form.TheVariants.{Nt40, Response, Ex}
use Rattle.names.specs.Name.{pointer_limit, Tail, write_names}
use Rattle.octets.specs.Lists.{all, unique, first}
use Rattle.octets.specs.Text.{same}
use Rattle.reply.specs.Reply.{Reply, response_head, ex_head}
use Rattle.demands.specs.Demand3.{names_of}
use Rattle.demands.specs.Derivation.{ReplyIs, EveryAnswerOver, EveryAnswer}

-- what is written before the first name of a form
abbrev pub head_of : Form → Reply → List ℕ
head_of Nt40 r = []
head_of Response r = response_head r
head_of Ex r = ex_head r

-- the tails that the first k names of a form leave, written after it
abbrev pub tails_before : Form → Reply → ℕ → List Tail
tails_before form r k = (write_names [] (length (head_of form r)) (take k (names_of form r))).tails

pub record Fit (tails : List Tail) : Type 0 where
  pub low : all (λ t. ltb t.offset pointer_limit) tails ≡ true
  pub once : unique (λ t u. same t.text u.text) tails ≡ true
  pub lowest : (text : List ℕ) (t : Tail)
      → first (λ u. same u.text text) tails ≡ Some t → all (λ u. not (same u.text text) || leb t.offset u.offset) tails ≡ true

-- a reply r in its form, whose every pointer fits
abbrev pub PointersFitIn : Form → ℕ → Reply → List ℕ → Type 0
PointersFitIn form v r s = (k : ℕ) → Fit (tails_before form r k)

abbrev pub PointersFitOver : Type 0
PointersFitOver = EveryAnswerOver (ReplyIs PointersFitIn)

-- no reply is longer than what the header and the bindings give as the most
abbrev pub LengthBoundOver : Type 0
LengthBoundOver = EveryAnswerOver (ReplyIs (λ form v r s. length s ≤ 1108))

abbrev pub PointersFit : Type 0
PointersFit = EveryAnswer (ReplyIs PointersFitIn)
