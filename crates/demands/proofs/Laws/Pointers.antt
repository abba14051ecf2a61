-- It is proved that pointers fit: a reply is short enough, and a tail that an earlier name holds is never written again.
use Rattle.std.proofs.Common.{Some}
use mathlib.Core.Path.{◌≡◌, refl}
use mathlib.Core.Bool.{Bool, true, false, not, ◌||◌}
use mathlib.Core.List.{List, []}
use Prim.Native.Nat.{ℕ, ◌+◌, ◌≤◌}
use native.Mathlib.Omega.{arith}
use lib.Dec.{leb, ltb}
use lib.ListN.{length, take}
use borrow.Author.Tests.{le-leb}
use Rattle.answers.specs.declared.Form.{Form}
use Rattle.answers.specs.declared.Form.TheVariants.{Nt40, Response, Ex}
use Rattle.names.specs.Name.{Tail, write_names}
use Rattle.names.proofs.Laws.Name.{sizes, sizes_take}
use Rattle.names.proofs.Laws.Name.Once.{alike, written_once, first-lowest}
use Rattle.octets.specs.Label.{labels}
use Rattle.octets.proofs.Laws.Label.{Plain, size}
use Rattle.octets.specs.Lists.{all, first}
use Rattle.octets.proofs.Laws.Lists.{Every, Unique, all_every, unique_tested, every_take, every_weaken}
use Rattle.octets.specs.Text.{same}
use Rattle.reply.specs.Reply.{Reply, response_head, response_names, ex_head, ex_names}
use Rattle.demands.specs.Derivation.{ReplyIs}
use Rattle.demands.specs.Pointers.{tails_before, Fit, PointersFitIn, PointersFitOver, PointersFit}
use Rattle.demands.proofs.Laws.Derivation.{every_answer}
use Rattle.demands.proofs.Laws.Forms.Ex.{ex_plain, ex-short, ex_room}
use Rattle.demands.proofs.Laws.Forms.Names.{tails-low}
use Rattle.demands.proofs.Laws.Forms.Response.{response_plain, response-short, response_room}
use Rattle.demands.proofs.Laws.Sound.{Sound, every_sound}

-- tails that start low and of which no two are alike
fit : (tails : List Tail) → Every (λ t. ltb t.offset 0x4000 ≡ true) tails → Unique alike tails → Fit tails
fit tails low once = record { low = all_every (λ t. ltb t.offset 0x4000) tails low; once = unique_tested alike tails once; lowest = lowest }
  where
    tested : (text : List ℕ) (t u : Tail) → (same u.text text ≡ true → t.offset ≤ u.offset) → not (same u.text text) || leb t.offset u.offset ≡ true
    tested text t u h = go (same u.text text) refl
      where
        go : (b : Bool) → same u.text text ≡ b → not b || leb t.offset u.offset ≡ true
        go true q = le-leb t.offset u.offset (h q)
        go false q = refl

    lowest : (text : List ℕ) (t : Tail) → first (λ u. same u.text text) tails ≡ Some t → all (λ u. not (same u.text text) || leb t.offset u.offset) tails ≡ true
    lowest text t e =
        all_every (λ u. not (same u.text text) || leb t.offset u.offset) tails
        (every_weaken (λ u. same u.text text ≡ true → t.offset ≤ u.offset) (λ u. not (same u.text text) || leb t.offset u.offset ≡ true) (tested text t) tails (first-lowest tails text t once e))

-- the tails of the first k names after a head
fit-before : (head : List ℕ) (texts : List (List ℕ)) → Every (λ text. Plain (labels text)) texts → Every (λ text. size (labels text) ≤ 255) texts → length head + sizes texts ≤ 0x4000 → (k : ℕ)
    → Fit (write_names [] (length head) (take k texts)).tails
fit-before head texts plain short room k =
    let some_plain : Every (λ text. Plain (labels text)) (take k texts) = every_take (λ text. Plain (labels text)) k texts plain in
    let some-short : Every (λ text. size (labels text) ≤ 255) (take k texts) = every_take (λ text. size (labels text) ≤ 255) k texts short in
    fit (write_names [] (length head) (take k texts)).tails (tails-low head (take k texts) some_plain some-short (omega (arith, sizes_take k texts)))
    (written_once (take k texts) (length head) some_plain)

fits : (form : Form) (v : ℕ) (r : Reply) → Sound form v r → (k : ℕ) → Fit (tails_before form r k)
fits Nt40 v r s k = fit-before [] [] tt tt (omega arith) k
fits Response v r s k = fit-before (response_head r) (response_names r) (response_plain v r s) (response-short v r s) (response_room v r s) k
fits Ex v r s k = fit-before (ex_head r) (ex_names r) (ex_plain v r s) (ex-short v r s) (ex_room v r s) k

pub pointers-fit-over : PointersFitOver
pointers-fit-over = every_sound PointersFitIn fits

pub pointers-fit : PointersFit
pointers-fit = every_answer (ReplyIs PointersFitIn) pointers-fit-over
