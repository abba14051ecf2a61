-- Document 01, "Reading a reply": a name of a received reply, the walk's rules, with a limit of 255 octets written out and of 16 pointers.
use Rattle.std.specs.Prelude.{cond, not, ◌||◌, List, [], ℕ, zero, suc, ◌+◌, ◌-◌, eqb, ltb, length, Ok, Err}
use Rattle.answers.specs.declared.Refusal.{Refusal}
use Rattle.answers.specs.declared.Refusal.TheVariants.{ReplyCut, ReplyText}
use Rattle.answers.specs.Try.{Try, refused_if, ◌>>=◌}
use Rattle.names.specs.Walk.{look_at, on_look, label_at, WalkedName, with_label, steps}
use Rattle.reader.specs.declared.field.Read.{Read}

-- the most octets of a name written out, its final zero counted, and the most pointers
abbrev pub written_most : ℕ
written_most = 255

abbrev pub pointers_most : ℕ
pointers_most = 16

-- the most octets of its labels joined by dots: without the first length octet and the final zero
abbrev pub text_most : ℕ
text_most = written_most - 2

-- octets missing are 31, but after a pointer was followed every fault is 33
abbrev pub cut_after : ℕ → Refusal
cut_after pointers = cond (eqb pointers 0) ReplyCut ReplyText

-- a label stands before the rest of the name
abbrev pub label_before : List ℕ → Read WalkedName → Read WalkedName
label_before l f = record { value = with_label l f.value; next = f.next }

-- the name's field ends after its first pointer
abbrev pub ending_at : ℕ → Read WalkedName → Read WalkedName
ending_at next f = record { value = f.value; next = next }

-- k steps at most from `at`, in a run of labels that starts at `run`, with `spent` octets written out and `pointers` followed so far
unfoldable pub read_name_from : ℕ → List ℕ → ℕ → ℕ → ℕ → ℕ → Try (Read WalkedName)
read_name_from zero s run at spent pointers = Err ReplyText
read_name_from (suc k) s run at spent pointers =
    on_look (look_at s at)
    (Ok (record { value = record { labels = []; pointers = pointers }; next = at + 1 }))
    (λ n.
    refused_if (ltb written_most (spent + 1 + n + 1)) ReplyText
    (refused_if (ltb (length s) (at + 1 + n)) (cut_after pointers)
    (read_name_from k s run (at + 1 + n) (spent + 1 + n) pointers >>= λ f. Ok (label_before (label_at s at n) f))))
    (λ t.
    refused_if (not (ltb t run) || eqb pointers pointers_most) ReplyText
    (read_name_from k s t t spent (pointers + 1) >>= λ f. Ok (ending_at (at + 2) f)))
    (Err (cut_after pointers))
    (Err ReplyText)

unfoldable pub read_name : List ℕ → ℕ → Try (Read WalkedName)
read_name s at = read_name_from (steps s) s at at 0 0
