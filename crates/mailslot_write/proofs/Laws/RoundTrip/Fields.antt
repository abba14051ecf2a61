-- Fields of a message that were written, read back where they stand.
use Rattle.std.proofs.Common.{Ok}
use mathlib.Core.Path.{◌≡◌, refl, ap, ◌∙◌, subst}
use mathlib.Core.Bool.{true}
use mathlib.Core.List.{List, [], ◌∷◌, ◌++◌, append_assoc}
use Prim.Native.Nat.{ℕ, ◌+◌}
use native.Mathlib.Omega.{arith}
use lib.Dec.{eqb, leb}
use lib.ListN.{length, drop, replicate, length-append, length-replicate}
use lib.Seq.{drop_at}
use Rattle.answers.specs.Try.{Try}
use Rattle.octets.specs.{Lists.all, Number.little_octets}
use Rattle.octets.proofs.Laws.Lists.{both_right}
use Rattle.octets.specs.declared.part.Stretch.{Stretch}
use Rattle.octets.specs.Stretch.{stretch_of}
use Rattle.reader.specs.declared.field.Read.{Read}
use Rattle.reader.specs.Text.{read_text}
use Rattle.reader.proofs.Laws.Field.{Left, left_after, left-next, left_cut, left-length, octets_here, stretch_here}
use Rattle.reader.proofs.Laws.Text.{text-after}
use Rattle.mailslot.specs.{Internal.Runs.of_name, Internal.Shape.sid_padding}
use Rattle.mailslot.specs.Message.{is_text16, is_mailslot_name, before_zero, read_zero_ended, read_sid, padded_sid}
use Rattle.mailslot.proofs.Laws.Ends.{name-before}
use Rattle.mailslot.proofs.Laws.Sid.{sid_there}
use Rattle.mailslot_write.proofs.Laws.Size.{padded-sid}
use Rattle.mailslot_write.proofs.Laws.Text16.{text16_here}

-- `reading` gives a stretch with just these octets, and what is left comes after it
pub record Back (s : List ℕ) (reading : Try (Read Stretch)) (octets rest : List ℕ) : Type 0 where
  pub at : Stretch
  pub next : ℕ
  pub reads : reading ≡ Ok (record { value = at; next = next })
  pub stretch : stretch_of s at ≡ octets
  pub left : Left s next rest

module _ {s : List ℕ} {at : ℕ} where
  pub text-back : (t rest : List ℕ) → is_text16 t ≡ true → Left s at (t ++ (little_octets 2 0 ++ rest)) → Back s (read_text s at) t rest
  text-back t rest e l =
      record {
        at = record { start = at; len = length t };
        next = at + length t + 2;
        reads = text16_here t rest e l;
        stretch = left_cut t (little_octets 2 0 ++ rest) l;
        left = text-after t rest l;
      }

  pub name_back : (name rest : List ℕ) → is_mailslot_name name ≡ true → Left s at (name ++ ((0 ∷ []) ++ rest)) → Back s (read_zero_ended s at) name rest
  unfolding read_zero_ended is_mailslot_name
  name_back name rest e l =
      let d : drop at s ≡ name ++ (0 ∷ rest) = ap (drop at) l.whole ∙ drop_at l.front (name ++ (0 ∷ rest)) at l.offset in
      let n : before_zero (drop at s) ≡ name = ap before_zero d ∙ name-before name rest (both_right (leb (length name) 64) (all of_name name) e) in
      let zero_left : Left s (at + length name) ((0 ∷ []) ++ rest) = left_after name ((0 ∷ []) ++ rest) l in
      record {
        at = record { start = at; len = length name };
        next = at + length name + 1;
        reads = rw (n, stretch_here name ((0 ∷ []) ++ rest) (length name) refl l, octets_here (0 ∷ []) rest 1 refl zero_left);
        stretch = left_cut name ((0 ∷ []) ++ rest) l;
        left = left-next (0 ∷ []) rest 1 refl zero_left;
      }

  -- the SID after its padding
  pub sid-back : (sid rest : List ℕ) → Left s at (padded_sid at sid ++ rest) → Back s (read_sid (eqb (length sid) 0) (length sid) s at) sid rest
  sid-back sid rest l =
      let size : ℕ = length sid in
      let gap : ℕ = sid_padding size at in
      let zeros : List ℕ = replicate gap 0 in
      let p : Left s at (zeros ++ (sid ++ rest)) = subst (Left s at) (ap (λ (x : List ℕ). x ++ rest) (padded-sid at sid) ∙ append_assoc zeros sid rest) l in
      let q : Left s (at + gap) (sid ++ rest) = left-next zeros (sid ++ rest) gap (length-replicate gap 0) p in
      let n : length s ≡ at + gap + (size + length rest) = left-length (sid ++ rest) q ∙ simp length-append in
      record {
        at = record { start = at + gap; len = size };
        next = at + gap + size;
        reads = sid_there s at size (omega arith);
        stretch = left_cut sid rest q;
        left = left_after sid rest q;
      }
