-- What a call that writes promises to return, by what it returns.
use Rattle.std.proofs.Common.{◌≡◌, refl, ap, ◌∙◌, List, ℕ, length, Ok, Err}
use Rattle.std.specs.Result.{result_unwrap_or}
use Rattle.answers.specs.Try.{Try, number_of}
use Rattle.answers.specs.Written.{written_as, written_octets, WrittenOf}

-- beside what it leaves
pub written_promised : {Left : Type 0} (o : Try (List ℕ)) (r : Try ℕ) → (r ≡ written_as o) × Left → WrittenOf o r × Left
written_promised o r (e, left) = (record { same = e; numbered = ap number_of e ∙ numbers o; sized = ap (λ t. result_unwrap_or t 0) e ∙ sizes o }, left)
  where
    numbers : (t : Try (List ℕ)) → number_of (written_as t) ≡ number_of t
    numbers (Err x) = refl
    numbers (Ok octets) = refl

    sizes : (t : Try (List ℕ)) → result_unwrap_or (written_as t) 0 ≡ length (written_octets t)
    sizes (Err x) = refl
    sizes (Ok octets) = refl
