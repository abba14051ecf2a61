use Rattle.std.proofs.Common.{◌≡◌, ℕ, Bool, ◌||◌, List, [], ◌∷◌, refl, ap, ◌∙◌, rules}
use Rattle.std.specs.List.{list_any}
use Rattle.std.proofs.lemmas.Iterator.{YieldsList-from_slice}
use Rattle.std.proofs.lemmas.Iterator.Search.{any_from_yields_List}
use Rattle.octets.specs.Lists.{any}
use Rattle.table_records.proofs.alike.any_alike.Goals as goal

same_any : (p : ℕ → Bool) (s : List ℕ) → list_any p s ≡ any p s
unfolding any
same_any p [] = refl
same_any p (x ∷ s) = ap (λ (b : Bool). p x || b) (same_any p s)

pub returns : goal.returns
returns g c =
    let test = g.R.Alike.alike c.args.records.now c.args.p in
    let s = c.args.offsets.now in
    any_from_yields_List test _ _ _ c.any.ensures.ran (YieldsList-from_slice s cc) (λ x b q k. search rules) ∙ same_any test s
