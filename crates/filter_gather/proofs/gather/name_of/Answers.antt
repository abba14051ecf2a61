use mathlib.Core.Path.{◌≡◌, sym, ap, ◌∙◌}
use Prim.Native.Nat.{ℕ, ◌≤◌, ◌<◌}
use Rattle.std.proofs.Common.{Some, get_or}
use Rattle.filter.specs.declared.request.ClauseName.TheVariants.{DnsDomain}
use Rattle.filter.specs.Request.{clause_names}
use Rattle.filter_gather.specs.Internal.Gather.{name_spelled}
use Rattle.filter_gather.specs.Internal.Seen.{place_as}
use Rattle.filter_gather.proofs.Laws.Letters.{spelled_whole}
use Rattle.filter_gather.proofs.Laws.Seen.{place_none, place_some}
use Rattle.filter_gather.proofs.gather.name_of.Goals as goal

pub returns-then-place-ge-CLAUSE_COUNT : goal.returns-then-place-ge-CLAUSE_COUNT
returns-then-place-ge-CLAUSE_COUNT c =
    let o = name_spelled c.args.s.now in
    let h : 8 ≤ place_as o = rw (c.place_spelled-place.ensures ∙ spelled_whole c.args.s.now) at c.if-place-ge-CLAUSE_COUNT.true in
    sym (place_none o h)

pub returns : goal.returns
returns c =
    let o = name_spelled c.args.s.now in
    let p = c.place_spelled-place.ensures ∙ spelled_whole c.args.s.now in
    let h : place_as o < 8 = rw p at c.if-place-ge-CLAUSE_COUNT.false in
    let e : Some (get_or clause_names c.place_spelled-place.result DnsDomain) ≡ o = ap (λ (i : ℕ). Some (get_or clause_names i DnsDomain)) p ∙ sym (place_some o h) in
    e
