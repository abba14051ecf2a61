use Rattle.std.proofs.Common.{◌≡◌, ℕ, ◌+◌, ◌-◌, ◌≤◌, Bool, List, get_or, length, take, drop, sym, ap, ◌∙◌, arith}
use Rattle.octets.specs.Lists.{any}
use Rattle.octets.proofs.Laws.Lists.{cut_rest, unique_fails, unique-next, unique-end}
use Rattle.table_records.proofs.alike.all_unique.Goals as goal

-- what was found of all that are left, as a part from i + 1 on
those_left : (alike : ℕ → Bool) (s : List ℕ) (i : ℕ) (b : Bool) → b ≡ any alike (take (length s - (i + 1)) (drop (i + 1) s)) → (r : Bool) → b ≡ r → any alike (drop (i + 1) s) ≡ r
those_left alike s i b found r e = let all : length s - (i + 1) ≤ length s - (i + 1) = omega arith in ap (any alike) (sym (cut_rest s (i + 1) (length s - (i + 1)) all)) ∙ sym found ∙ e

pub returns-then-any_alike : goal.returns-then-any_alike
returns-then-any_alike g c =
    let l = c.loop-i in
    let s = c.args.offsets.now in
    let alike = g.R.Alike.alike c.args.records.now in
    unique_fails alike s l.i 0 (omega arith) (those_left (alike (get_or s l.i 0)) s l.i _ c.any_alike.ensures _ c.if-any_alike.true) ∙ l.invariant

pub loop-i-preserved : goal.loop-i-preserved
loop-i-preserved g c =
    let l = c.loop-i in
    let s = c.args.offsets.now in
    let alike = g.R.Alike.alike c.args.records.now in
    unique-next alike s l.i 0 (omega arith) (those_left (alike (get_or s l.i 0)) s l.i _ c.any_alike.ensures _ c.if-any_alike.false) ∙ l.invariant

pub returns : goal.returns
returns g c = let l = c.loop-i in unique-end (g.R.Alike.alike c.args.records.now) c.args.offsets.now l.i (omega arith) ∙ l.invariant
