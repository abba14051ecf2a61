use mathlib.Core.Path.{sym, ap, ◌∙◌}
use mathlib.Core.Bool.{Bool, cond}
use Rattle.octets.specs.Text.{lower}
use Rattle.filter_gather.proofs.Laws.Letters.{placed_3, placed_4, placed_5, placed_9, placed_10, placed_11, placed_none}
use Rattle.filter_gather.proofs.letters.place_spelled.Goals as goal

pub returns-then-len-eq3 : goal.returns-then-len-eq3
unfolding lower
returns-then-len-eq3 c = c.place_if.ensures ∙ ap (λ (b : Bool). cond b 4 8) c.are_letters.ensures ∙ sym (placed_3 c.args.s.now c.args.name.start c.args.name.len c.requires c.if-len-eq3.true)

pub returns-then-are_letters : goal.returns-then-are_letters
unfolding lower
returns-then-are_letters c = rw (placed_4 c.args.s.now c.args.name.start c.args.name.len c.requires c.if-len-eq4.true, sym c.are_letters-then-len-eq4.ensures ∙ c.if-are_letters.true)

pub returns-then-len-eq4 : goal.returns-then-len-eq4
unfolding lower
returns-then-len-eq4 c =
    rw (placed_4 c.args.s.now c.args.name.start c.args.name.len c.requires c.if-len-eq4.true, sym c.are_letters-then-len-eq4.ensures ∙ c.if-are_letters.false)
    (c.place_if-then-len-eq4.ensures ∙ ap (λ (b : Bool). cond b 3 8) c.are_letters-then-len-eq4-2.ensures)

pub returns-then-len-eq5 : goal.returns-then-len-eq5
unfolding lower
returns-then-len-eq5 c = c.place_if-then-len-eq5.ensures ∙ ap (λ (b : Bool). cond b 7 8) c.are_letters-then-len-eq5.ensures ∙ sym (placed_5 c.args.s.now c.args.name.start c.args.name.len c.requires c.if-len-eq5.true)

pub returns-then-are_letters-2 : goal.returns-then-are_letters-2
unfolding lower
returns-then-are_letters-2 c = rw (placed_9 c.args.s.now c.args.name.start c.args.name.len c.requires c.if-len-eq9.true, sym c.are_letters-then-len-eq9.ensures ∙ c.if-are_letters-2.true)

pub returns-then-len-eq9 : goal.returns-then-len-eq9
unfolding lower
returns-then-len-eq9 c =
    rw (placed_9 c.args.s.now c.args.name.start c.args.name.len c.requires c.if-len-eq9.true, sym c.are_letters-then-len-eq9.ensures ∙ c.if-are_letters-2.false)
    (c.place_if-then-len-eq9.ensures ∙ ap (λ (b : Bool). cond b 5 8) c.are_letters-then-len-eq9-2.ensures)

pub returns-then-len-eq10 : goal.returns-then-len-eq10
unfolding lower
returns-then-len-eq10 c = c.place_if-then-len-eq10.ensures ∙ ap (λ (b : Bool). cond b 6 8) c.are_letters-then-len-eq10.ensures ∙ sym (placed_10 c.args.s.now c.args.name.start c.args.name.len c.requires c.if-len-eq10.true)

pub returns-then-len-eq11 : goal.returns-then-len-eq11
unfolding lower
returns-then-len-eq11 c = c.place_if-then-len-eq11.ensures ∙ ap (λ (b : Bool). cond b 2 8) c.are_letters-then-len-eq11.ensures ∙ sym (placed_11 c.args.s.now c.args.name.start c.args.name.len c.requires c.if-len-eq11.true)

pub returns : goal.returns
returns c =
    sym (placed_none c.args.s.now c.args.name.start c.args.name.len c.requires c.if-len-eq3.false c.if-len-eq4.false c.if-len-eq5.false c.if-len-eq9.false c.if-len-eq10.false c.if-len-eq11.false)
