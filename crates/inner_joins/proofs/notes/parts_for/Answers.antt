-- The place is within what is held.
use Rattle.std.proofs.Common.{rules, ◌≡◌, ◌<◌, ◌+◌, length, get_or, subst, ap, ◌∙◌}
use Rattle.inner_joins.specs.Rules.{main_number, place_of}
use Rattle.inner_joins.proofs.Places.{parts-held, parts-place-held}
use Rattle.inner_joins.proofs.notes.parts_for.Goals as goal
use Rattle.inner_joins.proofs.notes.parts_for.Goals.{After-others}

main-there : (c : After-others) → main_number c.args.plan.now < length c.args.plan.now.operands
main-there c = subst (λ m. m < length c.args.plan.now.operands) c.main.ensures.number c.main.ensures.within

its-place : (c : After-others) → c.place_of-place.result ≡ place_of (main_number c.args.plan.now) c.args.number
its-place c = c.place_of-place.ensures ∙ ap (λ m. place_of m c.args.number) c.main.ensures.number

within : (c : After-others) → c.others.result + c.place_of-place.result < length c.args.held.now
within c = parts-place-held c.args.plan.now c.args.held.now c.requires.held c.args.number (main-there c) c.requires.number c.requires.other c.others.result c.place_of-place.result c.others.ensures (its-place c)

pub overflow_add-at : goal.overflow_add-at
overflow_add-at c = let inside = within (goal.at.overflow_add-at c).After-others in search rules

pub offset_bounds-held-at : goal.offset_bounds-held-at
offset_bounds-held-at c = let inside = within (goal.at.offset_bounds-held-at c).After-others in search rules

pub bounds-held-at : goal.bounds-held-at
bounds-held-at c = within (goal.at.bounds-held-at c).After-others

pub returns : goal.returns
returns c =
    let j = c.args.plan.now in
    let held = c.args.held.now in
    let at = (goal.at.returns c).After-others in
    parts-held j held c.requires.held c.args.number (main-there at) c.requires.number c.requires.other c.index-held-at.result
    (c.index-held-at.is ∙ (λ i. get_or held (c.others.ensures i + its-place at i) c.index-held-at.result))
