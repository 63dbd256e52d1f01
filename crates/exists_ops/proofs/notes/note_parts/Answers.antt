-- One part more, and all.
use Rattle.std.proofs.Common.{◌≡◌, ◌∙◌, ◌++◌, List, [], sym, subst, arith}
use Rattle.vtl_values.specs.declared.value.Value.{Value}
use Rattle.held_index.specs.Drafts.{SetDraft}
use Rattle.exists_ops.specs.Noted.{differ, IsNoted}
use Rattle.exists_ops.specs.Parts.{has_part, has_part_after}
use Rattle.exists_ops.specs.Walked.{keys_in}
use Rattle.exists_ops.specs.declared.parts.Shift.{Shift}
use Rattle.exists_ops.proofs.Noting.{popped-met, still-kept, part-turned, part-stays, cost-first, no-parts, none-left}
use Rattle.exists_ops.proofs.notes.note_parts.Goals as goal
use Rattle.exists_ops.proofs.notes.note_parts.Goals.{then-turns+in_ok-note_part, else-turns}

pub loop-part-preserved : goal.loop-part-preserved
loop-part-preserved g c =
    let a = c.args.left.now in
    let b = c.args.right.now in
    let part : List Value = c.in-Some.part in
    let shift : Shift = c.in-Some.shift in
    let removal = c.in-Some.ensures.removal in
    let there = c.loop-part.invariant.kept part shift c.in-Some.ensures.value in
    let turning : c.turns.result ≡ differ (has_part b.want b.content part) (has_part_after b.want b.content part shift) = c.turns.ensures ∙ (λ i. differ (c.of-met.ensures.was i) (c.of-met.ensures.is i)) in
    let costs = cost-first a b part shift c.loop-part.shifts.entries c.pop_first.new.self.entries removal in
    let before = c.loop-part.invariant.steps in
    let look = c.of-met.ensures.steps in
    record {
      kept = λ q s at. c.loop-part.invariant.kept q s (still-kept c.loop-part.shifts c.pop_first.new.self part q s c.in-Some.ensures.updates.0 at);
      noted = λ e f for kept ks start.
          let earlier = c.loop-part.invariant.noted e f for kept ks start in
          let met = popped-met e c.args.told.now a b c.args.own.now f for c.args.shifts kept part shift c.of-met.result there c.of-met.ensures.was c.of-met.ensures.is in
          elim c.if-turns.branch [
            | then-turns+in_ok-note_part w ↦ (
              earlier.0 ++ keys_in a part,
              subst (λ (n : SetDraft). IsNoted e a.content b.content c.args.own.now f (earlier.0 ++ keys_in a part) n) (sym w.draft-is) (w.in_ok-note_part.ensures.noted e b f for met earlier.0 earlier.1),
              part-turned a b part shift c.loop-part.shifts.entries c.pop_first.new.self.entries earlier.0 _ removal (sym turning ∙ w.if-turns.true) earlier.2,
            )
            | else-turns w ↦ (
              earlier.0,
              subst (λ (n : SetDraft). IsNoted e a.content b.content c.args.own.now f earlier.0 n) (sym w.draft-is) earlier.1,
              part-stays a b part shift c.loop-part.shifts.entries c.pop_first.new.self.entries earlier.0 _ removal (sym turning ∙ w.if-turns.false) earlier.2,
            )
          ];
      steps = elim c.if-turns.branch [
        | then-turns+in_ok-note_part w ↦ let is = w.steps-is in let walk = w.in_ok-note_part.ensures.steps in omega (arith, is, walk, look, before, costs)
        | else-turns w ↦ let is = w.steps-is in omega (arith, is, look, before, costs)
      ];
    }

pub returns-clause-noted : goal.returns-clause-noted
returns-clause-noted g c = λ e f for kept ks start.
    let a = c.args.left.now in
    let b = c.args.right.now in
    let all = c.loop-part.invariant.noted e f for kept ks start in
    let none : c.loop-part.shifts.entries ≡ [] = none-left c.loop-part.shifts.entries c.in_default.ensures.variant.1 in
    subst (λ (js : List (List Value)). IsNoted e a.content b.content c.args.own.now f js c.loop-part.draft) (no-parts a b c.loop-part.shifts.entries all.0 _ none all.2) all.1
