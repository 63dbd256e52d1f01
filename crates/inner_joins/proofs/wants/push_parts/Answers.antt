use Rattle.std.proofs.Common.{◌≡◌, ap, ◌∙◌}
use Rattle.data_set_trees.specs.Components.{identifiers}
use Rattle.held_index.specs.Wants.{in_parts}
use Rattle.operator_meaning.specs.joins.Joins.{JoinOn, numbers_among}
use Rattle.join_eval.specs.Plans.{structure_of}
use Rattle.inner_joins.specs.Rules.{main_number, number_at, parts_for, partner_numbers}
use Rattle.inner_joins.proofs.Wanted.{wants-more}
use Rattle.inner_joins.proofs.wants.push_parts.Goals as goal

pub loop-place-preserved : goal.loop-place-preserved
loop-place-preserved c =
    let j : JoinOn = c.args.plan.now in
    let main : c.main-main.result ≡ main_number j = c.main-main.ensures.number in
    let number : c.number_at-number.result ≡ number_at (main_number j) c.loop-place.place = c.number_at-number.ensures ∙ ap (λ m. number_at m c.loop-place.place) main in
    let joined : c.join.result.now ≡ j = c.join.ensures.join in
    let numbers : c.in_ok-numbers.numbers ≡ partner_numbers j (number_at (main_number j) c.loop-place.place) =
    c.in_ok-numbers.ensures ∙ (λ i. numbers_among (identifiers (structure_of (joined i) (main i))) (identifiers (structure_of (joined i) (number i)))) in
    wants-more (parts_for j) (main_number j) c.loop-place.place c.args.wants.now c.loop-place.wants c.push.new.self c.in_parts.result c.loop-place.invariant c.in_ok-push.ensures.ok
    (c.in_parts.ensures ∙ (λ i. in_parts (main i) (numbers i)))
