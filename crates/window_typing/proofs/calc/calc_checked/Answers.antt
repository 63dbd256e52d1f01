use Rattle.std.proofs.Common.{◌≡◌, List, map, Ok, ap, sym, subst, ◌∙◌}
use Rattle.std.specs.List.{All}
use Rattle.vtl_values.specs.Structures.{IsStructure}
use Rattle.data_set_trees.specs.declared.clauses.clause.CheckedItem.{CheckedItem}
use Rattle.data_set_trees.specs.declared.clauses.frame.Frame.{Frame}
use Rattle.data_set_trees.specs.clauses.Clauses.{calc_typed}
use Rattle.operator_typing.proofs.Steps.{goes_on}
use Rattle.data_set_trees.specs.declared.windows.analytic.CheckedWindow.TheVariants as window
use Rattle.data_set_trees.specs.windows.Results.{after, as_item}
use Rattle.data_set_trees.specs.windows.Windows.{IsItemOf, calc_checked}
use Rattle.data_set_trees.proofs.windows.Made.{calc_gives_structures}
use Rattle.window_typing.proofs.calc.calc_checked.Goals as goal

pub returns-clause-structure : goal.returns-clause-structure
returns-clause-structure c =
    let place = c.args.place in
    let frame = c.args.frame.now in
    let items = c.args.items in
    let cs = frame.components in
    let done = window.Calc items in
    let plain : c.in_ok-plain.plain ≡ map as_item items = c.in_ok-plain.ensures ∙ ap (map as_item) c.as_slice.ensures in
    let typed : calc_typed place (map as_item items) frame ≡ Ok c.in_ok-calc_typed.field-0 = ap (λ (q : List CheckedItem). calc_typed place q frame) (sym plain) ∙ c.in_ok-calc_typed.ensures.ok in
    let checked : calc_checked place items frame ≡ Ok done = goes_on (calc_typed place (map as_item items) frame) (λ met. Ok done) c.in_ok-calc_typed.field-0 typed in
    λ on is all.
    subst (λ (f : Frame). IsStructure (after done f).components) (sym on)
    (calc_gives_structures place items cs done is (subst (λ (f : Frame). All (IsItemOf f) items) on all) (subst (λ (f : Frame). calc_checked place items f ≡ Ok done) on checked))
