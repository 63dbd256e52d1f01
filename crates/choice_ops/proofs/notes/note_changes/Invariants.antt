use Rattle.std.proofs.Common.{List, ◌+◌, ◌*◌, ◌≤◌, ◌++◌, length, map, min, take}
use Rattle.std.specs.Arc.{arc_value}
use Rattle.vtl_values.specs.declared.value.Value.{Value}
use Rattle.point_sets.specs.DataSets.{DataSet}
use Rattle.point_sets.specs.Changes.{change_entry}
use Rattle.held_index.specs.Holdings.{AllPlain, contents}
use Rattle.operator_meaning.specs.choices.Choices.{condition_key}
use Rattle.choice_ops.specs.Plans.{choice_in}
use Rattle.choice_ops.specs.Noted.{Sees, IsNoted}
use Rattle.choice_ops.proofs.notes.note_changes.Given as goal

-- the keys of the changes so far are noted too, with three looks for each
abbrev pub invariant-loop-change : goal.invariant-loop-change
invariant-loop-change g l = record {
  noted : ((sets : List DataSet) → AllPlain l.held → Sees l.held (map arc_value l.news) sets → (ks : List (List Value)) → IsNoted (choice_in l.plan) (contents l.held) sets ks l.fn.draft
      → IsNoted (choice_in l.plan) (contents l.held) sets (ks ++ map (condition_key (choice_in l.plan) l.number) (map (λ f. f.0) (take l.change-index (map change_entry l.change-items)))) l.draft);
  steps : l.steps ≤ l.fn.steps + 6 * min l.change-index (length l.change-items);
}
