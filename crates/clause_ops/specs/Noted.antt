-- What the rule of a clause notes.
use Rattle.std.specs.Prelude.{List, [], ◌∷◌, ◌++◌, Option, option_and_then, if◌then◌else◌, flat_map}
use Rattle.vtl_values.specs.declared.value.Value.{Value}
use Rattle.vtl_values.specs.declared.value.Value.TheVariants.{Text}
use Rattle.vtl_values.specs.declared.structure.Component.{Component}
use Rattle.vtl_values.specs.Order.{key_cmp}
use Rattle.data_model.specs.Deltas.{apply}
use Rattle.data_model.specs.Drafts.{note_beyond, note_value, IsDraft}
use Rattle.point_sets.specs.DataSets.{DataSet}
use Rattle.point_sets.specs.Changes.{Changes, values_eq, values_of}
use Rattle.point_sets.specs.declared.delta.Change.{Change}
use Rattle.data_set_trees.specs.declared.clauses.frame.Frame.{Frame}
use Rattle.data_set_trees.specs.declared.clauses.clause.CheckedClause.{CheckedClause}
use Rattle.clause_meaning.specs.Clauses.{measure_point, working_of}
use Rattle.clause_eval.specs.Points.{keys_from, is_beyond_at, values_at_key}
use Rattle.held_index.specs.Drafts.{SetDraft}

-- what the result had and has at these keys is noted
abbrev pub noted_at : (List Value → Option (List Value)) → (List Value → Option (List Value)) → List (List Value) → SetDraft → SetDraft
noted_at old new [] n = n
noted_at old new (k ∷ ks) n = noted_at old new ks (note_value values_eq k (old k) (new k) n)

-- what the result has of a measure of the point that may be at a key
abbrev pub measure_value_at : Frame → Component → List Value → Option (List Value) → Option (List Value)
measure_value_at frame measure key point = option_and_then (λ rest. measure_point frame (key ++ rest) (Text measure.name)) point

-- a change of the operand is noted: that the clause is out of range at its new point; or what the result had and has at the keys at which its points count
abbrev pub noted_change : CheckedClause → Frame → Change → SetDraft → SetDraft
noted_change clause frame c n =
    if is_beyond_at clause c.key (values_of c.new) then note_beyond c.key n
    else noted_at (values_at_key clause frame c.key (values_of c.old)) (values_at_key clause frame c.key (values_of c.new)) (keys_from clause frame c.key) n

-- these keys of an operand a with news d are noted
abbrev pub IsNoted : CheckedClause → Frame → Changes → DataSet → List (List Value) → SetDraft → Type 0
IsNoted clause frame d a ks n =
    IsDraft {R = key_cmp} (working_of clause frame (apply d a)).beyond ks (working_of clause frame a).value (working_of clause frame (apply d a)).value (flat_map (keys_from clause frame) ks) n
