-- What the rule of a set operator notes.
use Rattle.std.specs.Prelude.{List, [], map, zip, flat_map, false, Option}
use Rattle.std.specs.FinMap.{keys}
use Rattle.vtl_values.specs.declared.value.Value.{Value}
use Rattle.vtl_values.specs.Order.{key_cmp}
use Rattle.data_model.specs.Drafts.{note_value, IsDraft}
use Rattle.point_sets.specs.DataSets.{DataSet}
use Rattle.point_sets.specs.Changes.{Changes, values_eq}
use Rattle.held_index.specs.Drafts.{SetDraft}
use Rattle.held_index.specs.Holdings.{Holding, contents}
use Rattle.held_index.specs.Rules.{after_news}
use Rattle.clause_meaning.specs.Clauses.{values_at}
use Rattle.data_set_trees.specs.declared.tree.SetOperation.{SetOperation}
use Rattle.operator_meaning.specs.sets.Sets.{chosen}
use Rattle.set_ops.specs.Readings.{read_points}
use Rattle.set_ops.specs.declared.reading.Reading.{Reading}

-- what the result has at a key, as the operands are read
abbrev pub read_value : SetOperation → List Reading → List DataSet → List Value → Option (List Value)
read_value operation readings sets key = chosen operation (read_points readings sets key)

-- what the result had at a key and has there after the news is noted
abbrev pub noted_key : SetOperation → List Reading → List Holding → List Changes → List Value → SetDraft → SetDraft
noted_key operation readings held news key n =
    note_value values_eq key (read_value operation readings (contents held) key) (read_value operation readings (after_news news (contents held)) key) n

-- these keys are noted
abbrev pub IsNoted : SetOperation → List Reading → List Holding → List Changes → List (List Value) → SetDraft → Type 0
IsNoted operation readings held news ks n =
    IsDraft {R = key_cmp} (λ key. false) [] (read_value operation readings (contents held)) (read_value operation readings (after_news news (contents held))) ks n

-- the keys of the result that the changes of an operand come to
abbrev pub keys_read : Reading → Changes → List (List Value)
keys_read reading d = map (values_at reading.key) (keys d)

-- those of all operands
abbrev pub all_keys_read : List Reading → List Changes → List (List Value)
all_keys_read readings news = flat_map (λ q. keys_read q.0 q.1) (zip readings news)
