-- What the rule of a left or full join notes.
use Rattle.std.specs.Prelude.{List, [], map, zip, flat_map, false, Option}
use Rattle.std.specs.FinMap.{keys}
use Rattle.vtl_values.specs.declared.structure.Component.{Component}
use Rattle.vtl_values.specs.declared.value.Value.{Value}
use Rattle.vtl_values.specs.Order.{key_cmp}
use Rattle.data_model.specs.Drafts.{note_value, IsDraft}
use Rattle.point_sets.specs.DataSets.{DataSet}
use Rattle.point_sets.specs.Changes.{Changes, values_eq}
use Rattle.held_index.specs.Drafts.{SetDraft}
use Rattle.held_index.specs.Holdings.{Holding, contents}
use Rattle.held_index.specs.Rules.{after_news}
use Rattle.operator_meaning.specs.joins.Joins.{JoinOn, points_at, join_key, joined_point}

-- what the join makes of what the operands have at a key
abbrev pub value_at : JoinOn → List DataSet → List Value → Option (List Value)
value_at j sets key = joined_point j (points_at j sets key)

-- what the result had at a key and has there after the news is noted
abbrev pub noted_key : JoinOn → List Holding → List Changes → List Value → SetDraft → SetDraft
noted_key j held news key n =
    note_value values_eq key (value_at j (contents held) key) (value_at j (after_news news (contents held)) key) n

-- these keys are noted
abbrev pub IsNoted : JoinOn → List Holding → List Changes → List (List Value) → SetDraft → Type 0
IsNoted j held news ks n =
    IsDraft {R = key_cmp} (λ key. false) [] (value_at j (contents held)) (value_at j (after_news news (contents held))) ks n

-- the keys of the join that the changes of operands with these structures come to
abbrev pub all_keys_of : JoinOn → List (List Component) → List Changes → List (List Value)
all_keys_of j structures news = flat_map (λ q. map (join_key j q.0) (keys q.1)) (zip structures news)
