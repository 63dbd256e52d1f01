-- What the rule of a cross join notes.
use Rattle.std.specs.Prelude.{List, ◌++◌, flat_map, map}
use Rattle.data_model.specs.Drafts.{note_value}
use Rattle.point_sets.specs.Changes.{Changes, values_eq}
use Rattle.held_index.specs.Drafts.{SetDraft}
use Rattle.held_index.specs.Holdings.{Holding}
use Rattle.operator_meaning.specs.joins.Joins.{JoinOn, joined_point}
use Rattle.cross_joins.specs.Combinations.{Combination, changed_combinations}
use Rattle.cross_joins.specs.Rows.{all_rows}
use Rattle.cross_joins.specs.declared.rows.Side.TheVariants.{Before, After}

-- what the join had at a combination's key and has there after the news is noted
abbrev pub noted_combination : JoinOn → SetDraft → Combination → SetDraft
noted_combination j n c = note_value values_eq (flat_map (λ r. r.key) c) (joined_point j (map (λ r. r.before) c)) (joined_point j (map (λ r. r.after) c)) n

-- the combinations in which a row is changed: of the points before the news, and of those after them
abbrev pub all_combinations : List Holding → List Changes → List Combination
all_combinations held news = changed_combinations Before (all_rows held news) ++ changed_combinations After (all_rows held news)
