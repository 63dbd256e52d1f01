-- The drafts of rules, over data sets.
use Rattle.std.specs.Prelude.{List}
use Rattle.std.specs.Coded.{Coded}
use Rattle.vtl_values.specs.declared.value.Value.{Value}
use Rattle.vtl_values.specs.Order.{key_cmp}
use Rattle.data_model.specs.Drafts.{Draft, coded_draft}
use Rattle.point_sets.specs.DataSets.{values_coded}

-- what a rule has noted of data sets
abbrev pub SetDraft : Type 0
SetDraft = Draft key_cmp (List Value)

abbrev pub set_draft_coded : Coded SetDraft
set_draft_coded = coded_draft values_coded values_coded
