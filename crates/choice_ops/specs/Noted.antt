-- What the rule of a conditional notes.
use Rattle.std.specs.Prelude.{◌≡◌, ◌++◌, ◌+◌, ℕ, List, [], ◌∷◌, map, slice_get, Option, option_and_then}
use Rattle.std.specs.FinMap.{get, keys}
use Rattle.vtl_values.specs.declared.value.Value.{Value}
use Rattle.vtl_values.specs.Order.{key_cmp}
use Rattle.data_model.specs.Deltas.{Pair, after}
use Rattle.data_model.specs.Drafts.{note_key, IsDraft}
use Rattle.point_sets.specs.DataSets.{DataSet}
use Rattle.point_sets.specs.Changes.{Changes, values_eq}
use Rattle.held_index.specs.Drafts.{SetDraft}
use Rattle.held_index.specs.Holdings.{Holding, contents}
use Rattle.operator_meaning.specs.choices.Choices.{ChoiceOn, set_at, condition_key, choice_working}

-- the change of a key in the news of the operand with this number
abbrev pub change_at : List Changes → ℕ → List Value → Option (Pair (List Value))
change_at news n key = option_and_then (λ d. get d key) (slice_get news n)

-- the data sets have at each key what is held, after these news
abbrev pub Sees : List Holding → List Changes → List DataSet → Type 0
Sees held news sets = (n : ℕ) (key : List Value) → get (set_at sets n) key ≡ after (change_at news n key) (get (set_at (contents held) n) key)

-- what the result had at a key, and what it has there or that it is out of range
abbrev pub noted_at : ChoiceOn → List DataSet → List DataSet → List Value → SetDraft → SetDraft
noted_at c old new key n = note_key values_eq key ((choice_working c new).beyond key) ((choice_working c old).value key) ((choice_working c new).value key) n

-- the keys of the result at which the changes of operands count, the first of which has this number
abbrev pub keys_from : ChoiceOn → ℕ → List Changes → List (List Value)
keys_from c n [] = []
keys_from c n (d ∷ ds) = map (condition_key c n) (keys d) ++ keys_from c (n + 1) ds

-- these keys are noted, from the one list of data sets to the other
abbrev pub IsNoted : ChoiceOn → List DataSet → List DataSet → List (List Value) → SetDraft → Type 0
IsNoted c old new ks n = IsDraft {R = key_cmp} (choice_working c new).beyond ks (choice_working c old).value (choice_working c new).value ks n
