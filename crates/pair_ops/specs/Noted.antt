-- What a rule on two data sets notes.
use Rattle.std.specs.Prelude.{ℕ, ◌+◌, ◌*◌, ◌++◌, List, Option, Some, fold, length, if◌then◌else◌, option_map}
use Rattle.std.specs.List.{sum_by}
use Rattle.std.specs.Option.{option_zip}
use Rattle.std.specs.FinMap.{get}
use Rattle.vtl_values.specs.declared.value.Value.{Value}
use Rattle.data_model.specs.Deltas.{Pair, after}
use Rattle.data_model.specs.Drafts.{note_key}
use Rattle.point_sets.specs.DataSets.{DataSet}
use Rattle.point_sets.specs.Changes.{Changes, values_eq}
use Rattle.held_index.specs.Drafts.{SetDraft}
use Rattle.held_index.specs.Holdings.{Holding, part_of}
use Rattle.held_index.specs.Walks.{PointValues}
use Rattle.operator_meaning.specs.pairs.Pairs.{PairOn, is_left_main, partner_key, result_key}
use Rattle.pair_eval.specs.Made.{AllValues, is_beyond, value_of}

-- a change's key, and the values after the key before and after
abbrev pub ChangeValues : Type 0
ChangeValues = List Value × Pair (List Value)

-- of what the main operand and the other one have: what the first and the second have, where both have something
abbrev pub in_turn : PairOn → Option (List Value) → Option (List Value) → AllValues
in_turn p main partner = if is_left_main p then option_zip main partner else option_zip partner main

-- all values of the points at these keys of the main operand and of the other one, where both are there
abbrev pub met : PairOn → List Value → List Value → Option (List Value) → Option (List Value) → AllValues
met p key partner_key main partner = in_turn p (option_map (λ rest. key ++ rest) main) (option_map (λ rest. partner_key ++ rest) partner)

-- at a key of the result it is noted what was made of the points that were there, and what is of those that are there now
abbrev pub noted_met : PairOn → List Value → AllValues → AllValues → SetDraft → SetDraft
noted_met p key was is n = note_key values_eq key (is_beyond p is) (value_of p was) (value_of p is) n

-- a change of the main operand is noted, where the other operand is q with the news e
abbrev pub noted_main : PairOn → DataSet → Changes → SetDraft → ChangeValues → SetDraft
noted_main p q e n c =
    let key : List Value = partner_key p c.0 in
    noted_met p (result_key p c.0) (met p c.0 key c.1.0 (get q key)) (met p c.0 key c.1.1 (after (get e key) (get q key))) n

-- a change of the other operand is noted for a point of the main one, which has the news d
abbrev pub noted_point : PairOn → Changes → ChangeValues → SetDraft → PointValues → SetDraft
noted_point p d c n point =
    noted_met p (result_key p point.0) (met p point.0 c.0 (Some point.1) c.1.0) (met p point.0 c.0 (after (get d point.0) (Some point.1)) c.1.1) n

-- and so for each point that is held of the main operand in the part of the change's key
abbrev pub noted_partner : PairOn → Holding → Changes → SetDraft → ChangeValues → SetDraft
noted_partner p h d n c = fold (noted_point p d c) n (part_of h.want c.0 h.content)

-- the steps of going through a part
abbrev pub part_steps : Holding → List Value → ℕ
part_steps h part = 1 + 2 * length (part_of h.want part h.content)

-- and through the parts of these keys
abbrev pub walk_steps : Holding → List (List Value) → ℕ
walk_steps h parts = sum_by (part_steps h) parts
