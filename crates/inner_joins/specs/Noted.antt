-- What the rule of an inner join notes.
use Rattle.std.specs.Prelude.{◌≡◌, ℕ, ◌+◌, ◌-◌, List, [], map, fold, flat_map, length, slice_index_or, nat_eq, if◌then◌else◌, false}
use Rattle.std.specs.List.{AllZip, range_with_len}
use Rattle.std.specs.Option.{IfSome}
use Rattle.std.specs.FinMap.{empty, get, keys}
use Rattle.vtl_values.specs.declared.value.Value.{Value}
use Rattle.vtl_values.specs.Order.{key_cmp}
use Rattle.data_model.specs.Deltas.{Pair, BeginsAt}
use Rattle.data_model.specs.Drafts.{note_value, IsDraft}
use Rattle.point_sets.specs.DataSets.{DataSet}
use Rattle.point_sets.specs.Changes.{Changes, values_eq, values_of}
use Rattle.structured_sets.specs.Fitting.{IsSetOf}
use Rattle.held_index.specs.Drafts.{SetDraft}
use Rattle.held_index.specs.Holdings.{Holding, contents, holding_of, operand, part_of}
use Rattle.held_index.specs.Rules.{after_news}
use Rattle.held_index.specs.Walks.{PointValues}
use Rattle.join_eval.specs.Plans.{own_key}
use Rattle.operator_meaning.specs.joins.Joins.{JoinOn, join_working, key_components}
use Rattle.inner_joins.specs.Rules.{key_from, main_number, parts_for, place_of, wants_on}
use Rattle.inner_joins.specs.declared.notes.Meeting.{Meeting}
use Rattle.inner_joins.specs.declared.notes.Partner.{Partner}
use Rattle.inner_joins.specs.declared.notes.Seen.{Seen}

-- ---- the operands

-- data sets of the operands' structures, before the news and after them, at which the news begin, and of which this is held
pub record AreBehind (j : JoinOn) (held : List Holding) (news : List Changes) (xs : List DataSet) : Type 0 where
  pub fit : AllZip IsSetOf j.operands xs
  pub fit_after : AllZip IsSetOf j.operands (after_news news xs)
  pub begin : AllZip BeginsAt news xs
  pub held_is : map (holding_of xs) (wants_on j) ≡ held

-- the news of the operand of a number
abbrev pub news_of : ℕ → List Changes → Changes
news_of number news = slice_index_or news number empty

-- the main operand as it is held for the changes of another one
abbrev pub held_for : JoinOn → List Holding → ℕ → Holding
held_for j held number = record {
  want = parts_for j number;
  content = operand ((length j.operands - 1) + place_of (main_number j) number) (contents held);
}

-- its points that meet a point of the other one with this key
abbrev pub points_met : JoinOn → List Holding → ℕ → List Value → List PointValues
points_met j held number key = part_of (held_for j held number).want key (held_for j held number).content

-- ---- keys of the join

-- those to which a change of another operand comes
abbrev pub keys_met : JoinOn → List Holding → ℕ → List Value → List (List Value)
keys_met j held number key = map (λ p. key_from j p.0) (points_met j held number key)

-- those to which the changes of an operand come
abbrev pub keys_of : JoinOn → List Holding → List Changes → ℕ → List (List Value)
keys_of j held news number =
    if nat_eq number (main_number j) then map (key_from j) (keys (news_of number news)) else flat_map (keys_met j held number) (keys (news_of number news))

-- those to which the changes of all operands come
abbrev pub all_keys : JoinOn → List Holding → List Changes → List (List Value)
all_keys j held news = flat_map (keys_of j held news) (range_with_len 0 (length j.operands))

-- ---- what is known at a key

-- an operand has these points at a key of the join, before the news and after them
pub record Has (j : JoinOn) (xs : List DataSet) (news : List Changes) (key : List Value) (number : ℕ) (seen : Seen) : Type 0 where
  pub before : values_of seen.before ≡ get (operand number xs) (own_key j number key)
  pub after : values_of seen.after ≡ get (operand number (after_news news xs)) (own_key j number key)

-- an operand's points are those of a change
pub record IsOfChange (number : ℕ) (change : Pair (List Value)) (p : Partner) : Type 0 where
  pub its : p.number ≡ number
  pub before : values_of p.seen.before ≡ change.0
  pub after : values_of p.seen.after ≡ change.1

-- the key is one of the join, and the operands have what is known of them
pub record IsMet (j : JoinOn) (xs : List DataSet) (news : List Changes) (m : Meeting) : Type 0 where
  pub long : length m.key ≡ length (key_components j)
  pub main : Has j xs news m.key (main_number j) m.main
  pub partner : IfSome m.partner (λ p. Has j xs news m.key p.number p.seen)

-- ---- notes

-- what the join had at a key and has there after the news is noted
abbrev pub noted_key : JoinOn → List DataSet → List Changes → SetDraft → List Value → SetDraft
noted_key j xs news n key = note_value values_eq key ((join_working j xs).value key) ((join_working j (after_news news xs)).value key) n

-- whichever operands stand behind what is held, these keys were noted
abbrev pub Notes : JoinOn → List Holding → List Changes → List (List Value) → SetDraft → SetDraft → Type 0
Notes j held news ks old new = (xs : List DataSet) → AreBehind j held news xs → new ≡ fold (noted_key j xs news) old ks

-- a draft in which these keys are noted
abbrev pub IsNoted : JoinOn → List DataSet → List Changes → List (List Value) → SetDraft → Type 0
IsNoted j xs news ks n = IsDraft {R = key_cmp} (λ key. false) [] (join_working j xs).value (join_working j (after_news news xs)).value ks n
