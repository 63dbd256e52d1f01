-- Drafts by their parts, and how they are finished.
use Rattle.std.proofs.Common.{◌≡◌, ℕ, List, Option, Some, None, Result, Ok, Err, Bool, true, false, cond, sym, ◌∙◌, ap, refl, not}
use Rattle.std.specs.Option.{option_eq}
use Rattle.std.specs.Result.{OnOk, OnErr}
use Rattle.std.specs.Ordering.{is_lt}
use Rattle.std.specs.FinMap.{insert}
use Rattle.vtl_values.specs.declared.value.Value.{Value}
use Rattle.vtl_values.specs.Order.{key_cmp}
use Rattle.data_model.specs.Deltas.{count_after}
use Rattle.data_model.specs.Outcomes.{Answer, Made, Range, TooMany, settled, lesser}
use Rattle.data_model.specs.Drafts.{finished, note_value}
use Rattle.point_sets.specs.Changes.{Changes, values_eq, with_change}
use Rattle.held_index.specs.Drafts.{SetDraft}

-- what follows of one fact in an answer
pub on_ok : {T E P Q : Type 0} (r : Result T E) → (P → Q) → OnOk r P → OnOk r Q
on_ok (Ok x) f p = f p
on_ok (Err e) f p = tt

pub on_err : {T E P Q : Type 0} (r : Result T E) → (P → Q) → OnErr r P → OnErr r Q
on_err (Ok x) f p = tt
on_err (Err e) f p = f p

abbrev pub draft_of : Changes → Option (List Value) → SetDraft
draft_of d b = record { changes = d; beyond = b }

-- a draft by its parts
pub same_draft : (d e : Changes) (b c : Option (List Value)) → d ≡ e → b ≡ c → draft_of d b ≡ draft_of e c
same_draft d e b c p q = λ i. draft_of (p i) (q i)

-- a change that is noted, in a draft
pub note_value-changes : (d : Changes) (b : Option (List Value)) (k : List Value) (x y : Option (List Value)) → draft_of (with_change d k x y) b ≡ note_value values_eq k x y (draft_of d b)
note_value-changes d b k x y = elim (option_eq values_eq x y) as (λ (t : Bool). draft_of (cond t d (insert d k (x, y))) b ≡ cond t (draft_of d b) (draft_of (insert d k (x, y)) b)) [ true ↦ refl | false ↦ refl ]

-- the least of a key and one that may be there, by a test
pub lesser-tested : (k j : List Value) (b : Option (List Value)) (t : Bool) → b ≡ Some j → t ≡ is_lt (key_cmp j k) → Some (lesser key_cmp k b) ≡ cond (not t) (Some k) b
lesser-tested k j b t e h = rw (e, h) (elim (is_lt (key_cmp j k)) as (λ s. Some (cond s j k) ≡ cond (not s) (Some k) (Some j)) [ true ↦ refl | false ↦ refl ])

-- the three answers, of data sets
abbrev pub made_of : Changes → Answer (List Value) Changes
made_of d = Made d

abbrev pub range_of : List Value → Answer (List Value) Changes
range_of k = Range k

abbrev pub too_many : Answer (List Value) Changes
too_many = TooMany

module _ (d : Changes) (b : Option (List Value)) (n : SetDraft) (before : ℕ) (is : draft_of d b ≡ n) where
  -- an evaluation was out of range
  pub finished-range : (k : List Value) → b ≡ Some k → range_of k ≡ finished before n
  finished-range k e = ap (λ (a : Option (List Value)). settled a (count_after before d) d) (sym e) ∙ ap (finished before) is

  -- none was
  pub finished-settled : b ≡ None → settled None (count_after before d) d ≡ finished before n
  finished-settled e = ap (λ (a : Option (List Value)). settled a (count_after before d) d) (sym e) ∙ ap (finished before) is
