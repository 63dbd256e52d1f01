-- The steps of a walk over measures, and of a look.
use Rattle.std.proofs.Common.{◌≡◌, ◌≤◌, ℕ, ◌+◌, ◌<◌, Bool, List, [], ◌∷◌, ◌++◌, map, Option, Some, None, length, get_or, drop, refl, ap, sym, ◌∙◌, arith}
use Rattle.std.specs.Prelude.{option_map}
use Rattle.std.specs.Option.{option_zip}
use Rattle.std.proofs.lemmas.List.{drop_more, append_assoc}
use Rattle.vtl_values.specs.declared.value.Value.{Value}
use Rattle.scalar_meaning.specs.Rows.{Row}
use Rattle.scalar_meaning.specs.Scalars.{meaning}
use Rattle.scalar_eval.specs.Stops.{Stops}
use Rattle.scalar_eval.specs.declared.stop.EvalStop.{EvalStop}
use Rattle.scalar_eval.specs.declared.stop.EvalStop.TheVariants.{Range, Memory}
use Rattle.data_set_trees.specs.declared.tree.ChoiceMeasure.{ChoiceMeasure}
use Rattle.clause_meaning.specs.Clauses.{values_on}
use Rattle.operator_meaning.specs.choices.Choices.{value_in}
use Rattle.held_index.specs.Holdings.{look_steps}

pub few_steps : {A : Type 0} (o : Option A) → look_steps o ≤ 2
few_steps None = omega arith
few_steps (Some a) = omega arith

module _ (row : Row) (truth : Bool) where
  -- the values so far, and those that are left
  abbrev pub with_left : List Value → List ChoiceMeasure → Option (List Value)
  with_left so_far ms = option_map (λ (vs : List Value). so_far ++ vs) (values_on row (map (value_in truth) ms))

  module _ (m : ChoiceMeasure) (ms : List ChoiceMeasure) (so_far : List Value) where
    worked-out : meaning row (value_in truth m) ≡ None → with_left so_far (m ∷ ms) ≡ None
    worked-out none = ap (λ (o : Option Value). option_map (λ (vs : List Value). so_far ++ vs) (option_map (λ p. p.0 ∷ p.1) (option_zip o (values_on row (map (value_in truth) ms))))) none

    worked-in : (v : Value) → meaning row (value_in truth m) ≡ Some v → with_left so_far (m ∷ ms) ≡ with_left (so_far ++ v ∷ []) ms
    worked-in v is =
        ap (λ (o : Option Value). option_map (λ (vs : List Value). so_far ++ vs) (option_map (λ p. p.0 ∷ p.1) (option_zip o (values_on row (map (value_in truth) ms))))) is ∙ by_rest (values_on row (map (value_in truth) ms))
      where
        by_rest : (o : Option (List Value)) → option_map (λ (vs : List Value). so_far ++ vs) (option_map (λ p. p.0 ∷ p.1) (option_zip (Some v) o)) ≡ option_map (λ (vs : List Value). (so_far ++ v ∷ []) ++ vs) o
        by_rest None = refl
        by_rest (Some vs) = ap Some (sym (append_assoc so_far (v ∷ []) vs))

  module _ (ms : List ChoiceMeasure) (i : ℕ) (m : ChoiceMeasure) (so_far : List Value) (within : i < length ms) (is : m ≡ get_or ms i m) where
    left : drop i ms ≡ m ∷ drop (i + 1) ms
    left = drop_more ms i m within ∙ ap (λ y. y ∷ drop (i + 1) ms) (sym is)

    -- a measure is out of range
    pub worked-stops : meaning row (value_in truth m) ≡ None → with_left so_far (drop i ms) ≡ None
    worked-stops none = ap (with_left so_far) left ∙ worked-out m (drop (i + 1) ms) so_far none

    -- it has its value
    pub worked-next : (v : Value) → meaning row (value_in truth m) ≡ Some v → with_left so_far (drop i ms) ≡ with_left (so_far ++ v ∷ []) (drop (i + 1) ms)
    worked-next v found = ap (with_left so_far) left ∙ worked-in m (drop (i + 1) ms) so_far v found

-- what stops a part stops the whole, if it has no value where the part has none
pub stops-too : {A B : Type 0} (part : Option A) (whole : Option B) (stop : EvalStop) → (part ≡ None → whole ≡ None) → Stops part stop → Stops whole stop
stops-too part whole Range through h = through h
stops-too part whole Memory through h = tt
