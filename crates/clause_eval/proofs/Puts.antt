-- The steps of a walk over items.
use Rattle.std.proofs.Common.{◌≡◌, ℕ, ◌+◌, ◌<◌, List, [], ◌∷◌, ◌++◌, Option, Some, None, length, get_or, drop, refl, ap, sym, ◌∙◌}
use Rattle.std.specs.Prelude.{option_map}
use Rattle.std.specs.Option.{option_zip}
use Rattle.std.proofs.lemmas.List.{drop_more, append_assoc}
use Rattle.vtl_values.specs.declared.value.Value.{Value}
use Rattle.scalar_meaning.specs.Rows.{Row}
use Rattle.scalar_meaning.specs.Scalars.{meaning}
use Rattle.scalar_eval.specs.Stops.{Stops}
use Rattle.scalar_eval.specs.declared.stop.EvalStop.{EvalStop}
use Rattle.scalar_eval.specs.declared.stop.EvalStop.TheVariants.{Range, Memory}
use Rattle.data_set_trees.specs.declared.clauses.clause.CheckedItem.{CheckedItem}
use Rattle.data_set_trees.specs.declared.clauses.clause.CheckedMeasure.{CheckedMeasure}
use Rattle.clause_meaning.specs.Clauses.{item_values, worked_values, put_value, put_values}

-- a point's values with those of the items in their places, none where an item is out of range
abbrev pub put_from : Row → List CheckedItem → List Value → Option (List Value)
put_from row items values = option_map (λ vs. put_values items vs values) (item_values row items)

-- what is left at an item, and at the next one
pub item-left : {A : Type 0} (xs : List A) (i : ℕ) (x : A) → i < length xs → x ≡ get_or xs i x → drop i xs ≡ x ∷ drop (i + 1) xs
item-left xs i x within is = drop_more xs i x within ∙ ap (λ y. y ∷ drop (i + 1) xs) (sym is)

put-out : (row : Row) (item : CheckedItem) (items : List CheckedItem) (values : List Value) → meaning row item.value ≡ None → put_from row (item ∷ items) values ≡ None
put-out row item items values none = ap (λ (o : Option Value). option_map (λ vs. put_values (item ∷ items) vs values) (option_map (λ p. p.0 ∷ p.1) (option_zip o (item_values row items)))) none

put-in : (row : Row) (item : CheckedItem) (items : List CheckedItem) (values : List Value) (v : Value) → meaning row item.value ≡ Some v → put_from row (item ∷ items) values ≡ put_from row items (put_value item.target v values)
put-in row item items values v is =
    ap (λ (o : Option Value). option_map (λ vs. put_values (item ∷ items) vs values) (option_map (λ p. p.0 ∷ p.1) (option_zip o (item_values row items)))) is ∙ by_rest (item_values row items)
  where
    by_rest : (o : Option (List Value)) → option_map (λ vs. put_values (item ∷ items) vs values) (option_map (λ p. p.0 ∷ p.1) (option_zip (Some v) o)) ≡ option_map (λ vs. put_values items vs (put_value item.target v values)) o
    by_rest None = refl
    by_rest (Some vs) = refl

module _ (row : Row) (items : List CheckedItem) (i : ℕ) (item : CheckedItem) (values : List Value) (within : i < length items) (is : item ≡ get_or items i item) where
  -- an item is out of range
  pub put-stops : meaning row item.value ≡ None → put_from row (drop i items) values ≡ None
  put-stops none = ap (λ (js : List CheckedItem). put_from row js values) (item-left items i item within is) ∙ put-out row item (drop (i + 1) items) values none

  -- it has its value
  pub put-next : (v : Value) → meaning row item.value ≡ Some v → put_from row (drop i items) values ≡ put_from row (drop (i + 1) items) (put_value item.target v values)
  put-next v found = ap (λ (js : List CheckedItem). put_from row js values) (item-left items i item within is) ∙ put-in row item (drop (i + 1) items) values v found

-- ---- measures

worked-out : (row : Row) (item : CheckedMeasure) (items : List CheckedMeasure) (so_far : List Value) → meaning row item.value ≡ None → option_map (λ (vs : List Value). so_far ++ vs) (worked_values row (item ∷ items)) ≡ None
worked-out row item items so_far none = ap (λ (o : Option Value). option_map (λ (vs : List Value). so_far ++ vs) (option_map (λ p. p.0 ∷ p.1) (option_zip o (worked_values row items)))) none

worked-in : (row : Row) (item : CheckedMeasure) (items : List CheckedMeasure) (so_far : List Value) (v : Value) → meaning row item.value ≡ Some v → option_map (λ (vs : List Value). so_far ++ vs) (worked_values row (item ∷ items)) ≡ option_map (λ (vs : List Value). (so_far ++ v ∷ []) ++ vs) (worked_values row items)
worked-in row item items so_far v is =
    ap (λ (o : Option Value). option_map (λ (vs : List Value). so_far ++ vs) (option_map (λ p. p.0 ∷ p.1) (option_zip o (worked_values row items)))) is ∙ by_rest (worked_values row items)
  where
    by_rest : (o : Option (List Value)) → option_map (λ (vs : List Value). so_far ++ vs) (option_map (λ p. p.0 ∷ p.1) (option_zip (Some v) o)) ≡ option_map (λ (vs : List Value). (so_far ++ v ∷ []) ++ vs) o
    by_rest None = refl
    by_rest (Some vs) = ap Some (sym (append_assoc so_far (v ∷ []) vs))

module _ (row : Row) (items : List CheckedMeasure) (i : ℕ) (item : CheckedMeasure) (so_far : List Value) (within : i < length items) (is : item ≡ get_or items i item) where
  abbrev left_from : ℕ → List Value → Option (List Value)
  left_from n values = option_map (λ (vs : List Value). values ++ vs) (worked_values row (drop n items))

  pub worked-stops : meaning row item.value ≡ None → left_from i so_far ≡ None
  worked-stops none = ap (λ (js : List CheckedMeasure). option_map (λ (vs : List Value). so_far ++ vs) (worked_values row js)) (item-left items i item within is) ∙ worked-out row item (drop (i + 1) items) so_far none

  pub worked-next : (v : Value) → meaning row item.value ≡ Some v → left_from i so_far ≡ left_from (i + 1) (so_far ++ v ∷ [])
  worked-next v found = ap (λ (js : List CheckedMeasure). option_map (λ (vs : List Value). so_far ++ vs) (worked_values row js)) (item-left items i item within is) ∙ worked-in row item (drop (i + 1) items) so_far v found

-- ---- stops

-- what stops a part stops the whole, if it has no value where the part has none
pub stops-too : {A B : Type 0} (part : Option A) (whole : Option B) (stop : EvalStop) → (part ≡ None → whole ≡ None) → Stops part stop → Stops whole stop
stops-too part whole Range through h = through h
stops-too part whole Memory through h = tt
