-- What operators give on several data sets is of its structure.
use Rattle.std.proofs.Common.{◌≡◌, ◌≤◌, List, [], ◌∷◌, refl, subst}
use Rattle.std.specs.List.{All, AllZip}
use Rattle.std.specs.FinMap.{len}
use Rattle.std.proofs.lemmas.List.Elements.{All-head, All-tail}
use Rattle.vtl_values.specs.declared.structure.Component.{Component}
use Rattle.vtl_values.specs.Order.{key_cmp}
use Rattle.vtl_values.specs.Structures.{IsStructure}
use Rattle.vtl_syntax.specs.declared.words.ExistsRows.{ExistsRows}
use Rattle.vtl_syntax.specs.declared.words.JoinFunction.{JoinFunction}
use Rattle.data_model.specs.declared.TheConstants.{POINT_LIMIT}
use Rattle.data_model.specs.Outcomes.{Made, IsOutcome}
use Rattle.point_sets.specs.DataSets.{DataSet}
use Rattle.structured_sets.specs.Fitting.{IsSetOf, IsBoundedSetOf}
use Rattle.data_set_trees.specs.declared.clauses.clause.CheckedMeasure.{CheckedMeasure}
use Rattle.data_set_trees.specs.declared.tree.Branch.{Branch}
use Rattle.data_set_trees.specs.declared.tree.ChoiceMeasure.{ChoiceMeasure}
use Rattle.data_set_trees.specs.declared.tree.SetOperation.{SetOperation}
use Rattle.data_set_trees.specs.checked.Operators.{IsTypedPair, IsTypedExists, IsTypedChoice, IsTypedSet, IsTypedJoin}
use Rattle.clause_meaning.specs.Workings.{Working, outcome_of}
use Rattle.clause_meaning.proofs.Covered.{IsMeant}
use Rattle.clause_meaning.proofs.Picked.{AllZip-weaker}
use Rattle.operator_meaning.specs.pairs.Pairs.{pair_working}
use Rattle.operator_meaning.specs.pairs.Typed as pairs
use Rattle.operator_meaning.specs.pairs.Typed.{pair_on}
use Rattle.operator_meaning.proofs.pairs.Fits.{pair-fits}
use Rattle.operator_meaning.proofs.pairs.Paired.{pair-meant}
use Rattle.operator_meaning.specs.sets.Sets.{set_on, set_meaning}
use Rattle.operator_meaning.proofs.sets.Fits.{set-fits}
use Rattle.operator_meaning.specs.exists.Exists.{exists_on, exists_working}
use Rattle.operator_meaning.specs.exists.Typed.{IsTypedExistsOn}
use Rattle.operator_meaning.proofs.exists.Fits.{exists-fits}
use Rattle.operator_meaning.proofs.exists.Told.{exists-meant}
use Rattle.operator_meaning.specs.choices.Choices.{choice_on, choice_working, choice_meaning}
use Rattle.operator_meaning.proofs.choices.Fits.{choice-fits}
use Rattle.operator_meaning.proofs.choices.Chosen.{choice-meant}
use Rattle.operator_meaning.specs.joins.Joins.{join_on, join_meaning}
use Rattle.operator_meaning.proofs.joins.Fits.{join-fits}
use Rattle.operator_meaning.specs.Operators.{SetOutcome, pair_on_two, exists_on_two, AreOperands}

-- what is worked out is within the limit of points
few-made : (w : Working) (y : DataSet) → IsMeant w → outcome_of w ≡ Made y → len y ≤ POINT_LIMIT
few-made w y meant e = (subst (λ (o : SetOutcome). IsOutcome {R = key_cmp} w.beyond w.value o) e meant).1

-- operands of these structures, whatever their number of points
all-fit : (operands : List (List Component)) (xs : List DataSet) → AreOperands operands xs → AllZip IsSetOf operands xs
all-fit operands xs h = AllZip-weaker IsBoundedSetOf IsSetOf (λ s x fit. fit.fits) operands xs h

-- ---- two data sets

record AreTwo (left right : List Component) (xs : List DataSet) : Type 0 where
  first : DataSet
  second : DataSet
  two : xs ≡ first ∷ second ∷ []
  first_fits : IsBoundedSetOf left first
  second_fits : IsBoundedSetOf right second

are-two : (left right : List Component) (xs : List DataSet) → AreOperands (left ∷ right ∷ []) xs → AreTwo left right xs
are-two left right [] h = absurd h
are-two left right (a ∷ []) h = absurd h.1
are-two left right (a ∷ b ∷ []) h = record { first = a; second = b; two = refl; first_fits = h.0; second_fits = h.1.0 }
are-two left right (a ∷ b ∷ c ∷ xs) h = absurd h.1.1

module _ (operands : List (List Component)) (structure : List Component) (xs : List DataSet) (y : DataSet) (structures : All IsStructure operands) (result : IsStructure structure) (h : AreOperands operands xs) where
  -- of operands of two structures
  module _ (left right : List Component) (two : operands ≡ left ∷ right ∷ []) where
    both : All IsStructure (left ∷ right ∷ [])
    both = subst (λ (ss : List (List Component)). All IsStructure ss) two structures

    left-is : IsStructure left
    left-is = All-head IsStructure left (right ∷ []) both

    right-is : IsStructure right
    right-is = All-head IsStructure right [] (All-tail IsStructure left (right ∷ []) both)

    sets : AreTwo left right xs
    sets = are-two left right xs (subst (λ (ss : List (List Component)). AreOperands ss xs) two h)

    -- what is made of them is made of both
    made-of-both : (meaning : List (List Component) → List DataSet → SetOutcome) → meaning operands xs ≡ Made y → meaning (left ∷ right ∷ []) (sets.first ∷ sets.second ∷ []) ≡ Made y
    made-of-both meaning e = subst (λ (zs : List DataSet). meaning (left ∷ right ∷ []) zs ≡ Made y) sets.two (subst (λ (ss : List (List Component)). meaning ss xs ≡ Made y) two e)

  -- a scalar operator
  pub pair-fit : (items : List CheckedMeasure) → IsTypedPair items operands structure → pair_on_two items operands structure xs ≡ Made y → IsBoundedSetOf structure y
  pair-fit items typed e =
      let on = pair_on items typed.left typed.right structure in
      let two = sets typed.left typed.right typed.two in
      let made = made-of-both typed.left typed.right typed.two (λ ss zs. pair_on_two items ss structure zs) e in
      let is : pairs.IsTypedPair on = record { left_is = left-is typed.left typed.right typed.two; right_is = right-is typed.left typed.right typed.two; structure_is = result; pair = typed.pair } in
      record { fits = pair-fits on two.first two.second y is two.first_fits.fits two.second_fits.fits made; few = few-made (pair_working on two.first two.second) y (pair-meant on two.first two.second) made }

  -- `exists_in`
  pub exists-fit : (rows : ExistsRows) → IsTypedExists operands structure → exists_on_two rows operands structure xs ≡ Made y → IsBoundedSetOf structure y
  exists-fit rows typed e =
      let on = exists_on rows typed.left typed.right structure in
      let two = sets typed.left typed.right typed.two in
      let made = made-of-both typed.left typed.right typed.two (λ ss zs. exists_on_two rows ss structure zs) e in
      let is : IsTypedExistsOn on = record { left_is = left-is typed.left typed.right typed.two; right_is = right-is typed.left typed.right typed.two; structure_is = result; kinds_agree = typed.kinds_match; is_first = typed.gives } in
      record { fits = exists-fits on is two.first two.second y two.first_fits.fits made; few = few-made (exists_working on two.first two.second) y (exists-meant on two.first two.second) made }

  -- a conditional
  pub choice-fit : (holds fails : Branch) (items : List ChoiceMeasure) → IsTypedChoice holds fails items operands structure → choice_meaning (choice_on holds fails items operands structure) xs ≡ Made y → IsBoundedSetOf structure y
  choice-fit holds fails items typed e =
      let on = choice_on holds fails items operands structure in
      record { fits = choice-fits on xs (record { structures = structures; structure_is = result; choice = typed }) (all-fit operands xs h) y e; few = few-made (choice_working on xs) y (choice-meant on xs) e }

  -- a set operator
  pub set-fit : (operation : SetOperation) → IsTypedSet operands structure → set_meaning (set_on operation operands structure) xs ≡ Made y → IsBoundedSetOf structure y
  set-fit operation typed e = set-fits (set_on operation operands structure) xs y (record { structures = structures; structure_is = result; set = typed }) (all-fit operands xs h) e

  -- a join
  pub join-fit : (f : JoinFunction) → IsTypedJoin f operands structure → join_meaning (join_on f operands structure) xs ≡ Made y → IsBoundedSetOf structure y
  join-fit f typed e = join-fits (join_on f operands structure) (record { structures = structures; structure_is = result; join = typed }) xs (all-fit operands xs h) y e
