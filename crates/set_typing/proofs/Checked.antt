-- The components of what `check` gives, and that it is its structure, applied.
use Rattle.std.proofs.Common.{◌≡◌, refl, Bool, true, List, [], ◌∷◌, map, Option, Some, None, option_map, is_some, unwrap_or, ap, sym, ◌∙◌}
use Rattle.std.specs.Prelude.{codes}
use Rattle.std.specs.List.{All}
use Rattle.std.proofs.lemmas.List.Elements.{All-nil, All-cons}
use Rattle.vtl_values.specs.declared.kind.Kind.{Kind}
use Rattle.vtl_values.specs.declared.kind.Kind.TheVariants.{Integer, Text, Truth}
use Rattle.vtl_values.specs.declared.kind.Role.TheVariants.{Measure}
use Rattle.vtl_values.specs.declared.place.Place.{Place}
use Rattle.vtl_syntax.specs.declared.words.CheckOutput.{CheckOutput}
use Rattle.vtl_syntax.specs.declared.words.CheckOutput.TheVariants as output
use Rattle.scalar_trees.specs.declared.typing.stop.Fault.TheVariants.{WrongStructure}
use Rattle.scalar_trees.specs.typing.Steps.{◌>>=◌, or_refused}
use Rattle.data_set_trees.specs.clauses.After.{made}
use Rattle.data_set_trees.specs.declared.rules.rules.RuleError.{RuleError}
use Rattle.data_set_trees.specs.declared.operand.DataSet.{DataSet}
use Rattle.data_set_trees.specs.declared.operand.Operand.{Operand}
use Rattle.data_set_trees.specs.declared.operand.Operand.TheVariants as operand
use Rattle.data_set_trees.specs.declared.tree.DataSetOperator.TheVariants as operator
use Rattle.data_set_trees.specs.Checks.{check_measures}
use Rattle.data_set_trees.specs.Components.{BOOL_VAR}
use Rattle.data_set_trees.specs.Sets.{all_data_sets}
use Rattle.data_set_trees.specs.Trees.{data_sets}
use Rattle.data_set_parts.specs.Joins.{IsOf}
use Rattle.data_set_parts.proofs.Fits.{measure_made}
use Rattle.expression_rules.specs.OnChecks.{imbalance_in, check_on, structures_of, checked, check_typed}
use Rattle.set_typing.specs.Plans.{has_more, check_planned}
use Rattle.set_typing.proofs.Plans.{carried, parts, all_structures_are, all_are}

-- ---- the components

pub told_of : (kind : Kind) → All (IsOf Measure) (check_measures kind)
told_of kind =
    let first = made Measure Truth BOOL_VAR in
    let second = made Measure kind (codes "imbalance") in
    let third = made Measure Text (codes "errorcode") in
    let fourth = made Measure Integer (codes "errorlevel") in
    All-cons (IsOf Measure) first (second ∷ third ∷ fourth ∷ []) (measure_made Truth BOOL_VAR)
    (All-cons (IsOf Measure) second (third ∷ fourth ∷ []) (measure_made kind (codes "imbalance"))
    (All-cons (IsOf Measure) third (fourth ∷ []) (measure_made Text (codes "errorcode"))
    (All-cons (IsOf Measure) fourth [] (measure_made Integer (codes "errorlevel")) (All-nil (IsOf Measure)))))

-- ---- the operator

-- there is an imbalance where there is more than one operand
has_same : (os : List Operand) (d : DataSet) (ds : List DataSet) → all_data_sets os ≡ Some (d ∷ ds) → has_more os ≡ is_some (imbalance_in (structures_of ds))
has_same [] d ds is = cc
has_same (operand.Scalar t ∷ os) d ds is = cc
has_same (operand.DataSet c ∷ []) d ds is = let none : [] ≡ ds = cc in ap (λ (es : List DataSet). is_some (imbalance_in (structures_of es))) none
has_same (operand.DataSet c ∷ operand.Scalar t ∷ os) d ds is = cc
has_same (operand.DataSet c ∷ operand.DataSet e ∷ os) d ds is = by_others (all_data_sets os) is
  where
    by_others : (q : Option (List DataSet)) → option_map (λ (es : List DataSet). c ∷ es) (option_map (λ (es : List DataSet). e ∷ es) q) ≡ Some (d ∷ ds) → true ≡ is_some (imbalance_in (structures_of ds))
    by_others None h = cc
    by_others (Some es) h = let more : e ∷ es ≡ ds = cc in ap (λ (es : List DataSet). is_some (imbalance_in (structures_of es))) more

check_lifts_on : (error : RuleError) (said : Option CheckOutput) (place : Place) (has : Bool) (sets : List DataSet) (q : Option (List DataSet))
    → ((ds : List DataSet) → q ≡ Some ds → sets ≡ ds) → ((d : DataSet) (ds : List DataSet) → q ≡ Some (d ∷ ds) → has ≡ is_some (imbalance_in (structures_of ds)))
    → (or_refused q WrongStructure place >>= checked error said place)
    ≡ ((or_refused (option_map (map parts) q) WrongStructure place >>= check_on place) >>= carried (operator.Check (record { error = error; has_imbalance = has; output = unwrap_or said output.All })) place sets)
check_lifts_on error said place has sets None same more = refl
check_lifts_on error said place has sets (Some []) same more = refl
check_lifts_on error said place has sets (Some (d ∷ ds)) same more =
    let it : sets ≡ d ∷ ds = same (d ∷ ds) refl in
    let is = more d ds refl in
    λ i. check_on place (structures_of (d ∷ ds)) >>= carried (operator.Check (record { error = error; has_imbalance = sym is i; output = unwrap_or said output.All })) place (sym it i)

pub check_lifts : (error : RuleError) (said : Option CheckOutput) (place : Place) (operands : List Operand)
    → check_typed error said place operands ≡ (check_planned place operands >>= carried (operator.Check (record { error = error; has_imbalance = has_more operands; output = unwrap_or said output.All })) place (data_sets operands))
check_lifts error said place operands =
    check_lifts_on error said place (has_more operands) (data_sets operands) (all_data_sets operands) (all_are operands) (has_same operands)
    ∙ (λ i. (or_refused (sym (all_structures_are operands) i) WrongStructure place >>= check_on place) >>= carried (operator.Check (record { error = error; has_imbalance = has_more operands; output = unwrap_or said output.All })) place (data_sets operands))
