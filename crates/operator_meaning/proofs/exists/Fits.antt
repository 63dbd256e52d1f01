-- What a well typed operator gives is of the result's structure.
use Rattle.std.proofs.Common.{◌≡◌, List, [], ◌∷◌, ◌++◌, map, Bool, true, false, if◌then◌else◌, refl, sym, ap, subst, ◌∙◌}
use Rattle.std.specs.Bool.{then_some}
use Rattle.std.specs.Option.{IfSome}
use Rattle.std.specs.List.{All, AllZip}
use Rattle.std.proofs.lemmas.List.{append-nil}
use Rattle.std.proofs.lemmas.List.Elements.{All-head, All-tail}
use Rattle.vtl_values.specs.declared.kind.Kind.TheVariants as kind
use Rattle.vtl_values.specs.declared.kind.Role.TheVariants.{Identifier, Measure, Viral}
use Rattle.vtl_values.specs.declared.structure.Codes.TheVariants.{Any}
use Rattle.vtl_values.specs.declared.structure.Component.{Component}
use Rattle.vtl_values.specs.declared.value.Value.{Value}
use Rattle.data_model.specs.Outcomes.{Made}
use Rattle.point_sets.specs.DataSets.{DataSet}
use Rattle.structured_sets.specs.Fitting as fitting
use Rattle.structured_sets.specs.Fitting.{FitsComponent, FitsIdentifier, IsPointOf, IsSetOf, others}
use Rattle.scalar_trees.specs.declared.tree.CheckedExpr.TheVariants as expr
use Rattle.data_set_trees.specs.declared.clauses.clause.CheckedMeasure.{CheckedMeasure}
use Rattle.data_set_trees.specs.clauses.Frames.{frame_of, has_role, numbers_of}
use Rattle.data_set_trees.specs.clauses.After.{made}
use Rattle.clause_meaning.specs.Clauses.{values_at}
use Rattle.clause_meaning.proofs.ByRole.{of-identifiers, other-role}
use Rattle.clause_meaning.proofs.First.{identifiers-first}
use Rattle.clause_meaning.proofs.Fits.{all-fit, fits-by_point}
use Rattle.clause_meaning.proofs.Picked.{AllZip-picked, picked-filter}
use Rattle.data_set_trees.specs.Components.{identifiers, unlisted, virals, BOOL_VAR}
use Rattle.data_set_trees.specs.Exists.{exists_structure}
use Rattle.data_set_trees.specs.Pairs.{joined}
use Rattle.operator_meaning.proofs.pairs.Joined.{Has, own-role, joined-identifiers, joined-others}
use Rattle.operator_meaning.specs.exists.Exists.{ExistsOn, is_met, stays, met_values, exists_meaning}
use Rattle.operator_meaning.specs.exists.Typed.{IsTypedExistsOn}

-- ---- the components of the result

-- a measure of its name and kind, whatever its value
its_measure : CheckedMeasure
its_measure = record { name = BOOL_VAR; kind = kind.Truth; value = expr.Component 0 }

module _ (s : List Component) where
  -- the structure is that of a pair with an operand without components
  alone : exists_structure s ≡ joined (its_measure ∷ []) s []
  unfolding its_measure
  alone = λ i. (map unlisted (sym (append-nil (identifiers s)) i) ++ made Measure kind.Truth BOOL_VAR ∷ []) ++ sym (append-nil (virals s)) i

  keys-are : fitting.identifiers (exists_structure s) ≡ map unlisted (identifiers s)
  keys-are = sym (of-identifiers (exists_structure s)) ∙ ap identifiers alone ∙ joined-identifiers (its_measure ∷ []) s [] ∙ ap (map unlisted) (append-nil (identifiers s))

  others-are : others (exists_structure s) ≡ made Measure kind.Truth BOOL_VAR ∷ virals s
  unfolding its_measure
  others-are = ap others alone ∙ joined-others (its_measure ∷ []) s [] ∙ ap (λ (cs : List Component). made Measure kind.Truth BOOL_VAR ∷ cs) (append-nil (virals s))

-- ---- its points

without-codes : (c : Component) (v : Value) → Has Identifier c → FitsIdentifier c v → FitsIdentifier (unlisted c) v
without-codes c v has fit = by_role (has_role Viral c) (other-role Viral Identifier refl c has)
  where
    by_role : (b : Bool) → b ≡ false → FitsIdentifier (if b then c else record c { codes = Any }) v
    by_role true e = cc
    by_role false e = record { fits = record { kind = fit.fits.kind; codes = refl }; some = fit.some }

all-without : (cs : List Component) (vs : List Value) → All (Has Identifier) cs → AllZip FitsIdentifier cs vs → AllZip FitsIdentifier (map unlisted cs) vs
all-without [] [] all fit = fit
all-without [] (v ∷ vs) all fit = absurd fit
all-without (c ∷ cs) [] all fit = absurd fit
all-without (c ∷ cs) (v ∷ vs) all fit = (without-codes c v (All-head (Has Identifier) c cs all) fit.0, all-without cs vs (All-tail (Has Identifier) c cs all) fit.1)

virals-fit : (cs : List Component) (values : List Value) → AllZip FitsComponent cs values → AllZip FitsComponent (virals cs) (values_at (numbers_of Viral cs) values)
virals-fit cs values fit = subst (λ (ds : List Component). AllZip FitsComponent ds (values_at (numbers_of Viral cs) values)) (picked-filter cs (has_role Viral) 0 cs refl) (AllZip-picked FitsComponent (numbers_of Viral cs) cs values fit)

module _ (e : ExistsOn) (typed : IsTypedExistsOn e) where
  point-fits : (met : Bool) (key rest : List Value) → IsPointOf e.left key rest → IsPointOf e.structure key (met_values e met key rest)
  point-fits met key rest fit =
      subst (λ (cs : List Component). IsPointOf cs key (met_values e met key rest)) (sym typed.is_first) (record {
        key_fits = subst (λ (cs : List Component). AllZip FitsIdentifier cs key) (sym (keys-are e.left))
            (all-without (identifiers e.left) key (own-role Identifier e.left) (subst (λ (cs : List Component). AllZip FitsIdentifier cs key) (sym (of-identifiers e.left)) fit.key_fits));
        rest_fits = subst (λ (cs : List Component). AllZip FitsComponent cs (met_values e met key rest)) (sym (others-are e.left))
            (record { kind = tt; codes = refl }, virals-fit e.left (key ++ rest) (all-fit (frame_of e.left) key rest (identifiers-first e.left typed.left_is) fit));
      })

  if-stays : (b met : Bool) (key rest : List Value) → IsPointOf e.left key rest → IfSome (then_some b (met_values e met key rest)) (IsPointOf e.structure key)
  if-stays true met key rest fit = point-fits met key rest fit
  if-stays false met key rest fit = tt

  pub exists-fits : (a b y : DataSet) → IsSetOf e.left a → exists_meaning e a b ≡ Made y → IsSetOf e.structure y
  exists-fits a b y fit is = fits-by_point _ _ e.left e.structure a y (λ key rest h. if-stays (stays e.rows (is_met e b key)) (is_met e b key) key rest h) fit is
