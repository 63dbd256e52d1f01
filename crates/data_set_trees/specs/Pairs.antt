-- A scalar operator on two data sets (docs/language.md, "Structures of results").
use Rattle.std.specs.Prelude.{ℕ, Bool, ◌&&◌, ◌||◌, ◌+◌, ◌++◌, List, [], ◌∷◌, map, length, zip, find, filter_map, nat_le, Option, Some, None, option_map, unwrap_or, Result, Ok, if◌then◌else◌}
use Rattle.std.specs.List.{list_all, list_any}
use Rattle.vtl_values.specs.Texts.{same_text}
use Rattle.vtl_values.specs.declared.kind.Role.TheVariants as role
use Rattle.vtl_values.specs.declared.place.Place.{Place}
use Rattle.vtl_values.specs.declared.structure.Component.{Component}
use Rattle.scalar_trees.specs.declared.typing.scope.Slot.{Slot}
use Rattle.scalar_trees.specs.declared.typing.stop.Fault.TheVariants.{WrongType, WrongStructure, NameTwice, TooManyComponents}
use Rattle.scalar_trees.specs.declared.typing.stop.Refusal.{Refusal}
use Rattle.scalar_trees.specs.typing.Steps.{◌>>=◌}
use Rattle.data_set_trees.specs.declared.clauses.clause.CheckedMeasure.{CheckedMeasure}
use Rattle.data_set_trees.specs.clauses.After.{made}
use Rattle.data_set_trees.specs.clauses.Clauses.{demands, MOST_COMPONENTS}
use Rattle.data_set_trees.specs.declared.form.Form.{Form}
use Rattle.data_set_trees.specs.declared.measure.Measure.{Measure}
use Rattle.data_set_trees.specs.declared.operand.DataSet.{DataSet}
use Rattle.data_set_trees.specs.declared.operand.Operand.{Operand}
use Rattle.data_set_trees.specs.declared.operand.Operand.TheVariants as operand
use Rattle.data_set_trees.specs.declared.tree.DataSetOperator.TheVariants as operator
use Rattle.data_set_trees.specs.Components.{identifiers, virals, measures, further, names_differ, include, virals_agree, unlisted}
use Rattle.data_set_trees.specs.Forms.{changed_name, is_of_two}
use Rattle.data_set_trees.specs.Trees.{SetAnswer, applied, data_sets}
use Rattle.data_set_trees.specs.Lifted.{answer, slot_of, all_fit, each_fits, set_place, has_one_if, checked_measure, on_none, on_one, on_many}

-- ---- what two data sets have to have in common

-- one's identifiers include the other's
abbrev pub identifiers_agree : List Component → List Component → Bool
identifiers_agree s t = include (identifiers s) (identifiers t) || include (identifiers t) (identifiers s)

abbrev pub is_called : List ℕ → Measure → Bool
is_called name m = same_text name m.name

-- each of these measures has one of its name among those
abbrev pub are_among : List Measure → List Measure → Bool
are_among ms ns = list_all (λ m. list_any (is_called m.name) ns) ms

-- the names of measures are the same, or each has one where the basic type changes
abbrev pub measures_agree : Option (List ℕ) → List Measure → List Measure → Bool
measures_agree None ms ns = are_among ms ns && are_among ns ms
measures_agree (Some changed) ms ns = has_one_if (Some changed) ms && has_one_if (Some changed) ns

-- which measures meet: those of one name, or one and the other where the basic type changes
abbrev pub meeting : Option (List ℕ) → List Measure → List Measure → List (Measure × Measure)
meeting None ms ns = filter_map (λ m. option_map (λ n. (m, n)) (find (is_called m.name) ns)) ms
meeting (Some changed) ms ns = zip ms ns

-- numbers of components of the second data set come after those of the first
abbrev pub shifted : ℕ → Measure → Slot
shifted count m = record { number = count + m.number; kind = m.kind }

-- the two components stand for the data sets
abbrev pub both : ℕ → Measure × Measure → List (Option Slot)
both count p = Some (slot_of p.0) ∷ Some (shifted count p.1) ∷ []

-- ---- the result

abbrev pub measure_component : CheckedMeasure → Component
measure_component m = made role.Measure m.kind m.name

-- the identifiers of the first and further ones of the second, these measures, and the viral attributes likewise
abbrev pub joined : List CheckedMeasure → List Component → List Component → List Component
joined items s t =
    (map unlisted (identifiers s ++ further (identifiers s) (identifiers t)) ++ map measure_component items) ++ (virals s ++ further (virals s) (virals t))

-- a result has each name once, and at most so many components
abbrev pub result_fits : Place → List Component → Result (Unit {0}) Refusal
result_fits place cs = demands place ((names_differ cs, NameTwice) ∷ (nat_le (length cs) MOST_COMPONENTS, TooManyComponents) ∷ [])

-- each two measures that meet with what the operator is on them
abbrev pub pairs_checked : Form → Place → List Operand → Option (List ℕ) → ℕ → List (Measure × Measure) → Result (List CheckedMeasure) Refusal
pairs_checked form place operands changed count [] = Ok []
pairs_checked form place operands changed count (p ∷ ps) =
    answer form place operands (both count p) >>= (λ t. pairs_checked form place operands changed count ps >>= (λ others. Ok (checked_measure (unwrap_or changed p.0.name) t ∷ others)))

abbrev pub on_two : Form → Place → List Operand → Option (List ℕ) → DataSet → DataSet → SetAnswer
on_two form place operands changed s t =
    demands place ((each_fits form place operands && all_fit form place operands (map (both (length s.structure)) met), WrongType) ∷ (identifiers_agree s.structure t.structure && (measures_agree changed (measures s.structure) (measures t.structure) && virals_agree s.structure t.structure), WrongStructure) ∷ [])
    >>= (λ agree. pairs_checked form place operands changed (length s.structure) met
    >>= (λ items. result_fits place (joined items s.structure t.structure)
    >>= (λ fits. Ok (operand.DataSet (applied (operator.Pair items) place (s ∷ t ∷ []) (joined items s.structure t.structure))))))
  where
    met : List (Measure × Measure)
    met = meeting changed (measures s.structure) (measures t.structure)

-- ---- a scalar operator on any operands

abbrev pub lifted_on : Form → Place → List Operand → Option (List ℕ) → List DataSet → SetAnswer
lifted_on form place operands changed [] = on_none form place operands
lifted_on form place operands changed (d ∷ []) = on_one form place operands changed d
lifted_on form place operands changed (s ∷ t ∷ []) = if is_of_two form then on_two form place operands changed s t else on_many form place operands
lifted_on form place operands changed _ = on_many form place operands

abbrev pub lifted : Form → Place → List Operand → SetAnswer
lifted form place operands = lifted_on form place operands (changed_name form (set_place operands)) (data_sets operands)
