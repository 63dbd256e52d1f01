-- `exists_in` (docs/language.md, "Structures of results").
use Rattle.std.specs.Prelude.{Bool, not, ◌||◌, ◌++◌, List, [], ◌∷◌, map, Option, unwrap_or, Ok}
use Rattle.std.specs.List.{list_all}
use Rattle.vtl_values.specs.Texts.{same_text}
use Rattle.vtl_values.specs.declared.kind.Kind.TheVariants.{Truth}
use Rattle.vtl_values.specs.declared.kind.Role.TheVariants.{Measure}
use Rattle.vtl_values.specs.declared.place.Place.{Place}
use Rattle.vtl_values.specs.declared.structure.Component.{Component}
use Rattle.vtl_syntax.specs.declared.words.ExistsRows.{ExistsRows}
use Rattle.vtl_syntax.specs.declared.words.ExistsRows.TheVariants.{All}
use Rattle.scalar_trees.specs.WellTyped.{is_kind}
use Rattle.scalar_trees.specs.declared.typing.stop.Fault.TheVariants.{WrongStructure}
use Rattle.scalar_trees.specs.typing.Steps.{◌>>=◌, demanded, refused}
use Rattle.data_set_trees.specs.clauses.After.{made}
use Rattle.data_set_trees.specs.declared.operand.Operand.{Operand}
use Rattle.data_set_trees.specs.declared.operand.Operand.TheVariants as operand
use Rattle.data_set_trees.specs.declared.tree.DataSetOperator.TheVariants as operator
use Rattle.data_set_trees.specs.Components.{identifiers, virals, unlisted, BOOL_VAR}
use Rattle.data_set_trees.specs.Trees.{SetAnswer, applied}
use Rattle.data_set_trees.specs.Pairs.{result_fits}

-- identifiers of one name are of one kind
abbrev pub common_agree : List Component → List Component → Bool
common_agree s t = list_all (λ c. list_all (λ d. not (same_text c.name d.name) || is_kind c.kind d.kind) (identifiers t)) (identifiers s)

-- the identifiers and viral attributes of the first operand, and whether the second has a point
abbrev pub exists_structure : List Component → List Component
exists_structure s = (map unlisted (identifiers s) ++ made Measure Truth BOOL_VAR ∷ []) ++ virals s

abbrev pub exists_typed : Option ExistsRows → Place → Operand → Operand → SetAnswer
exists_typed rows place (operand.DataSet s) (operand.DataSet t) =
    demanded (common_agree s.structure t.structure) WrongStructure place
    >>= (λ agree. result_fits place (exists_structure s.structure)
    >>= (λ fits. Ok (operand.DataSet (applied (operator.ExistsIn (unwrap_or rows All)) place (s ∷ t ∷ []) (exists_structure s.structure)))))
exists_typed rows place _ _ = refused WrongStructure place
