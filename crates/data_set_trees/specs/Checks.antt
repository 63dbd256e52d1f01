-- `check(a errorcode .. errorlevel .. imbalance .. output)` (docs/language.md, "Structures of results").
use Rattle.std.specs.Prelude.{Bool, true, not, ◌&&◌, ◌||◌, ◌++◌, List, [], ◌∷◌, map, length, nat_eq, codes, Option, Some, None, is_some}
use Rattle.std.specs.List.{list_all}
use Rattle.std.specs.Option.{option_map_or}
use Rattle.vtl_values.specs.Texts.{same_text}
use Rattle.vtl_values.specs.declared.kind.Kind.{Kind}
use Rattle.vtl_values.specs.declared.kind.Kind.TheVariants.{Integer, Number, Text, Truth}
use Rattle.vtl_values.specs.declared.kind.Role.TheVariants as role
use Rattle.vtl_values.specs.declared.structure.Component.{Component}
use Rattle.scalar_trees.specs.Kinds.{NUMERIC, agreed}
use Rattle.scalar_trees.specs.WellTyped.{is_kind}
use Rattle.data_set_trees.specs.clauses.After.{made}
use Rattle.data_set_trees.specs.declared.measure.Measure.{Measure}
use Rattle.data_set_trees.specs.Components.{identifiers, virals, measures, further, include, virals_agree, unlisted, BOOL_VAR}

-- ---- what is asked

-- the measure in which a check finds whether a point passes
abbrev pub is_told : Measure → Bool
is_told m = same_text BOOL_VAR m.name

-- it is a boolean
abbrev pub told_fits : List Component → Bool
told_fits s = list_all (λ m. not (is_told m) || is_kind m.kind Truth) (measures s)

-- the measures of an imbalance are numeric
abbrev pub is_numeric : List Component → Bool
is_numeric s = list_all (λ m. is_some (agreed NUMERIC (Some m.kind ∷ []))) (measures s)

-- `bool_var` is the one measure
abbrev pub tells : List Component → Bool
tells s = nat_eq (length (measures s)) 1 && list_all is_told (measures s)

-- an imbalance has one measure, and the identifiers of what is checked; viral attributes of one name have one code list
abbrev pub is_imbalance_of : List Component → List Component → Bool
is_imbalance_of s t = (nat_eq (length (measures t)) 1 && (include (identifiers s) (identifiers t) && include (identifiers t) (identifiers s))) && virals_agree s t

-- without an imbalance nothing is asked of it
abbrev pub if_imbalance : (List Component → Bool) → Option (List Component) → Bool
if_imbalance asks imbalance = option_map_or asks imbalance true

-- ---- the result

-- the kind of the imbalance, which is a number where there is none
abbrev pub imbalance_kind : Option (List Component) → Kind
imbalance_kind None = Number
imbalance_kind (Some t) = first (measures t)
  where
    first : List Measure → Kind
    first [] = Number
    first (m ∷ ms) = m.kind

-- what a check says of a point
abbrev pub check_measures : Kind → List Component
check_measures kind =
    made role.Measure Truth BOOL_VAR ∷ made role.Measure kind (codes "imbalance") ∷ made role.Measure Text (codes "errorcode") ∷ made role.Measure Integer (codes "errorlevel") ∷ []

-- the viral attributes of what is checked, and further ones of the imbalance
abbrev pub check_virals : List Component → Option (List Component) → List Component
check_virals s None = virals s
check_virals s (Some t) = virals s ++ further (virals s) (virals t)

abbrev pub check_structure : List Component → Option (List Component) → List Component
check_structure s imbalance = (map unlisted (identifiers s) ++ check_measures (imbalance_kind imbalance)) ++ check_virals s imbalance
