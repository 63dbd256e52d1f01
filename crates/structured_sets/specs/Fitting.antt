-- Data sets of a structure (docs/language.md, "Data sets").
use Rattle.std.specs.Prelude.{◌≡◌, ◌≢◌, ◌≤◌, List, filter, Bool, true, false, not}
use Rattle.std.specs.Option.{IfSome}
use Rattle.std.specs.List.{AllZip, list_any}
use Rattle.std.specs.FinMap.{get, len}
use Rattle.vtl_values.specs.declared.kind.Role.{Role}
use Rattle.vtl_values.specs.declared.kind.Role.TheVariants.{Identifier, Measure, Attribute, Viral}
use Rattle.vtl_values.specs.declared.structure.Codes.{Codes}
use Rattle.vtl_values.specs.declared.structure.Codes.TheVariants.{Any, Listed}
use Rattle.vtl_values.specs.declared.structure.Component.{Component}
use Rattle.vtl_values.specs.declared.value.Value.{Value}
use Rattle.vtl_values.specs.declared.value.Value.TheVariants.{Null, Text}
use Rattle.vtl_values.specs.Texts.{Fits, same_text}
use Rattle.data_model.specs.declared.TheConstants.{POINT_LIMIT}
use Rattle.point_sets.specs.DataSets.{DataSet}

abbrev pub is_identifier : Component → Bool
is_identifier c = of_role c.role
  where
    of_role : Role → Bool
    of_role Identifier = true
    of_role Measure = false
    of_role Attribute = false
    of_role Viral = false

-- the components that make a key, and the others
abbrev pub identifiers : List Component → List Component
identifiers = filter is_identifier

abbrev pub others : List Component → List Component
others = filter (λ c. not (is_identifier c))

-- whether a text is one of the codes; what is no text is in every list
abbrev pub is_in_codes : Codes → Value → Bool
is_in_codes Any v = true
is_in_codes (Listed codes) (Text text) = list_any (same_text text) codes
is_in_codes (Listed codes) v = true

-- a component may have the value: it is of its kind and in its code list, or null
pub record FitsComponent (c : Component) (v : Value) : Type 0 where
  pub kind : Fits c.kind v
  pub codes : is_in_codes c.codes v ≡ true

-- an identifier is never null
pub record FitsIdentifier (c : Component) (v : Value) : Type 0 where
  pub fits : FitsComponent c v
  pub some : v ≢ Null

-- a point gives each component a value that fits it
pub record IsPointOf (components : List Component) (key rest : List Value) : Type 0 where
  pub key_fits : AllZip FitsIdentifier (identifiers components) key
  pub rest_fits : AllZip FitsComponent (others components) rest

-- a data set of the structure
abbrev pub IsSetOf : List Component → DataSet → Type 0
IsSetOf components m = (key : List Value) → IfSome (get m key) (IsPointOf components key)

-- a data set of the structure, within the limit of points
pub record IsBoundedSetOf (components : List Component) (set : DataSet) : Type 0 where
  pub fits : IsSetOf components set
  pub few : len set ≤ POINT_LIMIT
