-- The structures that a file gives, or its first fault (docs/formats.md, "Structures").
use Rattle.std.specs.Prelude.{ℕ, List, [], ◌∷◌, ◌++◌, Bool, length, Result, Ok, codes, count_by, insert, is_some, nat_eq, nat_le, if◌then◌else◌}
use Rattle.std.specs.Cmp.Lexicographic.{pointwise}
use Rattle.std.specs.List.{list_any}
use Rattle.serde_json.specs.Data.{Data}
use Rattle.vtl_values.specs.declared.structure.Component.{Component}
use Rattle.vtl_values.specs.Structures.{NamedStructures, place_of, structure_of}
use Rattle.structure_files.specs.declared.stop.Fault.TheVariants.{NotJson, MissingField, NameTwice, NoIdentifier, TooMany}
use Rattle.structure_files.specs.declared.stop.Field.TheVariants.{Name, Role, Kind, Codes, Components}
use Rattle.structure_files.specs.declared.stop.Path.TheVariants.{Whole, Datasets, Set, SetField, Component as ComponentAt, ComponentField}
use Rattle.structure_files.specs.declared.stop.Refusal.{Refusal}
use Rattle.structure_files.specs.Fields.{name_at, role_at, kind_at, codes_at}
use Rattle.structure_files.specs.Json.{json_of, list_in}
use Rattle.structure_files.specs.Refusals.{◌>>=◌, refused, or_refused, one_by_one}

-- the most data sets of a file, and the most components of a data set
abbrev pub MOST : ℕ
MOST = 64

-- the component with this number in this set: its fields in the order name, role, type, codes
abbrev pub component_of : ℕ → ℕ → Data → Result Component Refusal
component_of i j value = do
  name ← name_at (ComponentField i j Name) value
  role ← role_at (ComponentField i j Role) value
  kind ← kind_at (ComponentField i j Kind) value
  codes ← codes_at (ComponentField i j Codes) role kind value
  Ok (record { name = name; role = role; kind = kind; codes = codes })

abbrev pub has_name : List ℕ → Component → Bool
has_name name component = pointwise nat_eq component.name name

-- a component stands after those of its role and of the roles before it
abbrev pub placed : Component → List Component → List Component
placed component before = insert before (count_by (λ other. nat_le (place_of other.role) (place_of component.role)) before) component

-- a further component: TooMany, then the faults of its fields, then NameTwice
abbrev pub next_component : ℕ → List Component → Data → Result (List Component) Refusal
next_component i before value = if nat_le MOST (length before) then refused TooMany (ComponentAt i (length before)) else do
  component ← component_of i (length before) value
  if list_any (has_name component.name) before then refused NameTwice (ComponentField i (length before) Name) else Ok (placed component before)

abbrev pub is_identifier : Component → Bool
is_identifier component = nat_le (place_of component.role) 0

-- a set's components, in the file's order: their faults, then NoIdentifier
abbrev pub components_of : ℕ → List Data → Result (List Component) Refusal
components_of i values = do
  components ← one_by_one (next_component i) values
  if list_any is_identifier components then Ok components else refused NoIdentifier (Set i)

-- a further set: TooMany, then its name's faults and NameTwice, then its components
abbrev pub next_set : NamedStructures → Data → Result NamedStructures Refusal
next_set before value = if nat_le MOST (length before) then refused TooMany (Set (length before)) else do
  name ← name_at (SetField (length before) Name) value
  values ← if is_some (structure_of before name) then refused NameTwice (SetField (length before) Name) else or_refused (list_in (codes "components") value) MissingField (SetField (length before) Components)
  components ← components_of (length before) values
  Ok (before ++ (name, components) ∷ [])

-- the file: NotJson, then MissingField of the sets, then the sets in the file's order
abbrev pub structures_of : List ℕ → Result NamedStructures Refusal
structures_of bytes = do
  value ← or_refused (json_of bytes) NotJson Whole
  values ← or_refused (list_in (codes "datasets") value) MissingField Datasets
  one_by_one next_set values
