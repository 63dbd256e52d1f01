-- The structures of data sets (docs/formats.md, "Structures").
use Rattle.std.specs.Prelude.{◌≡◌, ◌≢◌, ◌≤◌, ℕ, List, [], position, nat_eq, Option, All, AllPairs, ⊤}
use Rattle.std.specs.Cmp.Lexicographic.{pointwise}
use Rattle.std.specs.Map.{lookup, keys_of}
use Rattle.vtl_values.specs.declared.kind.Kind.{Kind}
use Rattle.vtl_values.specs.declared.kind.Kind.TheVariants.{Text}
use Rattle.vtl_values.specs.declared.kind.Role.{Role}
use Rattle.vtl_values.specs.declared.kind.Role.TheVariants.{Identifier, Measure, Attribute, Viral}
use Rattle.vtl_values.specs.declared.structure.Codes.{Codes}
use Rattle.vtl_values.specs.declared.structure.Codes.TheVariants.{Any, Listed}
use Rattle.vtl_values.specs.declared.structure.Component.{Component}

-- where the components of a role stand
abbrev pub place_of : Role → ℕ
place_of Identifier = 0
place_of Measure = 1
place_of Attribute = 2
place_of Viral = 3

-- texts alone have a code list, which isn't empty and has each code once
abbrev pub FitsCodes : Kind → Codes → Type 0
FitsCodes kind Any = ⊤
FitsCodes kind (Listed codes) = (kind ≡ Text) × (codes ≢ []) × AllPairs (λ a b. a ≢ b) codes

-- the components of a data set
pub record IsStructure (components : List Component) : Type 0 where
  -- identifiers stand first, then measures, attributes and viral attributes
  pub in_order : AllPairs (λ a b. place_of a.role ≤ place_of b.role) components
  -- no name stands twice
  pub names_differ : AllPairs (λ a b. a.name ≢ b.name) components
  -- a viral attribute has a code list
  pub viral_listed : All (λ c. c.role ≡ Viral → c.codes ≢ Any) components
  -- a code list fits its component
  pub codes_fit : All (λ c. FitsCodes c.kind c.codes) components

-- names with their structures, in order of first insertion
abbrev pub NamedStructures : Type 0
NamedStructures = List (List ℕ × List Component)

-- the structure of this name
abbrev pub structure_of : NamedStructures → List ℕ → Option (List Component)
structure_of named name = lookup (pointwise nat_eq name) named

-- how many stand before that of this name
abbrev pub number_of : NamedStructures → List ℕ → Option ℕ
number_of named name = position (pointwise nat_eq name) (keys_of named)

-- no name has two structures
abbrev pub HasNamesOnce : NamedStructures → Type 0
HasNamesOnce named = AllPairs (λ a b. a ≢ b) (keys_of named)
