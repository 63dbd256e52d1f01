-- Small data sets, on which operators are tried: amounts and texts by name, and marks of their status.
use Rattle.std.specs.Prelude.{◌≡◌, pos, ℕ, List, [], ◌∷◌, Result, Ok, Err, Option, codes}
use Rattle.vtl_values.specs.declared.kind.Kind.{Kind}
use Rattle.vtl_values.specs.declared.kind.Kind.TheVariants as kind
use Rattle.vtl_values.specs.declared.kind.Role.TheVariants.{Identifier, Measure, Attribute, Viral}
use Rattle.vtl_values.specs.declared.place.Place.{Place}
use Rattle.vtl_values.specs.declared.structure.Codes.TheVariants.{Listed}
use Rattle.vtl_values.specs.declared.structure.Component.{Component}
use Rattle.vtl_values.specs.declared.value.Value.TheVariants as value
use Rattle.scalar_trees.specs.declared.typing.stop.Fault.{Fault}
use Rattle.scalar_trees.specs.typing.Scalars.{literal_typed}
use Rattle.data_set_trees.specs.clauses.After.{made}
use Rattle.data_set_trees.specs.declared.operand.Operand.{Operand}
use Rattle.data_set_trees.specs.declared.operand.Operand.TheVariants as operand
use Rattle.data_set_trees.specs.declared.tree.DataSetTree.TheVariants as tree
use Rattle.data_set_trees.specs.declared.tree.Source.TheVariants.{Input}
use Rattle.data_set_trees.specs.Joins.{Aliased}
use Rattle.data_set_trees.specs.Trees.{SetAnswer}

abbrev pub here : Place
here = record { line = 1; column = 8 }

-- an input of this number and structure
abbrev pub input : ℕ → List Component → Operand
input number structure = operand.DataSet (record { tree = tree.Name (Input number); structure = structure })

abbrev pub id : Component
id = made Identifier kind.Text (codes "Id")

abbrev pub year : Component
year = made Identifier kind.Integer (codes "Year")

abbrev pub amount : Component
amount = made Measure kind.Number (codes "Me")

abbrev pub note : Component
note = made Attribute kind.Text (codes "Note")

abbrev pub status : Component
status = record { name = codes "St"; role = Viral; kind = kind.Text; codes = Listed (codes "e" ∷ codes "p" ∷ []) }

-- A and B have an amount for each Id
abbrev pub amounts : List Component
amounts = id ∷ amount ∷ []

-- C has one for each Id and Year, a note and a status
abbrev pub by_year : List Component
by_year = id ∷ year ∷ amount ∷ note ∷ status ∷ []

-- T has a text for each Id
abbrev pub texts : List Component
texts = id ∷ made Measure kind.Text (codes "Name") ∷ []

-- D has another amount for each Id and Other
abbrev pub others : List Component
others = id ∷ made Identifier kind.Text (codes "Other") ∷ made Measure kind.Number (codes "Cost") ∷ []

-- E has a status of the name that comparisons give
abbrev pub judged : List Component
judged = id ∷ amount ∷ record status { name = codes "bool_var" } ∷ []

-- F says of each Id whether it holds
abbrev pub flags : List Component
flags = id ∷ made Measure kind.Truth (codes "Flag") ∷ []

abbrev pub A : Operand
A = input 0 amounts

abbrev pub B : Operand
B = input 1 amounts

abbrev pub C : Operand
C = input 2 by_year

abbrev pub T : Operand
T = input 3 texts

abbrev pub D : Operand
D = input 5 others

abbrev pub E : Operand
E = input 6 judged

abbrev pub F : Operand
F = input 4 flags

-- the scalars 3, 2.5 and "abc"
abbrev pub three : Operand
three = operand.Scalar (literal_typed (value.Integer (pos 3)))

abbrev pub half : Operand
half = operand.Scalar (literal_typed (value.Number (pos 2500000)))

abbrev pub abc : Operand
abc = operand.Scalar (literal_typed (value.Text (codes "abc")))

-- an operand of a join under its alias
abbrev pub named : List ℕ → List Component → Aliased
named alias structure = record { alias = alias; structure = structure }

-- G says of each Id whether a test is passed, and H has an imbalance for each
abbrev pub tested : List Component
tested = id ∷ made Measure kind.Truth (codes "bool_var") ∷ []

abbrev pub by_codes : List Component
by_codes = id ∷ made Measure kind.Integer (codes "N") ∷ status ∷ []

-- ---- what is told of an answer

-- a structure, or the kind of a scalar
pub data Told : Type 0 where
  Structured : List Component → Told
  OfKind : Option Kind → Told

abbrev pub told : SetAnswer → Result Told Fault
told (Ok (operand.DataSet d)) = Ok (Structured d.structure)
told (Ok (operand.Scalar t)) = Ok (OfKind t.kind)
told (Err refusal) = Err refusal.fault

abbrev pub is_set : SetAnswer → List Component → Type 0
is_set answer structure = told answer ≡ Ok (Structured structure)

abbrev pub has_fault : SetAnswer → Fault → Type 0
has_fault answer fault = told answer ≡ Err fault
