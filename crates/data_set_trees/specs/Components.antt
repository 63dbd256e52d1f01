-- Parts of the structures of data sets (docs/language.md, "Structures of results").
use Rattle.std.specs.Prelude.{ℕ, Bool, true, false, not, ◌&&◌, ◌||◌, ◌+◌, List, [], ◌∷◌, filter, length, nat_eq, if◌then◌else◌, codes}
use Rattle.std.specs.List.{list_any, list_all}
use Rattle.std.specs.Cmp.Lexicographic.{pointwise}
use Rattle.vtl_values.specs.Texts.{same_text}
use Rattle.vtl_values.specs.declared.kind.Kind.{Kind}
use Rattle.vtl_values.specs.declared.kind.Kind.TheVariants.{Integer, Number, Text, Truth}
use Rattle.vtl_values.specs.declared.kind.Role.TheVariants.{Identifier, Measure, Viral}
use Rattle.vtl_values.specs.declared.structure.Codes.{Codes}
use Rattle.vtl_values.specs.declared.structure.Codes.TheVariants.{Any, Listed}
use Rattle.vtl_values.specs.declared.structure.Component.{Component}
use Rattle.scalar_trees.specs.WellTyped.{is_kind}
use Rattle.data_set_trees.specs.clauses.Frames.{is_role, has_role}
use Rattle.data_set_trees.specs.declared.measure.Measure as declared

-- what a component of a result is: it has no code list, viral attributes aside
abbrev pub unlisted : Component → Component
unlisted c = if has_role Viral c then c else record c { codes = Any }

abbrev pub identifiers : List Component → List Component
identifiers = filter (has_role Identifier)

abbrev pub virals : List Component → List Component
virals = filter (has_role Viral)

-- a measure with its number
abbrev pub numbered : ℕ → Component → declared.Measure
numbered number c = record { number = number; name = c.name; kind = c.kind }

abbrev pub measures_from : ℕ → List Component → List declared.Measure
measures_from number [] = []
measures_from number (c ∷ cs) = if has_role Measure c then numbered number c ∷ measures_from (number + 1) cs else measures_from (number + 1) cs

-- the measures, in structure order
abbrev pub measures : List Component → List declared.Measure
measures = measures_from 0

-- ---- names

abbrev pub has_name : List ℕ → Component → Bool
has_name name c = same_text name c.name

-- one of these has the name
abbrev pub is_taken : List ℕ → List Component → Bool
is_taken name cs = list_any (has_name name) cs

-- those whose names none of the others has
abbrev pub further : List Component → List Component → List Component
further others cs = filter (λ c. not (is_taken c.name others)) cs

-- no name stands twice
abbrev pub names_differ : List Component → Bool
names_differ [] = true
names_differ (c ∷ cs) = not (is_taken c.name cs) && names_differ cs

-- ---- components of two structures

abbrev pub same_codes : Codes → Codes → Bool
same_codes Any Any = true
same_codes (Listed a) (Listed b) = pointwise same_text a b
same_codes _ _ = false

-- of one name and one kind
abbrev pub is_same : Component → Component → Bool
is_same a b = same_text a.name b.name && is_kind a.kind b.kind

-- each of the second ones is among the first ones
abbrev pub include : List Component → List Component → Bool
include cs ds = list_all (λ d. list_any (is_same d) cs) ds

-- viral attributes of one name have one code list
abbrev pub virals_agree : List Component → List Component → Bool
virals_agree s t = list_all (λ v. list_all (λ w. not (same_text v.name w.name) || same_codes v.codes w.codes) (virals t)) (virals s)

-- of one name, role and kind; code lists don't count, but for viral attributes
abbrev pub is_alike : Component → Component → Bool
is_alike a b = (is_same a b && is_role a.role b.role) && (not (has_role Viral a) || same_codes a.codes b.codes)

-- of one structure, in whatever order
abbrev pub are_alike : List Component → List Component → Bool
are_alike s t = nat_eq (length s) (length t) && list_all (λ c. list_any (is_alike c) t) s

-- ---- names that operators give

abbrev pub BOOL_VAR : List ℕ
BOOL_VAR = codes "bool_var"

abbrev pub INT_VAR : List ℕ
INT_VAR = codes "int_var"

abbrev pub NUM_VAR : List ℕ
NUM_VAR = codes "num_var"

abbrev pub STRING_VAR : List ℕ
STRING_VAR = codes "string_var"

-- the name of a measure of this kind that has no name of its own
abbrev pub name_of_kind : Kind → List ℕ
name_of_kind Truth = BOOL_VAR
name_of_kind Integer = INT_VAR
name_of_kind Number = NUM_VAR
name_of_kind Text = STRING_VAR
