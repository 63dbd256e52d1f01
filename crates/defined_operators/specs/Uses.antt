-- Which parameters an operator's written-out body uses: arguments for the others needn't be written.
use Rattle.std.specs.Prelude.{◌≡◌, ℕ, zero, suc, ◌+◌, ◌≤◌, Bool, true, false, ◌||◌, List, [], ◌∷◌, ◌++◌, Option, map, unwrap_or, slice_get, if◌then◌else◌}
use Rattle.std.specs.List.{list_any}
use Rattle.std.specs.Option.{option_and_then}
use Rattle.vtl_values.specs.declared.place.Place.{Place}
use Rattle.vtl_syntax.specs.declared.operator.DefinedOperator.{DefinedOperator}
use Rattle.vtl_syntax.specs.declared.operator.Param.{Param}
use Rattle.vtl_syntax.specs.declared.expr.Expr.{Expr}
use Rattle.vtl_syntax.specs.declared.expr.Expr.TheVariants as tree
use Rattle.operator_faults.specs.declared.outline.What.{What}
use Rattle.operator_faults.specs.declared.outline.What.TheVariants as what
use Rattle.operator_faults.specs.declared.outline.Outline.{Outline, fold-Outline}
use Rattle.operator_faults.specs.declared.outline.Outline.TheOpen.{Outline-F}
use Rattle.operator_faults.specs.Names.{same_word}
use Rattle.operator_faults.specs.Outlines.{outlined}
use Rattle.operator_faults.specs.Recursions.{number_of}
use Rattle.tree_copies.specs.Made.{Calls, made, same_name}

-- ---- names that stand in an expression

abbrev pub is_name : List ℕ → What → Bool
is_name w (what.Name s) = same_word s.name w
is_name w (what.Call s) = false
is_name w what.Plain = false
is_name w what.Level = false
is_name w what.Inside = false
is_name w what.InsideJoin = false

abbrev it : Bool → Bool
it b = b

abbrev pub stands_step : List ℕ → Outline-F Bool → Bool
stands_step w r = is_name w r.what || list_any it r.parts

abbrev pub stands_in : List ℕ → Outline → Bool
stands_in w = fold-Outline Bool (stands_step w)

-- ---- arguments that are used

-- for each operator, for each of its parameters; what isn't told is used
abbrev pub Uses : Type 0
Uses = List (List Bool)

abbrev pub is_used : List Bool → ℕ → Bool
is_used flags i = unwrap_or (slice_get flags i) true

-- what stands for an argument that isn't used
abbrev pub left_out : Place → Expr
left_out p = tree.CountAll p

abbrev pub used_from : List Bool → ℕ → Place → List Expr → List Expr
used_from flags i p [] = []
used_from flags i p (a ∷ as') = (if is_used flags i then a else left_out p) ∷ used_from flags (i + 1) p as'

-- the arguments of a call, where those that aren't used are left out
abbrev pub used_arguments : List Bool → Place → List Expr → List Expr
used_arguments flags p as' = used_from flags 0 p as'

abbrev pub flags_at : Uses → Option ℕ → List Bool
flags_at uses i = unwrap_or (option_and_then (λ n. slice_get uses n) i) []

abbrev pub flags_of : List DefinedOperator → Uses → List ℕ → List Bool
flags_of operators uses w = flags_at uses (number_of operators w)

abbrev pub kept_call : List DefinedOperator → Uses → Calls
kept_call operators uses w as' p = tree.CallOf w (used_arguments (flags_of operators uses w) p as') p

-- ---- parameters that are used

-- those whose names stand in the body, where the arguments of its calls that aren't used are left out
abbrev pub used_params : List DefinedOperator → Uses → DefinedOperator → List Bool
used_params operators uses o = map (λ (p : Param). stands_in p.name (outlined (made same_name (kept_call operators uses) o.body))) o.params

-- where so many calls are replaced inside each other: a call that stays has all of its arguments
abbrev pub uses_of : List DefinedOperator → ℕ → Uses
uses_of operators zero = []
uses_of operators (suc n) = map (used_params operators (uses_of operators n)) operators

-- ---- the uses for no call, for one, and so on

abbrev pub uses_at : List Uses → ℕ → Uses
uses_at levels n = unwrap_or (slice_get levels n) []

-- up to that number of calls
abbrev pub AreUsesTo : List DefinedOperator → List Uses → ℕ → Type 0
AreUsesTo operators levels k = (n : ℕ) → n ≤ k → uses_at levels n ≡ uses_of operators n

abbrev pub levels_to : List DefinedOperator → ℕ → List Uses
levels_to operators zero = [] ∷ []
levels_to operators (suc n) = levels_to operators n ++ uses_of operators (suc n) ∷ []
