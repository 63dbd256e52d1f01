-- Calls of defined operators, and what they are replaced by.
use Rattle.std.specs.Prelude.{ℕ, zero, suc, ◌+◌, List, [], ◌∷◌, Option, Some, None, unwrap_or, position, slice_get, if◌then◌else◌}
use Rattle.std.specs.Option.{option_map, option_and_then}
use Rattle.vtl_values.specs.declared.place.Place.{Place}
use Rattle.vtl_syntax.specs.declared.words.Sort.{Sort}
use Rattle.vtl_syntax.specs.declared.operator.DefinedOperator.{DefinedOperator}
use Rattle.vtl_syntax.specs.declared.operator.Param.{Param}
use Rattle.vtl_syntax.specs.declared.expr.Expr.{Expr, out-Expr}
use Rattle.vtl_syntax.specs.declared.expr.Expr.TheVariants as tree
use Rattle.vtl_syntax.specs.declared.expr.Clause.TheOpen.{Expr-F}
use Rattle.operator_faults.specs.Names.{same_word}
use Rattle.operator_faults.specs.Calls.{operator_of, is_dataset}
use Rattle.tree_copies.specs.Made.{Names, Calls, made, same_name}

-- ---- sorts

abbrev pub layer_place : {A B C D E F : Type 0} → Expr-F A B C D E F → Place
layer_place (Expr-F.If x0 x1 x2 p) = p
layer_place (Expr-F.Or x0 x1 x2 p) = p
layer_place (Expr-F.And x0 x1 p) = p
layer_place (Expr-F.Compare x0 x1 x2 p) = p
layer_place (Expr-F.In x0 x1 x2 p) = p
layer_place (Expr-F.Sum x0 x1 x2 p) = p
layer_place (Expr-F.Product x0 x1 x2 p) = p
layer_place (Expr-F.Signed x0 x1 p) = p
layer_place (Expr-F.Member x0 x1 p) = p
layer_place (Expr-F.Clause x0 x1 p) = p
layer_place (Expr-F.Literal x0 p) = p
layer_place (Expr-F.Name x0 p) = p
layer_place (Expr-F.Bracket x0 p) = p
layer_place (Expr-F.Unary x0 x1 p) = p
layer_place (Expr-F.Round x0 x1 x2 p) = p
layer_place (Expr-F.Binary x0 x1 x2 p) = p
layer_place (Expr-F.Between x0 x1 x2 p) = p
layer_place (Expr-F.MatchCharacters x0 x1 p) = p
layer_place (Expr-F.Substr x0 x1 p) = p
layer_place (Expr-F.Replace x0 x1 x2 p) = p
layer_place (Expr-F.ExistsIn x0 x1 x2 p) = p
layer_place (Expr-F.Sets x0 x1 x2 x3 p) = p
layer_place (Expr-F.Difference x0 x1 x2 p) = p
layer_place (Expr-F.Join x0 x1 x2 x3 x4 x5 x6 x7 p) = p
layer_place (Expr-F.Aggregate x0 x1 x2 p) = p
layer_place (Expr-F.Window x0 x1 x2 p) = p
layer_place (Expr-F.CountAll p) = p
layer_place (Expr-F.Offset x0 x1 x2 x3 p) = p
layer_place (Expr-F.Rank x0 p) = p
layer_place (Expr-F.CheckDatapoint x0 x1 x2 x3 p) = p
layer_place (Expr-F.Hierarchy x0 x1 x2 x3 x4 x5 x6 p) = p
layer_place (Expr-F.CheckHierarchy x0 x1 x2 x3 x4 x5 x6 p) = p
layer_place (Expr-F.Check x0 x1 x2 x3 x4 p) = p
layer_place (Expr-F.Time x0 x1 p) = p
layer_place (Expr-F.Timeshift x0 x1 p) = p
layer_place (Expr-F.FillTimeSeries x0 x1 p) = p
layer_place (Expr-F.CallOf x0 x1 p) = p
layer_place (Expr-F.Typed x0 x1 p) = p

-- where an expression stands
abbrev pub place_of : Expr → Place
place_of e = layer_place (out-Expr e)

-- what has to be of the sort; nothing is said of a data set
abbrev pub typed : Sort → Place → Expr → Expr
typed s p e = if is_dataset s then e else tree.Typed s e p

abbrev pub returned : Option Sort → Place → Expr → Expr
returned None p e = e
returned (Some s) p e = typed s p e

abbrev pub sorted_argument : Option Param → Expr → Expr
sorted_argument None a = a
sorted_argument (Some p) a = typed p.sort (place_of a) a

abbrev pub sorted_from : List Param → ℕ → List Expr → List Expr
sorted_from params i [] = []
sorted_from params i (a ∷ as') = sorted_argument (slice_get params i) a ∷ sorted_from params (i + 1) as'

-- the arguments, each with the sort of its parameter
abbrev pub sorted_arguments : List Param → List Expr → List Expr
sorted_arguments params as' = sorted_from params 0 as'

abbrev pub sorted_by : DefinedOperator → Calls
sorted_by o w as' p = returned o.returns p (tree.CallOf w (sorted_arguments o.params as') p)

-- a call with the sorts of its operator put to the arguments and to the whole
abbrev pub sorted_call : List DefinedOperator → Calls
sorted_call operators w as' p = unwrap_or (option_map (λ (o : DefinedOperator). sorted_by o w as' p) (operator_of operators w)) (tree.CallOf w as' p)

-- the same for each call in an expression
abbrev pub sorted : List DefinedOperator → Expr → Expr
sorted operators = made same_name (sorted_call operators)

-- ---- parameters

abbrev pub argument_of : List Param → List Expr → List ℕ → Option Expr
argument_of params as' w = option_and_then (λ i. slice_get as' i) (position (λ (p : Param). same_word p.name w) params)

-- a parameter becomes its argument
abbrev pub bound : List Param → List Expr → Names
bound params as' w p = unwrap_or (argument_of params as' w) (tree.Name w p)

-- ---- calls

-- a call becomes its operator's body, and so do the calls in that; so many may stand inside each other, and those
-- further in stay
abbrev pub opened : List DefinedOperator → ℕ → Calls
opened operators zero w as' p = tree.CallOf w as' p
opened operators (suc n) w as' p = unwrap_or (option_map (λ (o : DefinedOperator). made (bound o.params as') (opened operators n) o.body) (operator_of operators w)) (tree.CallOf w as' p)

abbrev pub written : List DefinedOperator → ℕ → Expr → Expr
written operators n = made same_name (opened operators n)
