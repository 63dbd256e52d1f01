-- Joins without the clauses inside them (docs/language.md, "Joins", "Structures of results").
use Rattle.std.specs.Prelude.{ℕ, Bool, true, ◌&&◌, ◌+◌, ◌++◌, List, [], ◌∷◌, map, filter, flat_map, Option, Some, None, option_map}
use Rattle.std.specs.List.{list_any, list_all}
use Rattle.vtl_values.specs.Texts.{same_text}
use Rattle.vtl_values.specs.declared.kind.Role.TheVariants.{Measure}
use Rattle.vtl_values.specs.declared.structure.Component.{Component}
use Rattle.vtl_syntax.specs.declared.words.JoinFunction.{JoinFunction}
use Rattle.vtl_syntax.specs.declared.words.JoinFunction.TheVariants as function
use Rattle.vtl_syntax.specs.declared.expr.Clause.{Clause}
use Rattle.vtl_syntax.specs.declared.expr.Expr.{Expr, out-Expr}
use Rattle.vtl_syntax.specs.declared.expr.Clause.TheOpen.{Expr-F}
use Rattle.vtl_syntax.specs.declared.expr.JoinOperand.{JoinOperand, out-JoinOperand}
use Rattle.vtl_syntax.specs.declared.expr.Groups.{Groups}
use Rattle.vtl_syntax.specs.declared.expr.Item.{Item}
use Rattle.vtl_syntax.specs.declared.expr.SubstrRange.{SubstrRange}
use Rattle.scalar_trees.specs.declared.typing.scope.ScopeName.{ScopeName}
use Rattle.data_set_trees.specs.declared.clauses.frame.Frame.{Frame}
use Rattle.data_set_trees.specs.clauses.Frames.{has_role}
use Rattle.data_set_trees.specs.clauses.Clauses as clauses
use Rattle.data_set_trees.specs.declared.operand.DataSet.{DataSet}
use Rattle.data_set_trees.specs.Components.{identifiers, virals, further, is_taken, include, virals_agree}

-- ---- what the operands have to have in common

-- each one's viral attributes agree with those of the others after it
abbrev pub all_virals_agree : List (List Component) → Bool
all_virals_agree [] = true
all_virals_agree (s ∷ ss) = list_all (virals_agree s) ss && all_virals_agree ss

-- its identifiers include those of each operand
abbrev pub includes_all : List (List Component) → List Component → Bool
includes_all structures s = list_all (λ t. include (identifiers s) (identifiers t)) structures

-- an inner join has an operand with all identifiers, the operands of a left and a full one have the same
abbrev pub identifiers_fit : JoinFunction → List (List Component) → Bool
identifiers_fit function.Inner structures = list_any (includes_all structures) structures
identifiers_fit function.Left structures = list_all (includes_all structures) structures
identifiers_fit function.Full structures = list_all (includes_all structures) structures
identifiers_fit function.Cross structures = true

abbrev pub may_join : JoinFunction → List (List Component) → Bool
may_join f structures = identifiers_fit f structures && all_virals_agree structures

-- ---- what a join has, before the clauses inside

-- components of the first, and then those of the others whose names aren't there yet
abbrev pub gathered : List Component → List (List Component) → List Component
gathered before [] = before
gathered before (cs ∷ others) = gathered (before ++ further before cs) others

-- Identifiers of one name are one, but for a cross join, where all are components of their own.
abbrev pub join_identifiers : JoinFunction → List (List Component) → List Component
join_identifiers function.Cross structures = flat_map identifiers structures
join_identifiers _ structures = gathered [] (map identifiers structures)

-- Then come the measures of each operand, and the viral attributes, of which those of one name are one. Other attributes go.
abbrev pub join_components : JoinFunction → List (List Component) → List Component
join_components f structures =
    (join_identifiers f structures ++ flat_map (filter (has_role Measure)) structures) ++ gathered [] (map virals structures)

-- ---- names inside a join

-- an operand under its alias
pub record Aliased : Type 0 where
  pub alias : List ℕ
  pub structure : List Component

abbrev pub structures_of : List Aliased → List (List Component)
structures_of operands = map (λ (o : Aliased). o.structure) operands

-- the aliases under which a component is called; none is its bare name
abbrev pub Titles : Type 0
Titles = List (Option (List ℕ))

-- each of these components of an operand is called under its alias
abbrev pub owned : (List Component → List Component) → Aliased → List Titles
owned part o = map (λ (c : Component). Some o.alias ∷ []) (part o.structure)

-- the aliases of the operands of which it is an identifier
abbrev pub owners : List Aliased → Component → List (List ℕ)
owners operands c = map (λ (o : Aliased). o.alias) (filter (λ (o : Aliased). is_taken c.name (identifiers o.structure)) operands)

-- a component of several operands is called by its bare name too
abbrev pub shared : List (List ℕ) → Titles
shared [] = []
shared (alias ∷ []) = Some alias ∷ []
shared aliases = None ∷ map Some aliases

abbrev pub identifier_titles : JoinFunction → List Aliased → List Titles
identifier_titles function.Cross operands = flat_map (owned identifiers) operands
identifier_titles f operands = map (λ (c : Component). shared (owners operands c)) (join_identifiers f (structures_of operands))

-- Those of each component of the join; viral attributes have their bare names alone.
abbrev pub join_titles : JoinFunction → List Aliased → List Titles
join_titles f operands =
    (identifier_titles f operands ++ flat_map (owned (filter (has_role Measure))) operands) ++ map (λ (c : Component). None ∷ []) (gathered [] (map virals (structures_of operands)))

-- the names of the component with this number
abbrev pub names_at : ℕ → List ℕ → Titles → List ScopeName
names_at number name titles = map (λ alias. record { alias = alias; name = name; number = number }) titles

abbrev pub names_under : ℕ → List Component → List Titles → List ScopeName
names_under number (c ∷ cs) (t ∷ ts) = names_at number c.name t ++ names_under (number + 1) cs ts
names_under number _ _ = []

-- what the first clause inside works on
abbrev pub join_frame : JoinFunction → List Aliased → Frame
join_frame f operands = record { names = names_under 0 (join_components f (structures_of operands)) (join_titles f operands); components = join_components f (structures_of operands) }

-- Inside a join names may stand twice, so its components are called by their numbers, as digits from `0` on.
abbrev pub numbered : ℕ → List Component → List Component
numbered number [] = []
numbered number (c ∷ cs) = record c { name = (48 + number) ∷ [] } ∷ numbered (number + 1) cs

-- ---- aliases

abbrev pub own_name : Expr → Option (List ℕ)
own_name e = by_form (out-Expr e)
  where
    by_form : Expr-F Clause Expr Groups Item JoinOperand SubstrRange → Option (List ℕ)
    by_form (Expr-F.Name name place) = Some name
    by_form _ = None

-- an operand that is a name has this name as its alias, unless another is given
abbrev pub alias_of : JoinOperand → Option (List ℕ)
alias_of o = given (out-JoinOperand o).alias
  where
    given : Option (List ℕ) → Option (List ℕ)
    given (Some alias) = Some alias
    given None = own_name (out-JoinOperand o).expr

-- the operands under their aliases, where each has one
abbrev pub all_aliased : List (Option (List ℕ)) → List DataSet → Option (List Aliased)
all_aliased (Some alias ∷ aliases) (d ∷ ds) = option_map (λ os. record { alias = alias; structure = d.structure } ∷ os) (all_aliased aliases ds)
all_aliased [] [] = Some []
all_aliased _ _ = None

abbrev pub aliases_differ : List Aliased → Bool
aliases_differ operands = clauses.all_differ same_text (map (λ (o : Aliased). o.alias) operands)
