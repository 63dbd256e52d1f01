-- Groups of points, and what may be named of one (docs/language.md, "Aggregates").
use Rattle.std.specs.Prelude.{ℕ, ◌+◌, Bool, not, ◌&&◌, List, [], ◌∷◌, Option, Some, None}
use Rattle.std.specs.List.{list_any}
use Rattle.vtl_values.specs.Texts.{same_text}
use Rattle.vtl_values.specs.declared.kind.Role.TheVariants.{Identifier}
use Rattle.vtl_values.specs.declared.structure.Component.{Component}
use Rattle.vtl_syntax.specs.declared.expr.Grouping.{Grouping}
use Rattle.vtl_syntax.specs.declared.words.GroupWord.{GroupWord}
use Rattle.vtl_syntax.specs.declared.words.GroupWord.TheVariants.{By, Except}
use Rattle.scalar_trees.specs.WellTyped.{Kinds}
use Rattle.scalar_trees.specs.declared.typing.scope.Basis.TheVariants.{Group}
use Rattle.scalar_trees.specs.declared.typing.scope.Column.{Column}
use Rattle.scalar_trees.specs.declared.typing.scope.Scope.{Scope}
use Rattle.scalar_trees.specs.typing.Scopes.{names_from, kinds_of}
use Rattle.data_set_trees.specs.clauses.After.{is_among}
use Rattle.data_set_trees.specs.clauses.Frames.{has_role, numbers_from}

-- ---- by what groups are formed

-- one of these is the name
abbrev pub is_one_of : List (List ℕ) → List ℕ → Bool
is_one_of names name = list_any (same_text name) names

-- by the identifiers that are named, or by the others
abbrev pub forms_groups : GroupWord → List (List ℕ) → Component → Bool
forms_groups By names c = has_role Identifier c && is_one_of names c.name
forms_groups Except names c = has_role Identifier c && not (is_one_of names c.name)

-- the numbers of these identifiers, in the data set's order; without a grouping all points are one group
abbrev pub grouping_numbers : Option Grouping → List Component → List ℕ
grouping_numbers None components = []
grouping_numbers (Some g) components = numbers_from (λ number. forms_groups g.word g.names) 0 components

-- ---- what may be named

abbrev pub column_at : List ℕ → ℕ → Component → Column
column_at grouping number c = record { kind = c.kind; role = c.role; grouped = is_among grouping number }

abbrev pub columns_from : List ℕ → ℕ → List Component → List Column
columns_from grouping number [] = []
columns_from grouping number (c ∷ cs) = column_at grouping number c ∷ columns_from grouping (number + 1) cs

-- what names stand for where groups are formed by the identifiers with these numbers
abbrev pub scope_of_groups : List ℕ → List Component → Scope
scope_of_groups grouping components = record { names = names_from 0 components; columns = columns_from grouping 0 components }

-- the kinds of what may be named on a group
abbrev pub kinds_on_groups : List ℕ → List Component → Kinds
kinds_on_groups grouping components = kinds_of (columns_from grouping 0 components) Group
