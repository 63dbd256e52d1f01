-- Which checked scalar expressions are well typed (docs/language.md, "Scalar operators").
use Rattle.std.specs.Prelude.{ℕ, ℤ, pos, negsuc, Bool, true, false, not, ◌&&◌, nat_le, nat_abs, List, Option, Some, None, find, is_some}
use Rattle.std.specs.Option.{option_map, option_map_or}
use Rattle.std.specs.List.{list_all}
use Rattle.vtl_values.specs.declared.kind.Kind.{Kind}
use Rattle.vtl_values.specs.declared.kind.Kind.TheVariants.{Integer, Number, Text, Truth}
use Rattle.vtl_values.specs.declared.value.Value.{Value}
use Rattle.vtl_values.specs.declared.value.Value.TheVariants as value
use Rattle.vtl_values.specs.Ranges.{MOST_INTEGER, MOST_MILLIONTHS}
use Rattle.scalar_texts.specs.Patterns.{is_pattern}
use Rattle.scalar_trees.specs.declared.tree.CheckedExpr.{CheckedExpr, fold-CheckedExpr}
use Rattle.scalar_trees.specs.declared.tree.CheckedExpr.TheOpen.{CheckedExpr-F}
use Rattle.scalar_trees.specs.Kinds.{ANY, unary_takes, unary_gives, binary_takes, binary_gives, aggregate_takes, aggregate_gives, round_gives, sort_takes, literal_kind}

abbrev pub is_kind : Kind → Kind → Bool
is_kind Integer Integer = true
is_kind Number Number = true
is_kind Text Text = true
is_kind Truth Truth = true
is_kind _ _ = false

-- it is there, and of this kind
abbrev pub is_some_kind : Kind → Option Kind → Bool
is_some_kind k (Some kind) = is_kind kind k
is_some_kind k None = false

-- what has no kind of its own is of every kind, else of its own alone
abbrev pub is_exactly : Option Kind → Kind → Bool
is_exactly None kind = true
is_exactly (Some own) kind = is_kind own kind

abbrev pub in_range : Value → Bool
in_range value.Null = true
in_range (value.Integer n) = nat_le (nat_abs n) MOST_INTEGER
in_range (value.Number n) = nat_le (nat_abs n) MOST_MILLIONTHS
in_range (value.Truth b) = true
in_range (value.Text cs) = true

-- the value is null, or of this kind and within its range
abbrev pub fits : Kind → Value → Bool
fits kind v = in_range v && is_exactly (literal_kind v) kind

-- a literal other than null
abbrev pub is_present : Value → Bool
is_present v = is_some (literal_kind v)

-- a literal of a set is of this kind, and not null
abbrev pub is_of_set : Kind → Value → Bool
is_of_set kind v = is_present v && fits kind v

-- digits go from -15 to 6, where they are given
abbrev pub digits_fit : Option ℤ → Bool
digits_fit None = true
digits_fit (Some (pos n)) = nat_le n 6
digits_fit (Some (negsuc n)) = nat_le n 14

-- what may be named in a tree: components by number, and where aggregates may stand, those that they may take
pub record Kinds : Type 0 where
  pub component : ℕ → Option Kind
  pub aggregated : ℕ → Option Kind
  -- whether `count()` may stand
  pub counted : Bool

-- what an operator gives that stands at the first kind that it takes at which its operands are
abbrev pub given : (Kind → Kind) → (Kind → Bool) → List Kind → Kind → Bool
given gives stand takes k = is_some_kind k (option_map gives (find stand takes))

abbrev pub same : Kind → Kind
same kind = kind

abbrev pub truth : Kind → Kind
truth kind = Truth

-- where it is given, it is of this kind
abbrev pub where_given : Kind → Option (Kind → Bool) → Bool
where_given k None = true
where_given k (Some a) = a k

-- one level, where each part says of which kinds it is
abbrev pub typed_step : Kinds → CheckedExpr-F (Kind → Bool) → Kind → Bool
typed_step kinds (CheckedExpr-F.Literal v) k = fits k v
typed_step kinds (CheckedExpr-F.Component n) k = is_some_kind k (kinds.component n)
typed_step kinds (CheckedExpr-F.Widened a) k = (a Integer && not (a Number)) && is_kind Number k
typed_step kinds (CheckedExpr-F.Unary o a) k = given (unary_gives o) a (unary_takes o) k
typed_step kinds (CheckedExpr-F.Binary o a b) k = given (binary_gives o) (λ q. a q && b q) (binary_takes o) k
typed_step kinds (CheckedExpr-F.Nvl a b) k = given same (λ q. a q && b q) ANY k
typed_step kinds (CheckedExpr-F.If c a b) k = c Truth && given same (λ q. a q && b q) ANY k
typed_step kinds (CheckedExpr-F.In a sign set) k = given truth (λ q. a q && list_all (is_of_set q) set) ANY k
typed_step kinds (CheckedExpr-F.Between a low high) k = given truth (λ q. a q && (fits q low && fits q high)) ANY k
typed_step kinds (CheckedExpr-F.Round f a digits) k = (a Number && digits_fit digits) && is_kind (round_gives digits) k
typed_step kinds (CheckedExpr-F.Substr a start length) k = (a Text && (where_given Integer start && where_given Integer length)) && is_kind Text k
typed_step kinds (CheckedExpr-F.Replace a old by) k = (a Text && (old Text && where_given Text by)) && is_kind Text k
typed_step kinds (CheckedExpr-F.Matches a pattern) k = (a Text && is_pattern pattern) && is_kind Truth k
typed_step kinds (CheckedExpr-F.OfSort sort a) k = given same a (sort_takes sort) k
typed_step kinds (CheckedExpr-F.Aggregate f n) k = option_map_or (λ kind. given (aggregate_gives f) (is_kind kind) (aggregate_takes f) k) (kinds.aggregated n) false
typed_step kinds CheckedExpr-F.CountAll k = kinds.counted && is_kind Integer k

-- The expression is of this kind, and each part of it of a kind that is wanted there. The literal null is of every kind,
-- any other expression of one at most.
abbrev pub is_of_kind : Kinds → CheckedExpr → Kind → Bool
is_of_kind kinds = fold-CheckedExpr (Kind → Bool) (typed_step kinds)
