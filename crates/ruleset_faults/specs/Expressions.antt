-- What is wrong with an expression in a rule by itself, whatever the kinds of its names are (docs/language.md, "A ruleset by
-- itself").
use Rattle.std.specs.Prelude.{ℕ, ◌&&◌, Bool, true, false, List, [], ◌∷◌, ◌++◌, map, nat_abs, nat_le, Option, Some, None, is_some, Result, Ok, ⊤, IfOk, IfErr, ◌≡◌, if◌then◌else◌}
use Rattle.std.specs.List.{list_all}
use Rattle.std.specs.Option.{option_map, option_to_list, option_map_or}
use Rattle.vtl_values.specs.declared.place.Place.{Place}
use Rattle.vtl_syntax.specs.declared.expr.Expr.{Expr, fold-Expr}
use Rattle.vtl_syntax.specs.declared.expr.JoinOperand.{JoinOperand, fold-JoinOperand}
use Rattle.vtl_syntax.specs.declared.expr.OrderItem.{OrderItem}
use Rattle.vtl_syntax.specs.declared.expr.Over.{Over}
use Rattle.vtl_syntax.specs.declared.expr.SubstrRange.{SubstrRange, fold-SubstrRange}
use Rattle.vtl_syntax.specs.declared.expr.Clause.TheOpen.{Clause-F, Expr-F, Groups-F, Item-F, JoinOperand-F, SubstrRange-F}
use Rattle.scalar_texts.specs.Patterns.{is_pattern}
use Rattle.scalar_trees.specs.WellTyped.{digits_fit, is_present}
use Rattle.scalar_trees.specs.declared.typing.stop.Fault.TheVariants.{UnknownComponent, BadConstant, BadPattern}
use Rattle.scalar_trees.specs.declared.typing.stop.Refusal.{Refusal}
use Rattle.scalar_trees.specs.declared.typing.stop.TypeStop.{TypeStop}
use Rattle.scalar_trees.specs.typing.Steps.{◌>>=◌, Refuses, demanded, refused}
use Rattle.data_set_trees.specs.aggregates.Groups.{is_one_of}
use Rattle.data_set_trees.specs.clauses.Clauses.{demands}
use Rattle.data_set_trees.specs.times.Times.{MOST_PLACES}
use Rattle.data_set_trees.specs.windows.Parts.{is_offset, order_items, partition_names, points_within}

-- nothing is wrong, or this is the first fault
abbrev pub Seen : Type 0
Seen = Result (Unit {0}) Refusal

-- what is wrong, or want of memory
pub record Tells (meaning : Seen) (result : Result (Unit {0}) TypeStop) : Type 0 where
  pub ok : IfOk result (λ met. meaning ≡ Ok met)
  pub err : IfErr result (Refuses meaning)

-- one thing, and then another
abbrev pub followed : Seen → Seen → Seen
followed first next = first >>= (λ met. next)

pub record Look : Type 0 where
  -- the expression is just a name
  pub is_name : Bool
  -- what is wrong with it where these names may stand in it
  pub seen : List (List ℕ) → Seen

-- `, start, length` of `substr`
pub record RangeLook : Type 0 where
  pub start : Look
  pub length : Option Look

-- One level, whose parts say what is wrong with them. Clauses and groupings aren't looked at, since they have no place in a
-- rule.
abbrev pub Level : Type 0
Level = Expr-F ⊤ Look ⊤ ⊤ Look RangeLook

-- the first fault of the first that has one
abbrev pub all_seen : List Look → List (List ℕ) → Seen
all_seen [] names = Ok tt
all_seen (l ∷ ls) names = followed (l.seen names) (all_seen ls names)

-- the names in `over` may stand there
abbrev pub may_name : List (List ℕ) → Over → Bool
may_name names over = list_all (is_one_of names) (partition_names over) && list_all (λ (o : OrderItem). is_one_of names o.name) (order_items over)

-- an analytic operator, which has no place in a rule: its names, and how far it reaches
abbrev pub over_seen : Place → Over → Bool → List (List ℕ) → Seen
over_seen place over within names = demands place ((may_name names over, UnknownComponent) ∷ (within, BadConstant) ∷ [])

-- `alias#name` is one name, and there are no aliases in a rule
abbrev pub member_seen : Look → Place → List (List ℕ) → Seen
member_seen a place names = if a.is_name then refused UnknownComponent place else a.seen names

abbrev pub range_parts : Option RangeLook → List Look
range_parts None = []
range_parts (Some r) = r.start ∷ option_to_list r.length

abbrev pub is_name_step : Level → Bool
is_name_step (Expr-F.Name name place) = true
is_name_step _ = false

-- its operands, in order, and then what is wrong with itself
abbrev pub seen_step : Level → List (List ℕ) → Seen
seen_step (Expr-F.Literal v place) names = Ok tt
seen_step (Expr-F.Name name place) names = demanded (is_one_of names name) UnknownComponent place
seen_step (Expr-F.Bracket a place) names = a.seen names
seen_step (Expr-F.Signed sign a place) names = a.seen names
seen_step (Expr-F.Unary f a place) names = a.seen names
seen_step (Expr-F.Or a sign b place) names = all_seen (a ∷ b ∷ []) names
seen_step (Expr-F.And a b place) names = all_seen (a ∷ b ∷ []) names
seen_step (Expr-F.Compare a sign b place) names = all_seen (a ∷ b ∷ []) names
seen_step (Expr-F.Sum a sign b place) names = all_seen (a ∷ b ∷ []) names
seen_step (Expr-F.Product a sign b place) names = all_seen (a ∷ b ∷ []) names
seen_step (Expr-F.Binary f a b place) names = all_seen (a ∷ b ∷ []) names
seen_step (Expr-F.If c a b place) names = all_seen (c ∷ a ∷ b ∷ []) names
seen_step (Expr-F.In a sign set place) names = followed (a.seen names) (demanded (list_all is_present set) BadConstant place)
seen_step (Expr-F.Between a low high place) names = a.seen names
seen_step (Expr-F.Round f a digits place) names = followed (a.seen names) (demanded (digits_fit digits) BadConstant place)
seen_step (Expr-F.MatchCharacters a pattern place) names = followed (a.seen names) (demanded (is_pattern pattern) BadPattern place)
seen_step (Expr-F.Substr a range place) names = all_seen (a ∷ range_parts range) names
seen_step (Expr-F.Replace a old by place) names = all_seen (a ∷ old ∷ option_to_list by) names
seen_step (Expr-F.Typed sort a place) names = a.seen names
seen_step (Expr-F.Member a name place) names = member_seen a place names
seen_step (Expr-F.Clause a clause place) names = a.seen names
seen_step (Expr-F.ExistsIn a b rows place) names = all_seen (a ∷ b ∷ []) names
seen_step (Expr-F.Sets f a b others place) names = all_seen (a ∷ b ∷ others) names
seen_step (Expr-F.Difference f a b place) names = all_seen (a ∷ b ∷ []) names
seen_step (Expr-F.Join f a b others filter calc keep rename place) names = all_seen (a ∷ b ∷ others) names
seen_step (Expr-F.Aggregate f a groups place) names = a.seen names
seen_step (Expr-F.CountAll place) names = Ok tt
seen_step (Expr-F.Window f a over place) names = followed (a.seen names) (over_seen place over (points_within over.points) names)
seen_step (Expr-F.Offset f a offset over place) names = followed (a.seen names) (over_seen place over (is_offset offset && points_within over.points) names)
seen_step (Expr-F.Rank over place) names = over_seen place over (points_within over.points) names
seen_step (Expr-F.CheckDatapoint a rules rules_place output place) names = a.seen names
seen_step (Expr-F.Hierarchy a rules rules_place component mode input output place) names = a.seen names
seen_step (Expr-F.CheckHierarchy a rules rules_place component mode input output place) names = a.seen names
seen_step (Expr-F.Check a code level imbalance output place) names = all_seen (a ∷ option_to_list imbalance) names
seen_step (Expr-F.Time f a place) names = a.seen names
seen_step (Expr-F.Timeshift a shift place) names = followed (a.seen names) (demanded (nat_le (nat_abs shift) MOST_PLACES) BadConstant place)
seen_step (Expr-F.FillTimeSeries a span place) names = a.seen names
seen_step (Expr-F.CallOf name arguments place) names = all_seen arguments names

-- ---- whole expressions

abbrev pub step : Level → Look
step x = record { is_name = is_name_step x; seen = seen_step x }

abbrev pub operand_step : JoinOperand-F ⊤ Look ⊤ ⊤ Look RangeLook → Look
operand_step o = o.expr

abbrev pub range_step : SubstrRange-F ⊤ Look ⊤ ⊤ Look RangeLook → RangeLook
range_step r = record { start = r.start; length = r.length }

abbrev pub look : Expr → Look
look = fold-Expr ⊤ Look ⊤ ⊤ Look RangeLook (λ clause. tt) step (λ groups. tt) (λ item. tt) operand_step range_step

abbrev pub operand_look : JoinOperand → Look
operand_look = fold-JoinOperand ⊤ Look ⊤ ⊤ Look RangeLook (λ clause. tt) step (λ groups. tt) (λ item. tt) operand_step range_step

abbrev pub range_look : SubstrRange → RangeLook
range_look = fold-SubstrRange ⊤ Look ⊤ ⊤ Look RangeLook (λ clause. tt) step (λ groups. tt) (λ item. tt) operand_step range_step

-- what is wrong with an expression where these names may stand in it
abbrev pub seen : List (List ℕ) → Expr → Seen
seen names e = (look e).seen names

-- with one that may be left out
abbrev pub seen_if : List (List ℕ) → Option Expr → Seen
seen_if names e = all_seen (option_to_list (option_map look e)) names
