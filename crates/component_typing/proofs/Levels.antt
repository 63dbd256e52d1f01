-- What an expression is checked to be, from what stands in it.
use Rattle.std.proofs.Common.{◌≡◌, List, Option, Result, Ok, Some, map, sym, ap, subst, ◌∙◌}
use Rattle.std.specs.Prelude.{⊤}
use Rattle.std.specs.Option.{option_map}
use Rattle.vtl_syntax.proofs.Maps.{maps-Substr, maps-Replace, maps-Join}
use Rattle.vtl_syntax.specs.declared.words.JoinFunction.{JoinFunction}
use Rattle.vtl_values.specs.declared.place.Place.{Place}
use Rattle.vtl_syntax.specs.declared.expr.Clause.TheOpen.{Expr-F}
use Rattle.vtl_syntax.specs.declared.expr.Clause.{Clause, fold-Clause}
use Rattle.vtl_syntax.specs.declared.expr.Expr.{Expr, roll-Expr, map-Expr, fold-roll-Expr}
use Rattle.vtl_syntax.specs.declared.expr.Groups.{Groups, fold-Groups}
use Rattle.vtl_syntax.specs.declared.expr.Item.{Item, fold-Item}
use Rattle.vtl_syntax.specs.declared.expr.JoinOperand.{JoinOperand, out-JoinOperand, roll-out-JoinOperand, fold-roll-JoinOperand}
use Rattle.vtl_syntax.specs.declared.expr.SubstrRange.{SubstrRange, out-SubstrRange, roll-out-SubstrRange, fold-roll-SubstrRange}
use Rattle.scalar_trees.specs.WellTyped.{Kinds}
use Rattle.scalar_trees.specs.declared.typing.scope.Basis.{Basis}
use Rattle.scalar_trees.specs.declared.typing.scope.Scope.{Scope}
use Rattle.scalar_trees.specs.declared.typing.stop.TypeStop.{TypeStop}
use Rattle.scalar_trees.specs.declared.typing.typed.Typed.{Typed}
use Rattle.scalar_trees.specs.typing.Steps.{◌>>=◌}
use Rattle.scalar_trees.specs.typing.Scalars.{Meaning, RangeMeaning, Level, clause_place, step, operand_step, range_step, meaning, operand_meaning, Answer, typed_step, typed, typed_if}
use Rattle.component_typing.specs.Parts.{Answers, range_meaning}

abbrev clause_meaning : Clause → Place
clause_meaning = fold-Clause Place Meaning ⊤ ⊤ Meaning RangeMeaning clause_place step (λ groups. tt) (λ item. tt) operand_step range_step

abbrev groups_meaning : Groups → ⊤
groups_meaning = fold-Groups Place Meaning ⊤ ⊤ Meaning RangeMeaning clause_place step (λ groups. tt) (λ item. tt) operand_step range_step

abbrev item_meaning : Item → ⊤
item_meaning = fold-Item Place Meaning ⊤ ⊤ Meaning RangeMeaning clause_place step (λ groups. tt) (λ item. tt) operand_step range_step

-- one level, with the meaning of what stands in it
abbrev pub level_of : Expr-F Clause Expr Groups Item JoinOperand SubstrRange → Level
level_of x = map-Expr Clause Expr Groups Item JoinOperand SubstrRange Place Meaning ⊤ ⊤ Meaning RangeMeaning clause_meaning meaning groups_meaning item_meaning operand_meaning range_meaning x

-- parts that may be left out, and lists of them
pub substr_level : (a : Expr) (r : Option SubstrRange) (p : Place) → level_of (Expr-F.Substr a r p) ≡ Expr-F.Substr (meaning a) (option_map range_meaning r) p
substr_level a r p = maps-Substr Clause Expr Groups Item JoinOperand SubstrRange Place Meaning ⊤ ⊤ Meaning RangeMeaning clause_meaning meaning groups_meaning item_meaning operand_meaning range_meaning a r p

pub replace_level : (a b : Expr) (c : Option Expr) (p : Place) → level_of (Expr-F.Replace a b c p) ≡ Expr-F.Replace (meaning a) (meaning b) (option_map meaning c) p
replace_level a b c p = maps-Replace Clause Expr Groups Item JoinOperand SubstrRange Place Meaning ⊤ ⊤ Meaning RangeMeaning clause_meaning meaning groups_meaning item_meaning operand_meaning range_meaning a b c p

pub join_level : (f : JoinFunction) (a b : JoinOperand) (cs : List JoinOperand) (u v w x : Option Clause) (p : Place) → level_of (Expr-F.Join f a b cs u v w x p) ≡ Expr-F.Join f (operand_meaning a) (operand_meaning b) (map operand_meaning cs) (option_map clause_meaning u) (option_map clause_meaning v) (option_map clause_meaning w) (option_map clause_meaning x) p
join_level f a b cs u v w x p = maps-Join Clause Expr Groups Item JoinOperand SubstrRange Place Meaning ⊤ ⊤ Meaning RangeMeaning clause_meaning meaning groups_meaning item_meaning operand_meaning range_meaning f a b cs u v w x p

-- an operand of a join means what its expression does
pub operand_means : (o : JoinOperand) → operand_meaning o ≡ meaning (out-JoinOperand o).expr
operand_means o = ap operand_meaning (sym (roll-out-JoinOperand o)) ∙ fold-roll-JoinOperand Place Meaning ⊤ ⊤ Meaning RangeMeaning clause_place step (λ groups. tt) (λ item. tt) operand_step range_step (out-JoinOperand o)

-- the start of a range means what its expression does
pub start_means : (r : SubstrRange) → (range_meaning r).start ≡ meaning (out-SubstrRange r).start
start_means r = ap (λ (q : SubstrRange). (range_meaning q).start) (sym (roll-out-SubstrRange r)) ∙ ap (λ (m : RangeMeaning). m.start) (fold-roll-SubstrRange Place Meaning ⊤ ⊤ Meaning RangeMeaning clause_place step (λ groups. tt) (λ item. tt) operand_step range_step (out-SubstrRange r))

-- where a range is given, its start is checked as its expression is
pub start_given : (scope : Scope) (basis : Basis) (range : Option SubstrRange) (r : SubstrRange) → range ≡ Some r → typed_if (option_map (λ r. r.start) (option_map range_meaning range)) scope basis ≡ (typed scope basis (out-SubstrRange r).start >>= (λ a. Ok (Some a)))
start_given scope basis range r is =
    ap (λ (given : Option SubstrRange). typed_if (option_map (λ r. r.start) (option_map range_meaning given)) scope basis) is ∙ ap (λ (m : Meaning). typed_if (Some m) scope basis) (start_means r)

pub typed_level : (scope : Scope) (basis : Basis) (x : Expr-F Clause Expr Groups Item JoinOperand SubstrRange) (e : Expr) → roll-Expr x ≡ e → typed_step (level_of x) scope basis ≡ typed scope basis e
typed_level scope basis x e is =
    ap (λ (m : Meaning). m.typed scope basis) (sym (fold-roll-Expr Place Meaning ⊤ ⊤ Meaning RangeMeaning clause_place step (λ groups. tt) (λ item. tt) operand_step range_step x)) ∙ ap (typed scope basis) is

-- what is answered of one level
pub answers_level : (kinds : Kinds) (scope : Scope) (basis : Basis) (x : Expr-F Clause Expr Groups Item JoinOperand SubstrRange) (e : Expr) (m : Answer) (r : Result Typed TypeStop) → roll-Expr x ≡ e → m ≡ typed_step (level_of x) scope basis → Answers kinds m r → Answers kinds (typed scope basis e) r
answers_level kinds scope basis x e m r is same a = subst (λ (q : Answer). Answers kinds q r) (same ∙ typed_level scope basis x e is) a
