-- Whether the literals in an expression are in range, where parts of it are lists.
use Rattle.std.proofs.Common.{◌≡◌, refl, ℕ, Bool, true, ◌&&◌, List, [], ◌∷◌, Option, Some, None, map, sym, ap, ◌∙◌}
use Rattle.std.specs.Prelude.{option_map}
use Rattle.std.specs.List.{list_all}
use Rattle.vtl_values.specs.declared.place.Place.{Place}
use Rattle.vtl_syntax.specs.declared.words.JoinFunction.{JoinFunction}
use Rattle.vtl_syntax.specs.declared.words.SetFunction.{SetFunction}
use Rattle.vtl_syntax.specs.declared.expr.Clause.{Clause, fold-roll-Clause}
use Rattle.vtl_syntax.specs.declared.expr.Clause.TheOpen.{Clause-F, Expr-F}
use Rattle.vtl_syntax.specs.declared.expr.Clause.TheVariants as clause
use Rattle.vtl_syntax.specs.declared.expr.Expr.{Expr, map-Expr, roll-Expr, fold-roll-Expr}
use Rattle.vtl_syntax.specs.declared.expr.Expr.TheVariants as tree
use Rattle.vtl_syntax.specs.declared.expr.Groups.{Groups}
use Rattle.vtl_syntax.specs.declared.expr.Item.{Item}
use Rattle.vtl_syntax.specs.declared.expr.JoinOperand.{JoinOperand}
use Rattle.vtl_syntax.specs.declared.expr.SubstrRange.{SubstrRange}
use Rattle.vtl_syntax.proofs.Maps.{maps-Join}
use Rattle.literal_ranges.specs.Ranges.{if_given, all_are, range_step, clause_range_step, groups_range_step, item_range_step, operand_range_step, part_range_step, literals_in_range, clause_in_range, groups_in_range, item_in_range, operand_in_range, part_in_range}

abbrev mapped : Expr-F Clause Expr Groups Item JoinOperand SubstrRange → Expr-F Bool Bool Bool Bool Bool Bool
mapped x = map-Expr Clause Expr Groups Item JoinOperand SubstrRange Bool Bool Bool Bool Bool Bool clause_in_range literals_in_range groups_in_range item_in_range operand_in_range part_in_range x

-- of one level
told : (x : Expr-F Clause Expr Groups Item JoinOperand SubstrRange) (e : Expr) → roll-Expr x ≡ e → literals_in_range e ≡ range_step (mapped x)
told x e is = ap literals_in_range (sym is) ∙ fold-roll-Expr Bool Bool Bool Bool Bool Bool clause_range_step range_step groups_range_step item_range_step operand_range_step part_range_step x

all-mapped : {A : Type 0} (p : A → Bool) (xs : List A) → all_are (map p xs) ≡ list_all p xs
all-mapped p [] = refl
all-mapped p (x ∷ xs) = ap (λ b. p x && b) (all-mapped p xs)

pub of-Sets : (f : SetFunction) (a b : Expr) (es : List Expr) (p : Place) → literals_in_range (tree.Sets f a b es p) ≡ (literals_in_range a && (literals_in_range b && list_all literals_in_range es))
of-Sets f a b es p =
    told (Expr-F.Sets f a b es p) (tree.Sets f a b es p) (tree.rolls-Sets f a b es p)
    ∙ ap (λ rest. literals_in_range a && (literals_in_range b && rest)) (all-mapped literals_in_range es)

-- of the clauses of a join
abbrev pub clauses_in_range : Option Clause → Option Clause → Option Clause → Option Clause → Bool
clauses_in_range u v w x = if_given (option_map clause_in_range u) && (if_given (option_map clause_in_range v) && (if_given (option_map clause_in_range w) && if_given (option_map clause_in_range x)))

pub of-Join : (f : JoinFunction) (a b : JoinOperand) (os : List JoinOperand) (u v w x : Option Clause) (p : Place) → literals_in_range (tree.Join f a b os u v w x p) ≡ ((operand_in_range a && (operand_in_range b && list_all operand_in_range os)) && clauses_in_range u v w x)
of-Join f a b os u v w x p =
    told (Expr-F.Join f a b os u v w x p) (tree.Join f a b os u v w x p) (tree.rolls-Join f a b os u v w x p)
    ∙ ap range_step (maps-Join Clause Expr Groups Item JoinOperand SubstrRange Bool Bool Bool Bool Bool Bool clause_in_range literals_in_range groups_in_range item_in_range operand_in_range part_in_range f a b os u v w x p)
    ∙ ap (λ rest. (operand_in_range a && (operand_in_range b && rest)) && clauses_in_range u v w x) (all-mapped operand_in_range os)

pub of-Calc : (items : List Item) (p : Place) → clause_in_range (clause.Calc items p) ≡ list_all item_in_range items
of-Calc items p =
    ap clause_in_range (sym (clause.rolls-Calc items p))
    ∙ fold-roll-Clause Bool Bool Bool Bool Bool Bool clause_range_step range_step groups_range_step item_range_step operand_range_step part_range_step (Clause-F.Calc items p)
    ∙ all-mapped item_in_range items

pub of-Aggr : (items : List Item) (g : Option Groups) (p : Place) → clause_in_range (clause.Aggr items g p) ≡ (list_all item_in_range items && if_given (option_map groups_in_range g))
of-Aggr items None p =
    ap clause_in_range (sym (clause.rolls-Aggr items None p))
    ∙ fold-roll-Clause Bool Bool Bool Bool Bool Bool clause_range_step range_step groups_range_step item_range_step operand_range_step part_range_step (Clause-F.Aggr items None p)
    ∙ ap (λ (b : Bool). b && true) (all-mapped item_in_range items)
of-Aggr items (Some g) p =
    ap clause_in_range (sym (clause.rolls-Aggr items (Some g) p))
    ∙ fold-roll-Clause Bool Bool Bool Bool Bool Bool clause_range_step range_step groups_range_step item_range_step operand_range_step part_range_step (Clause-F.Aggr items (Some g) p)
    ∙ ap (λ (b : Bool). b && groups_in_range g) (all-mapped item_in_range items)

-- what may be left out
abbrev pub if_some : {A : Type 0} → (A → ℕ) → Option A → ℕ
if_some f None = 0
if_some f (Some x) = f x
