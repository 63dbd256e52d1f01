-- What is wrong with an expression, where parts of it are lists or may be left out.
use Rattle.std.proofs.Common.{◌≡◌, Result, Ok, Err, IsErrAnd, ℕ, List, [], ◌∷◌, Option, map, sym, ap, subst, ◌∙◌}
use Rattle.std.specs.Prelude.{⊤}
use Rattle.vtl_values.specs.declared.place.Place.{Place}
use Rattle.vtl_syntax.specs.declared.words.JoinFunction.{JoinFunction}
use Rattle.vtl_syntax.specs.declared.words.SetFunction.{SetFunction}
use Rattle.vtl_syntax.specs.declared.expr.Clause.{Clause}
use Rattle.vtl_syntax.specs.declared.expr.Clause.TheOpen.{Expr-F}
use Rattle.vtl_syntax.specs.declared.expr.Expr.{Expr, map-Expr, roll-Expr, fold-roll-Expr}
use Rattle.vtl_syntax.specs.declared.expr.Expr.TheVariants as tree
use Rattle.vtl_syntax.specs.declared.expr.Groups.{Groups}
use Rattle.vtl_syntax.specs.declared.expr.Item.{Item}
use Rattle.vtl_syntax.specs.declared.expr.JoinOperand.{JoinOperand}
use Rattle.vtl_syntax.specs.declared.expr.SubstrRange.{SubstrRange}
use Rattle.vtl_syntax.proofs.Maps.{maps-Join}
use Rattle.scalar_trees.specs.declared.typing.stop.TypeStop.{TypeStop}
use Rattle.scalar_trees.specs.typing.Steps.{Refuses}
use Rattle.ruleset_faults.specs.Expressions.{Seen, Tells, Look, RangeLook, Level, all_seen, step, operand_step, range_step, look, operand_look, range_look, seen}

abbrev mapped : Expr-F Clause Expr Groups Item JoinOperand SubstrRange → Level
mapped x = map-Expr Clause Expr Groups Item JoinOperand SubstrRange ⊤ Look ⊤ ⊤ Look RangeLook (λ clause. tt) look (λ groups. tt) (λ item. tt) operand_look range_look x

-- of one level
told : (x : Expr-F Clause Expr Groups Item JoinOperand SubstrRange) (e : Expr) → roll-Expr x ≡ e → look e ≡ step (mapped x)
told x e is = ap look (sym is) ∙ fold-roll-Expr ⊤ Look ⊤ ⊤ Look RangeLook (λ clause. tt) step (λ groups. tt) (λ item. tt) operand_step range_step x

pub of-Sets : (names : List (List ℕ)) (f : SetFunction) (a b : Expr) (es : List Expr) (p : Place) → seen names (tree.Sets f a b es p) ≡ all_seen (look a ∷ look b ∷ map look es) names
of-Sets names f a b es p = ap (λ (l : Look). l.seen names) (told (Expr-F.Sets f a b es p) (tree.Sets f a b es p) (tree.rolls-Sets f a b es p))

pub of-If : (names : List (List ℕ)) (c a b : Expr) (p : Place) → seen names (tree.If c a b p) ≡ all_seen (look c ∷ look a ∷ look b ∷ []) names
of-If names c a b p = ap (λ (l : Look). l.seen names) (told (Expr-F.If c a b p) (tree.If c a b p) (tree.rolls-If c a b p))

pub of-CallOf : (names : List (List ℕ)) (name : List ℕ) (es : List Expr) (p : Place) → seen names (tree.CallOf name es p) ≡ all_seen (map look es) names
of-CallOf names name es p = ap (λ (l : Look). l.seen names) (told (Expr-F.CallOf name es p) (tree.CallOf name es p) (tree.rolls-CallOf name es p))

pub of-Join : (names : List (List ℕ)) (f : JoinFunction) (a b : JoinOperand) (os : List JoinOperand) (u v w x : Option Clause) (p : Place) → seen names (tree.Join f a b os u v w x p) ≡ all_seen (operand_look a ∷ operand_look b ∷ map operand_look os) names
of-Join names f a b os u v w x p =
    ap (λ (l : Look). l.seen names) (told (Expr-F.Join f a b os u v w x p) (tree.Join f a b os u v w x p) (tree.rolls-Join f a b os u v w x p))
    ∙ ap (λ (l : Level). (step l).seen names) (maps-Join Clause Expr Groups Item JoinOperand SubstrRange ⊤ Look ⊤ ⊤ Look RangeLook (λ clause. tt) look (λ groups. tt) (λ item. tt) operand_look range_look f a b os u v w x p)

-- what is told of what means the same
pub tells_same : (m n : Seen) (result : Result (Unit {0}) TypeStop) → n ≡ m → Tells m result → Tells n result
tells_same m n result same told = subst (λ q. Tells q result) (sym same) told

-- a stop that is passed on
pub stopped : (m : Seen) (stop : TypeStop) (r : Result (Unit {0}) TypeStop) → Refuses m stop → IsErrAnd r (λ given. given ≡ stop) → Tells m r
stopped m stop (Ok value) refuses given = absurd given
stopped m stop (Err given) refuses is = record { ok = tt; err = subst (Refuses m) (sym is) refuses }
