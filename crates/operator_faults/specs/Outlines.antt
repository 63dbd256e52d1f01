-- Expressions as defined operators see them: names, calls, and what stands round them.
use Rattle.std.specs.Prelude.{List, [], ◌∷◌, ◌++◌, Bool, true, false, ◌||◌, Option, Some, None, map, IsTrue}
use Rattle.std.specs.List.{list_any}
use Rattle.vtl_syntax.specs.declared.expr.Expr.{Expr, fold-Expr, map-Expr, out-Expr}
use Rattle.vtl_syntax.specs.declared.expr.Clause.{Clause, fold-Clause}
use Rattle.vtl_syntax.specs.declared.expr.Groups.{Groups, fold-Groups}
use Rattle.vtl_syntax.specs.declared.expr.Item.{Item, fold-Item}
use Rattle.vtl_syntax.specs.declared.expr.JoinOperand.{JoinOperand, fold-JoinOperand}
use Rattle.vtl_syntax.specs.declared.expr.SubstrRange.{SubstrRange, fold-SubstrRange}
use Rattle.vtl_syntax.specs.declared.expr.Clause.TheOpen.{Expr-F, Clause-F, Groups-F, Item-F, JoinOperand-F, SubstrRange-F}
use Rattle.operator_faults.specs.declared.outline.What.{What}
use Rattle.operator_faults.specs.declared.outline.What.TheVariants as what
use Rattle.operator_faults.specs.declared.outline.Outline.{Outline, roll-Outline, out-Outline}

abbrev pub is_name : What → Bool
is_name (what.Name s) = true
is_name (what.Call c) = false
is_name what.Plain = false
is_name what.Level = false
is_name what.Inside = false
is_name what.InsideJoin = false

-- a name is in it
abbrev pub has_name : Outline → Bool
has_name o = (out-Outline o).named

abbrev pub outline : What → List Outline → Outline
outline w parts = roll-Outline (record { what = w; named = is_name w || list_any has_name parts; parts = parts })

abbrev pub inside : List Outline → Outline
inside parts = outline what.Inside parts

abbrev pub joined : List Outline → Outline
joined parts = outline what.InsideJoin parts

-- ---- what may be left out

abbrev pub parts_if : {A : Type 0} → (A → List Outline) → Option A → List Outline
parts_if f None = []
parts_if f (Some x) = f x

abbrev pub one_if : {A : Type 0} → (A → Outline) → Option A → List Outline
one_if f None = []
one_if f (Some x) = f x ∷ []

abbrev pub joined_if : {A : Type 0} → (A → List Outline) → Option A → List Outline
joined_if f None = []
joined_if f (Some x) = joined (f x) ∷ []

abbrev pub having_if : List Outline → List Outline
having_if [] = []
having_if (o ∷ os) = inside (o ∷ os) ∷ []

abbrev pub it : {A : Type 0} → A → A
it x = x

-- ---- one level of a tree, where each part has its outline; a clause, a range and what follows `group` have their parts

-- the parts, in the order of the text
abbrev pub layer_parts : Expr-F (List Outline) Outline (List Outline) Outline Outline (List Outline) → List Outline
layer_parts (Expr-F.If c a b p) = c ∷ a ∷ b ∷ []
layer_parts (Expr-F.Or a s b p) = a ∷ b ∷ []
layer_parts (Expr-F.And a b p) = a ∷ b ∷ []
layer_parts (Expr-F.Compare a s b p) = a ∷ b ∷ []
layer_parts (Expr-F.In a s vs p) = a ∷ []
layer_parts (Expr-F.Sum a s b p) = a ∷ b ∷ []
layer_parts (Expr-F.Product a s b p) = a ∷ b ∷ []
layer_parts (Expr-F.Signed s a p) = a ∷ []
layer_parts (Expr-F.Member a w p) = a ∷ []
layer_parts (Expr-F.Clause a c p) = a ∷ inside c ∷ []
layer_parts (Expr-F.Literal v p) = []
layer_parts (Expr-F.Name w p) = []
layer_parts (Expr-F.Bracket a p) = a ∷ []
layer_parts (Expr-F.Unary f a p) = a ∷ []
layer_parts (Expr-F.Round f a n p) = a ∷ []
layer_parts (Expr-F.Binary f a b p) = a ∷ b ∷ []
layer_parts (Expr-F.Between a u v p) = a ∷ []
layer_parts (Expr-F.MatchCharacters a t p) = a ∷ []
layer_parts (Expr-F.Substr a r p) = a ∷ parts_if it r
layer_parts (Expr-F.Replace a b c p) = a ∷ b ∷ one_if it c
layer_parts (Expr-F.ExistsIn a b r p) = a ∷ b ∷ []
layer_parts (Expr-F.Sets f a b cs p) = a ∷ b ∷ cs
layer_parts (Expr-F.Difference f a b p) = a ∷ b ∷ []
layer_parts (Expr-F.Join f a b cs u v w x p) = (a ∷ b ∷ cs) ++ (joined_if it u ++ (joined_if it v ++ (joined_if it w ++ joined_if it x)))
layer_parts (Expr-F.Aggregate f a g p) = a ∷ parts_if it g
layer_parts (Expr-F.Window f a o p) = a ∷ []
layer_parts (Expr-F.CountAll p) = []
layer_parts (Expr-F.Offset f a n o p) = a ∷ []
layer_parts (Expr-F.Rank o p) = []
layer_parts (Expr-F.CheckDatapoint a r q o p) = a ∷ []
layer_parts (Expr-F.Hierarchy a r q c m i o p) = a ∷ []
layer_parts (Expr-F.CheckHierarchy a r q c m i o p) = a ∷ []
layer_parts (Expr-F.Check a c l i o p) = a ∷ one_if it i
layer_parts (Expr-F.Time f a p) = a ∷ []
layer_parts (Expr-F.Timeshift a n p) = a ∷ []
layer_parts (Expr-F.FillTimeSeries a s p) = a ∷ []
layer_parts (Expr-F.CallOf w arguments p) = arguments
layer_parts (Expr-F.Typed s a p) = a ∷ []

-- what stands there, above these parts
abbrev pub layer_what : {A B C D E F : Type 0} → Expr-F A B C D E F → List Outline → What
layer_what (Expr-F.If c a b p) parts = what.Level
layer_what (Expr-F.Or a s b p) parts = what.Level
layer_what (Expr-F.And a b p) parts = what.Level
layer_what (Expr-F.Compare a s b p) parts = what.Level
layer_what (Expr-F.In a s vs p) parts = what.Level
layer_what (Expr-F.Sum a s b p) parts = what.Level
layer_what (Expr-F.Product a s b p) parts = what.Level
layer_what (Expr-F.Signed s a p) parts = what.Level
layer_what (Expr-F.Member a w p) parts = what.Level
layer_what (Expr-F.Clause a c p) parts = what.Level
layer_what (Expr-F.Literal v p) parts = what.Plain
layer_what (Expr-F.Name w p) parts = what.Name (record { name = w; place = p })
layer_what (Expr-F.Bracket a p) parts = what.Level
layer_what (Expr-F.Unary f a p) parts = what.Level
layer_what (Expr-F.Round f a n p) parts = what.Level
layer_what (Expr-F.Binary f a b p) parts = what.Level
layer_what (Expr-F.Between a u v p) parts = what.Level
layer_what (Expr-F.MatchCharacters a t p) parts = what.Level
layer_what (Expr-F.Substr a r p) parts = what.Level
layer_what (Expr-F.Replace a b c p) parts = what.Level
layer_what (Expr-F.ExistsIn a b r p) parts = what.Level
layer_what (Expr-F.Sets f a b cs p) parts = what.Level
layer_what (Expr-F.Difference f a b p) parts = what.Level
layer_what (Expr-F.Join f a b cs u v w x p) parts = what.Level
layer_what (Expr-F.Aggregate f a g p) parts = what.Level
layer_what (Expr-F.Window f a o p) parts = what.Level
layer_what (Expr-F.CountAll p) parts = what.Level
layer_what (Expr-F.Offset f a n o p) parts = what.Level
layer_what (Expr-F.Rank o p) parts = what.Level
layer_what (Expr-F.CheckDatapoint a r q o p) parts = what.Level
layer_what (Expr-F.Hierarchy a r q c m i o p) parts = what.Level
layer_what (Expr-F.CheckHierarchy a r q c m i o p) parts = what.Level
layer_what (Expr-F.Check a c l i o p) parts = what.Level
layer_what (Expr-F.Time f a p) parts = what.Level
layer_what (Expr-F.Timeshift a n p) parts = what.Level
layer_what (Expr-F.FillTimeSeries a s p) parts = what.Level
layer_what (Expr-F.CallOf w arguments p) parts = what.Call (record { name = w; place = p; named = map has_name parts })
layer_what (Expr-F.Typed s a p) parts = what.Plain

abbrev pub expr_step : Expr-F (List Outline) Outline (List Outline) Outline Outline (List Outline) → Outline
expr_step x = let parts = layer_parts x in outline (layer_what x parts) parts

abbrev pub clause_step : Clause-F (List Outline) Outline (List Outline) Outline Outline (List Outline) → List Outline
clause_step (Clause-F.Filter a p) = a ∷ []
clause_step (Clause-F.Calc is p) = is
clause_step (Clause-F.Keep cs p) = []
clause_step (Clause-F.Drop cs p) = []
clause_step (Clause-F.Rename rs p) = []
clause_step (Clause-F.Sub is p) = []
clause_step (Clause-F.Unpivot i m p) = []
clause_step (Clause-F.Aggr is g p) = is ++ parts_if it g

abbrev pub groups_step : Groups-F (List Outline) Outline (List Outline) Outline Outline (List Outline) → List Outline
groups_step g = having_if (one_if it g.having)

abbrev pub item_step : Item-F (List Outline) Outline (List Outline) Outline Outline (List Outline) → Outline
item_step i = i.expr

abbrev pub operand_step : JoinOperand-F (List Outline) Outline (List Outline) Outline Outline (List Outline) → Outline
operand_step o = o.expr

abbrev pub range_step : SubstrRange-F (List Outline) Outline (List Outline) Outline Outline (List Outline) → List Outline
range_step r = r.start ∷ one_if it r.length

abbrev pub outlined : Expr → Outline
outlined = fold-Expr (List Outline) Outline (List Outline) Outline Outline (List Outline) clause_step expr_step groups_step item_step operand_step range_step

abbrev pub clause_outlined : Clause → List Outline
clause_outlined = fold-Clause (List Outline) Outline (List Outline) Outline Outline (List Outline) clause_step expr_step groups_step item_step operand_step range_step

abbrev pub groups_outlined : Groups → List Outline
groups_outlined = fold-Groups (List Outline) Outline (List Outline) Outline Outline (List Outline) clause_step expr_step groups_step item_step operand_step range_step

abbrev pub item_outlined : Item → Outline
item_outlined = fold-Item (List Outline) Outline (List Outline) Outline Outline (List Outline) clause_step expr_step groups_step item_step operand_step range_step

abbrev pub operand_outlined : JoinOperand → Outline
operand_outlined = fold-JoinOperand (List Outline) Outline (List Outline) Outline Outline (List Outline) clause_step expr_step groups_step item_step operand_step range_step

abbrev pub range_outlined : SubstrRange → List Outline
range_outlined = fold-SubstrRange (List Outline) Outline (List Outline) Outline Outline (List Outline) clause_step expr_step groups_step item_step operand_step range_step

-- ---- of a tree, its parts and what stands at its top

-- its top level, with the outlines of its parts
abbrev pub layer_of : Expr → Expr-F (List Outline) Outline (List Outline) Outline Outline (List Outline)
layer_of e = map-Expr Clause Expr Groups Item JoinOperand SubstrRange (List Outline) Outline (List Outline) Outline Outline (List Outline) clause_outlined outlined groups_outlined item_outlined operand_outlined range_outlined (out-Expr e)

abbrev pub parts_of : Expr → List Outline
parts_of e = layer_parts (layer_of e)

abbrev pub what_of : Expr → List Outline → What
what_of e parts = layer_what (layer_of e) parts

abbrev layer_is_join : Expr-F Clause Expr Groups Item JoinOperand SubstrRange → Bool
layer_is_join (Expr-F.If c a b p) = false
layer_is_join (Expr-F.Or a s b p) = false
layer_is_join (Expr-F.And a b p) = false
layer_is_join (Expr-F.Compare a s b p) = false
layer_is_join (Expr-F.In a s vs p) = false
layer_is_join (Expr-F.Sum a s b p) = false
layer_is_join (Expr-F.Product a s b p) = false
layer_is_join (Expr-F.Signed s a p) = false
layer_is_join (Expr-F.Member a w p) = false
layer_is_join (Expr-F.Clause a c p) = false
layer_is_join (Expr-F.Literal v p) = false
layer_is_join (Expr-F.Name w p) = false
layer_is_join (Expr-F.Bracket a p) = false
layer_is_join (Expr-F.Unary f a p) = false
layer_is_join (Expr-F.Round f a n p) = false
layer_is_join (Expr-F.Binary f a b p) = false
layer_is_join (Expr-F.Between a u v p) = false
layer_is_join (Expr-F.MatchCharacters a t p) = false
layer_is_join (Expr-F.Substr a r p) = false
layer_is_join (Expr-F.Replace a b c p) = false
layer_is_join (Expr-F.ExistsIn a b r p) = false
layer_is_join (Expr-F.Sets f a b cs p) = false
layer_is_join (Expr-F.Difference f a b p) = false
layer_is_join (Expr-F.Join f a b cs u v w x p) = true
layer_is_join (Expr-F.Aggregate f a g p) = false
layer_is_join (Expr-F.Window f a o p) = false
layer_is_join (Expr-F.CountAll p) = false
layer_is_join (Expr-F.Offset f a n o p) = false
layer_is_join (Expr-F.Rank o p) = false
layer_is_join (Expr-F.CheckDatapoint a r q o p) = false
layer_is_join (Expr-F.Hierarchy a r q c m i o p) = false
layer_is_join (Expr-F.CheckHierarchy a r q c m i o p) = false
layer_is_join (Expr-F.Check a c l i o p) = false
layer_is_join (Expr-F.Time f a p) = false
layer_is_join (Expr-F.Timeshift a n p) = false
layer_is_join (Expr-F.FillTimeSeries a s p) = false
layer_is_join (Expr-F.CallOf w arguments p) = false
layer_is_join (Expr-F.Typed s a p) = false

abbrev pub IsJoin : Expr → Type 0
IsJoin e = IsTrue (layer_is_join (out-Expr e))
