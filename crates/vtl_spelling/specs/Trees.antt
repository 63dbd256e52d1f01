-- The tokens that spell an expression, a clause, and what stands in them.
use Rattle.std.specs.List.{flat_map}
use Rattle.vtl_tokens.specs.declared.keyword.Keyword.TheVariants as words
use Rattle.vtl_tokens.specs.declared.sign.Sign.TheVariants as signs
use Rattle.vtl_syntax.specs.declared.expr.Expr.{Expr, fold-Expr}
use Rattle.vtl_syntax.specs.declared.expr.Clause.{Clause, fold-Clause}
use Rattle.vtl_syntax.specs.declared.expr.Groups.{Groups, fold-Groups}
use Rattle.vtl_syntax.specs.declared.expr.Item.{Item, fold-Item}
use Rattle.vtl_syntax.specs.declared.expr.JoinOperand.{JoinOperand, fold-JoinOperand}
use Rattle.vtl_syntax.specs.declared.expr.SubstrRange.{SubstrRange, fold-SubstrRange}
use Rattle.vtl_syntax.specs.declared.expr.Clause.TheOpen.{Expr-F, Clause-F, Groups-F, Item-F, JoinOperand-F, SubstrRange-F}
use Rattle.vtl_spelling.specs.Kinds.{Kinds, ◌&◌, one, key, sig, comma, commas, open_paren, close_paren, optional, name, text, integer, signed_integer}
use Rattle.vtl_grammar.specs.Words.{exists_rows, rows_outputs, check_outputs, modes, hierarchy_inputs, hierarchy_outputs, check_inputs, roles, fill_spans}
use Rattle.vtl_spelling.specs.Words.{written, or_kind, comparison_kind, in_kind, sum_kind, product_kind, prefix_kind, unary_kind, round_kind, binary_kind, set_kind, difference_kind, join_kind, aggregate_kind, window_kind, offset_kind, time_kind}
use Rattle.vtl_spelling.specs.Parts.{literal_spelled, unsigned_spelled, comp_spelled, rename_spelled, sub_item_spelled, grouping_spelled, over_spelled}

-- what is spelled already
abbrev it : Kinds → Kinds
it k = k

-- behind a word, in brackets
abbrev pub call : Kinds → Kinds → Kinds
call f k = f & open_paren & k

-- a level of an expression, where each part is spelled. What is typed has no tokens of its own
abbrev pub expr_step : Expr-F Kinds Kinds Kinds Kinds Kinds Kinds → Kinds
expr_step (Expr-F.If c a b p) = key words.If & c & key words.Then & a & key words.Else & b
expr_step (Expr-F.Or a s b p) = a & one (or_kind s) & b
expr_step (Expr-F.And a b p) = a & key words.And & b
expr_step (Expr-F.Compare a s b p) = a & one (comparison_kind s) & b
expr_step (Expr-F.In a s vs p) = a & one (in_kind s) & sig signs.LeftBrace & commas literal_spelled vs & sig signs.RightBrace
expr_step (Expr-F.Sum a s b p) = a & one (sum_kind s) & b
expr_step (Expr-F.Product a s b p) = a & one (product_kind s) & b
expr_step (Expr-F.Signed s a p) = one (prefix_kind s) & a
expr_step (Expr-F.Member a w p) = a & sig signs.Hash & name w
expr_step (Expr-F.Clause a c p) = a & sig signs.LeftBracket & c & sig signs.RightBracket
expr_step (Expr-F.Literal v p) = unsigned_spelled v
expr_step (Expr-F.Name w p) = name w
expr_step (Expr-F.Bracket a p) = open_paren & a & close_paren
expr_step (Expr-F.Unary f a p) = call (one (unary_kind f)) (a & close_paren)
expr_step (Expr-F.Round f a n p) = call (one (round_kind f)) (a & optional (λ z. comma & signed_integer z) n & close_paren)
expr_step (Expr-F.Binary f a b p) = call (one (binary_kind f)) (a & comma & b & close_paren)
expr_step (Expr-F.Between a u v p) = call (key words.Between) (a & comma & literal_spelled u & comma & literal_spelled v & close_paren)
expr_step (Expr-F.MatchCharacters a t p) = call (key words.MatchCharacters) (a & comma & text t & close_paren)
expr_step (Expr-F.Substr a r p) = call (key words.Substr) (a & optional it r & close_paren)
expr_step (Expr-F.Replace a b c p) = call (key words.Replace) (a & comma & b & optional (λ k. comma & k) c & close_paren)
expr_step (Expr-F.ExistsIn a b r p) = call (key words.ExistsIn) (a & comma & b & optional (λ w. comma & one (written exists_rows w)) r & close_paren)
expr_step (Expr-F.Sets f a b cs p) = call (one (set_kind f)) (a & comma & b & flat_map (λ k. comma & k) cs & close_paren)
expr_step (Expr-F.Difference f a b p) = call (one (difference_kind f)) (a & comma & b & close_paren)
expr_step (Expr-F.Join f a b cs u v w x p) = call (one (join_kind f)) (a & comma & b & flat_map (λ k. comma & k) cs & optional it u & optional it v & optional it w & optional it x & close_paren)
expr_step (Expr-F.Aggregate f a g p) = call (one (aggregate_kind f)) (a & optional it g & close_paren)
expr_step (Expr-F.Window f a o p) = call (one (window_kind f)) (a & over_spelled o & close_paren)
expr_step (Expr-F.CountAll p) = call (key words.Count) close_paren
expr_step (Expr-F.Offset f a n o p) = call (one (offset_kind f)) (a & comma & integer n & over_spelled o & close_paren)
expr_step (Expr-F.Rank o p) = call (key words.Rank) (over_spelled o & close_paren)
expr_step (Expr-F.CheckDatapoint a r q o p) = call (key words.CheckDatapoint) (a & comma & name r & optional (λ w. one (written rows_outputs w)) o & close_paren)
expr_step (Expr-F.Hierarchy a r q c m i o p) = call (key words.Hierarchy) (a & comma & name r & optional (λ w. key words.Rule & name w) c & optional (λ w. one (written modes w)) m & optional (λ w. one (written hierarchy_inputs w)) i & optional (λ w. one (written hierarchy_outputs w)) o & close_paren)
expr_step (Expr-F.CheckHierarchy a r q c m i o p) = call (key words.CheckHierarchy) (a & comma & name r & optional (λ w. key words.Rule & name w) c & optional (λ w. one (written modes w)) m & optional (λ w. one (written check_inputs w)) i & optional (λ w. one (written rows_outputs w)) o & close_paren)
expr_step (Expr-F.Check a c l i o p) = call (key words.Check) (a & optional (λ t. key words.Errorcode & text t) c & optional (λ z. key words.Errorlevel & signed_integer z) l & optional (λ k. key words.Imbalance & k) i & optional (λ w. one (written check_outputs w)) o & close_paren)
expr_step (Expr-F.Time f a p) = call (one (time_kind f)) (a & close_paren)
expr_step (Expr-F.Timeshift a z p) = call (key words.Timeshift) (a & comma & signed_integer z & close_paren)
expr_step (Expr-F.FillTimeSeries a s p) = call (key words.FillTimeSeries) (a & optional (λ w. comma & one (written fill_spans w)) s & close_paren)
expr_step (Expr-F.CallOf w as' p) = call (name w) (commas it as' & close_paren)
expr_step (Expr-F.Typed s a p) = a

abbrev pub clause_step : Clause-F Kinds Kinds Kinds Kinds Kinds Kinds → Kinds
clause_step (Clause-F.Filter a p) = key words.Filter & a
clause_step (Clause-F.Calc is p) = key words.Calc & commas it is
clause_step (Clause-F.Keep cs p) = key words.Keep & commas comp_spelled cs
clause_step (Clause-F.Drop cs p) = key words.Drop & commas comp_spelled cs
clause_step (Clause-F.Rename rs p) = key words.Rename & commas rename_spelled rs
clause_step (Clause-F.Sub is p) = key words.Sub & commas sub_item_spelled is
clause_step (Clause-F.Unpivot i m p) = key words.Unpivot & name i & comma & name m
clause_step (Clause-F.Aggr is g p) = key words.Aggr & commas it is & optional it g

abbrev pub groups_step : Groups-F Kinds Kinds Kinds Kinds Kinds Kinds → Kinds
groups_step g = grouping_spelled g.grouping & optional (λ k. key words.Having & k) g.having

abbrev pub item_step : Item-F Kinds Kinds Kinds Kinds Kinds Kinds → Kinds
item_step i = optional (λ r. one (written roles r)) i.role & name i.name & sig signs.Assign & i.expr

abbrev pub operand_step : JoinOperand-F Kinds Kinds Kinds Kinds Kinds Kinds → Kinds
operand_step o = o.expr & optional (λ w. key words.As & name w) o.alias

abbrev pub range_step : SubstrRange-F Kinds Kinds Kinds Kinds Kinds Kinds → Kinds
range_step r = comma & r.start & optional (λ k. comma & k) r.length

abbrev pub spelled : Expr → Kinds
spelled = fold-Expr Kinds Kinds Kinds Kinds Kinds Kinds clause_step expr_step groups_step item_step operand_step range_step

abbrev pub clause_spelled : Clause → Kinds
clause_spelled = fold-Clause Kinds Kinds Kinds Kinds Kinds Kinds clause_step expr_step groups_step item_step operand_step range_step

abbrev pub groups_spelled : Groups → Kinds
groups_spelled = fold-Groups Kinds Kinds Kinds Kinds Kinds Kinds clause_step expr_step groups_step item_step operand_step range_step

abbrev pub item_spelled : Item → Kinds
item_spelled = fold-Item Kinds Kinds Kinds Kinds Kinds Kinds clause_step expr_step groups_step item_step operand_step range_step

abbrev pub operand_spelled : JoinOperand → Kinds
operand_spelled = fold-JoinOperand Kinds Kinds Kinds Kinds Kinds Kinds clause_step expr_step groups_step item_step operand_step range_step

abbrev pub range_spelled : SubstrRange → Kinds
range_spelled = fold-SubstrRange Kinds Kinds Kinds Kinds Kinds Kinds clause_step expr_step groups_step item_step operand_step range_step
