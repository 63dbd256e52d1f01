-- The tokens that spell what stands inside expressions and holds none.
use Rattle.std.specs.Prelude.{ℕ, List, Bool, true, false}
use Rattle.vtl_values.specs.declared.value.Value.{Value}
use Rattle.vtl_values.specs.declared.value.Value.TheVariants as value
use Rattle.vtl_tokens.specs.declared.keyword.Keyword.TheVariants as words
use Rattle.vtl_tokens.specs.declared.sign.Sign.TheVariants as signs
use Rattle.vtl_tokens.specs.declared.token.TokenKind.TheVariants as what
use Rattle.vtl_syntax.specs.declared.expr.Comp.{Comp}
use Rattle.vtl_syntax.specs.declared.expr.Rename.{Rename}
use Rattle.vtl_syntax.specs.declared.expr.SubItem.{SubItem}
use Rattle.vtl_syntax.specs.declared.expr.Grouping.{Grouping}
use Rattle.vtl_syntax.specs.declared.expr.Over.{Over}
use Rattle.vtl_syntax.specs.declared.expr.OrderItem.{OrderItem}
use Rattle.vtl_syntax.specs.declared.expr.Points.{Points}
use Rattle.vtl_syntax.specs.declared.words.WindowStart.{WindowStart}
use Rattle.vtl_syntax.specs.declared.words.WindowStart.TheVariants as start
use Rattle.vtl_syntax.specs.declared.words.WindowEnd.{WindowEnd}
use Rattle.vtl_syntax.specs.declared.words.WindowEnd.TheVariants as stop
use Rattle.vtl_spelling.specs.Kinds.{Kinds, ◌&◌, one, key, sig, commas, open_paren, close_paren, optional, name, text, integer, signed, signed_integer}
use Rattle.vtl_grammar.specs.Words.{group_words, directions}
use Rattle.vtl_spelling.specs.Words.{written}

abbrev pub truth : Bool → Kinds
truth true = key words.True
truth false = key words.False

-- a literal in a set, in `sub` and in `between`
abbrev pub literal_spelled : Value → Kinds
literal_spelled value.Null = key words.Null
literal_spelled (value.Truth b) = truth b
literal_spelled (value.Integer z) = signed_integer z
literal_spelled (value.Number z) = signed what.Number z
literal_spelled (value.Text t) = text t

-- a literal that is an expression, whose sign is an operator
abbrev pub unsigned_spelled : Value → Kinds
unsigned_spelled value.Null = key words.Null
unsigned_spelled (value.Truth b) = truth b
unsigned_spelled (value.Integer z) = integer z
unsigned_spelled (value.Number z) = one (what.Number z)
unsigned_spelled (value.Text t) = text t

abbrev pub names_spelled : List (List ℕ) → Kinds
names_spelled ws = commas name ws

abbrev pub comp_spelled : Comp → Kinds
comp_spelled c = name c.name & optional (λ w. sig signs.Hash & name w) c.component

abbrev pub rename_spelled : Rename → Kinds
rename_spelled r = comp_spelled r.component & key words.To & name r.name

abbrev pub sub_item_spelled : SubItem → Kinds
sub_item_spelled i = name i.name & sig signs.Equal & literal_spelled i.value

abbrev pub grouping_spelled : Grouping → Kinds
grouping_spelled g = key words.Group & one (written group_words g.word) & names_spelled g.names

abbrev pub order_item_spelled : OrderItem → Kinds
order_item_spelled i = name i.name & optional (λ d. one (written directions d)) i.direction

abbrev pub current_point : Kinds
current_point = key words.Current & key words.Data & key words.Point

abbrev pub window_start_spelled : WindowStart → Kinds
window_start_spelled (start.Preceding n) = integer n & key words.Preceding
window_start_spelled start.UnboundedPreceding = key words.Unbounded & key words.Preceding
window_start_spelled start.Current = current_point

abbrev pub window_end_spelled : WindowEnd → Kinds
window_end_spelled (stop.Following n) = integer n & key words.Following
window_end_spelled stop.UnboundedFollowing = key words.Unbounded & key words.Following
window_end_spelled stop.Current = current_point

abbrev pub points_spelled : Points → Kinds
points_spelled p = key words.Data & key words.Points & key words.Between & window_start_spelled p.from & key words.And & window_end_spelled p.to

abbrev pub over_spelled : Over → Kinds
over_spelled o = key words.Over & open_paren & optional (λ ws. key words.Partition & key words.By & names_spelled ws) o.partition & optional (λ is. key words.Order & key words.By & commas order_item_spelled is) o.order & optional points_spelled o.points & close_paren
