-- The forms of expressions as the parser tells them apart, and what its functions read of one.
use Rattle.std.specs.Prelude.{◌≡◌, ℕ, List, [], ◌∷◌, Option, Some, None, option_map, suc}
use Rattle.vtl_values.specs.declared.place.Place.{Place}
use Rattle.vtl_syntax.specs.declared.expr.Expr.{Expr}
use Rattle.vtl_syntax.specs.declared.expr.Expr.TheVariants as tree
use Rattle.vtl_syntax.specs.declared.words.AggregateFunction.{AggregateFunction}
use Rattle.vtl_syntax.specs.declared.words.AggregateFunction.TheVariants as aggregate_word
use Rattle.vtl_syntax.specs.declared.words.WindowFunction.{WindowFunction}
use Rattle.vtl_syntax.specs.declared.words.WindowFunction.TheVariants as window_word
use Rattle.vtl_grammar.specs.Marks.{Tokens, mark_in}
use Rattle.vtl_grammar.specs.Rules.{Counts, Part, OfPart, Rule, name, integer, text, ◌▸◌, option, prefixed, component, Of, Text, word, sig, expr, comma, open_paren, close_paren, commas, listed}
use Rattle.vtl_tokens.specs.declared.keyword.Keyword.TheVariants as words
use Rattle.vtl_tokens.specs.declared.sign.Sign.TheVariants as signs
use Rattle.vtl_grammar.specs.Clauses.{literal, literal_of, signed_integer, signed_of, clause_rule, clause_of}
use Rattle.vtl_grammar.specs.Words.{one_of, chosen, exists_rows, fill_spans, rows_outputs, modes, hierarchy_inputs, hierarchy_outputs, check_inputs}
use Rattle.vtl_grammar.specs.Calls.{Form, unary, replace, substr, sets, join, aggregate, count, rank, check, over, over_of}
use Rattle.vtl_grammar.specs.Forms.{Tail, conditional, bracket, signed_form, leaf_in, leaf_precedence, member_of_set, call_of_name}
use Rattle.vtl_grammar.specs.Reading.{Reader, mapped, form_at, tail_at}
use Rattle.vtl_cursor.specs.Plain.{read_plain}
use Rattle.vtl_parser.specs.declared.form.PrefixForm.{PrefixForm}
use Rattle.vtl_parser.specs.declared.form.PrefixForm.TheVariants as prefixes
use Rattle.vtl_parser.specs.declared.form.OneOperand.{OneOperand}
use Rattle.vtl_parser.specs.declared.form.OneOperand.TheVariants as one
use Rattle.vtl_parser.specs.declared.form.TwoOperands.{TwoOperands}
use Rattle.vtl_parser.specs.declared.form.TwoOperands.TheVariants as two
use Rattle.vtl_parser.specs.declared.form.SuffixForm.{SuffixForm}
use Rattle.vtl_parser.specs.declared.form.SuffixForm.TheVariants as suffixes
use Rattle.vtl_parser.specs.declared.form.Infix.{Infix}
use Rattle.vtl_parser.specs.declared.form.Infix.TheVariants as infixes

-- ---- what stands at the front

abbrev pub placed : {A : Type 0} → Place → Option A → Option (A × Place)
placed p x = option_map (λ v. (v, p)) x

-- a name or a literal, and its precedence
abbrev pub leaf_there : Tokens → Option (Expr × ℕ)
leaf_there [] = None
leaf_there (t ∷ ts) = option_map (λ e. (e, leaf_precedence t.what)) (leaf_in t.what t.place)

-- a form that begins with the first token, and that token's place
abbrev pub form_there : Tokens → Option (Form × Place)
form_there [] = None
form_there (t ∷ ts) = placed t.place (form_at (mark_in t.what))

-- a tail that begins with it
abbrev pub tail_there : Tokens → Option (Tail × Place)
tail_there [] = None
tail_there (t ∷ ts) = placed t.place (tail_at (mark_in t.what))

-- what comes after the word of a form
abbrev pub read_form : Counts → ((q : Part) → Reader (OfPart q)) → Form → Place → Reader Expr
read_form L inner form p ts = mapped (λ v. form.tree v p) (read_plain L inner form.rule ts)

-- what comes after the sign of a tail
abbrev pub read_tail : Counts → ((q : Part) → Reader (OfPart q)) → Tail → Expr → Place → Reader Expr
read_tail L inner tail l p ts = mapped (λ v. tail.tree l v p) (read_plain L inner tail.rule ts)

-- ---- calls of one operand, with no expression after it

abbrev pub one_rest : OneOperand → Rule
one_rest (one.Unary f) = close_paren
one_rest (one.Round f) = option (comma ▸ signed_integer) close_paren
one_rest one.Between = comma ▸ literal ▸ comma ▸ literal ▸ close_paren
one_rest one.MatchCharacters = comma ▸ text ▸ close_paren
one_rest (one.Window f) = over ▸ close_paren
one_rest (one.Offset f) = comma ▸ integer ▸ over ▸ close_paren
one_rest (one.Time f) = close_paren
one_rest one.Timeshift = comma ▸ signed_integer ▸ close_paren
one_rest one.FillTimeSeries = option (comma ▸ one_of fill_spans) close_paren
one_rest one.CheckDatapoint = comma ▸ name ▸ option (one_of rows_outputs) close_paren
one_rest one.Hierarchy = comma ▸ name ▸ prefixed component (option (one_of modes) (option (one_of hierarchy_inputs) (option (one_of hierarchy_outputs) close_paren)))
one_rest one.CheckHierarchy = comma ▸ name ▸ option (word words.Rule ▸ name) (option (one_of modes) (option (one_of check_inputs) (option (one_of rows_outputs) close_paren)))

abbrev pub one_tree : (c : OneOperand) → Expr → Of (one_rest c) → Place → Expr
one_tree (one.Unary f) e v p = tree.Unary f e p
one_tree (one.Round f) e v p = tree.Round f e (option_map (λ w. signed_of w.1) v.0) p
one_tree one.Between e v p = tree.Between e (literal_of v.1.0) (literal_of v.1.1.1.0) p
one_tree one.MatchCharacters e v p = tree.MatchCharacters e v.1.0.value p
one_tree (one.Window f) e v p = tree.Window f e (over_of v.0) p
one_tree (one.Offset f) e v p = tree.Offset f e v.1.0.value (over_of v.1.1.0) p
one_tree (one.Time f) e v p = tree.Time f e p
one_tree one.Timeshift e v p = tree.Timeshift e (signed_of v.1.0) p
one_tree one.FillTimeSeries e v p = tree.FillTimeSeries e (option_map (λ w. chosen fill_spans w.1) v.0) p
one_tree one.CheckDatapoint e v p = tree.CheckDatapoint e v.1.0.value v.1.0.place (option_map (chosen rows_outputs) v.1.1.0) p
one_tree one.Hierarchy e v p = tree.Hierarchy e v.1.0.value v.1.0.place (option_map (λ w. w.value) v.1.1.0) (option_map (chosen modes) v.1.1.1.0) (option_map (chosen hierarchy_inputs) v.1.1.1.1.0) (option_map (chosen hierarchy_outputs) v.1.1.1.1.1.0) p
one_tree one.CheckHierarchy e v p = tree.CheckHierarchy e v.1.0.value v.1.0.place (option_map (λ w. w.1.value) v.1.1.0) (option_map (chosen modes) v.1.1.1.0) (option_map (chosen check_inputs) v.1.1.1.1.0) (option_map (chosen rows_outputs) v.1.1.1.1.1.0) p

abbrev pub one_form : OneOperand → Form
one_form c = record { precedence = 7; rule = open_paren ▸ expr 0 ▸ one_rest c; tree = λ v p. one_tree c v.1.0 v.1.1 p }

-- ---- calls of two operands, with no expression after them

abbrev pub two_rest : TwoOperands → Rule
two_rest (two.Binary f) = close_paren
two_rest (two.Difference f) = close_paren
two_rest two.ExistsIn = option (comma ▸ one_of exists_rows) close_paren

abbrev pub two_tree : (c : TwoOperands) → Expr → Expr → Of (two_rest c) → Place → Expr
two_tree (two.Binary f) l r v p = tree.Binary f l r p
two_tree (two.Difference f) l r v p = tree.Difference f l r p
two_tree two.ExistsIn l r v p = tree.ExistsIn l r (option_map (λ w. chosen exists_rows w.1) v.0) p

abbrev pub two_form : TwoOperands → Form
two_form c = record { precedence = 7; rule = open_paren ▸ expr 0 ▸ comma ▸ expr 0 ▸ two_rest c; tree = λ v p. two_tree c v.1.0 v.1.1.1.0 v.1.1.1.1 p }

-- ---- forms

-- the window of the same name
abbrev pub window_of : AggregateFunction → WindowFunction
window_of aggregate_word.Sum = window_word.Sum
window_of aggregate_word.Avg = window_word.Avg
window_of aggregate_word.Count = window_word.Count
window_of aggregate_word.Min = window_word.Min
window_of aggregate_word.Max = window_word.Max
window_of aggregate_word.Median = window_word.Median

abbrev pub prefix_form : PrefixForm → Form
prefix_form prefixes.If = conditional
prefix_form prefixes.Bracket = bracket
prefix_form (prefixes.Signed s) = signed_form s
prefix_form (prefixes.One c) = one_form c
prefix_form (prefixes.Two c) = two_form c
prefix_form prefixes.Substr = substr
prefix_form prefixes.Replace = replace
prefix_form (prefixes.Sets f) = sets f
prefix_form (prefixes.Join f) = join f
prefix_form (prefixes.Aggregate f) = aggregate f (window_of f)
prefix_form prefixes.Count = count
prefix_form prefixes.Rank = rank
prefix_form prefixes.Check = check

-- ---- tails

-- the precedence of a sign between operands
abbrev pub infix_precedence : Infix → ℕ
infix_precedence (infixes.Or s) = 1
infix_precedence infixes.And = 2
infix_precedence (infixes.Compare s) = 3
infix_precedence (infixes.Sum s) = 4
infix_precedence (infixes.Product s) = 5

abbrev pub infix_tree : Infix → Expr → Expr → Place → Expr
infix_tree (infixes.Or s) l r p = tree.Or l s r p
infix_tree infixes.And l r p = tree.And l r p
infix_tree (infixes.Compare s) l r p = tree.Compare l s r p
infix_tree (infixes.Sum s) l r p = tree.Sum l s r p
infix_tree (infixes.Product s) l r p = tree.Product l s r p

abbrev pub suffix_tail : SuffixForm → Tail
suffix_tail (suffixes.Infix s) = record { precedence = infix_precedence s; operand = infix_precedence s; rule = expr (suc (infix_precedence s)); tree = λ l v p. infix_tree s l v p }
suffix_tail (suffixes.In s) = member_of_set s
suffix_tail suffixes.Call = call_of_name
suffix_tail suffixes.Member = record { precedence = 7; operand = 7; rule = name; tree = λ l v p. tree.Member l v.value p }
suffix_tail suffixes.Clause = record { precedence = 7; operand = 7; rule = clause_rule ▸ sig signs.RightBracket; tree = λ l v p. tree.Clause l (clause_of v.0) p }

-- the expression is a name
abbrev pub IsName : Expr → Type 0
IsName e = (n : Text) × (p : Place) × (e ≡ tree.Name n p)

-- the arguments of a call, of which there may be none
abbrev pub arguments_of : Option (Of (commas (expr 0))) → List Expr
arguments_of None = []
arguments_of (Some v) = listed (λ e. e) v
