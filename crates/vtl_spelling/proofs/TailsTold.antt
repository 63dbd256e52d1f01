-- What goes on after an expression, as its rules tell it.
use Rattle.std.proofs.Common.{◌≡◌, ℕ, ◌<◌, ◌≤◌, lit<, lit≤, List, [], Option, Some, None, sym, ap, subst, ◌∙◌}
use Rattle.vtl_values.specs.declared.place.Place.{Place}
use Rattle.vtl_values.specs.declared.value.Value.{Value}
use Rattle.vtl_tokens.specs.declared.keyword.Keyword.TheVariants as words
use Rattle.vtl_tokens.specs.declared.sign.Sign.TheVariants as signs
use Rattle.vtl_tokens.specs.declared.token.TokenKind.{TokenKind}
use Rattle.vtl_tokens.specs.declared.token.TokenKind.TheVariants as what
use Rattle.vtl_syntax.specs.declared.expr.Expr.{Expr}
use Rattle.vtl_syntax.specs.declared.expr.Expr.TheVariants as tree
use Rattle.vtl_syntax.specs.declared.expr.Clause.{Clause}
use Rattle.vtl_syntax.specs.declared.words.OrSign.TheVariants as or_sign
use Rattle.vtl_syntax.specs.declared.words.Comparison.{Comparison}
use Rattle.vtl_syntax.specs.declared.words.Comparison.TheVariants as compare
use Rattle.vtl_syntax.specs.declared.words.InSign.{InSign}
use Rattle.vtl_syntax.specs.declared.words.InSign.TheVariants as in_sign
use Rattle.vtl_syntax.specs.declared.words.SumSign.{SumSign}
use Rattle.vtl_syntax.specs.declared.words.SumSign.TheVariants as sum_sign
use Rattle.vtl_syntax.specs.declared.words.ProductSign.{ProductSign}
use Rattle.vtl_syntax.specs.declared.words.ProductSign.TheVariants as product_sign
use Rattle.vtl_grammar.specs.Marks.{Mark, key, sign, kind_of}
use Rattle.vtl_grammar.specs.Rules.{lists, Of, Text, expr, commas, listed}
use Rattle.vtl_grammar.specs.Clauses as g
use Rattle.vtl_grammar.specs.Forms.{top, Tail, compared, member_of_set, summed, multiplied, call_of_name, tail_of}
use Rattle.vtl_spelling.specs.Kinds.{Kinds, ◌&◌, one}
use Rattle.vtl_spelling.specs.Kinds as k
use Rattle.vtl_spelling.specs.Parts as s
use Rattle.vtl_spelling.specs.Words.{comparison_kind, in_kind, sum_kind, product_kind}
use Rattle.vtl_spelling.specs.Trees.{spelled}
use Rattle.vtl_spelling.specs.Placeless.{nowhere, placeless}
use Rattle.vtl_spelling.proofs.Folds.{folded-Or, folded-And, folded-Compare, folded-In, folded-Sum, folded-Product, folded-Member, folded-Clause, folded-Name, folded-CallOf}
use Rattle.vtl_spelling.proofs.Values.{value_spelled, value_placeless}
use Rattle.vtl_spelling.proofs.Told.{same_word, listed-told, listed-plain, listed-same}
use Rattle.vtl_spelling.proofs.PartsTold.{literal-told}
use Rattle.vtl_spelling.proofs.ClausesTold.{spelling, baring, separated-map, expr-told, clause-told}

-- where an operand has at least the precedence of a name, it is one
abbrev pub IsOperand : ℕ → Expr → Type 0
IsOperand m e = top ≤ m → (n : Text) × (p : Place) × (e ≡ tree.Name n p)

-- what goes on with a sign or a word, which has a lower precedence than a name
pub record TailTold (w : TokenKind) (tail : Tail) : Type 0 where
  pub low : tail.precedence < top
  pub tells : (l : Expr) → IsOperand tail.operand l → (v : Of tail.rule) (p : Place) → (spelled (tail.tree l v p) ≡ spelled l & one w & value_spelled tail.rule v) × (placeless (tail.tree l v p) ≡ tail.tree (placeless l) (value_placeless tail.rule v) nowhere)

compared-told : (f : Comparison) → TailTold (comparison_kind f) (compared f)
compared-told f = record { low = lit< tt; tells = λ l is v p. (folded-Compare spelling l f v p, folded-Compare baring l f v p) }

member_of_set-told : (f : InSign) → TailTold (in_kind f) (member_of_set f)
member_of_set-told f = record {
  low = lit< tt;
  tells = λ l is v p. (
    folded-In spelling l f (listed g.literal_of v.1.0) p ∙ ap (λ (x : Kinds). spelled l & one (in_kind f) & k.sig signs.LeftBrace & x & k.sig signs.RightBrace) (listed-told g.literal g.literal_of s.literal_spelled same_word literal-told lists (sign signs.Comma) v.1.0),
    folded-In baring l f (listed g.literal_of v.1.0) p ∙ ap (λ (x : List Value). tree.In (placeless l) f x nowhere) (listed-same g.literal g.literal_of s.literal_spelled literal-told lists (sign signs.Comma) v.1.0),
  );
}

summed-told : (f : SumSign) → TailTold (sum_kind f) (summed f)
summed-told f = record { low = lit< tt; tells = λ l is v p. (folded-Sum spelling l f v p, folded-Sum baring l f v p) }

multiplied-told : (f : ProductSign) → TailTold (product_kind f) (multiplied f)
multiplied-told f = record { low = lit< tt; tells = λ l is v p. (folded-Product spelling l f v p, folded-Product baring l f v p) }

-- the call of a defined operator
call-case : (n : Text) (q : Place) (v : Of call_of_name.rule) (p : Place) → (spelled (call_of_name.tree (tree.Name n q) v p) ≡ spelled (tree.Name n q) & k.open_paren & value_spelled call_of_name.rule v) × (placeless (call_of_name.tree (tree.Name n q) v p) ≡ call_of_name.tree (placeless (tree.Name n q)) (value_placeless call_of_name.rule v) nowhere)
call-case n q (None, c) p = (
  folded-CallOf spelling n [] q ∙ ap (λ (ks : Kinds). ks & k.open_paren & k.close_paren) (sym (folded-Name spelling n q)),
  folded-CallOf baring n [] q ∙ ap (λ (l : Expr). call_of_name.tree l (None, nowhere) nowhere) (sym (folded-Name baring n q)),
)
call-case n q (Some v, c) p =
    let told = separated-map k.comma (λ (ks : Kinds). ks) spelled (listed (λ e. e) v) ∙ listed-told (expr 0) (λ e. e) spelled placeless (expr-told 0) lists (sign signs.Comma) v in
    let w : Of call_of_name.rule = value_placeless call_of_name.rule (Some v, c) in (
      folded-CallOf spelling n (listed (λ e. e) v) q
          ∙ ap (λ (ks : Kinds). k.name n & k.open_paren & ks & k.close_paren) told
          ∙ ap (λ (ks : Kinds). ks & k.open_paren & value_spelled (commas (expr 0)) v & k.close_paren) (sym (folded-Name spelling n q)),
      folded-CallOf baring n (listed (λ e. e) v) q
          ∙ ap (λ (xs : List Expr). tree.CallOf n xs nowhere) (listed-plain (expr 0) (λ e. e) spelled placeless (expr-told 0) lists (sign signs.Comma) v)
          ∙ ap (λ (l : Expr). call_of_name.tree l w nowhere) (sym (folded-Name baring n q)),
    )

call_of_name-told : TailTold (what.Sign signs.LeftParen) call_of_name
call_of_name-told = record {
  low = lit< tt;
  tells = λ l is v p.
      let name = is (lit≤ tt) in
      subst (λ (l : Expr). (spelled (call_of_name.tree l v p) ≡ spelled l & k.open_paren & value_spelled call_of_name.rule v) × (placeless (call_of_name.tree l v p) ≡ call_of_name.tree (placeless l) (value_placeless call_of_name.rule v) nowhere)) (sym name.2) (call-case name.0 name.1 v p);
}

-- ---- the table, row by row

abbrev SomeTail : TokenKind → Option Tail → Type 0
SomeTail w None = Unit {0}
SomeTail w (Some tail) = TailTold w tail

each_tail : (m : Mark) → SomeTail (kind_of m) (tail_of m)
each_tail (key words.Or) = record { low = lit< tt; tells = λ l is v p. (folded-Or spelling l or_sign.Or v p, folded-Or baring l or_sign.Or v p) }
each_tail (key words.Xor) = record { low = lit< tt; tells = λ l is v p. (folded-Or spelling l or_sign.Xor v p, folded-Or baring l or_sign.Xor v p) }
each_tail (key words.And) = record { low = lit< tt; tells = λ l is v p. (folded-And spelling l v p, folded-And baring l v p) }
each_tail (sign signs.Equal) = compared-told compare.Equal
each_tail (sign signs.NotEqual) = compared-told compare.NotEqual
each_tail (sign signs.LessThan) = compared-told compare.Less
each_tail (sign signs.GreaterThan) = compared-told compare.Greater
each_tail (sign signs.AtMost) = compared-told compare.AtMost
each_tail (sign signs.AtLeast) = compared-told compare.AtLeast
each_tail (key words.In) = member_of_set-told in_sign.In
each_tail (key words.NotIn) = member_of_set-told in_sign.NotIn
each_tail (sign signs.Plus) = summed-told sum_sign.Plus
each_tail (sign signs.Minus) = summed-told sum_sign.Minus
each_tail (sign signs.Bars) = summed-told sum_sign.Join
each_tail (sign signs.Star) = multiplied-told product_sign.Times
each_tail (sign signs.Slash) = multiplied-told product_sign.Over
each_tail (sign signs.LeftParen) = call_of_name-told
each_tail (sign signs.Hash) = record { low = lit< tt; tells = λ l is v p. (folded-Member spelling l v.value p, folded-Member baring l v.value p) }
each_tail (sign signs.LeftBracket) = record {
  low = lit< tt;
  tells = λ l is v p.
      let e = clause-told.tells v.0 in (
        folded-Clause spelling l (g.clause_of v.0) p ∙ ap (λ (x : Kinds). spelled l & k.sig signs.LeftBracket & x & k.sig signs.RightBracket) e.0,
        folded-Clause baring l (g.clause_of v.0) p ∙ ap (λ (x : Clause). tree.Clause (placeless l) x nowhere) e.1,
      );
}
each_tail _ = tt

pub tail-told : (m : Mark) (tail : Tail) → tail_of m ≡ Some tail → TailTold (kind_of m) tail
tail-told m tail is = subst (λ (x : Option Tail). SomeTail (kind_of m) x) is (each_tail m)
