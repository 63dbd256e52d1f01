-- Forms of expressions that begin with a word of their own, as their rules tell them: signs, scalar functions, sets and
-- joins.
use Rattle.std.proofs.Common.{◌≡◌, ℕ, ◌<◌, lit<, List, ◌∷◌, Option, Some, None, inl, inr, sym, ap, ◌∙◌, map, append_assoc}
use Rattle.std.proofs.Math.Path.{ap₂}
use Rattle.std.specs.Prelude.{ℤ, option_map}
use Rattle.std.specs.List.{flat_map}
use Rattle.std.proofs.lemmas.List.Folds.{flat_map-map}
use Rattle.vtl_values.specs.declared.place.Place.{Place}
use Rattle.vtl_values.specs.declared.value.Value.{Value}
use Rattle.vtl_tokens.specs.declared.keyword.Keyword.TheVariants as words
use Rattle.vtl_tokens.specs.declared.sign.Sign.TheVariants as signs
use Rattle.vtl_tokens.specs.declared.token.TokenKind.{TokenKind}
use Rattle.vtl_tokens.specs.declared.token.TokenKind.TheVariants as what
use Rattle.vtl_syntax.specs.declared.expr.Expr.{Expr}
use Rattle.vtl_syntax.specs.declared.expr.Expr.TheVariants as tree
use Rattle.vtl_syntax.specs.declared.expr.Clause.{Clause}
use Rattle.vtl_syntax.specs.declared.expr.JoinOperand.{JoinOperand}
use Rattle.vtl_syntax.specs.declared.expr.SubstrRange.{SubstrRange}
use Rattle.vtl_syntax.specs.declared.words.Prefix.{Prefix}
use Rattle.vtl_syntax.specs.declared.words.UnaryFunction.{UnaryFunction}
use Rattle.vtl_syntax.specs.declared.words.RoundFunction.{RoundFunction}
use Rattle.vtl_syntax.specs.declared.words.BinaryFunction.{BinaryFunction}
use Rattle.vtl_syntax.specs.declared.words.ExistsRows.{ExistsRows}
use Rattle.vtl_syntax.specs.declared.words.SetFunction.{SetFunction}
use Rattle.vtl_syntax.specs.declared.words.DifferenceFunction.{DifferenceFunction}
use Rattle.vtl_syntax.specs.declared.words.TimeFunction.{TimeFunction}
use Rattle.vtl_syntax.specs.declared.words.FillSpan.{FillSpan}
use Rattle.vtl_grammar.specs.Marks.{key, sign}
use Rattle.vtl_grammar.specs.Rules.{name, part, clause, JoinPart, ◌▸◌, Of, word, expr, comma}
use Rattle.vtl_grammar.specs.Clauses as g
use Rattle.vtl_grammar.specs.Calls as c
use Rattle.vtl_grammar.specs.Calls.{Form, second}
use Rattle.vtl_grammar.specs.Forms.{top, conditional, bracket, signed_form}
use Rattle.vtl_spelling.specs.Kinds.{Kinds, ◌&◌, one, optional}
use Rattle.vtl_spelling.specs.Kinds as k
use Rattle.vtl_grammar.specs.Words.{one_of, chosen, exists_rows, fill_spans}
use Rattle.vtl_spelling.specs.Words.{written, prefix_kind, unary_kind, round_kind, binary_kind, set_kind, difference_kind, time_kind}
use Rattle.vtl_spelling.specs.Trees.{spelled, clause_spelled, operand_spelled}
use Rattle.vtl_spelling.specs.Placeless.{nowhere, placeless, operand_placeless}
use Rattle.vtl_spelling.proofs.Folds.{operand_folded, range_folded, folded-If, folded-Bracket, folded-Signed, folded-Unary, folded-Round, folded-Binary, folded-Between, folded-MatchCharacters, folded-Substr, folded-Replace, folded-ExistsIn, folded-Sets, folded-Difference, folded-Time, folded-Timeshift, folded-FillTimeSeries}
use Rattle.vtl_spelling.proofs.Values.{value_spelled, value_placeless}
use Rattle.vtl_spelling.proofs.Told.{Told, same_word, behind-told, optional-told, option-plain, option-same, map-told, map-plain}
use Rattle.vtl_spelling.proofs.WordsTold.{choice-told}
use Rattle.vtl_spelling.proofs.PartsTold.{signed_integer-told, literal-told, name-told}
use Rattle.vtl_spelling.proofs.ClausesTold.{spelling, baring, optional-map, expr-told}

-- a form after its word, which has a lower precedence than a name
pub record FormTold (w : TokenKind) (form : Form) : Type 0 where
  pub tells : (v : Of form.rule) (p : Place) → (spelled (form.tree v p) ≡ w ∷ value_spelled form.rule v) × (placeless (form.tree v p) ≡ form.tree (value_placeless form.rule v) nowhere)
  pub low : form.precedence < top

-- ---- signs and brackets

pub conditional-told : FormTold (what.Reserved words.If) conditional
conditional-told = record { low = lit< tt; tells = λ v p. (folded-If spelling v.0 v.1.1.0 v.1.1.1.1 p, folded-If baring v.0 v.1.1.0 v.1.1.1.1 p) }

pub bracket-told : FormTold (what.Sign signs.LeftParen) bracket
bracket-told = record { low = lit< tt; tells = λ v p. (folded-Bracket spelling v.0 p, folded-Bracket baring v.0 p) }

pub signed_form-told : (f : Prefix) → FormTold (prefix_kind f) (signed_form f)
signed_form-told f = record { low = lit< tt; tells = λ v p. (folded-Signed spelling f v p, folded-Signed baring f v p) }

-- ---- scalar functions

pub unary-told : (f : UnaryFunction) → FormTold (unary_kind f) (c.unary f)
unary-told f = record { low = lit< tt; tells = λ v p. (folded-Unary spelling f v.1.0 p, folded-Unary baring f v.1.0 p) }

digits-told : Told (comma ▸ g.signed_integer) (λ w. g.signed_of w.1) (λ z. k.comma & k.signed_integer z) same_word
digits-told = behind-told (sign signs.Comma) g.signed_integer g.signed_of k.signed_integer same_word signed_integer-told

pub round-told : (f : RoundFunction) → FormTold (round_kind f) (c.round f)
round-told f = record {
  low = lit< tt;
  tells = λ v p. (
    folded-Round spelling f v.1.0 (option_map (λ w. g.signed_of w.1) v.1.1.0) p ∙ ap (λ (x : Kinds). one (round_kind f) & k.open_paren & spelled v.1.0 & x & k.close_paren) (optional-told _ _ _ _ digits-told v.1.1.0),
    folded-Round baring f v.1.0 (option_map (λ w. g.signed_of w.1) v.1.1.0) p ∙ ap (λ (x : Option ℤ). tree.Round f (placeless v.1.0) x nowhere) (option-same _ _ _ digits-told v.1.1.0),
  );
}

pub binary-told : (f : BinaryFunction) → FormTold (binary_kind f) (c.binary f)
binary-told f = record { low = lit< tt; tells = λ v p. (folded-Binary spelling f v.1.0 v.1.1.1.0 p, folded-Binary baring f v.1.0 v.1.1.1.0 p) }

pub between-told : FormTold (what.Reserved words.Between) c.between
between-told = record {
  low = lit< tt;
  tells = λ v p.
      let a = literal-told.tells v.1.1.1.0 in
      let b = literal-told.tells v.1.1.1.1.1.0 in (
        folded-Between spelling v.1.0 (g.literal_of v.1.1.1.0) (g.literal_of v.1.1.1.1.1.0) p ∙ ap₂ (λ (x y : Kinds). k.key words.Between & k.open_paren & spelled v.1.0 & k.comma & x & k.comma & y & k.close_paren) a.0 b.0,
        folded-Between baring v.1.0 (g.literal_of v.1.1.1.0) (g.literal_of v.1.1.1.1.1.0) p ∙ ap₂ (λ (x y : Value). tree.Between (placeless v.1.0) x y nowhere) a.1 b.1,
      );
}

pub match_characters-told : FormTold (what.Reserved words.MatchCharacters) c.match_characters
match_characters-told = record { low = lit< tt; tells = λ v p. (folded-MatchCharacters spelling v.1.0 v.1.1.1.0.value p, folded-MatchCharacters baring v.1.0 v.1.1.1.0.value p) }

more-told : Told (comma ▸ expr 0) second (λ e. k.comma & spelled e) placeless
more-told = behind-told (sign signs.Comma) (expr 0) (λ e. e) spelled placeless (expr-told 0)

-- one more operand, if it is there
one_more : (x : Option (Place × Expr)) → optional (λ (ks : Kinds). k.comma & ks) (option_map spelled (option_map second x)) ≡ optional (value_spelled (comma ▸ expr 0)) x
one_more x = optional-map (λ (ks : Kinds). k.comma & ks) spelled (option_map second x) ∙ optional-told _ _ _ _ more-told x

pub substr-told : FormTold (what.Reserved words.Substr) c.substr
substr-told = record { low = lit< tt; tells = λ v p. by_case v.1.0 v.1.1 p }
  where
    by_case : (e : Expr) (v : Of c.substr_rest) (p : Place) → (spelled (tree.Substr e (c.range_of v) p) ≡ k.key words.Substr & k.open_paren & spelled e & value_spelled c.substr_rest v) × (placeless (tree.Substr e (c.range_of v) p) ≡ tree.Substr (placeless e) (c.range_of (value_placeless c.substr_rest v)) nowhere)
    by_case e (inl q) p = (folded-Substr spelling e None p, folded-Substr baring e None p)
    by_case e (inr w) p =
        let r : SubstrRange = record { start = w.1.0; length = option_map second w.1.1.0; place = w.0 } in
        let last : Kinds = optional (λ (ks : Kinds). k.comma & ks) (option_map spelled (option_map second w.1.1.0)) in (
          folded-Substr spelling e (Some r) p ∙ ap (λ (x : Kinds). k.key words.Substr & k.open_paren & spelled e & x & k.close_paren) (range_folded spelling w.1.0 (option_map second w.1.1.0) w.0)
              ∙ ap (λ (x : Kinds). k.key words.Substr & k.open_paren & spelled e & k.comma & x) (append_assoc (spelled w.1.0) last k.close_paren)
              ∙ ap (λ (x : Kinds). k.key words.Substr & k.open_paren & spelled e & k.comma & spelled w.1.0 & x & k.close_paren) (one_more w.1.1.0),
          folded-Substr baring e (Some r) p ∙ ap (λ (x : SubstrRange). tree.Substr (placeless e) (Some x) nowhere) (range_folded baring w.1.0 (option_map second w.1.1.0) w.0)
              ∙ ap (λ (x : Option Expr). tree.Substr (placeless e) (Some (record { start = placeless w.1.0; length = x; place = nowhere })) nowhere) (option-plain _ _ _ _ more-told w.1.1.0),
        )

pub replace-told : FormTold (what.Reserved words.Replace) c.replace
replace-told = record {
  low = lit< tt;
  tells = λ v p. (
    folded-Replace spelling v.1.0 v.1.1.1.0 (option_map second v.1.1.1.1.0) p ∙ ap (λ (x : Kinds). k.key words.Replace & k.open_paren & spelled v.1.0 & k.comma & spelled v.1.1.1.0 & x & k.close_paren) (one_more v.1.1.1.1.0),
    folded-Replace baring v.1.0 v.1.1.1.0 (option_map second v.1.1.1.1.0) p ∙ ap (λ (x : Option Expr). tree.Replace (placeless v.1.0) (placeless v.1.1.1.0) x nowhere) (option-plain _ _ _ _ more-told v.1.1.1.1.0),
  );
}

-- ---- time periods

pub time-told : (f : TimeFunction) → FormTold (time_kind f) (c.time f)
time-told f = record { low = lit< tt; tells = λ v p. (folded-Time spelling f v.1.0 p, folded-Time baring f v.1.0 p) }

pub timeshift-told : FormTold (what.Reserved words.Timeshift) c.timeshift
timeshift-told = record {
  low = lit< tt;
  tells = λ v p.
      let e = signed_integer-told.tells v.1.1.1.0 in (
        folded-Timeshift spelling v.1.0 (g.signed_of v.1.1.1.0) p ∙ ap (λ (x : Kinds). k.key words.Timeshift & k.open_paren & spelled v.1.0 & k.comma & x & k.close_paren) e.0,
        folded-Timeshift baring v.1.0 (g.signed_of v.1.1.1.0) p ∙ ap (λ (x : ℤ). tree.Timeshift (placeless v.1.0) x nowhere) e.1,
      );
}

span-told : Told (comma ▸ one_of fill_spans) (λ w. chosen fill_spans w.1) (λ w. k.comma & one (written fill_spans w)) same_word
span-told = behind-told (sign signs.Comma) (one_of fill_spans) (chosen fill_spans) (λ w. one (written fill_spans w)) same_word (choice-told fill_spans)

pub fill_time_series-told : FormTold (what.Reserved words.FillTimeSeries) c.fill_time_series
fill_time_series-told = record {
  low = lit< tt;
  tells = λ v p. (
    folded-FillTimeSeries spelling v.1.0 (option_map (λ w. chosen fill_spans w.1) v.1.1.0) p ∙ ap (λ (x : Kinds). k.key words.FillTimeSeries & k.open_paren & spelled v.1.0 & x & k.close_paren) (optional-told _ _ _ _ span-told v.1.1.0),
    folded-FillTimeSeries baring v.1.0 (option_map (λ w. chosen fill_spans w.1) v.1.1.0) p ∙ ap (λ (x : Option FillSpan). tree.FillTimeSeries (placeless v.1.0) x nowhere) (option-same _ _ _ span-told v.1.1.0),
  );
}

-- ---- sets and joins

rows-told : Told (comma ▸ one_of exists_rows) (λ w. chosen exists_rows w.1) (λ w. k.comma & one (written exists_rows w)) same_word
rows-told = behind-told (sign signs.Comma) (one_of exists_rows) (chosen exists_rows) (λ w. one (written exists_rows w)) same_word (choice-told exists_rows)

pub exists_in-told : FormTold (what.Reserved words.ExistsIn) c.exists_in
exists_in-told = record {
  low = lit< tt;
  tells = λ v p. (
    folded-ExistsIn spelling v.1.0 v.1.1.1.0 (option_map (λ w. chosen exists_rows w.1) v.1.1.1.1.0) p ∙ ap (λ (x : Kinds). k.key words.ExistsIn & k.open_paren & spelled v.1.0 & k.comma & spelled v.1.1.1.0 & x & k.close_paren) (optional-told _ _ _ _ rows-told v.1.1.1.1.0),
    folded-ExistsIn baring v.1.0 v.1.1.1.0 (option_map (λ w. chosen exists_rows w.1) v.1.1.1.1.0) p ∙ ap (λ (x : Option ExistsRows). tree.ExistsIn (placeless v.1.0) (placeless v.1.1.1.0) x nowhere) (option-same _ _ _ rows-told v.1.1.1.1.0),
  );
}

-- operands behind the second
others : (xs : List (Place × Expr)) → flat_map (λ (ks : Kinds). k.comma & ks) (map spelled (map second xs)) ≡ flat_map (value_spelled (comma ▸ expr 0)) xs
others xs = flat_map-map (λ (ks : Kinds). k.comma & ks) spelled (map second xs) ∙ map-told _ _ _ _ more-told xs

pub sets-told : (f : SetFunction) → FormTold (set_kind f) (c.sets f)
sets-told f = record {
  low = lit< tt;
  tells = λ v p. (
    folded-Sets spelling f v.1.0 v.1.1.1.0.0 (map second v.1.1.1.0.1) p
        ∙ ap (λ (x : Kinds). one (set_kind f) & k.open_paren & spelled v.1.0 & k.comma & spelled v.1.1.1.0.0 & x & k.close_paren) (others v.1.1.1.0.1)
        ∙ ap (λ (x : Kinds). one (set_kind f) & k.open_paren & spelled v.1.0 & k.comma & x) (sym (append_assoc (spelled v.1.1.1.0.0) (flat_map (value_spelled (comma ▸ expr 0)) v.1.1.1.0.1) k.close_paren)),
    folded-Sets baring f v.1.0 v.1.1.1.0.0 (map second v.1.1.1.0.1) p ∙ ap (λ (x : List Expr). tree.Sets f (placeless v.1.0) (placeless v.1.1.1.0.0) x nowhere) (map-plain _ _ _ _ more-told v.1.1.1.0.1),
  );
}

pub difference-told : (f : DifferenceFunction) → FormTold (difference_kind f) (c.difference f)
difference-told f = record { low = lit< tt; tells = λ v p. (folded-Difference spelling f v.1.0 v.1.1.1.0 p, folded-Difference baring f v.1.0 v.1.1.1.0 p) }

alias-told : Told (word words.As ▸ name) (λ w. w.1.value) (λ w. k.key words.As & k.name w) same_word
alias-told = behind-told (key words.As) name (λ w. w.value) k.name same_word name-told

pub operand-told : Told c.join_operand c.join_operand_of operand_spelled operand_placeless
operand-told = record {
  tells = λ v. (
    operand_folded spelling v.1.0 (option_map (λ w. w.1.value) v.1.1) v.0 ∙ ap (λ (x : Kinds). spelled v.1.0 & x) (optional-told _ _ _ _ alias-told v.1.1),
    operand_folded baring v.1.0 (option_map (λ w. w.1.value) v.1.1) v.0 ∙ ap (λ (x : Option (List ℕ)). made (placeless v.1.0) x) (option-same _ _ _ alias-told v.1.1),
  );
}
  where
    made : Expr → Option (List ℕ) → JoinOperand
    made e x = record { expr = e; alias = x; place = nowhere }

pub more_operands-told : Told (comma ▸ c.join_operand) (λ w. c.join_operand_of w.1) (λ o. k.comma & operand_spelled o) operand_placeless
more_operands-told = behind-told (sign signs.Comma) c.join_operand c.join_operand_of operand_spelled operand_placeless operand-told

-- a clause in a join, if it is there
pub join_clause : (q : JoinPart) (x : Option Clause) → optional (λ (ks : Kinds). ks) (option_map clause_spelled x) ≡ optional (value_spelled (part (clause q))) x
join_clause q x = optional-map (λ (ks : Kinds). ks) clause_spelled x
