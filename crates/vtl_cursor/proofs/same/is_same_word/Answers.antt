use Rattle.std.proofs.Common.{◌≡◌, nat_eq, true, rules, sym, ap, ◌∙◌, arith}
use denote.Enum.Bare.{same_true, same_false}
use Rattle.vtl_tokens.specs.declared.keyword.Keyword.{Keyword}
use Rattle.vtl_tokens.specs.contracts.keyword.Keyword.{the_type}
use Rattle.vtl_grammar.specs.Marks.{Mark, key, of_mark, mark_code}
use Rattle.vtl_grammar.proofs.MarkCodes.{code-one}
use Rattle.vtl_grammar.proofs.Sorts.{by_test, nat_eq-refl, not_eq}
use Rattle.vtl_cursor.proofs.same.is_same_word.Goals as goal

same_code : (word wanted : Keyword) → word ≡ wanted → nat_eq (of_mark (key word)) (of_mark (key wanted)) ≡ true
same_code word wanted e = ap (λ (k : Keyword). nat_eq (of_mark (key word)) (of_mark (key k))) (sym e) ∙ nat_eq-refl (of_mark (key word))

same_mark : (m n : Mark) → of_mark m ≡ of_mark n → m ≡ n
same_mark m n e = let c : mark_code m ≡ mark_code n = omega arith in code-one m n c

same_key : (a b : Keyword) → key a ≡ key b → a ≡ b
same_key a b e = cc

pub returns : goal.returns
returns c = by_test (λ t. t ≡ nat_eq (of_mark (key c.args.word)) (of_mark (key c.args.wanted))) c.eq.result
    (λ is. sym (same_code c.args.word c.args.wanted (same_true the_type (search rules) _ _ (sym c.eq.ensures ∙ is))))
    (λ is. sym (not_eq _ _ (λ e. same_false the_type c.args.word c.args.wanted (sym c.eq.ensures ∙ is) (same_key _ _ (same_mark _ _ e)))))
