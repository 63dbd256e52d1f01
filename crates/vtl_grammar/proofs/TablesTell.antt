-- What the tables keep, row by row: one token tells what comes.
use Rattle.std.proofs.Common.{◌≡◌, suc, Bool, true, false, not, Option, Some, None, refl, subst}
use Rattle.std.specs.Prelude.{◌&&◌, nat_le}
use Rattle.vtl_values.specs.declared.place.Place.{Place}
use Rattle.vtl_tokens.specs.declared.keyword.Keyword.{Keyword}
use Rattle.vtl_tokens.specs.declared.keyword.Keyword.TheVariants as words
use Rattle.vtl_tokens.specs.declared.sign.Sign.TheVariants as signs
use Rattle.vtl_tokens.specs.declared.token.TokenKind.TheVariants as what
use Rattle.vtl_syntax.specs.declared.expr.Expr.{Expr}
use Rattle.vtl_grammar.specs.Marks.{Mark, key, sign, of_mark}
use Rattle.vtl_grammar.specs.Rules.{JoinPart, filtering, calculating, keeping, renaming}
use Rattle.vtl_grammar.specs.Clauses.{join_part_rule}
use Rattle.vtl_grammar.specs.Calls.{Form}
use Rattle.vtl_grammar.specs.Forms.{Tail, form_of, tail_of, leaf_in}
use Rattle.vtl_grammar.specs.Reading.{member, heads, heads_of_all}
use Rattle.vtl_grammar.proofs.Spellings.{and-true}
use Rattle.vtl_grammar.proofs.Complete.{predictive, ends, join_part_ends, subset, tail_sorts}

abbrev pub form_tells : Mark → Option Form → Bool
form_tells m None = true
form_tells m (Some form) = predictive form.rule && (subset (ends form.rule) (tail_sorts (suc form.precedence)) && member (of_mark m) (heads form.precedence))

each_form : (m : Mark) → form_tells m (form_of m) ≡ true
each_form (key words.If) = refl
each_form (sign signs.LeftParen) = refl
each_form _ = refl

-- what is known of a form
pub record FormTells (m : Mark) (form : Form) : Type 0 where
  pub tells : predictive form.rule ≡ true
  pub ends_so : subset (ends form.rule) (tail_sorts (suc form.precedence)) ≡ true
  pub head : member (of_mark m) (heads form.precedence) ≡ true

pub form-tells : (m : Mark) (form : Form) → form_of m ≡ Some form → FormTells m form
form-tells m form is =
    let all = and-true (predictive form.rule) (subset (ends form.rule) (tail_sorts (suc form.precedence)) && member (of_mark m) (heads form.precedence)) (subst (λ (f : Option Form). form_tells m f ≡ true) is (each_form m)) in
    let more = and-true (subset (ends form.rule) (tail_sorts (suc form.precedence))) (member (of_mark m) (heads form.precedence)) all.1 in
    record { tells = all.0; ends_so = more.0; head = more.1 }

abbrev pub tail_tells : Mark → Option Tail → Bool
tail_tells m None = true
tail_tells m (Some tail) = predictive tail.rule && (subset (ends tail.rule) (tail_sorts (suc tail.precedence)) && (not (member (of_mark m) (tail_sorts (suc tail.operand))) && (nat_le tail.precedence tail.operand && member (of_mark m) (tail_sorts tail.precedence))))

each_tail : (m : Mark) → tail_tells m (tail_of m) ≡ true
each_tail (key words.Or) = refl
each_tail (sign signs.Equal) = refl
each_tail _ = refl

not-true : (a : Bool) → not a ≡ true → a ≡ false
not-true true e = absurd cc
not-true false e = refl

-- what is known of a form that goes on
pub record TailTells (m : Mark) (tail : Tail) : Type 0 where
  pub tells : predictive tail.rule ≡ true
  pub ends_so : subset (ends tail.rule) (tail_sorts (suc tail.precedence)) ≡ true
  pub not_higher : member (of_mark m) (tail_sorts (suc tail.operand)) ≡ false
  pub operand_higher : nat_le tail.precedence tail.operand ≡ true
  pub among : member (of_mark m) (tail_sorts tail.precedence) ≡ true

pub tail-tells : (m : Mark) (tail : Tail) → tail_of m ≡ Some tail → TailTells m tail
tail-tells m tail is =
    let a = and-true (predictive tail.rule) (subset (ends tail.rule) (tail_sorts (suc tail.precedence)) && (not (member (of_mark m) (tail_sorts (suc tail.operand))) && (nat_le tail.precedence tail.operand && member (of_mark m) (tail_sorts tail.precedence)))) (subst (λ (f : Option Tail). tail_tells m f ≡ true) is (each_tail m)) in
    let b = and-true (subset (ends tail.rule) (tail_sorts (suc tail.precedence))) (not (member (of_mark m) (tail_sorts (suc tail.operand))) && (nat_le tail.precedence tail.operand && member (of_mark m) (tail_sorts tail.precedence))) a.1 in
    let c = and-true (not (member (of_mark m) (tail_sorts (suc tail.operand)))) (nat_le tail.precedence tail.operand && member (of_mark m) (tail_sorts tail.precedence)) b.1 in
    let d = and-true (nat_le tail.precedence tail.operand) (member (of_mark m) (tail_sorts tail.precedence)) c.1 in
    record { tells = a.0; ends_so = b.0; not_higher = not-true (member (of_mark m) (tail_sorts (suc tail.operand))) c.0; operand_higher = d.0; among = d.1 }

pub join_part-tells : (k : JoinPart) → predictive (join_part_rule k) ≡ true
join_part-tells filtering = refl
join_part-tells calculating = refl
join_part-tells keeping = refl
join_part-tells renaming = refl

pub join_part-ends : (k : JoinPart) → ends (join_part_rule k) ≡ join_part_ends k
join_part-ends filtering = refl
join_part-ends calculating = refl
join_part-ends keeping = refl
join_part-ends renaming = refl

-- a literal's word is one with which expressions begin
abbrev pub LeafBegins : Keyword → Option Expr → Type 0
LeafBegins k None = Unit {0}
LeafBegins k (Some e) = member (of_mark (key k)) heads_of_all ≡ true

pub leaf-begins : (k : Keyword) (p : Place) → LeafBegins k (leaf_in (what.Reserved k) p)
leaf-begins words.True p = refl
leaf-begins words.False p = refl
leaf-begins words.Null p = refl
leaf-begins _ p = tt
