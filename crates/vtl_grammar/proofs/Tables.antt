-- What the tables keep, row by row: their rules fit, and can be spelled.
use Rattle.std.proofs.Common.{◌≡◌, Bool, true, Option, Some, None, refl, subst}
use Rattle.std.specs.Prelude.{◌&&◌}
use Rattle.vtl_tokens.specs.declared.keyword.Keyword.TheVariants as words
use Rattle.vtl_tokens.specs.declared.sign.Sign.TheVariants as signs
use Rattle.vtl_grammar.specs.Marks.{Mark, key, sign, kind_of, mark_in}
use Rattle.vtl_grammar.specs.Rules.{JoinPart, filtering, calculating, keeping, renaming}
use Rattle.vtl_grammar.specs.Clauses.{join_part_rule}
use Rattle.vtl_grammar.specs.Calls.{Form}
use Rattle.vtl_grammar.specs.Forms.{Tail, form_of, tail_of}
use Rattle.vtl_grammar.specs.Reading.{firsts, join_part_firsts}
use Rattle.vtl_grammar.proofs.Spellings.{and-true, has_sample}
use Rattle.vtl_grammar.proofs.RuleLaws.{is_open}
use Rattle.vtl_grammar.proofs.EveryRule.{fits}

abbrev form_fits : Option Form → Bool
form_fits None = true
form_fits (Some form) = fits form.rule && has_sample form.rule

each_form : (m : Mark) → form_fits (form_of m) ≡ true
each_form (key words.If) = refl
each_form (sign signs.LeftParen) = refl
each_form _ = refl

pub form-fits : (m : Mark) (form : Form) → form_of m ≡ Some form → (fits form.rule ≡ true) × (has_sample form.rule ≡ true)
form-fits m form is = and-true (fits form.rule) (has_sample form.rule) (subst (λ (f : Option Form). form_fits f ≡ true) is (each_form m))

abbrev tail_fits : Option Tail → Bool
tail_fits None = true
tail_fits (Some tail) = fits tail.rule && has_sample tail.rule

each_tail : (m : Mark) → tail_fits (tail_of m) ≡ true
each_tail (key words.Or) = refl
each_tail (sign signs.Equal) = refl
each_tail _ = refl

pub tail-fits : (m : Mark) (tail : Tail) → tail_of m ≡ Some tail → (fits tail.rule ≡ true) × (has_sample tail.rule ≡ true)
tail-fits m tail is = and-true (fits tail.rule) (has_sample tail.rule) (subst (λ (f : Option Tail). tail_fits f ≡ true) is (each_tail m))

pub join_part-fits : (k : JoinPart) → fits (join_part_rule k) ≡ true
join_part-fits filtering = refl
join_part-fits calculating = refl
join_part-fits keeping = refl
join_part-fits renaming = refl

pub join_part-open : (k : JoinPart) → is_open (join_part_rule k) ≡ true
join_part-open filtering = refl
join_part-open calculating = refl
join_part-open keeping = refl
join_part-open renaming = refl

pub join_part-firsts : (k : JoinPart) → firsts (join_part_rule k) ≡ join_part_firsts k
join_part-firsts filtering = refl
join_part-firsts calculating = refl
join_part-firsts keeping = refl
join_part-firsts renaming = refl

pub mark_in-kind_of : (m : Mark) → mark_in (kind_of m) ≡ Some m
mark_in-kind_of (key k) = refl
mark_in-kind_of (sign s) = refl
