use Rattle.std.proofs.Common.{◌≡◌, ℕ, ◌+◌, ◌≤◌, Bool, true, false, ltb, cond, length, drop, Option, Some, None, refl, sym, subst, ◌∙◌, ap, rules, tests, arith}
use Rattle.std.specs.List.{position_or_len}
use Rattle.std.proofs.lemmas.Bool.{ltb-false}
use Rattle.std.proofs.lemmas.Iterator.{YieldsList-from_slice}
use Rattle.std.proofs.lemmas.Iterator.Search.{position_from_yields_List}
use Rattle.std.proofs.lemmas.List.{take_rest, drop_all}
use Rattle.revision_files.specs.Blocks.{is_line_feed}
use Rattle.std.specs.Str.{IsUtf8}
use Rattle.std.proofs.lemmas.Str.{IsUtf8-nil}
use Rattle.revision_files.proofs.Lines.{IsUtf8-after_line}
use Rattle.revision_files.proofs.blocks.after_line.Goals as goal

place_some : (n at : ℕ) (inside : Bool) → Some at ≡ cond inside (Some n) None → at ≡ n
place_some n at true e = cc
place_some n at false e = cc

outside : (n : ℕ) (inside : Bool) → None ≡ cond inside (Some n) None → inside ≡ false
outside n true e = cc
outside n false e = refl

-- what `position` answers is the first place
found : (n len at : ℕ) (r : Option ℕ) → r ≡ cond (ltb n len) (Some n) None → r ≡ Some at → at ≡ n
found n len at r e h = place_some n at (ltb n len) (sym h ∙ e)

not_found : (n len : ℕ) (r : Option ℕ) → r ≡ cond (ltb n len) (Some n) None → r ≡ None → len ≤ n
not_found n len r e h = ltb-false n len (outside n (ltb n len) (sym h ∙ e))

pub returns-in-Some-clause-rest : goal.returns-in-Some-clause-rest
returns-in-Some-clause-rest c =
    let e = position_from_yields_List is_line_feed _ _ c.position.result c.position.ensures.ran (YieldsList-from_slice c.args.text.now cc) (λ x b q k. search (rules, tests)) in
    take_rest c.args.text.now (c.in-Some.at + 1) ∙ ap (λ n. drop (n + 1) c.args.text.now) (found _ _ _ _ e c.in-Some.is)

pub returns-in-None-clause-rest : goal.returns-in-None-clause-rest
returns-in-None-clause-rest c =
    let e = position_from_yields_List is_line_feed _ _ c.position.result c.position.ensures.ran (YieldsList-from_slice c.args.text.now cc) (λ x b q k. search (rules, tests)) in
    let past : length c.args.text.now ≤ position_or_len is_line_feed c.args.text.now = not_found _ _ _ e c.in-None.is in
    sym (drop_all _ c.args.text.now (omega arith))

pub returns-in-Some-clause-text : goal.returns-in-Some-clause-text
returns-in-Some-clause-text c =
    let e = position_from_yields_List is_line_feed _ _ c.position.result c.position.ensures.ran (YieldsList-from_slice c.args.text.now cc) (λ x b q k. search (rules, tests)) in
    λ text. subst IsUtf8 (sym (take_rest c.args.text.now (c.in-Some.at + 1) ∙ ap (λ n. drop (n + 1) c.args.text.now) (found _ _ _ _ e c.in-Some.is))) (IsUtf8-after_line c.args.text.now text)

pub returns-in-None-clause-text : goal.returns-in-None-clause-text
returns-in-None-clause-text c = λ text. IsUtf8-nil
