use Rattle.std.proofs.Common.{◌≡◌, ◌+◌, ◌-◌, ◌<◌, map, true, false, sym, ◌∙◌, refl, arith}
use Rattle.std.proofs.lemmas.Result.{err_from_is_err_and}
use Rattle.vtl_grammar.specs.Marks.{Tokens}
use Rattle.vtl_grammar.specs.Rules.{lists}
use Rattle.vtl_grammar.specs.Reading.{Kind, TooMany, Reader, halt, got, mapped, starts, firsts, no_part}
use Rattle.vtl_grammar.specs.Rulesets.{signed_name, signed_name_of}
use Rattle.vtl_grammar.proofs.RuleLaws.{mapped-halts}
use Rattle.vtl_syntax.specs.declared.ruleset.SignedName.{SignedName}
use Rattle.vtl_cursor.specs.Limits.{limits}
use Rattle.vtl_cursor.specs.Plain.{read_plain}
use Rattle.vtl_cursor.specs.Views.{IsShown}
use Rattle.vtl_cursor.proofs.Shown.{shown, fails-too}
use Rattle.vtl_cursor.proofs.Lists.{joined-nil, more-map, goes_on, item_halts, is_full, is_whole}
use Rattle.vtl_cursor.proofs.rules.signed_names.Goals as goal

abbrev seen : Reader SignedName
seen ts = mapped signed_name_of (read_plain limits no_part signed_name ts)

seen-is : (x : SignedName) (ts us : Tokens) → IsShown signed_name_of x us (read_plain limits no_part signed_name ts) → seen ts ≡ got x 0 us
seen-is x ts us s = rw (s.reads, ← s.shows) refl

seen-halts : (k : Kind) (ts us : Tokens) → read_plain limits no_part signed_name ts ≡ halt k us → seen ts ≡ halt k us
seen-halts k ts us e = rw e refl

pub loop-names-init : goal.loop-names-init
loop-names-init c = rw (c.new-names.ensures, c.most-left.ensures) (joined-nil _ ∙ sym (more-map (firsts signed_name) lists (read_plain limits no_part signed_name) signed_name_of (limits lists) c.args.cursor.now.tokens.now))

pub returns-then-left-eq0 : goal.returns-then-left-eq0
returns-then-left-eq0 c =
    let some : starts (firsts signed_name) c.loop-names.cursor.tokens.now ≡ true = cc in
    mapped-halts (map signed_name_of) _ (TooMany lists) _ (is_full (firsts signed_name) lists seen c.loop-names.names 0 c.loop-names.left c.loop-names.cursor.tokens.now _ c.loop-names.invariant c.if-left-eq0.true some)

pub returns-in_err-name : goal.returns-in_err-name
returns-in_err-name c =
    let some : starts (firsts signed_name) c.loop-names.cursor.tokens.now ≡ true = cc in
    let more : 0 < c.loop-names.left = omega arith in
    let p = err_from_is_err_and c.from_residual.result c.from_residual.ensures.1 in
    rw (p.1, p.2) (fails-too c.in_err-name.field-0.0 c.signed_name.new.cursor.tokens.now _ _
    (λ k is. mapped-halts (map signed_name_of) _ k _ (item_halts (firsts signed_name) lists seen c.loop-names.names 0 c.loop-names.left c.loop-names.cursor.tokens.now c.signed_name.new.cursor.tokens.now k _ c.loop-names.invariant more some (seen-halts k c.loop-names.cursor.tokens.now c.signed_name.new.cursor.tokens.now is)))
    c.in_err-name.ensures)

pub loop-names-preserved : goal.loop-names-preserved
loop-names-preserved c =
    let some : starts (firsts signed_name) c.loop-names.cursor.tokens.now ≡ true = cc in
    let one : (c.loop-names.left - 1) + 1 ≡ c.loop-names.left = omega arith in
    rw c.in_ok-push.ensures.ok (goes_on (firsts signed_name) lists seen c.loop-names.names 0 c.loop-names.left (c.loop-names.left - 1) c.loop-names.cursor.tokens.now c.signed_name.new.cursor.tokens.now c.in_ok-name.name 0 _ c.loop-names.invariant one some (seen-is c.in_ok-name.name c.loop-names.cursor.tokens.now c.signed_name.new.cursor.tokens.now c.in_ok-name.ensures))

pub returns : goal.returns
returns c =
    let none : starts (firsts signed_name) c.loop-names.cursor.tokens.now ≡ false = cc in
    shown _ _ _ _ (is_whole (firsts signed_name) lists seen c.loop-names.names 0 c.loop-names.left c.loop-names.cursor.tokens.now _ c.loop-names.invariant none)
