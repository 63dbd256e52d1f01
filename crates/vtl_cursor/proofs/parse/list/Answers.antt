use Rattle.std.proofs.Common.{◌≡◌, ◌+◌, ◌-◌, ◌<◌, true, false, arith}
use Rattle.std.proofs.lemmas.Result.{err_from_is_err_and}
use Rattle.vtl_tokens.specs.declared.sign.Sign.TheVariants as signs
use Rattle.vtl_grammar.specs.Rules.{comma, listed}
use Rattle.vtl_grammar.specs.Reading.{TooMany, starts, firsts, no_part}
use Rattle.vtl_grammar.proofs.RuleLaws.{mapped-halts}
use Rattle.vtl_cursor.specs.Views.{limit_of}
use Rattle.vtl_cursor.proofs.Shown.{shown, fails-too}
use Rattle.vtl_cursor.proofs.Lists.{shallow, list-is, list-halts, others-go_on, others-halt, others-full, others-end}
use Rattle.vtl_cursor.proofs.parse.list.Goals as goal

pub loop-alloc-init : goal.loop-alloc-init
loop-alloc-init g c = rw (c.in_ok-push.ensures.ok, c.new-items.ensures, c.most-left.ensures)
    (list-is no_part signs.Comma g.T.Parse.rule g.T.Parse.of (limit_of c.args.limit) c.in_ok-first.first 0 c.args.cursor.now.tokens.now c.parse.new.cursor.tokens.now (shallow g.T.Parse.of _ _ _ c.in_ok-first.ensures))

pub returns-then-left-eq0 : goal.returns-then-left-eq0
returns-then-left-eq0 g c =
    let some : starts (firsts comma) c.loop-alloc.cursor.tokens.now ≡ true = cc in
    mapped-halts (listed g.T.Parse.of) _ (TooMany (limit_of c.args.limit)) _ (others-full no_part signs.Comma g.T.Parse.rule g.T.Parse.of (limit_of c.args.limit) c.loop-alloc.items 0 c.loop-alloc.left c.loop-alloc.cursor.tokens.now _ c.loop-alloc.invariant c.if-left-eq0.true some)

pub returns-in_err-next : goal.returns-in_err-next
returns-in_err-next g c =
    let some : 0 < c.loop-alloc.left = omega arith in
    let p = err_from_is_err_and c.from_residual-in_err-next.result c.from_residual-in_err-next.ensures.1 in
    rw (p.1, p.2) (fails-too c.in_err-next.field-0.0 c.parse-in-loop-alloc.new.cursor.tokens.now _ _
    (λ k is. mapped-halts (listed g.T.Parse.of) _ k _ (others-halt no_part signs.Comma g.T.Parse.rule g.T.Parse.of (limit_of c.args.limit) c.loop-alloc.items 0 c.loop-alloc.left c.loop-alloc.cursor.tokens.now _ c.loop-alloc.invariant c.sign.new.self.tokens.now c.parse-in-loop-alloc.new.cursor.tokens.now c.in_ok-sign.field-0 k some c.in_ok-sign.ensures is))
    c.in_err-next.ensures)

pub loop-alloc-preserved : goal.loop-alloc-preserved
loop-alloc-preserved g c =
    let one : (c.loop-alloc.left - 1) + 1 ≡ c.loop-alloc.left = omega arith in
    rw c.in_ok-push-2.ensures.ok
    (others-go_on no_part signs.Comma g.T.Parse.rule g.T.Parse.of (limit_of c.args.limit) c.loop-alloc.items 0 c.loop-alloc.left c.loop-alloc.cursor.tokens.now _ c.loop-alloc.invariant (c.loop-alloc.left - 1) c.sign.new.self.tokens.now c.parse-in-loop-alloc.new.cursor.tokens.now c.in_ok-sign.field-0 c.in_ok-next.next 0 one c.in_ok-sign.ensures (shallow g.T.Parse.of _ _ _ c.in_ok-next.ensures))

pub returns : goal.returns
returns g c =
    let none : starts (firsts comma) c.loop-alloc.cursor.tokens.now ≡ false = cc in
    shown _ _ _ _ (others-end no_part signs.Comma g.T.Parse.rule g.T.Parse.of (limit_of c.args.limit) c.loop-alloc.items 0 c.loop-alloc.left c.loop-alloc.cursor.tokens.now _ c.loop-alloc.invariant none)

pub returns-in_err-first : goal.returns-in_err-first
returns-in_err-first g c =
    let p = err_from_is_err_and c.from_residual.result c.from_residual.ensures.1 in
    rw (p.1, p.2) (fails-too c.in_err-first.field-0.0 c.parse.new.cursor.tokens.now _ _ (λ k is. list-halts no_part signs.Comma g.T.Parse.rule g.T.Parse.of (limit_of c.args.limit) k c.args.cursor.now.tokens.now c.parse.new.cursor.tokens.now is) c.in_err-first.ensures)
