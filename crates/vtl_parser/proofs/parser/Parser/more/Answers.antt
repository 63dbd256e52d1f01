use Rattle.std.proofs.Common.{◌≡◌, ◌+◌, ◌-◌, ◌<◌, [], ◌∷◌, max, true, false, refl, arith}
use Rattle.std.proofs.lemmas.Result.{err_from_is_err_and}
use Rattle.vtl_grammar.specs.Rules.{sig}
use Rattle.vtl_grammar.specs.Reading.{starts, firsts, below}
use Rattle.vtl_cursor.specs.Limits.{limits}
use Rattle.vtl_cursor.specs.Views.{limit_of}
use Rattle.vtl_cursor.proofs.Shown.{fails-too}
use Rattle.vtl_cursor.proofs.Lists.{others-go_on, others-halt, others-full, others-end}
use Rattle.vtl_parser.proofs.parser.Parser.more.Goals as goal

pub loop-separator-init : goal.loop-separator-init
loop-separator-init g c = rw c.most-left.ensures refl

pub returns-then-left-eq0 : goal.returns-then-left-eq0
returns-then-left-eq0 g c =
    let some : starts (firsts (sig c.args.separator)) c.loop-separator.cursor.tokens.now ≡ true = cc in
    others-full (below limits c.args.self.now.depth) c.args.separator g.T.ListItem.rule g.T.ListItem.of (limit_of c.args.limit) c.loop-separator.items c.loop-separator.levels c.loop-separator.left c.loop-separator.cursor.tokens.now _ c.loop-separator.invariant c.if-left-eq0.true some

pub returns-in_err-next : goal.returns-in_err-next
returns-in_err-next g c =
    let some : 0 < c.loop-separator.left = omega arith in
    let p = err_from_is_err_and c.from_residual-in_err-next.result c.from_residual-in_err-next.ensures.1 in
    rw (p.1, p.2) (fails-too c.in_err-next.field-0.0 c.parse.new.cursor.tokens.now _ _
    (λ k is. others-halt (below limits c.args.self.now.depth) c.args.separator g.T.ListItem.rule g.T.ListItem.of (limit_of c.args.limit) c.loop-separator.items c.loop-separator.levels c.loop-separator.left c.loop-separator.cursor.tokens.now _ c.loop-separator.invariant c.sign.new.self.tokens.now c.parse.new.cursor.tokens.now c.in_ok-sign.field-0 k some c.in_ok-sign.ensures is)
    c.in_err-next.ensures)

pub loop-separator-preserved : goal.loop-separator-preserved
loop-separator-preserved g c =
    let one : (c.loop-separator.left - 1) + 1 ≡ c.loop-separator.left = omega arith in
    let most : c.max-levels.result ≡ max c.loop-separator.levels c.in_ok-next.inside = c.max-levels.ensures in
    rw (c.in_ok-push.ensures.ok, most)
    (others-go_on (below limits c.args.self.now.depth) c.args.separator g.T.ListItem.rule g.T.ListItem.of (limit_of c.args.limit) c.loop-separator.items c.loop-separator.levels c.loop-separator.left c.loop-separator.cursor.tokens.now _ c.loop-separator.invariant (c.loop-separator.left - 1) c.sign.new.self.tokens.now c.parse.new.cursor.tokens.now c.in_ok-sign.field-0 c.in_ok-next.next c.in_ok-next.inside one c.in_ok-sign.ensures c.in_ok-next.ensures)

pub returns : goal.returns
returns g c =
    let none : starts (firsts (sig c.args.separator)) c.loop-separator.cursor.tokens.now ≡ false = cc in
    others-end (below limits c.args.self.now.depth) c.args.separator g.T.ListItem.rule g.T.ListItem.of (limit_of c.args.limit) c.loop-separator.items c.loop-separator.levels c.loop-separator.left c.loop-separator.cursor.tokens.now _ c.loop-separator.invariant none
