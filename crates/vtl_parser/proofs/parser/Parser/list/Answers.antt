use Rattle.std.proofs.lemmas.Result.{err_from_is_err_and}
use Rattle.vtl_grammar.specs.Rules.{listed}
use Rattle.vtl_grammar.specs.Reading.{below}
use Rattle.vtl_cursor.specs.Limits.{limits}
use Rattle.vtl_cursor.specs.Views.{limit_of}
use Rattle.vtl_cursor.proofs.Shown.{fails-too}
use Rattle.vtl_cursor.proofs.Lists.{list-is, list-halts, shown-along}
use Rattle.vtl_parser.proofs.parser.Parser.list.Goals as goal

pub returns-in_err-first : goal.returns-in_err-first
returns-in_err-first g c =
    let p = err_from_is_err_and c.from_residual.result c.from_residual.ensures.1 in
    rw (p.1, p.2) (fails-too c.in_err-first.field-0.0 c.parse.new.cursor.tokens.now _ _
    (λ k is. list-halts (below limits c.args.self.now.depth) c.args.separator g.T.ListItem.rule g.T.ListItem.of (limit_of c.args.limit) k c.args.cursor.now.tokens.now c.parse.new.cursor.tokens.now is)
    c.in_err-first.ensures)

pub returns : goal.returns
returns g c = shown-along (listed g.T.ListItem.of) _ _ _ _
    (rw (c.in_ok-push.ensures.ok, c.new-items.ensures) (list-is (below limits c.args.self.now.depth) c.args.separator g.T.ListItem.rule g.T.ListItem.of (limit_of c.args.limit) c.in_ok-first.first c.in_ok-first.levels c.args.cursor.now.tokens.now c.parse.new.cursor.tokens.now c.in_ok-first.ensures))
    c.more.ensures
