use Rattle.std.proofs.Common.{◌≡◌}
use Rattle.vtl_grammar.specs.Reading.{below}
use Rattle.vtl_cursor.specs.Limits.{limits}
use Rattle.vtl_cursor.specs.Lists.{others}
use Rattle.vtl_cursor.specs.Views.{limit_of, joined}
use Rattle.vtl_cursor.proofs.Lists.{some_others}
use Rattle.vtl_parser.proofs.parser.Parser.more.Given as goal

abbrev pub invariant-loop-separator : goal.invariant-loop-separator
invariant-loop-separator g l = joined l.items l.levels (some_others (below limits l.self.depth) l.separator g.T.ListItem.rule g.T.ListItem.of (limit_of l.limit) l.left l.cursor.tokens.now)
    ≡ joined l.fn.before l.fn.in_before (others (below limits l.self.depth) l.separator (limit_of l.limit) g.T.ListItem.rule g.T.ListItem.of l.fn.cursor.tokens.now)

abbrev pub decreases-loop-separator : goal.decreases-loop-separator
decreases-loop-separator g l = l.left
