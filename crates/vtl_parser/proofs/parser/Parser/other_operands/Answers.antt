use Rattle.std.proofs.Common.{map}
use Rattle.vtl_tokens.specs.declared.sign.Sign.TheVariants as signs
use Rattle.vtl_grammar.specs.Rules.{operands}
use Rattle.vtl_grammar.specs.Reading.{below}
use Rattle.vtl_cursor.specs.Limits.{limits}
use Rattle.vtl_cursor.specs.Lists.{after}
use Rattle.vtl_cursor.proofs.Lists.{others-seen, shown-along}
use Rattle.vtl_parser.proofs.parser.Parser.other_operands.Goals as goal

pub returns : goal.returns
returns g c = shown-along (map (after g.T.ListItem.of)) _ _ _ _
    (rw c.new.ensures (others-seen (below limits c.args.self.now.depth) signs.Comma g.T.ListItem.rule g.T.ListItem.of operands c.args.cursor.now.tokens.now))
    c.more.ensures
