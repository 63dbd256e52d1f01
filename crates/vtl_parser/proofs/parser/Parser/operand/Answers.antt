use Rattle.std.proofs.Common.{sym, arith}
use Rattle.vtl_grammar.specs.Rules.{expression}
use Rattle.vtl_cursor.specs.Limits.{limits}
use Rattle.vtl_cursor.proofs.Shown.{reads-along}
use Rattle.vtl_parser.proofs.Below.{below-none, below-is}
use Rattle.vtl_parser.proofs.parser.Parser.operand.Goals as goal

pub returns-then-self-eq0 : goal.returns-then-self-eq0
returns-then-self-eq0 g c = below-none limits c.args.self.now.depth (expression c.args.precedence) c.args.cursor.now.tokens.now (omega arith)
