use Rattle.std.proofs.Common.{◌-◌}
use Rattle.vtl_parser.proofs.parser.Parser.+tails.Given as goal

-- each tail is a level more
abbrev pub decreases-tails : goal.decreases-tails
decreases-tails g l = l.self.now.depth - l.levels
