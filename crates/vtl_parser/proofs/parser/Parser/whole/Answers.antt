use Rattle.std.proofs.Common.{◌≤◌}
use Rattle.vtl_cursor.specs.Limits.{limits}
use Rattle.vtl_parser.proofs.Tails.{front-levels, whole}
use Rattle.vtl_parser.proofs.parser.Parser.whole.Goals as goal

pub tails-requires : goal.tails-requires
tails-requires g c =
    let low : c.in_ok-front.levels ≤ c.args.self.now.depth = front-levels limits c.args.self.now.depth c.args.precedence c.args.cursor.now.tokens.now _ c.in_ok-front.levels c.front.new.cursor.tokens.now c.in_ok-front.ensures.read in
    record { reads = c.requires; low = low; name = c.in_ok-front.ensures.name }

pub returns : goal.returns
returns g c = rw (whole limits c.args.self.now.depth c.args.precedence c.args.cursor.now.tokens.now _ c.in_ok-front.levels c.front.new.cursor.tokens.now c.in_ok-front.ensures.read) c.tails.ensures
