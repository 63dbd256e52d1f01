use Rattle.std.proofs.Common.{◌≡◌, ◌-◌, ◌≤◌, max, inl, inr, arith, sym}
use Rattle.std.proofs.lemmas.Result.{err_from_is_err_and}
use Rattle.vtl_grammar.specs.Reading.{below}
use Rattle.vtl_cursor.specs.Limits.{limits}
use Rattle.vtl_parser.specs.Forms.{suffix_tail}
use Rattle.vtl_parser.proofs.Tails.{unfit-tail, deep-tail, tail-halts, tail-goes, tail-levels-at}
use Rattle.vtl_cursor.proofs.Shown.{fails-too, reads-along}
use Rattle.vtl_parser.proofs.parser.Parser.+tails.Goals as goal
use Rattle.vtl_parser.proofs.parser.Parser.+tails.Goals.{then-next-precedence-via-then-next-precedence, then-next-precedence-via-else-next-precedence+then-own-operand}

pub returns-then-next-precedence : goal.returns-then-next-precedence
returns-then-next-precedence g t c =
    elim c.then-next-precedence.branch [
      | then-next-precedence-via-then-next-precedence w ↦ unfit-tail limits (below limits c.args.self.now.depth) c.args.self.now.depth c.args.precedence (c.args.self.now.depth - c.args.levels) (record { expr = c.args.front; precedence = c.args.own }) c.args.levels (suffix_tail c.in-Some.suffix) c.in-Some.place c.args.cursor.now.tokens.now (sym c.in-Some.ensures) (inl (omega arith))
      | then-next-precedence-via-else-next-precedence+then-own-operand w ↦ unfit-tail limits (below limits c.args.self.now.depth) c.args.self.now.depth c.args.precedence (c.args.self.now.depth - c.args.levels) (record { expr = c.args.front; precedence = c.args.own }) c.args.levels (suffix_tail c.in-Some.suffix) c.in-Some.place c.args.cursor.now.tokens.now (sym c.in-Some.ensures) (inr (omega arith))
    ]

pub returns-then-levels-self : goal.returns-then-levels-self
returns-then-levels-self g t c = deep-tail limits (below limits c.args.self.now.depth) c.args.self.now.depth c.args.precedence (c.args.self.now.depth - c.args.levels) (record { expr = c.args.front; precedence = c.args.own }) c.args.levels (suffix_tail c.in-Some.suffix) c.in-Some.place (omega arith) (omega arith) c.args.cursor.now.tokens.now (sym c.in-Some.ensures) (omega arith)

pub returns-in_err-longer : goal.returns-in_err-longer
returns-in_err-longer g t c =
    let p = err_from_is_err_and c.from_residual.result c.from_residual.ensures.1 in
    rw (p.1, p.2) (fails-too c.in_err-longer.field-0.0 c.tail.new.cursor.tokens.now _ _
    (λ k is. tail-halts limits c.args.self.now.depth c.args.precedence (record { expr = c.args.front; precedence = c.args.own }) c.args.levels (suffix_tail c.in-Some.suffix) c.in-Some.place (omega arith) (omega arith) (omega arith) c.args.cursor.now.tokens.now (sym c.in-Some.ensures) (c.args.self.now.depth - c.args.levels) k c.tail.new.cursor.tokens.now is)
    (rw c.skip.ensures at c.in_err-longer.ensures))

pub overflow_add-max : goal.overflow_add-max
overflow_add-max g t c =
    let low : c.in_ok-longer.inside ≤ c.args.self.now.depth - 1 = tail-levels-at limits c.args.self.now.depth c.args.precedence (record { expr = c.args.front; precedence = c.args.own }) c.args.levels (suffix_tail c.in-Some.suffix) c.in-Some.place (omega arith) (omega arith) (omega arith) c.args.cursor.now.tokens.now (sym c.in-Some.ensures) c.args.front _ c.in_ok-longer.longer c.in_ok-longer.inside c.tail.new.cursor.tokens.now c.in_ok-longer.ensures in
    let most : c.max.result ≡ max c.args.levels c.in_ok-longer.inside = c.max.ensures in
    omega arith

pub tail-requires : goal.tail-requires
tail-requires g t c = record { reads = c.requires.reads; some = omega arith; name = λ high. c.requires.name (omega arith) }

pub tails-requires : goal.tails-requires
tails-requires g t c =
    let low : c.in_ok-longer.inside ≤ c.args.self.now.depth - 1 = tail-levels-at limits c.args.self.now.depth c.args.precedence (record { expr = c.args.front; precedence = c.args.own }) c.args.levels (suffix_tail c.in-Some.suffix) c.in-Some.place (omega arith) (omega arith) (omega arith) c.args.cursor.now.tokens.now (sym c.in-Some.ensures) c.args.front _ c.in_ok-longer.longer c.in_ok-longer.inside c.tail.new.cursor.tokens.now c.in_ok-longer.ensures in
    let most : c.max.result ≡ max c.args.levels c.in_ok-longer.inside = c.max.ensures in
    λ κs lives. (omega arith, (lives, (c.requires.reads, (omega arith, λ high. absurd (omega arith)))))

pub returns : goal.returns
returns g t c =
    let most : c.max.result ≡ max c.args.levels c.in_ok-longer.inside = c.max.ensures in
    let goes = tail-goes limits c.args.self.now.depth c.args.precedence (record { expr = c.args.front; precedence = c.args.own }) c.args.levels (suffix_tail c.in-Some.suffix) c.in-Some.place (omega arith) (omega arith) (omega arith) c.args.cursor.now.tokens.now (sym c.in-Some.ensures) c.in_ok-longer.longer c.in_ok-longer.inside c.tail.new.cursor.tokens.now (rw c.skip.ensures at c.in_ok-longer.ensures) in
    reads-along _ _ _ _ _ (sym goes) (rw (most, c.precedence-next.ensures.value) at c.tails.ensures)
