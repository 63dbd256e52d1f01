use Rattle.std.proofs.Common.{◌≡◌, ◌-◌, length, eqb, true, sym, ◌∙◌, arith, eqb-true}
use Rattle.std.proofs.lemmas.Result.{err_from_is_err_and}
use Rattle.vtl_cursor.proofs.Shown.{fails-too}
use Rattle.vtl_parser.proofs.Pieces.{at-beginning, at-end}
use Rattle.vtl_parser.proofs.parser.Parser.script.Goals as goal

pub loop-cursor-init : goal.loop-cursor-init
loop-cursor-init g c = record {
  same = rw (c.new.ensures, c.new-2.ensures, c.new-3.ensures) (at-beginning (c.args.self.now.depth - 1) c.args.cursor.now.tokens.now);
  few = rw (c.new.ensures, c.new-2.ensures, c.new-3.ensures) (record { statements = omega arith; rulesets = omega arith; operators = omega arith });
}

pub loop-cursor-smaller : goal.loop-cursor-smaller
loop-cursor-smaller g c = c.in_ok-piece.ensures.less

pub loop-cursor-preserved : goal.loop-cursor-preserved
loop-cursor-preserved g c = record { same = sym c.in_ok-piece.ensures.same ∙ c.loop-cursor.invariant.same; few = c.in_ok-piece.ensures.few }

pub returns-in_err-piece : goal.returns-in_err-piece
returns-in_err-piece g c =
    let p = err_from_is_err_and c.from_residual.result c.from_residual.ensures.1 in
    rw (p.1, p.2) (fails-too c.in_err-piece.field-0.0 c.piece.new.cursor.tokens.now _ _ (λ k is. sym c.loop-cursor.invariant.same ∙ is) c.in_err-piece.ensures)

pub returns : goal.returns
returns g c =
    let test : eqb (length c.loop-cursor.cursor.tokens.now) 0 ≡ true = first_of (cc, grind arith) in
    sym c.loop-cursor.invariant.same ∙ at-end (c.args.self.now.depth - 1) c.loop-cursor.script c.loop-cursor.cursor.tokens.now (eqb-true (length c.loop-cursor.cursor.tokens.now) 0 test)
