use Rattle.std.proofs.Common.{◌≡◌, suc, ◌+◌, ◌-◌, ◌≤◌, arith, true}
use Rattle.std.proofs.lemmas.Result.{err_from_is_err_and}
use Rattle.vtl_grammar.specs.Reading.{starts, join_part_firsts}
use Rattle.vtl_cursor.proofs.Shown.{fails-too}
use Rattle.vtl_parser.specs.Joins.{join_part_of}
use Rattle.vtl_parser.proofs.Ends.{join_part-full, join_part-halts, join_part-goes, join_part-low}
use Rattle.vtl_parser.proofs.parser.Parser.maybe_clause.Goals as goal

pub returns-in_err-clause : goal.returns-in_err-clause
returns-in_err-clause g c =
    let begins : starts (join_part_firsts (join_part_of c.args.join_part)) c.args.cursor.now.tokens.now ≡ true = cc in
    let p = err_from_is_err_and c.from_residual.result c.from_residual.ensures.1 in
    rw (p.1, p.2) (fails-too c.in_err-clause.field-0.0 c.join_part_clause.new.cursor.tokens.now _ _
    (λ k is. join_part-halts (join_part_of c.args.join_part) c.args.self.now.depth c.args.cursor.now.tokens.now c.join_part_clause.new.cursor.tokens.now begins (omega arith) k is)
    c.in_err-clause.ensures)

pub returns-then-self-lt2 : goal.returns-then-self-lt2
returns-then-self-lt2 g c =
    let begins : starts (join_part_firsts (join_part_of c.args.join_part)) c.args.cursor.now.tokens.now ≡ true = cc in
    join_part-full (join_part_of c.args.join_part) c.args.self.now.depth c.args.cursor.now.tokens.now c.args.cursor.now.tokens.now begins (omega arith)

pub overflow_add-result : goal.overflow_add-result
overflow_add-result g c =
    let low = join_part-low (join_part_of c.args.join_part) (c.args.self.now.depth - 1) c.in_ok-clause.clause c.in_ok-clause.levels c.args.cursor.now.tokens.now c.join_part_clause.new.cursor.tokens.now (omega arith) c.in_ok-clause.ensures in
    omega arith

pub returns : goal.returns
returns g c =
    let begins : starts (join_part_firsts (join_part_of c.args.join_part)) c.args.cursor.now.tokens.now ≡ true = cc in
    let more : suc c.in_ok-clause.levels ≡ c.in_ok-clause.levels + 1 = omega arith in
    rw more at (join_part-goes (join_part_of c.args.join_part) c.args.self.now.depth c.args.cursor.now.tokens.now c.join_part_clause.new.cursor.tokens.now begins (omega arith) c.in_ok-clause.clause c.in_ok-clause.levels c.in_ok-clause.ensures)

pub join_part_clause-requires : goal.join_part_clause-requires
join_part_clause-requires g c = record {
  callable = λ alloc cursor precedence inner lt. c.requires.callable alloc cursor precedence inner (omega arith);
  reads = λ alloc old new precedence inner result lt is. c.requires.reads alloc old new precedence inner result (omega arith) is;
}
