use Rattle.std.proofs.Common.{◌-◌, sym, subst}
use Rattle.std.proofs.lemmas.Result.{err_from_is_err_and}
use Rattle.vtl_grammar.specs.Marks.{Tokens}
use Rattle.vtl_cursor.proofs.Shown.{fails-too}
use Rattle.vtl_parser.specs.Scripts.{Begins}
use Rattle.vtl_parser.specs.declared.script.PieceKind.TheVariants as kind
use Rattle.vtl_parser.proofs.Pieces.{no-piece}
use Rattle.vtl_parser.proofs.parser.Parser.piece.Goals as goal

pub returns-in_err-kind : goal.returns-in_err-kind
returns-in_err-kind g c =
    let p = err_from_is_err_and c.from_residual.result c.from_residual.ensures.1 in
    rw (p.1, p.2) (fails-too c.in_err-kind.field-0.0 c.kind.new.cursor.tokens.now _ _
    (λ k is. no-piece (c.args.self.now.depth - 1) c.args.script.now c.args.cursor.now.tokens.now c.kind.new.cursor.tokens.now k c.requires.more is)
    c.in_err-kind.ensures)

pub push_statement-requires : goal.push_statement-requires
push_statement-requires g c = record {
  reads = c.requires.reads;
  some = c.requires.some;
  few = c.requires.few;
  begins = subst (λ (us : Tokens). Begins kind.Statement c.args.script.now us) (sym c.in_ok-kind.ensures.0) (rw c.in-Statement.is at c.in_ok-kind.ensures.1);
}

pub returns-in-Statement : goal.returns-in-Statement
returns-in-Statement g c = rw c.in_ok-kind.ensures.0 at c.push_statement.ensures

pub push_ruleset-requires : goal.push_ruleset-requires
push_ruleset-requires g c = record {
  reads = c.requires.reads;
  some = c.requires.some;
  few = c.requires.few;
  begins = subst (λ (us : Tokens). Begins kind.Ruleset c.args.script.now us) (sym c.in_ok-kind.ensures.0) (rw c.in-Ruleset.is at c.in_ok-kind.ensures.1);
}

pub returns-in-Ruleset : goal.returns-in-Ruleset
returns-in-Ruleset g c = rw c.in_ok-kind.ensures.0 at c.push_ruleset.ensures

pub push_operator-requires : goal.push_operator-requires
push_operator-requires g c = record {
  reads = c.requires.reads;
  some = c.requires.some;
  few = c.requires.few;
  begins = subst (λ (us : Tokens). Begins kind.Operator c.args.script.now us) (sym c.in_ok-kind.ensures.0) (rw c.in-Operator.is at c.in_ok-kind.ensures.1);
}

pub returns-in-Operator : goal.returns-in-Operator
returns-in-Operator g c = rw c.in_ok-kind.ensures.0 at c.push_operator.ensures
