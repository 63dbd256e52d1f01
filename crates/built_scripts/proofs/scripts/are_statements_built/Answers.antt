use Rattle.std.proofs.Common.{sym, refl}
use Rattle.built_scripts.specs.Built.{is_statement_built, IsStatementStructured}
use Rattle.built_scripts.proofs.Lists.{all-more, true-more}
use Rattle.built_scripts.proofs.scripts.are_statements_built.Goals as goal

pub loop-statement-preserved : goal.loop-statement-preserved
loop-statement-preserved c =
    let statements = c.args.statements.now in
    let i = c.loop-statement.statement-index in
    let statement = c.statement-item.result in
    record {
      built = true-more is_statement_built statements i statement c.loop-statement-test.true c.statement-item.is c.loop-statement.invariant.built (sym c.if-not-is_tree_built.ensures.built);
      structured = all-more IsStatementStructured statements i statement c.loop-statement-test.true c.statement-item.is c.loop-statement.invariant.structured (c.if-not-is_tree_built.ensures.structured refl);
    }
