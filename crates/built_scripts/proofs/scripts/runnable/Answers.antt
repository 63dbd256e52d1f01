use Rattle.std.proofs.Common.{List, sym, ◌∙◌, ap, subst, refl}
use Rattle.std.specs.List.{All, list_all}
use Rattle.data_set_trees.specs.declared.checked.script.CheckedStatement.{CheckedStatement}
use Rattle.built_scripts.specs.Built.{is_statement_built, IsStatementStructured}
use Rattle.built_scripts.proofs.Built.{checked}
use Rattle.built_scripts.proofs.scripts.runnable.Goals as goal

pub of-requires : goal.of-requires
of-requires c =
    let value = c.statements.ensures.value in
    record {
      checked = checked c.args.script c.statements.ensures.typed (subst (λ (sts : List CheckedStatement). All IsStatementStructured sts) value (c.if-are_statements_built.ensures.structured refl));
      built = ap (λ (sts : List CheckedStatement). list_all is_statement_built sts) (sym value) ∙ sym c.if-are_statements_built.ensures.built;
    }
