use Rattle.std.proofs.Common.{[], ◌∷◌, ◌++◌, ap, ◌∙◌}
use Rattle.std.specs.Prelude.{codes}
use Rattle.std.proofs.lemmas.List.{append_assoc}
use Rattle.vtl_values.specs.declared.kind.Kind.TheVariants.{Integer}
use Rattle.vtl_values.specs.declared.kind.Role.TheVariants.{Measure}
use Rattle.vtl_values.specs.declared.structure.Component.{Component}
use Rattle.data_set_trees.specs.clauses.After.{made}
use Rattle.rule_typing.proofs.rows.push_error.Goals as goal

pub returns : goal.returns
returns c =
    let rows = c.args.rows.now in
    let level = made Measure Integer (codes "errorlevel") in
    c.in_ok-push-2.ensures.ok
    ∙ (λ i. c.in_ok-push.ensures.ok i ++ c.in_ok-level.ensures i ∷ [])
    ∙ append_assoc rows (c.in_ok-code.code ∷ []) (level ∷ [])
    ∙ ap (λ (code : Component). rows ++ code ∷ level ∷ []) c.in_ok-code.ensures
