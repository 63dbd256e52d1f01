use Rattle.std.proofs.Common.{◌≡◌, [], ◌∷◌, Ok, IfOk, IfErr, sym, ap, subst, ◌∙◌}
use Rattle.scalar_trees.specs.typing.Steps.{Refuses}
use Rattle.scalar_trees.specs.typing.Scalars.{Meaning, meaning, operand_meaning, visited}
use Rattle.component_typing.proofs.Levels.{operand_means}
use Rattle.component_typing.proofs.checker.Checker.visit_operand.Goals as goal

pub returns : goal.returns
returns g c =
    let scope = c.args.self.now.scope.now in
    let basis = c.args.self.now.basis in
    let same : meaning c.get.result.now ≡ operand_meaning c.args.operand.now = ap meaning c.get.ensures ∙ sym (operand_means c.args.operand.now) in
    record {
      ok = subst (λ (m : Meaning). IfOk c.visit_one.result (λ met. visited (m ∷ []) scope basis ≡ Ok met)) same c.visit_one.ensures.ok;
      err = subst (λ (m : Meaning). IfErr c.visit_one.result (Refuses (visited (m ∷ []) scope basis))) same c.visit_one.ensures.err;
    }
