use Rattle.std.proofs.Common.{◌++◌, ◌∙◌, ap}
use Rattle.vtl_values.specs.declared.kind.Role.TheVariants.{Viral}
use Rattle.clause_eval.specs.Roles.{numbers_with}
use Rattle.clause_eval.proofs.RoleLemmas.{with-of}
use Rattle.clause_eval.proofs.numbers.viral.Goals as goal

pub returns : goal.returns
returns c = c.in_ok-push_role.ensures ∙ (λ i. c.new-numbers.ensures i ++ numbers_with Viral 0 (c.as_slice.ensures i)) ∙ ap (numbers_with Viral 0) c.in_ok-roles.ensures ∙ with-of Viral c.args.components.now
