use Rattle.std.proofs.Common.{ℕ, nat_eq, ap, sym, ◌∙◌}
use Rattle.std.proofs.lemmas.List.Sums.{length-filter}
use Rattle.vtl_values.specs.declared.kind.Role.TheVariants.{Measure}
use Rattle.data_set_trees.specs.clauses.Frames.{has_role}
use Rattle.rule_typing.proofs.content.has_one_measure.Goals as goal

pub returns : goal.returns
returns c = ap (λ (n : ℕ). nat_eq n 1) (c.measure_count.ensures ∙ sym (length-filter (has_role Measure) c.args.components.now))
