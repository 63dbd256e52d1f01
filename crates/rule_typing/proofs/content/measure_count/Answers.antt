use Rattle.std.proofs.Common.{rules, ◌∙◌}
use Rattle.std.specs.Prelude.{filter}
use Rattle.std.proofs.lemmas.Iterator.{YieldsList-from_slice}
use Rattle.std.proofs.lemmas.Iterator.Consumers.{count_from_yields_List, YieldsList-from_filter}
use Rattle.std.proofs.lemmas.List.Sums.{length-filter}
use Rattle.vtl_values.specs.declared.kind.Role.TheVariants.{Measure}
use Rattle.data_set_trees.specs.clauses.Frames.{has_role}
use Rattle.rule_typing.proofs.content.measure_count.Goals as goal

pub returns : goal.returns
returns c =
    count_from_yields_List {v = λ r. r.now} {all = filter (has_role Measure) c.args.components.now} c.filter.result c.count.result c.count.ensures.ran
    (YieldsList-from_filter _ (has_role Measure) (YieldsList-from_slice c.args.components.now (search rules)) c.filter.ensures.closure (λ x b q k. search rules))
    ∙ length-filter (has_role Measure) c.args.components.now
