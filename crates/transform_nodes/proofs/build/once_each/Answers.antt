use Rattle.std.proofs.Common.{◌∙◌}
use Rattle.transform_nodes.proofs.BuildLemmas.{once_each-more}
use Rattle.transform_nodes.proofs.build.once_each.Goals as goal

pub loop-name-preserved : goal.loop-name-preserved
loop-name-preserved c = c.in_ok-add_once.ensures ∙ once_each-more c.args.names.now c.loop-name.name-index _ c.loop-name.sources.items c.loop-name-test.true c.loop-name.invariant
