use Rattle.std.proofs.Common.{refl, ◌∙◌}
use Rattle.data_set_trees.specs.times.Times.{TIME_PERIOD}
use Rattle.time_typing.proofs.Words.{word_told}
use Rattle.time_typing.proofs.period.is_period_name.Goals as goal

pub returns : goal.returns
returns c = c.eq.ensures ∙ word_told c.as_str.result.now c.args.name.now TIME_PERIOD refl c.as_str.ensures.chars c.as_str.ensures.bytes
