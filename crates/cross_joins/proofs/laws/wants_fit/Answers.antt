use Rattle.std.proofs.Common.{◌<◌, arith}
use Rattle.std.specs.List.{range_with_len}
use Rattle.std.proofs.lemmas.List.Elements.{All-map}
use Rattle.std.proofs.lemmas.List.FromFn.{length-range_with_len, get_or-range_with_len}
use Rattle.held_index.specs.Holdings.{FitsStructure}
use Rattle.held_index.specs.Wants.{whole}
use Rattle.held_index.proofs.WantLemmas.{whole-fits}
use Rattle.cross_joins.proofs.laws.wants_fit.Goals as goal

pub returns-clause-operand : goal.returns-clause-operand
returns-clause-operand c = λ count.
    All-map (λ w. w.operand < count) whole (range_with_len 0 count)
    (λ k d within. let long = length-range_with_len 0 count in let below : k < count = omega (arith, within, long) in let own = get_or-range_with_len 0 count k d below in omega (arith, own, below))

pub returns-clause-fit : goal.returns-clause-fit
returns-clause-fit c = λ count structure. All-map (λ w. FitsStructure w structure) whole (range_with_len 0 count) (λ k d within. whole-fits _ structure)
