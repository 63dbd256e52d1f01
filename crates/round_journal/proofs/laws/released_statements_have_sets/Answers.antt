use Rattle.std.proofs.Common.{◌∙◌, map}
use Rattle.std.proofs.lemmas.List.{length-map}
use Rattle.std.proofs.lemmas.Slice.Zip.{AllZip-long}
use Rattle.structured_sets.specs.Fitting.{IsBoundedSetOf}
use Rattle.round_journal.proofs.BoundLemmas.{HasSet-in_bounds, in_bounds-legal, old_in_bounds-legal}
use Rattle.round_journal.proofs.laws.released_statements_have_sets.Goals as goal

pub returns-clause-has : goal.returns-clause-has
returns-clause-has c = λ s xs i checked fit bounds l.
    let structures = map (λ named. named.1) s.inputs in
    HasSet-in_bounds s xs checked (AllZip-long IsBoundedSetOf structures xs fit ∙ length-map s.inputs (λ named. named.1)) bounds i l

pub returns-clause-in_bounds : goal.returns-clause-in_bounds
returns-clause-in_bounds c = in_bounds-legal

pub returns-clause-old_in_bounds : goal.returns-clause-old_in_bounds
returns-clause-old_in_bounds c = old_in_bounds-legal
