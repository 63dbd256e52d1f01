use Rattle.std.proofs.Common.{◌++◌, ◌∷◌, [], List, map, sym, subst}
use Rattle.std.specs.Arc.{arc_value}
use Rattle.std.specs.declared.sync.Arc.{Arc}
use Rattle.std.specs.declared.alloc.Global.{Global}
use Rattle.point_sets.specs.Changes.{Changes}
use Rattle.round_core.specs.Inputs.{LeadAlike, changes_in}
use Rattle.round_core.proofs.RunLemmas.{and_run}
use Rattle.round_core.proofs.runs.Runs.and.Goals as goal

pub returns : goal.returns
returns c =
    let runs = c.args.self.now in
    subst (λ (rs : List (Arc Changes Global)). LeadAlike (changes_in runs ++ c.args.delta ∷ []) (map arc_value rs)) (sym c.in_ok-push.ensures.items)
    (and_run runs.runs.items c.in_ok-runs.runs.items c.in_ok-kept.kept c.args.delta c.in_ok-kept.last c.in_ok-new.field-0 c.in_ok-kept.ensures.alike c.in_ok-runs.ensures c.in_ok-new.ensures.ok)
