use Rattle.std.proofs.Common.{subst, sym, Option}
use Rattle.std.specs.declared.sync.Arc.{Arc}
use Rattle.std.specs.declared.alloc.Global.{Global}
use Rattle.point_sets.specs.Changes.{Changes}
use Rattle.point_sets.specs.DataSets.{DataSet}
use Rattle.data_model.specs.Deltas.{Leads}
use Rattle.round_core.specs.Inputs.{Starts, Carries, LeadsOrStays}
use Rattle.round_core.proofs.StepLemmas.{if_ok_weaker, carries_by}
use Rattle.round_core.proofs.inputs.carried.Goals as goal

pub returns-in_ok-compose-in-Some : goal.returns-in_ok-compose-in-Some
returns-in_ok-compose-in-Some c =
    let d = c.in_ok-compose-in-Some.field-0 in
    let change = c.args.change.now in
    if_ok_weaker (Starts d) (Carries change) c.started.result c.started.ensures (λ next s. carries_by change next d s (λ x y z k. c.in_ok-compose-in-Some.ensures.leads x y z (subst (λ (q : Changes). Leads q x y) (sym c.deref.ensures) (subst (λ (o : Option (Arc Changes Global)). LeadsOrStays x y o) c.in-Some.is k.older)) (c.in_ok-newer.ensures y z k.newer)))

pub returns-in-None : goal.returns-in-None
returns-in-None c =
    let d = c.in_ok-newer.newer in
    let change = c.args.change.now in
    if_ok_weaker (Starts d) (Carries change) c.started-in-None.result c.started-in-None.ensures (λ next s. carries_by change next d s (λ x y z k.
    subst (λ (w : DataSet). Leads d w z) (sym (subst (λ (o : Option (Arc Changes Global)). LeadsOrStays x y o) c.in-None.is k.older)) (c.in_ok-newer.ensures y z k.newer)))
