use Rattle.std.proofs.Common.{◌++◌, ◌∷◌, [], map, take, sym, ◌∙◌, ap, arith, List}
use Rattle.std.proofs.lemmas.List.{take_all}
use Rattle.std.specs.Arc.{arc_value}
use Rattle.held_index.specs.Holdings.{Holding}
use Rattle.transform_nodes.specs.Runs.{planned}
use Rattle.transform_nodes.proofs.WorkLemmas.{planned_more, planned_at, plannable_at, length-planned}
use Rattle.transform_nodes.proofs.operate.plan_all.Goals as goal

pub plan-requires : goal.plan-requires
plan-requires c =
    let p = plannable_at c.args.wants.now c.args.held.now c.args.news.now c.loop-i.i c.index-wants-i.result c.index-held-i.result c.index-news-want.result c.deref.result.now c.loop-i-test.true c.index-wants-i.is c.index-held-i.is c.index-news-want.is c.deref.ensures c.requires.below c.requires.can in
    record { begins = p.begins; few = p.few }

pub loop-i-preserved : goal.loop-i-preserved
loop-i-preserved c =
    let ws = c.args.wants.now in
    let hs = c.args.held.now in
    let ds = map arc_value c.args.news.now in
    let i = c.loop-i.i in
    c.in_ok-push.ensures.items
    ∙ ap (λ (t : List Holding). t ++ c.in_ok-patch.patch ∷ []) c.loop-i.invariant
    ∙ ap (λ (x : Holding). take i (planned ws hs ds) ++ x ∷ []) (c.in_ok-patch.ensures ∙ planned_at ws hs c.args.news.now i c.index-wants-i.result c.index-held-i.result c.index-news-want.result c.deref.result.now c.loop-i-test.true c.index-wants-i.is c.index-held-i.is c.index-news-want.is c.deref.ensures c.requires.below)
    ∙ sym (planned_more ws hs ds i c.index-wants-i.result c.index-held-i.result c.requires.held c.loop-i-test.true)

pub returns : goal.returns
returns c =
    let ws = c.args.wants.now in
    let ps = planned ws c.args.held.now (map arc_value c.args.news.now) in
    let e = length-planned ws c.args.held.now (map arc_value c.args.news.now) c.requires.held in
    c.loop-i.invariant ∙ take_all c.loop-i.i ps (omega (arith, e))
