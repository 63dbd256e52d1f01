use Rattle.std.proofs.Common.{◌≡◌, ◌<◌, length, map, ◌∙◌, ap, subst, sym, arith, List}
use Rattle.std.specs.List.{All}
use Rattle.std.proofs.lemmas.List.{length-map}
use Rattle.std.specs.Arc.{arc_value}
use Rattle.held_index.specs.declared.want.Want.{Want}
use Rattle.held_index.specs.Holdings.{Holding}
use Rattle.operator_rules.specs.Rules.{wanted_of}
use Rattle.transform_nodes.specs.Runs.{planned, CanPlan}
use Rattle.operator_rules.proofs.WantLemmas.{wanted_below}
use Rattle.transform_nodes.proofs.WorkLemmas.{wants-held, asked, can_plan, work_right, work_stop}
use Rattle.transform_nodes.proofs.operate.work.Goals as goal

-- what is held is what the rule wants of the operands that the work stands for
pub delta-requires-clause-held : goal.delta-requires-clause-held
delta-requires-clause-held g c =
    let can = c.requires.can in
    subst (λ (hs : List Holding). map (λ h. h.want) hs ≡ wanted_of c.args.rule.now) can.2.holds.sets (wants-held can.0 (wanted_of c.args.rule.now))

pub plan_all-requires-clause-below : goal.plan_all-requires-clause-below
plan_all-requires-clause-below g c =
    let long = c.requires.news in
    subst (λ (ws : List Want). All (λ w. w.operand < length c.args.news.now) ws) (sym c.wants.ensures) (λ k d l. let below = wanted_below c.args.rule.now c.requires.can.2.typed k d l in omega (arith, below, long))

pub plan_all-requires-clause-can : goal.plan_all-requires-clause-can
plan_all-requires-clause-can g c =
    let news = map arc_value c.args.news.now in
    let can = c.requires.can in
    subst (λ (ws : List Want). CanPlan ws c.args.held.now news) (sym c.wants.ensures)
    (can_plan c.args.rule.now c.args.held.now news c.args.before can.0 can.1 can.2 (length-map c.args.news.now arc_value ∙ c.requires.news))

pub returns-in-Ok-new-clause-right : goal.returns-in-Ok-new-clause-right
returns-in-Ok-new-clause-right g c = λ zs ys work.
    let rule = c.args.rule.now in
    let held = c.args.held.now in
    let news = map arc_value c.args.news.now in
    let before = c.args.before in
    work_right rule held news before zs ys work (record { delta = c.in-Ok-new.delta; patches = c.in_ok-patches-in-Ok.patches; points = c.count_after-points.result }) c.in-Ok.delta
    (length-map c.args.news.now arc_value ∙ c.requires.news) (c.in-Ok.ensures.answer zs work.holds.made (asked rule held news before zs ys work)) c.in-Ok-new.ensures.ok
    (c.in_ok-patches-in-Ok.ensures ∙ ap (λ (ws : List Want). planned ws held news) c.wants.ensures)
    c.count_after-points.ensures

pub returns-in-Err-clause-right : goal.returns-in-Err-clause-right
returns-in-Err-clause-right g c = λ zs ys work.
    let rule = c.args.rule.now in
    let held = c.args.held.now in
    let news = map arc_value c.args.news.now in
    let before = c.args.before in
    rw c.at.ensures (work_stop rule held news before zs ys work c.args.place c.in-Err.stop (c.in-Err.ensures.answer zs work.holds.made (asked rule held news before zs ys work)))
