use Rattle.std.proofs.Common.{◌≡◌, List, map, length, sym, ap, subst, ◌∙◌}
use Rattle.std.specs.Arc.{arc_value}
use Rattle.std.proofs.lemmas.List.{length-map}
use Rattle.vtl_values.specs.declared.structure.Component.{Component}
use Rattle.point_sets.specs.Changes.{Changes}
use Rattle.held_index.specs.Holdings.{AllPlain, Holding}
use Rattle.held_index.specs.Reach.{changes_in}
use Rattle.held_index.proofs.WantLemmas.{length-all_whole}
use Rattle.data_set_trees.specs.checked.Operators.{Operator}
use Rattle.set_ops.specs.Noted.{IsNoted, all_keys_read}
use Rattle.set_ops.specs.Readings.{reading_between, readings_of}
use Rattle.set_ops.specs.declared.reading.Reading.{Reading}
use Rattle.set_ops.proofs.Asked.{right-for-all, few-steps}
use Rattle.set_ops.proofs.rule.SetRuleDeltaRule.delta.Goals as goal

-- there are as many readings as operands
as-many : (rs : List Reading) (o : Operator) → rs ≡ readings_of o.operands o.structure → length rs ≡ length o.operands
as-many rs o are = ap (λ (qs : List Reading). length qs) are ∙ length-map o.operands (λ (from : List Component). reading_between from o.structure)

pub noted-requires-clause-held : goal.noted-requires-clause-held
noted-requires-clause-held g c = let o : Operator = c.args.self.now in sym (length-map c.args.held.now (λ h. h.want)) ∙ ap length c.requires.held ∙ length-all_whole (length o.operands) ∙ sym (as-many c.readings-readings.result.now o c.readings-readings.ensures)

pub noted-requires-clause-news : goal.noted-requires-clause-news
noted-requires-clause-news g c = let o : Operator = c.args.self.now in c.requires.news ∙ sym (as-many c.readings-readings.result.now o c.readings-readings.ensures)

pub returns-clause-answer : goal.returns-clause-answer
returns-clause-answer g c =
    let o : Operator = c.args.self.now in
    let held : List Holding = c.args.held.now in
    let news : List Changes = map arc_value c.args.news.now in
    let draft = c.in_ok-draft.draft in
    right-for-all o c.operation-operation.ensures.typed c.operation-operation.result c.operation-operation.ensures.operation held news c.args.before draft c.finish.result c.finish.ensures c.in_ok-draft.ensures.differs
    (λ (plain : AllPlain held). subst (λ (rs : List Reading). IsNoted c.operation-operation.result rs held news (all_keys_read rs news) draft) c.readings-readings.ensures (c.in_ok-draft.ensures.noted plain))

pub returns-clause-steps : goal.returns-clause-steps
returns-clause-steps g c =
    let o : Operator = c.args.self.now in
    few-steps (length c.readings-readings.result.now) (length o.operands) (changes_in (map arc_value c.args.news.now)) c.args.steps.now c.noted.new.steps (as-many c.readings-readings.result.now o c.readings-readings.ensures) c.in_ok-draft.ensures.steps

pub returns-in_err-draft-clause-steps : goal.returns-in_err-draft-clause-steps
returns-in_err-draft-clause-steps g c =
    let o : Operator = c.args.self.now in
    few-steps (length c.readings-readings.result.now) (length o.operands) (changes_in (map arc_value c.args.news.now)) c.args.steps.now c.noted.new.steps (as-many c.readings-readings.result.now o c.readings-readings.ensures) c.in_err-draft.ensures.steps
