use Rattle.std.proofs.Common.{sym, ap, ◌∙◌, map}
use Rattle.std.specs.Option.{is_some}
use Rattle.std.proofs.lemmas.List.Folds.{list_all-map}
use Rattle.vtl_syntax.specs.declared.words.JoinFunction.{JoinFunction}
use Rattle.operator_meaning.specs.joins.Joins.{stays}
use Rattle.operator_meaning.proofs.joins.Typed.{list_any-map}
use Rattle.join_eval.proofs.points.stays.Goals as goal

pub returns-in-Inner : goal.returns-in-Inner
returns-in-Inner c =
    let points = c.args.points.now in
    c.are_all_there.ensures ∙ sym (list_all-map (λ b. b) is_some points) ∙ sym (ap (λ (f : JoinFunction). stays f (map is_some points)) c.in-Inner.is)

pub returns-in-Full : goal.returns-in-Full
returns-in-Full c =
    let points = c.args.points.now in
    c.is_any_there.ensures ∙ sym (list_any-map (λ b. b) is_some points) ∙ sym (ap (λ (f : JoinFunction). stays f (map is_some points)) c.in-Full.is)

pub returns-in-Cross : goal.returns-in-Cross
returns-in-Cross c =
    let points = c.args.points.now in
    c.are_all_there-in-Cross.ensures ∙ sym (list_all-map (λ b. b) is_some points) ∙ sym (ap (λ (f : JoinFunction). stays f (map is_some points)) c.in-Cross.is)
