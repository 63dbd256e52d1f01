use Rattle.std.proofs.Common.{◌≡◌, List, Option, sym, ap, ◌∙◌}
use Rattle.std.specs.FinMap.{get}
use Rattle.std.specs.Option.{option_copied}
use Rattle.std.proofs.lemmas.Result.{IfOk-weaker}
use Rattle.vtl_values.specs.declared.value.Value.{Value}
use Rattle.vtl_values.proofs.Values.{key_cmp-IsTotalOrder, key_cmp-IsAntisymmetric}
use Rattle.data_model.specs.Deltas.{apply, after}
use Rattle.data_model.proofs.DeltaLemmas.{get-apply}
use Rattle.point_sets.specs.Changes.{values_of}
use Rattle.point_sets.specs.declared.point.Point.{Point}
use Rattle.held_index.specs.Walks.{point_values}
use Rattle.held_index.proofs.Plain.{found_at-plain}
use Rattle.inner_joins.proofs.notes.look.Goals as goal

pub returns-clause-before : goal.returns-clause-before
returns-clause-before g c =
    let content = c.args.held.now.content in
    let at : Point = record { key = c.in_ok-own.own; rest = c.new.result } in
    IfOk-weaker c.shared_both.result _ _
    (λ seen is plain. is ∙ c.get-was.ensures.value ∙ found_at-plain c.args.held.now.want (point_values at) content plain ∙ ap (get content) c.in_ok-own.ensures)
    c.shared_both.ensures.before

pub returns-clause-after : goal.returns-clause-after
returns-clause-after g c =
    let content = c.args.held.now.content in
    let news = c.args.news.now in
    let own = c.in_ok-own.own in
    let at : Point = record { key = own; rest = c.new.result } in
    IfOk-weaker c.shared_both.result _ _
    (λ seen is plain.
    let was : values_of (option_copied c.get-was.result) ≡ get content own = c.get-was.ensures.value ∙ found_at-plain c.args.held.now.want (point_values at) content plain in
    is ∙ c.point_after-comes.ensures.value ∙ ap (λ (o : Option (List Value)). after (get news own) o) was
    ∙ sym (get-apply key_cmp-IsTotalOrder key_cmp-IsAntisymmetric news content own) ∙ ap (get (apply news content)) c.in_ok-own.ensures)
    c.shared_both.ensures.after
