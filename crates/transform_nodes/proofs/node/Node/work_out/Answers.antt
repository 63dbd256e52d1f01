use Rattle.std.proofs.Common.{◌∙◌, ap, sym, subst}
use Rattle.std.specs.Arc.{arc_value}
use Rattle.std.proofs.lemmas.List.{length-map}
use Rattle.std.proofs.lemmas.Result.{err_from_is_err_and}
use Rattle.point_sets.specs.Changes.{Changes}
use Rattle.transform_nodes.specs.Carrying.{page_after, PageBegins}
use Rattle.transform_nodes.proofs.FinishLemmas.{page-begins}
use Rattle.transform_nodes.proofs.node.Node.work_out.Goals as goal

pub returns-in_err-ran-clause-right : goal.returns-in_err-ran-clause-right
returns-in_err-ran-clause-right g c = λ m can shows.
    let p = err_from_is_err_and c.from_residual.result c.from_residual.ensures.1 in
    rw (p.1, p.2) (c.in_err-ran.ensures.right m can)

pub pages_after-requires : goal.pages_after-requires
pages_after-requires g c =
    let can = c.requires.can in
    let one = c.in_ok-ran.ensures.right can.0 can.1.0 in
    subst (λ (d : Changes). PageBegins d c.args.self.now.pages) (sym c.deref.ensures) (page-begins c.args.self.now.pages (arc_value c.in_ok-ran.ran.delta) one.before one.was can.1.1 one.leads.begins)

pub returns-clause-right : goal.returns-clause-right
returns-clause-right g c = λ m can shows. record {
  delta = arc_value c.in_ok-ran.ran.delta;
  ran = c.in_ok-ran.ensures.right m can;
  count = length-map c.in_ok-deltas.deltas.items arc_value ∙ c.in_ok-deltas.ensures.count;
  each = c.in_ok-deltas.ensures.each;
  pages_are = c.in_ok-pages.ensures ∙ ap (λ (d : Changes). page_after d c.args.self.now.pages) c.deref.ensures;
  pending = c.in_ok-pending.ensures;
}
