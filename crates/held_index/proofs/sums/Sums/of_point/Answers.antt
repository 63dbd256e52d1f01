use Rattle.std.proofs.Common.{ℕ, List, [], ◌∷◌, ◌++◌, drop, ap, sym, ◌∙◌, ◌+◌, append_assoc}
use Rattle.std.proofs.lemmas.List.{drop_more}
use Rattle.point_sets.proofs.Changes.{All-more}
use Rattle.held_index.specs.declared.want.SumOf.{SumOf}
use Rattle.held_index.specs.Walks.{point_values}
use Rattle.held_index.specs.Sums.{own_sums, FitsPoints}
use Rattle.held_index.proofs.sums.Sums.of_point.Goals as goal

pub loop-component-preserved : goal.loop-component-preserved
loop-component-preserved c =
    let cs = c.args.components.now in
    let i = c.loop-component.component-index in
    let p = point_values c.args.point.now in
    let all = c.loop-component.all.items in
    let sum = c.sum_of_component.result in
    rw c.in_ok-push.ensures.items (record {
      are =
          append_assoc all (sum ∷ []) (own_sums (drop (i + 1) cs) p)
          ∙ ap (λ (t : SumOf). all ++ t ∷ own_sums (drop (i + 1) cs) p) c.sum_of_component.ensures.is
          ∙ ap (λ (ds : List ℕ). all ++ own_sums ds p) (sym (drop_more cs i 0 c.loop-component-test.true))
          ∙ c.loop-component.invariant.are;
      fit = All-more (FitsPoints 1) all sum c.loop-component.invariant.fit c.sum_of_component.ensures.fits;
    })
