use Rattle.std.proofs.Common.{◌≡◌, ◌+◌, List, ◌∷◌, ◌++◌, drop, ap, sym, subst, ◌∙◌}
use Rattle.std.specs.List.{All}
use Rattle.std.proofs.lemmas.List.{drop_more}
use Rattle.std.proofs.lemmas.List.Elements.{All-append}
use Rattle.vtl_values.specs.declared.kind.Role.TheVariants.{Viral}
use Rattle.vtl_values.specs.declared.structure.Component.{Component}
use Rattle.data_set_trees.specs.Components.{virals, further}
use Rattle.data_set_parts.specs.Joins.{IsOf}
use Rattle.set_typing.specs.Conditionals.{all_virals}
use Rattle.set_typing.proofs.results.all_virals.Goals as goal

pub loop-structure-preserved : goal.loop-structure-preserved
loop-structure-preserved c =
    let ss = c.args.structures.now in
    let i = c.loop-structure.structure-index in
    let all = c.loop-structure.all in
    let s = c.structure-item.result in
    let rest = drop (i + 1) ss in
    let more = c.in_ok-more.more in
    let is : more ≡ further all (virals s) = c.in_ok-more.ensures.value ∙ ap (λ (q : List Component). further q (virals s)) c.as_slice.ensures in
    let new : c.append.new.self ≡ all ++ more = c.in_ok-append.ensures in
    let left : drop i ss ≡ s ∷ rest = drop_more ss i s c.loop-structure-test.true ∙ ap (λ (z : List Component). z ∷ rest) (sym c.structure-item.is) in
    record {
      value = c.loop-structure.invariant.value ∙ ap (all_virals all) left ∙ ap (λ (q : List Component). all_virals q rest) (sym (new ∙ ap (λ (q : List Component). all ++ q) is));
      sound = subst (All (IsOf Viral)) (sym new) (All-append (IsOf Viral) all more c.loop-structure.invariant.sound c.in_ok-more.ensures.sound);
    }
