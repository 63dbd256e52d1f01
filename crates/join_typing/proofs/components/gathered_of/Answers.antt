use Rattle.std.proofs.Common.{◌≡◌, ◌+◌, List, ◌∷◌, ◌++◌, map, drop, ap, sym, subst, ◌∙◌}
use Rattle.std.specs.List.{All, filter}
use Rattle.std.proofs.lemmas.List.{drop_more}
use Rattle.std.proofs.lemmas.List.Elements.{All-append}
use Rattle.vtl_values.specs.declared.structure.Component.{Component}
use Rattle.data_set_trees.specs.clauses.Frames.{has_role}
use Rattle.data_set_trees.specs.Components.{further}
use Rattle.data_set_trees.specs.Joins.{gathered}
use Rattle.data_set_parts.specs.Joins.{IsOf}
use Rattle.join_typing.proofs.components.gathered_of.Goals as goal

pub loop-structure-preserved : goal.loop-structure-preserved
loop-structure-preserved c =
    let r = c.args.role in
    let of = filter (has_role r) in
    let ss = c.args.structures.now in
    let i = c.loop-structure.structure-index in
    let all = c.loop-structure.all in
    let s = c.structure-item.result in
    let rest = drop (i + 1) ss in
    let more = c.in_ok-more.more in
    let is : more ≡ further all (of s) = c.in_ok-more.ensures.value ∙ ap (λ (q : List Component). further q (of s)) c.as_slice.ensures in
    let new : c.append.new.self ≡ all ++ more = c.in_ok-append.ensures in
    let left : drop i ss ≡ s ∷ rest = drop_more ss i s c.loop-structure-test.true ∙ ap (λ (z : List Component). z ∷ rest) (sym c.structure-item.is) in
    record {
      value = c.loop-structure.invariant.value ∙ ap (λ zs. gathered all (map of zs)) left ∙ ap (λ (q : List Component). gathered q (map of rest)) (sym (new ∙ ap (λ (q : List Component). all ++ q) is));
      sound = subst (All (IsOf r)) (sym new) (All-append (IsOf r) all more c.loop-structure.invariant.sound c.in_ok-more.ensures.sound);
    }
