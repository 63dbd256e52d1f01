use Rattle.std.proofs.Common.{◌<◌, length, get_or, ap, ◌≡◌, ◌∙◌, arith, rules}
use Rattle.std.proofs.lemmas.List.{length-set, get_or-set_other}
use denote.Param.Weighed.{at_most}
use Rattle.transform_nodes.proofs.node.Child.TheLaws.{the_size}
use Rattle.transform_nodes.proofs.SettleLemmas.{can_settle_child, settled_more, settled_children}
use Rattle.transform_nodes.proofs.settle.+settle.Goals as goal

pub settle_children-settle_child-requires : goal.settle_children-settle_child-requires
settle_children-settle_child-requires t c =
    let within : c.loop-i.i < length c.args.children.now.items = omega arith in
    let same = c.loop-i.invariant.unvisited.1 c.loop-i.i c.index_mut.result.now (omega arith) in
    let here : c.index_mut.result.now ≡ get_or c.args.children.now.items c.loop-i.i c.index_mut.result.now = c.index_mut.ensures.value ∙ same in
    let small = at_most the_size c.args.children.now.items c.loop-i.i c.index_mut.result.now within in
    let size = ap the_size here in
    (search (rules, small, size), can_settle_child c.args.settle c.args.children.now.items c.loop-i.children.items c.loop-i.i c.index_mut.result.now c.index_mut.result.now within c.loop-i.invariant.unvisited.0 c.index_mut.ensures.value same c.requires)

pub settle_children-loop-i-preserved : goal.settle_children-loop-i-preserved
settle_children-loop-i-preserved t c =
    let within : c.loop-i.i < length c.args.children.now.items = omega arith in
    let ks = c.loop-i.children.items in
    let i = c.loop-i.i in
    let new = c.settle_child.new.child in
    record {
      unvisited = (length-set ks i new ∙ c.loop-i.invariant.unvisited.0, λ j d h. get_or-set_other ks i j new d (omega (arith, h)) ∙ c.loop-i.invariant.unvisited.1 j d (omega (arith, h)));
      done = settled_more c.args.settle c.args.children.now.items ks i c.index_mut.result.now new within c.loop-i.invariant.unvisited.0 c.index_mut.ensures.value (c.loop-i.invariant.unvisited.1 i c.index_mut.result.now (omega arith)) c.settle_child.ensures c.loop-i.invariant.done;
    }

pub settle_children-returns : goal.settle_children-returns
settle_children-returns t c = settled_children c.args.settle c.args.children.now.items c.loop-i.children.items c.loop-i.i c.loop-i.invariant.unvisited.0 (omega arith) c.loop-i.invariant.done
