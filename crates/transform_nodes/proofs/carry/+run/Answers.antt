use Rattle.std.proofs.Common.{length-append, ◌+◌, ◌≡◌, ◌++◌, ◌∷◌, [], ◌<◌, ◌≤◌, map, take, set, length, refl, sym, ◌∙◌, ap, arith, subst, List}
use Rattle.std.specs.Prelude.{Ok, Err}
use Rattle.std.specs.Arc.{arc_value}
use Rattle.std.proofs.lemmas.List.{length-map, map-append, length-set, get_or-set_other, take_all}
use Rattle.std.proofs.lemmas.Result.{err_from_is_err_and}
use Rattle.std.specs.declared.alloc.Global.{Global}
use Rattle.std.specs.declared.sync.Arc.{Arc}
use Rattle.point_sets.specs.Changes.{Changes}
use Rattle.point_sets.specs.declared.delta.Delta.{Delta}
use Rattle.operator_meaning.specs.Results.{sets_of}
use Rattle.transform_nodes.specs.Trees.{Plain, Source, Operates, plains_of, plain, plain_tree, IsFit}
use Rattle.transform_nodes.specs.Reach.{StaysWithin}
use Rattle.transform_nodes.specs.Runs.{CanRunTree, RanOne, RanAll, RunsRight}
use Rattle.transform_nodes.specs.declared.carry.Ran.{Ran}
use Rattle.transform_nodes.specs.declared.node.Child.TheVariants.{Name, Tree}
use Rattle.transform_nodes.specs.declared.node.OpTree.{OpTree}
use Rattle.transform_nodes.proofs.PlainLemmas.{plain-Name, plain-Tree}
use Rattle.transform_nodes.proofs.WorkLemmas.{news_at}
use Rattle.transform_nodes.proofs.TreeLemmas.{ran_none, name_right, operands_runnable, operands_wrong, tree_work, tree_wrong, tree_right, work_along, works_along}
use Rattle.transform_nodes.proofs.ReachLemmas.{some_reach, steps_asked, steps_below, steps_more}
use Rattle.transform_nodes.proofs.ChildLemmas.{count_children, fits_child, kept_child, runnable_child, wrong_child, more_children}
use Rattle.transform_nodes.proofs.carry.+run.Goals as goal

pub run_child-run_tree-result-requires-clause-can : goal.run_child-run_tree-result-requires-clause-can
run_child-run_tree-result-requires-clause-can g t c κs within =
    subst (λ (p : Plain). CanRunTree (map arc_value c.args.sources.now) p) (ap plain (sym c.replace.ensures.value) ∙ ap plain c.in-Tree.is ∙ plain-Tree c.in-Tree.tree) c.requires.can

pub run_child-returns-in_ok-delta-in-Name-clause-right : goal.run_child-returns-in_ok-delta-in-Name-clause-right
run_child-returns-in_ok-delta-in-Name-clause-right g t c =
    let news = c.args.sources.now in
    let ds = map arc_value news in
    let n = c.in-Name.number in
    let ran : Ran = record { delta = c.in_ok-delta-in-Name.delta; points = 0 } in
    let e : plain c.args.child.now ≡ Source n = ap plain (sym c.replace.ensures.value) ∙ ap plain c.in-Name.is ∙ plain-Name n in
    let fit : n < length news = subst (λ (p : Plain). IsFit (length news) p) e c.requires.fit in
    let l = length-map news arc_value in
    let below : n < length ds = omega (arith, l, fit) in
    subst (λ (p : Plain). RunsRight ds p (plain (Name n)) (Ok ran)) (sym e) (subst (λ (q : Plain). RunsRight ds (Source n) q (Ok ran)) (sym (plain-Name n))
    (name_right ds n ran below (c.in_ok-delta-in-Name.ensures.cases ∙ ap arc_value c.index-sources-number.is ∙ news_at news n c.index-sources-number.result fit) refl))

pub run_child-returns-in-Tree-clause-right : goal.run_child-returns-in-Tree-clause-right
run_child-returns-in-Tree-clause-right g t c =
    let ds = map arc_value c.args.sources.now in
    let r = c.run_tree-result.result in
    let e : plain c.args.child.now ≡ plain_tree c.in-Tree.tree = ap plain (sym c.replace.ensures.value) ∙ ap plain c.in-Tree.is ∙ plain-Tree c.in-Tree.tree in
    subst (λ (p : Plain). RunsRight ds p (plain (Tree c.run_tree-result.new.tree)) r) (sym e) (subst (λ (q : Plain). RunsRight ds (plain_tree c.in-Tree.tree) q r) (sym (plain-Tree c.run_tree-result.new.tree)) c.run_tree-result.ensures.right)

pub run_children-loop-i-init : goal.run_children-loop-i-init
run_children-loop-i-init g t c =
    let ds = map arc_value c.args.sources.now in
    let items = c.new.ensures.items in
    record {
      unvisited = (refl, λ j d h. refl);
      kept = refl;
      count = ap length items;
      ran = λ m can. subst (λ (ts : List (Arc Delta Global)). RanAll ds m [] [] (map arc_value ts) 0) (sym items) (ran_none ds m);
      steps = λ m can. omega arith;
    }

pub run_children-run_child-requires-clause-fit : goal.run_children-run_child-requires-clause-fit
run_children-run_child-requires-clause-fit g t c κs outlives =
    let within : c.loop-i.i < length c.args.children.now.items = omega arith in
    let k = c.index_mut.result.now in
    fits_child c.args.children.now.items c.loop-i.children.items c.loop-i.i k k within c.loop-i.invariant.unvisited.0 c.index_mut.ensures.value (c.loop-i.invariant.unvisited.1 c.loop-i.i k (omega arith)) (length c.args.sources.now) c.requires.fit

pub run_children-run_child-requires-clause-can : goal.run_children-run_child-requires-clause-can
run_children-run_child-requires-clause-can g t c κs outlives =
    let within : c.loop-i.i < length c.args.children.now.items = omega arith in
    let k = c.index_mut.result.now in
    let can = c.requires.can in
    (can.0, runnable_child c.args.children.now.items c.loop-i.children.items c.loop-i.i k k within c.loop-i.invariant.unvisited.0 c.index_mut.ensures.value (c.loop-i.invariant.unvisited.1 c.loop-i.i k (omega arith)) (map arc_value c.args.sources.now) can.0 can.1)

pub run_children-returns-in_err-ran-clause-kept : goal.run_children-returns-in_err-ran-clause-kept
run_children-returns-in_err-ran-clause-kept g t c =
    let within : c.loop-i.i < length c.args.children.now.items = omega arith in
    kept_child c.args.children.now.items c.loop-i.children.items c.loop-i.i c.index_mut.result.now c.run_child.new.child within c.loop-i.invariant.unvisited.0 c.index_mut.ensures.value (c.loop-i.invariant.unvisited.1 c.loop-i.i c.index_mut.result.now (omega arith)) c.loop-i.invariant.kept c.run_child.ensures.kept

pub run_children-returns-in_err-ran-clause-right : goal.run_children-returns-in_err-ran-clause-right
run_children-returns-in_err-ran-clause-right g t c = λ m can.
    let within : c.loop-i.i < length c.args.children.now.items = omega arith in
    let p = err_from_is_err_and c.from_residual.result c.from_residual.ensures.1 in
    let h = wrong_child c.args.children.now.items c.loop-i.children.items c.loop-i.i c.index_mut.result.now c.run_child.new.child within c.loop-i.invariant.unvisited.0 c.index_mut.ensures.value (c.loop-i.invariant.unvisited.1 c.loop-i.i c.index_mut.result.now (omega arith)) (map arc_value c.args.sources.now) m can (map arc_value c.loop-i.all.news.items) c.loop-i.all.points (c.loop-i.invariant.ran m can) c.in_err-ran.field-0.0 c.in_err-ran.ensures.right in
    rw (p.1, p.2) h

pub run_children-returns-in_err-push-clause-kept : goal.run_children-returns-in_err-push-clause-kept
run_children-returns-in_err-push-clause-kept g t c =
    let within : c.loop-i.i < length c.args.children.now.items = omega arith in
    kept_child c.args.children.now.items c.loop-i.children.items c.loop-i.i c.index_mut.result.now c.run_child.new.child within c.loop-i.invariant.unvisited.0 c.index_mut.ensures.value (c.loop-i.invariant.unvisited.1 c.loop-i.i c.index_mut.result.now (omega arith)) c.loop-i.invariant.kept c.run_child.ensures.kept

pub run_children-loop-i-preserved : goal.run_children-loop-i-preserved
run_children-loop-i-preserved g t c =
    let within : c.loop-i.i < length c.args.children.now.items = omega arith in
    let news = map arc_value c.args.sources.now in
    let ks0 = c.args.children.now.items in
    let ks = c.loop-i.children.items in
    let i = c.loop-i.i in
    let k = c.index_mut.result.now in
    let new = c.run_child.new.child in
    let long = c.loop-i.invariant.unvisited.0 in
    let same = c.loop-i.invariant.unvisited.1 i k (omega arith) in
    let e = length-set ks i new in
    let ran = c.in_ok-ran.ran in
    let total = c.push.new.self.points in
    let items : c.push.new.self.news.items ≡ c.loop-i.all.news.items ++ ran.delta ∷ [] = c.in_ok-push.ensures.news in
    let more = ap length items ∙ length-append c.loop-i.all.news.items (ran.delta ∷ []) in
    let count = c.loop-i.invariant.count in
    record {
      unvisited = (e ∙ long, λ j d h. get_or-set_other ks i j new d (omega (arith, h)) ∙ c.loop-i.invariant.unvisited.1 j d (omega (arith, h)));
      kept = kept_child ks0 ks i k new within long c.index_mut.ensures.value same c.loop-i.invariant.kept c.run_child.ensures.kept;
      count = omega (arith, more, count);
      ran = λ m can. subst (λ (ds : List Changes). RanAll news m (take (i + 1) (map plain ks0)) (take (i + 1) (map plain (set ks i new))) ds total)
          (sym (ap (map arc_value) items ∙ map-append arc_value c.loop-i.all.news.items (ran.delta ∷ [])))
          (more_children ks0 ks i k new within long c.index_mut.ensures.value same news m can (map arc_value c.loop-i.all.news.items) c.loop-i.all.points (c.loop-i.invariant.ran m can) ran total c.in_ok-ran.ensures.right c.in_ok-push.ensures.points);
      steps = λ m can. steps_more m.old m.new ks0 i k c.args.steps.now c.loop-i.steps c.run_child.new.steps within (c.index_mut.ensures.value ∙ same) (c.loop-i.invariant.steps m can) (c.in_ok-ran.ensures.steps m (runnable_child ks0 ks i k new within long c.index_mut.ensures.value same news m can));
    }

pub run_children-returns-clause-right : goal.run_children-returns-clause-right
run_children-returns-clause-right g t c = λ m can.
    let news = map arc_value c.args.sources.now in
    let P = map plain c.args.children.now.items in
    let Q = map plain c.loop-i.children.items in
    let i = c.loop-i.i in
    let ds = map arc_value c.loop-i.all.news.items in
    let n = c.loop-i.all.points in
    let long = c.loop-i.invariant.unvisited.0 in
    let a = length-map c.args.children.now.items plain in
    let b = length-map c.loop-i.children.items plain in
    let all : length c.args.children.now.items ≤ i = omega arith in
    subst (λ (ps : List Plain). RanAll news m ps Q ds n) (take_all i P (omega (arith, a, all))) (subst (λ (qs : List Plain). RanAll news m (take i P) qs ds n) (take_all i Q (omega (arith, b, long, all))) (c.loop-i.invariant.ran m can))

pub run_tree-run_children-requires-clause-can : goal.run_tree-run_children-requires-clause-can
run_tree-run_children-requires-clause-can g t c κs outlives =
    let tree = c.args.tree.now in
    let ps = map plain tree.children.items in
    let can = c.requires.can in
    (can.0, operands_runnable tree.rule tree.place ps ps tree.held.items tree.points tree.pending.items tree.pending_points (map arc_value c.args.sources.now) can.0 can.1)

pub run_tree-returns-in_err-all-clause-right : goal.run_tree-returns-in_err-all-clause-right
run_tree-returns-in_err-all-clause-right g t c = λ m can.
    let p = err_from_is_err_and c.from_residual.result c.from_residual.ensures.1 in
    let tree = c.args.tree.now in
    let ps = map plain tree.children.items in
    let news = map arc_value c.args.sources.now in
    let halt = c.in_err-all.field-0.0 in
    rw (p.1, p.2) (operands_wrong tree.rule tree.place ps ps tree.held.items tree.points tree.pending.items tree.pending_points m.new halt
    (c.in_err-all.ensures.right m (operands_runnable tree.rule tree.place ps ps tree.held.items tree.points tree.pending.items tree.pending_points news m can)))

pub run_tree-work-requires-clause-news : goal.run_tree-work-requires-clause-news
run_tree-work-requires-clause-news g t c κs outlives =
    ap length c.as_slice-2.ensures.value ∙ c.in_ok-all.ensures.count ∙ sym (count_children c.args.tree.now.children.items) ∙ c.requires.fit.1

pub run_tree-work-requires-clause-can : goal.run_tree-work-requires-clause-can
run_tree-work-requires-clause-can g t c κs outlives =
    let tree = c.args.tree.now in
    let ps = map plain tree.children.items in
    let qs = map plain c.run_children.new.children.items in
    let news = map arc_value c.args.sources.now in
    let ds = map arc_value c.in_ok-all.all.news.items in
    let can = c.requires.can in
    let ran = c.in_ok-all.ensures.right can.0 (operands_runnable tree.rule tree.place ps qs tree.held.items tree.points tree.pending.items tree.pending_points news can.0 can.1) in
    let work = tree_work tree.rule tree.place ps qs tree.held.items tree.points tree.pending.items tree.pending_points news can.0 can.1 ds c.in_ok-all.all.points ran in
    (sets_of ran.before, sets_of ran.after, work_along tree.rule tree.held.items c.as_slice.result.now ds (map arc_value c.as_slice-2.result.now) tree.points (sets_of ran.before) (sets_of ran.after) c.as_slice.ensures.value (ap (map arc_value) c.as_slice-2.ensures.value) work)

pub run_tree-returns-in_err-worked-clause-right : goal.run_tree-returns-in_err-worked-clause-right
run_tree-returns-in_err-worked-clause-right g t c = λ m can.
    let p = err_from_is_err_and c.from_residual-in_err-worked.result c.from_residual-in_err-worked.ensures.1 in
    let tree = c.args.tree.now in
    let ps = map plain tree.children.items in
    let qs = map plain c.run_children.new.children.items in
    let news = map arc_value c.args.sources.now in
    let ds = map arc_value c.in_ok-all.all.news.items in
    let ran = c.in_ok-all.ensures.right m (operands_runnable tree.rule tree.place ps qs tree.held.items tree.points tree.pending.items tree.pending_points news m can) in
    let halt = c.in_err-worked.field-0.0 in
    let work = tree_work tree.rule tree.place ps qs tree.held.items tree.points tree.pending.items tree.pending_points news m can ds c.in_ok-all.all.points ran in
    let right = works_along tree.rule tree.place c.as_slice.result.now tree.held.items (map arc_value c.as_slice-2.result.now) ds tree.points (Err halt) c.as_slice.ensures.value (ap (map arc_value) c.as_slice-2.ensures.value) c.in_err-worked.ensures.right in
    rw (p.1, p.2) (tree_wrong tree.rule tree.place ps qs tree.held.items tree.points tree.pending.items tree.pending_points news m can ds c.in_ok-all.all.points ran work.holds.made halt (right (sets_of ran.before) (sets_of ran.after) work))

pub run_tree-returns-clause-right : goal.run_tree-returns-clause-right
run_tree-returns-clause-right g t c = λ m can.
    let tree = c.args.tree.now in
    let ps = map plain tree.children.items in
    let qs = map plain c.run_children.new.children.items in
    let news = map arc_value c.args.sources.now in
    let ds = map arc_value c.in_ok-all.all.news.items in
    let ran = c.in_ok-all.ensures.right m (operands_runnable tree.rule tree.place ps qs tree.held.items tree.points tree.pending.items tree.pending_points news m can) in
    let w = c.in_ok-worked.worked in
    let work = tree_work tree.rule tree.place ps qs tree.held.items tree.points tree.pending.items tree.pending_points news m can ds c.in_ok-all.all.points ran in
    let right = works_along tree.rule tree.place c.as_slice.result.now tree.held.items (map arc_value c.as_slice-2.result.now) ds tree.points (Ok w) c.as_slice.ensures.value (ap (map arc_value) c.as_slice-2.ensures.value) c.in_ok-worked.ensures.right in
    let done = tree_right tree.rule tree.place ps qs tree.held.items tree.points tree.pending.items tree.pending_points news m can ds c.in_ok-all.all.points ran w c.keep.result.points (right (sets_of ran.before) (sets_of ran.after) work) c.in_ok-all.ensures.kept c.keep.ensures.points in
    subst (λ (k : OpTree). RanOne news m (plain_tree tree) (plain_tree k) (arc_value c.keep.result.delta) c.keep.result.points) (sym c.keep.ensures.tree)
    (subst (λ (d : Arc Delta Global). RanOne news m (plain_tree tree) (Operates tree.rule tree.place (plains_of qs) tree.held.items tree.points w.patches.items w.points) (arc_value d) c.keep.result.points) (sym c.keep.ensures.delta) done)

-- ---- steps

pub run_child-returns-in-Tree-clause-steps : goal.run_child-returns-in-Tree-clause-steps
run_child-returns-in-Tree-clause-steps g t c =
    let e : plain c.args.child.now ≡ plain_tree c.in-Tree.tree = ap plain (sym c.replace.ensures.value) ∙ ap plain c.in-Tree.is ∙ plain-Tree c.in-Tree.tree in
    subst (λ (p : Plain). StaysWithin (map arc_value c.args.sources.now) p c.args.steps.now c.run_tree-result.new.steps) (sym e) c.run_tree-result.ensures.steps

pub run_children-returns-in_err-ran-clause-steps : goal.run_children-returns-in_err-ran-clause-steps
run_children-returns-in_err-ran-clause-steps g t c = λ m can.
    let within : c.loop-i.i < length c.args.children.now.items = omega arith in
    let ks0 = c.args.children.now.items in
    let i = c.loop-i.i in
    let k = c.index_mut.result.now in
    let same = c.loop-i.invariant.unvisited.1 i k (omega arith) in
    let one = c.in_err-ran.ensures.steps m (runnable_child ks0 c.loop-i.children.items i k k within c.loop-i.invariant.unvisited.0 c.index_mut.ensures.value same (map arc_value c.args.sources.now) m can) in
    let so_far = steps_more m.old m.new ks0 i k c.args.steps.now c.loop-i.steps c.run_child.new.steps within (c.index_mut.ensures.value ∙ same) (c.loop-i.invariant.steps m can) one in
    let some = some_reach m.old m.new (map plain ks0) (i + 1) in
    omega (arith, so_far, some)

pub run_children-returns-in_err-push-clause-steps : goal.run_children-returns-in_err-push-clause-steps
run_children-returns-in_err-push-clause-steps g t c = λ m can.
    let within : c.loop-i.i < length c.args.children.now.items = omega arith in
    let ks0 = c.args.children.now.items in
    let i = c.loop-i.i in
    let k = c.index_mut.result.now in
    let same = c.loop-i.invariant.unvisited.1 i k (omega arith) in
    let one = c.in_ok-ran.ensures.steps m (runnable_child ks0 c.loop-i.children.items i k k within c.loop-i.invariant.unvisited.0 c.index_mut.ensures.value same (map arc_value c.args.sources.now) m can) in
    let so_far = steps_more m.old m.new ks0 i k c.args.steps.now c.loop-i.steps c.run_child.new.steps within (c.index_mut.ensures.value ∙ same) (c.loop-i.invariant.steps m can) one in
    let some = some_reach m.old m.new (map plain ks0) (i + 1) in
    omega (arith, so_far, some)

pub run_children-returns-clause-steps : goal.run_children-returns-clause-steps
run_children-returns-clause-steps g t c = λ m can.
    let so_far = c.loop-i.invariant.steps m can in
    let some = some_reach m.old m.new (map plain c.args.children.now.items) c.loop-i.i in
    omega (arith, so_far, some)

pub run_tree-returns-in_err-all-clause-steps : goal.run_tree-returns-in_err-all-clause-steps
run_tree-returns-in_err-all-clause-steps g t c = λ m can.
    let tree = c.args.tree.now in
    let ps = map plain tree.children.items in
    let runnable = operands_runnable tree.rule tree.place ps ps tree.held.items tree.points tree.pending.items tree.pending_points (map arc_value c.args.sources.now) m can in
    steps_below tree.rule tree.place ps ps tree.held.items tree.points tree.pending.items tree.pending_points m.old m.new c.args.steps.now c.run_children.new.steps (c.in_err-all.ensures.steps m runnable)

pub run_tree-returns-in_err-worked-clause-steps : goal.run_tree-returns-in_err-worked-clause-steps
run_tree-returns-in_err-worked-clause-steps g t c = λ m can.
    let tree = c.args.tree.now in
    let ps = map plain tree.children.items in
    let qs = map plain c.run_children.new.children.items in
    let news = map arc_value c.args.sources.now in
    let ds = map arc_value c.in_ok-all.all.news.items in
    let runnable = operands_runnable tree.rule tree.place ps qs tree.held.items tree.points tree.pending.items tree.pending_points news m can in
    steps_asked tree.rule tree.place ps qs tree.held.items tree.points tree.pending.items tree.pending_points news m ds c.in_ok-all.all.points (c.in_ok-all.ensures.right m runnable)
    c.as_slice.result.now (map arc_value c.as_slice-2.result.now) c.args.steps.now c.run_children.new.steps c.work.new.steps c.as_slice.ensures.value (ap (map arc_value) c.as_slice-2.ensures.value)
    (c.in_ok-all.ensures.steps m runnable) c.in_err-worked.ensures.steps

pub run_tree-returns-clause-steps : goal.run_tree-returns-clause-steps
run_tree-returns-clause-steps g t c = λ m can.
    let tree = c.args.tree.now in
    let ps = map plain tree.children.items in
    let qs = map plain c.run_children.new.children.items in
    let news = map arc_value c.args.sources.now in
    let ds = map arc_value c.in_ok-all.all.news.items in
    let runnable = operands_runnable tree.rule tree.place ps qs tree.held.items tree.points tree.pending.items tree.pending_points news m can in
    steps_asked tree.rule tree.place ps qs tree.held.items tree.points tree.pending.items tree.pending_points news m ds c.in_ok-all.all.points (c.in_ok-all.ensures.right m runnable)
    c.as_slice.result.now (map arc_value c.as_slice-2.result.now) c.args.steps.now c.run_children.new.steps c.work.new.steps c.as_slice.ensures.value (ap (map arc_value) c.as_slice-2.ensures.value)
    (c.in_ok-all.ensures.steps m runnable) c.in_ok-worked.ensures.steps
