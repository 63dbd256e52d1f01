use Rattle.data_set_trees.specs.declared.clauses.clause.CheckedItem.{CheckedItem}
use Rattle.data_set_trees.specs.clauses.Clauses.{is_same_target}
use Rattle.clause_typing.specs.Keys.{target_of}
use Rattle.clause_typing.proofs.Differing.{Next, one_more, repeated, all_seen}
use Rattle.clause_typing.proofs.Keys.{targets_keyed}
use Rattle.clause_typing.proofs.differ.targets_differ.Goals as goal

pub returns-then-not-new : goal.returns-then-not-new
returns-then-not-new c =
    let next : Next targets_keyed c.args.items.now c.loop-item.item-index c.loop-item.seen.keys c.item-item.result c.target_ref.result c.in_ok-new.new = record {
      within = c.loop-item-test.true;
      item = c.item-item.is;
      key_is = c.target_ref.ensures;
      seen = c.loop-item.invariant;
      tells = c.in_ok-new.ensures.added;
    } in
    repeated next c.if-not-new.true

pub loop-item-preserved : goal.loop-item-preserved
loop-item-preserved c =
    let next : Next targets_keyed c.args.items.now c.loop-item.item-index c.loop-item.seen.keys c.item-item.result c.target_ref.result c.in_ok-new.new = record {
      within = c.loop-item-test.true;
      item = c.item-item.is;
      key_is = c.target_ref.ensures;
      seen = c.loop-item.invariant;
      tells = c.in_ok-new.ensures.added;
    } in
    one_more next c.if-not-new.false c.in_ok-new.ensures.keys

pub returns : goal.returns
returns c = all_seen (λ (a b : CheckedItem). is_same_target a.target b.target) (λ i. i.target) target_of c.args.items.now c.loop-item.item-index c.loop-item.seen.keys c.loop-item-test.false c.loop-item.invariant
