use Rattle.std.proofs.Common.{ap, ◌∙◌}
use Rattle.data_set_trees.specs.clauses.Clauses.{all_differ, is_same_name}
use Rattle.clause_typing.specs.Keys.{full_name, name_of}
use Rattle.clause_typing.proofs.Differing.{Next, one_more, repeated, all_seen}
use Rattle.clause_typing.proofs.Keys.{names_keyed}
use Rattle.clause_typing.proofs.differ.names_differ.Goals as goal

pub returns-then-not-new : goal.returns-then-not-new
returns-then-not-new c =
    let next : Next names_keyed c.as_slice-name-items.result.now c.loop-name.name-index c.loop-name.seen.keys c.name-item.result c.full_name.result c.in_ok-new.new = record {
      within = c.loop-name-test.true;
      item = c.name-item.is;
      key_is = c.full_name.ensures;
      seen = c.loop-name.invariant;
      tells = c.in_ok-new.ensures.added;
    } in
    repeated next c.if-not-new.true ∙ ap (all_differ is_same_name) c.as_slice-name-items.ensures

pub loop-name-preserved : goal.loop-name-preserved
loop-name-preserved c =
    let next : Next names_keyed c.as_slice-name-items.result.now c.loop-name.name-index c.loop-name.seen.keys c.name-item.result c.full_name.result c.in_ok-new.new = record {
      within = c.loop-name-test.true;
      item = c.name-item.is;
      key_is = c.full_name.ensures;
      seen = c.loop-name.invariant;
      tells = c.in_ok-new.ensures.added;
    } in
    one_more next c.if-not-new.false c.in_ok-new.ensures.keys

pub returns : goal.returns
returns c = all_seen is_same_name full_name name_of c.as_slice-name-items.result.now c.loop-name.name-index c.loop-name.seen.keys c.loop-name-test.false c.loop-name.invariant ∙ ap (all_differ is_same_name) c.as_slice-name-items.ensures
