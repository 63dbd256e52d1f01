use Rattle.std.proofs.Common.{ℕ, nat_eq, refl}
use Rattle.data_set_trees.specs.declared.clauses.clause.CheckedRename.{CheckedRename}
use Rattle.clause_typing.proofs.Differing.{Next, one_more, repeated, all_seen}
use Rattle.clause_typing.proofs.Keys.{renames_keyed}
use Rattle.clause_typing.proofs.differ.renamed_once.Goals as goal

pub returns-then-not-new : goal.returns-then-not-new
returns-then-not-new c =
    let next : Next renames_keyed c.args.renames.now c.loop-renaming.renaming-index c.loop-renaming.seen.keys c.renaming-item.result c.renaming-item.result.component c.in_ok-new.new = record {
      within = c.loop-renaming-test.true;
      item = c.renaming-item.is;
      key_is = refl;
      seen = c.loop-renaming.invariant;
      tells = c.in_ok-new.ensures.added;
    } in
    repeated next c.if-not-new.true

pub loop-renaming-preserved : goal.loop-renaming-preserved
loop-renaming-preserved c =
    let next : Next renames_keyed c.args.renames.now c.loop-renaming.renaming-index c.loop-renaming.seen.keys c.renaming-item.result c.renaming-item.result.component c.in_ok-new.new = record {
      within = c.loop-renaming-test.true;
      item = c.renaming-item.is;
      key_is = refl;
      seen = c.loop-renaming.invariant;
      tells = c.in_ok-new.ensures.added;
    } in
    one_more next c.if-not-new.false c.in_ok-new.ensures.keys

pub returns : goal.returns
returns c = all_seen (λ (a b : CheckedRename). nat_eq a.component b.component) (λ r. r.component) (λ (n : ℕ). n) c.args.renames.now c.loop-renaming.renaming-index c.loop-renaming.seen.keys c.loop-renaming-test.false c.loop-renaming.invariant
