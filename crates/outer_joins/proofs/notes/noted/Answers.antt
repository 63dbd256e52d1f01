use Rattle.std.proofs.Common.{◌≡◌, ◌≤◌, ◌+◌, ◌*◌, List, [], false, length, map, take, sym, subst, ap, ◌∙◌, arith}
use Rattle.std.specs.Arc.{arc_value}
use Rattle.std.proofs.lemmas.List.{length-map, take_all}
use Rattle.vtl_values.specs.declared.value.Value.{Value}
use Rattle.vtl_values.proofs.Values.{key_cmp-IsTotalOrder, key_cmp-IsAntisymmetric}
use Rattle.data_model.proofs.DraftLemmas.{IsDraft-nothing}
use Rattle.point_sets.specs.Changes.{Changes}
use Rattle.held_index.specs.Drafts.{SetDraft}
use Rattle.held_index.specs.Holdings.{Holding, contents}
use Rattle.held_index.specs.Reach.{changes_in}
use Rattle.held_index.specs.Rules.{after_news}
use Rattle.operator_meaning.specs.joins.Joins.{JoinOn}
use Rattle.outer_joins.specs.Noted.{value_at, IsNoted, all_keys_of}
use Rattle.outer_joins.proofs.Looked.{noted-more, keys-count, one-more}
use Rattle.outer_joins.proofs.notes.noted.Goals as goal

pub loop-key-init : goal.loop-key-init
loop-key-init g c =
    let j : JoinOn = c.args.plan.now in
    let held : List Holding = c.args.held.now in
    let news : List Changes = map arc_value c.args.news.now in
    record {
      noted = λ plain. subst (λ (n : SetDraft). IsNoted j held news [] n) (sym c.new-draft.ensures) (IsDraft-nothing key_cmp-IsTotalOrder key_cmp-IsAntisymmetric (λ k. false) (value_at j (contents held)) (value_at j (after_news news (contents held))));
      within = omega arith;
      steps = omega arith;
    }

pub loop-key-preserved : goal.loop-key-preserved
loop-key-preserved g c =
    let j : JoinOn = c.args.plan.now in
    let held : List Holding = c.args.held.now in
    let news : List Changes = map arc_value c.args.news.now in
    let before = c.loop-key.invariant.steps in
    let one = c.in_ok-note_key.ensures.steps in
    let test = c.loop-key-test.true in
    record {
      noted = λ plain. noted-more j held news c.as_slice-key-items.result.now c.loop-key.key-index c.key-item.result c.loop-key.draft c.note_key.new.draft test c.key-item.is (c.in_ok-note_key.ensures.noted plain) (c.loop-key.invariant.noted plain);
      within = omega (arith, test);
      steps = omega (arith, before, one);
    }

-- there is a key for each change
many : (j : JoinOn) (news : List Changes) (ks : List (List Value)) → ks ≡ all_keys_of j j.operands news → length news ≡ length j.operands → length ks ≡ changes_in news
many j news ks are long = ap (λ (ls : List (List Value)). length ls) are ∙ keys-count j j.operands news long

pub returns-clause-noted : goal.returns-clause-noted
returns-clause-noted g c = λ plain.
    let j : JoinOn = c.args.plan.now in
    let held : List Holding = c.args.held.now in
    let news : List Changes = map arc_value c.args.news.now in
    let all : take c.loop-key.key-index c.as_slice-key-items.result.now ≡ all_keys_of j j.operands news = take_all c.loop-key.key-index c.as_slice-key-items.result.now c.loop-key-test.false ∙ c.as_slice-key-items.ensures.value ∙ c.in_ok-keys.ensures.keys in
    subst (λ (ks : List (List Value)). IsNoted j held news ks c.loop-key.draft) all (c.loop-key.invariant.noted plain)

pub returns-clause-steps : goal.returns-clause-steps
returns-clause-steps g c =
    let j : JoinOn = c.args.plan.now in
    let news : List Changes = map arc_value c.args.news.now in
    let every : length c.as_slice-key-items.result.now ≡ changes_in news = many j news c.as_slice-key-items.result.now (c.as_slice-key-items.ensures.value ∙ c.in_ok-keys.ensures.keys) (length-map c.args.news.now arc_value ∙ c.requires.news) in
    let within = c.loop-key.invariant.within in
    let past = c.loop-key-test.false in
    let index : c.loop-key.key-index ≡ changes_in news = omega (arith, every, within, past) in
    subst (λ n. c.loop-key.steps ≤ c.args.steps.now + 2 * length j.operands * n) index c.loop-key.invariant.steps

pub returns-in_err-note_key-clause-steps : goal.returns-in_err-note_key-clause-steps
returns-in_err-note_key-clause-steps g c =
    let j : JoinOn = c.args.plan.now in
    let news : List Changes = map arc_value c.args.news.now in
    let every : length c.as_slice-key-items.result.now ≡ changes_in news = many j news c.as_slice-key-items.result.now (c.as_slice-key-items.ensures.value ∙ c.in_ok-keys.ensures.keys) (length-map c.args.news.now arc_value ∙ c.requires.news) in
    let test = c.loop-key-test.true in
    one-more (length j.operands) c.loop-key.key-index (changes_in news) c.args.steps.now c.loop-key.steps c.note_key.new.steps (omega (arith, test, every)) c.loop-key.invariant.steps c.in_err-note_key.ensures.steps
