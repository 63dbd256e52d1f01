-- Which statements are ready, and what they have.
use Rattle.std.proofs.Common.{◌≡◌, ◌<◌, ◌↔◌, ℕ, true, List, [], ◌∷◌, length, is_some, sym, refl, arith, subst}
use Rattle.std.specs.List.{All}
use Rattle.std.proofs.lemmas.List.Elements.{All-head, All-weaker}
use Rattle.point_sets.specs.DataSets.{DataSet}
use Rattle.point_sets.specs.declared.revision.Revision.{Revision}
use Rattle.data_set_trees.specs.declared.tree.Source.{Source}
use Rattle.data_set_trees.specs.declared.tree.Source.TheVariants.{Input, Result as ResultOf}
use Rattle.data_set_trees.specs.checked.Scripts.{Script, IsChecked, FollowOperands, IsOneOf, names_of, sources_of, structure_of_source}
use Rattle.operator_meaning.proofs.Items.{Contains-nothing}
use Rattle.transform_nodes.specs.Nodes.{named_on, AllHave}
use Rattle.std.specs.declared.alloc.Global.{Global}
use Rattle.std.specs.declared.sync.Arc.{Arc}
use Rattle.round_journal.specs.declared.entry.What.TheVariants.{Judged, Rescripted}
use Rattle.round_journal.specs.declared.verdict.Verdict.{Verdict}
use Rattle.round_journal.specs.Journals.{State, Numbered, Status, Waiting, Out, after_what, new_inputs, IsThere, Ready, NoneReady, Over, IsOfProduction}
use Rattle.round_journal.specs.Counts.{PrefixesInOrder}
use Rattle.round_journal.proofs.InputLemmas.{inputs-after_what, inputs-long}
use Rattle.round_journal.proofs.ScriptLemmas.{sources_of-all, names_of-typed, has_set}

-- ---- what is ready goes by the round's script, the statuses and the round's inputs

pub Ready-same : (s t : State) (i : ℕ) → t.round ≡ s.round → t.status ≡ s.status → new_inputs t ≡ new_inputs s → Ready s i → Ready t i
Ready-same s t i round status inputs ready = record {
  below = subst (λ (r : Numbered). i < length r.script.statements) (sym round) ready.below;
  waits = subst (λ f. f i ≡ Waiting) (sym status) ready.waits;
  operands =
      subst (λ (r : Numbered). All (IsThere r.script t.status (new_inputs t)) (sources_of r.script i)) (sym round)
      (subst (λ ys. All (IsThere s.round.script t.status ys) (sources_of s.round.script i)) (sym inputs)
      (subst (λ f. All (IsThere s.round.script f (new_inputs s)) (sources_of s.round.script i)) (sym status) ready.operands));
}

Over-same : (s t : State) → t.running ≡ s.running → t.round ≡ s.round → t.status ≡ s.status → new_inputs t ≡ new_inputs s → Over s → Over t
Over-same s t running round status inputs over = record {
  open_still = subst (λ b. b ≡ true) (sym running) over.open_still;
  none_ready = λ i ready. over.none_ready i (Ready-same t s i (sym round) (sym status) (sym inputs) ready);
  none_out = λ i n l. subst (λ f. f i ≡ Out n → ⊥) (sym status) (over.none_out i n (subst (λ (r : Numbered). i < length r.script.statements) round l));
}

module _ (s : State) (n : ℕ) (r : Revision) (v : Verdict) (p : PrefixesInOrder s) where
  same_new : new_inputs (after_what s n (Judged r v)) ≡ new_inputs s
  same_new = inputs-after_what s s.to n (Judged r v) p.to_below

  pub Ready-judged : (i : ℕ) → Ready (after_what s n (Judged r v)) i ↔ Ready s i
  Ready-judged i = (Ready-same (after_what s n (Judged r v)) s i refl refl (sym same_new), Ready-same s (after_what s n (Judged r v)) i refl refl same_new)

  pub Over-judged : Over (after_what s n (Judged r v)) ↔ Over s
  Over-judged = (Over-same (after_what s n (Judged r v)) s refl refl refl (sym same_new), Over-same s (after_what s n (Judged r v)) refl refl refl same_new)

module _ (s : State) (n : ℕ) (c : Arc Script Global) where
  pub Ready-rescripted : (i : ℕ) → Ready (after_what s n (Rescripted c)) i ↔ Ready s i
  Ready-rescripted i = (Ready-same (after_what s n (Rescripted c)) s i refl refl refl, Ready-same s (after_what s n (Rescripted c)) i refl refl refl)

  pub Over-rescripted : Over (after_what s n (Rescripted c)) ↔ Over s
  Over-rescripted = (Over-same (after_what s n (Rescripted c)) s refl refl refl refl, Over-same s (after_what s n (Rescripted c)) refl refl refl refl)

-- ---- what ready statements have

IsThere-has : (c : Script) (status : ℕ → Status) (ys : List DataSet) → length ys ≡ length c.inputs → IsChecked c → (n : Source) → is_some (structure_of_source c n) ≡ true → IsThere c status ys n → is_some (named_on c ys n) ≡ true
IsThere-has c status ys long checked (Input n) typed there = has_set c ys checked long (Input n) typed tt
IsThere-has c status ys long checked (ResultOf j) typed there = there.1

pub AllHave-ready : (s : State) (i : ℕ) → IsOfProduction s s.round.script → Ready s i → AllHave s.round.script (new_inputs s) (sources_of s.round.script i)
AllHave-ready s i of_it ready =
    let c : Script = s.round.script in
    let typed = sources_of-all c (λ n. is_some (structure_of_source c n) ≡ true) i (names_of-typed c i of_it.checked) in
    λ k d l. IsThere-has c s.status (new_inputs s) (inputs-long c s.to s of_it.same_inputs) of_it.checked _ (typed k d l) (ready.operands k d l)

no_results : (c : Script) (status : ℕ → Status) (ys : List DataSet) (n : Source) → IsOneOf [] n → IsThere c status ys n
no_results c status ys (Input n) among = tt
no_results c status ys (ResultOf j) among = absurd (Contains-nothing j among)

first_ready : (s : State) (order : List ℕ) → 0 < length order → FollowOperands s.round.script [] order → All (λ i. i < length s.round.script.statements) order → ((i : ℕ) → s.status i ≡ Waiting) → (i : ℕ) × Ready s i
first_ready s [] l follow below waits = absurd (omega arith)
first_ready s (i ∷ is) l follow below waits =
    let c : Script = s.round.script in (
      i,
      record {
        below = All-head (λ i. i < length c.statements) i is below;
        waits = waits i;
        operands = sources_of-all c (IsThere c s.status (new_inputs s)) i (All-weaker (IsOneOf []) (IsThere c s.status (new_inputs s)) (no_results c s.status (new_inputs s)) (names_of c i) follow.0);
      },
    )

pub some_ready : (s : State) → IsChecked s.round.script → 0 < length s.round.script.statements → ((i : ℕ) → s.status i ≡ Waiting) → ¬ (NoneReady s)
some_ready s checked l waits none =
    let r = first_ready s s.round.script.order (omega (arith, checked.ordered.all)) checked.ordered.follows checked.ordered.below waits in
    none r.0 r.1
