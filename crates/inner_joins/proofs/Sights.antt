-- What a look finds is what the operand has.
use Rattle.std.proofs.Common.{◌≡◌, ◌≢◌, ℕ, ◌-◌, ◌<◌, List, map, length, get_or, Option, sym, ap, ◌∙◌, arith}
use Rattle.std.specs.FinMap.{empty, get}
use Rattle.std.proofs.Math.ListN.{get_or-map}
use Rattle.std.proofs.lemmas.List.{get_or_default, length-map}
use Rattle.std.proofs.lemmas.Option.{unwrap_or-slice_get}
use Rattle.vtl_values.specs.declared.value.Value.{Value}
use Rattle.data_model.specs.Deltas.{apply}
use Rattle.data_model.specs.Drafts.{note_value}
use Rattle.point_sets.specs.Changes.{Changes, values_eq, values_of}
use Rattle.point_sets.specs.DataSets.{DataSet}
use Rattle.held_index.specs.Drafts.{SetDraft}
use Rattle.held_index.specs.Holdings.{Holding, contents, operand, IsPlain}
use Rattle.held_index.specs.Rules.{after_news}
use Rattle.operator_meaning.specs.joins.Joins.{JoinOn, joined_point, join_working, key_components, points_at}
use Rattle.operator_meaning.proofs.joins.Covered.{working-at}
use Rattle.join_eval.specs.Plans.{own_key}
use Rattle.inner_joins.specs.Noted.{news_of, noted_key, AreBehind, Has}
use Rattle.inner_joins.specs.Rules.{main_number, place_of, wants_on}
use Rattle.inner_joins.specs.declared.notes.Seen.{Seen}
use Rattle.inner_joins.proofs.Behind.{after-is}
use Rattle.inner_joins.proofs.Places.{length-held, number-back, other-plain, place-there, whole-content}

-- of another operand h is held, and d are its news
module _ (j : JoinOn) (there : main_number j < length j.operands) (held : List Holding) (wanted : map (λ h. h.want) held ≡ wants_on j) (news : List Changes) (number : ℕ) (within : number < length j.operands) (other : number ≢ main_number j)
    (h : Holding) (h_at : h ≡ get_or held (place_of (main_number j) number) h) (d : Changes) (d_is : d ≡ news_of number news) where
  pub held-whole : IsPlain h.want
  held-whole = other-plain j held wanted number there within other h h_at

  module _ (xs : List DataSet) (behind : AreBehind j held news xs) where
    its-content : h.content ≡ operand number xs
    its-content =
        let place : ℕ = place_of (main_number j) number in
        let inside : place < length j.operands - 1 = place-there j held wanted number there within other in
        let long = length-map held (λ g. g.content) in
        let all = length-held j held wanted in
        sym (get_or-map (λ (g : Holding). g.content) held place h ∙ ap (λ (g : Holding). g.content) (sym h_at))
        ∙ get_or_default (contents held) place h.content empty (omega (arith, inside, long, all))
        ∙ sym (unwrap_or-slice_get (contents held) place empty)
        ∙ whole-content j held xs behind.held_is place inside
        ∙ ap (λ n. operand n xs) (number-back (main_number j) number other)

    pub has-looked : (key : List Value) (seen : Seen) → values_of seen.before ≡ get h.content (own_key j number key) → values_of seen.after ≡ get (apply d h.content) (own_key j number key) → Has j xs news key number seen
    has-looked key seen was is = record {
      before = was ∙ ap (λ (m : DataSet). get m (own_key j number key)) its-content;
      after = is ∙ ap (λ (m : DataSet). get m (own_key j number key)) ((λ i. apply (d_is i) (its-content i)) ∙ sym (after-is j held news xs behind number within));
    }

-- what is noted of the points of all operands is what the join has at the key
pub noted-same : (j : JoinOn) (xs : List DataSet) (news : List Changes) (key at : List Value) (old new : Option (List Value)) (bs as' : List (Option (List Value))) (n : SetDraft) → length key ≡ length (key_components j) → at ≡ key
    → old ≡ joined_point j bs → bs ≡ points_at j xs key → new ≡ joined_point j as' → as' ≡ points_at j (after_news news xs) key → note_value values_eq at old new n ≡ noted_key j xs news n key
noted-same j xs news key at old new bs as' n long at_is old_is bs_are new_is as_are =
    let was : old ≡ (join_working j xs).value key = old_is ∙ ap (joined_point j) bs_are ∙ sym (working-at j xs key long) in
    let comes : new ≡ (join_working j (after_news news xs)).value key = new_is ∙ ap (joined_point j) as_are ∙ sym (working-at j (after_news news xs) key long) in
    λ k. note_value values_eq (at_is k) (was k) (comes k) n
