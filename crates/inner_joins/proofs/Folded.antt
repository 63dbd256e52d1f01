-- Keys that are noted one after the other.
use Rattle.std.proofs.Common.{◌≡◌, ℕ, ◌+◌, ◌<◌, List, [], ◌∷◌, ◌++◌, map, take, length, get_or, false, Some, sym, ap, subst, ◌∙◌, append_assoc, arith}
use Rattle.std.specs.Prelude.{flat_map, fold}
use Rattle.std.specs.Arc.{arc_value}
use Rattle.std.specs.FinMap.{empty, entries, entries_sorted, get, get-entries, keys, len, len-entries}
use Rattle.std.specs.declared.alloc.Global.{Global}
use Rattle.std.specs.declared.sync.Arc.{Arc}
use Rattle.std.proofs.lemmas.List.{append-nil, get_or_default, map_more, take_more, length-map}
use Rattle.std.proofs.lemmas.List.Concat.{flat_map-append}
use Rattle.std.proofs.lemmas.List.Folds.{flat_map-map}
use Rattle.std.proofs.lemmas.List.Sums.{fold-append}
use Rattle.std.proofs.Math.ListN.{get_or-map}
use Rattle.vtl_values.specs.declared.value.Value.{Value}
use Rattle.vtl_values.proofs.Values.{key_cmp-IsTotalOrder, key_cmp-IsAntisymmetric}
use Rattle.data_model.specs.Deltas.{Pair}
use Rattle.data_model.specs.Drafts.{nothing}
use Rattle.data_model.proofs.DraftLemmas.{IsDraft-nothing, IsDraft-value}
use Rattle.data_model.proofs.EntryLemmas.{find-get_or}
use Rattle.point_sets.specs.Changes.{Changes, change_entry, values_eq, AreChanges, IsChange}
use Rattle.point_sets.specs.DataSets.{DataSet}
use Rattle.point_sets.specs.declared.delta.Change.{Change}
use Rattle.point_sets.specs.declared.delta.Delta.{Delta}
use Rattle.point_sets.proofs.Changes.{values_eq-IsEqualityTest}
use Rattle.held_index.specs.Drafts.{SetDraft}
use Rattle.held_index.specs.Holdings.{Holding}
use Rattle.held_index.specs.Rules.{after_news}
use Rattle.operator_meaning.specs.joins.Joins.{JoinOn, join_working}
use Rattle.outer_joins.proofs.Looked.{arc-at}
use Rattle.inner_joins.specs.Noted.{news_of, noted_key, IsNoted, Notes}

abbrev Keys : Type 0
Keys = List (List Value)

-- ---- lists

-- what comes of one element more
flat_map-more : {A B : Type 0} (f : A → List B) (xs : List A) (i : ℕ) (d : A) → i < length xs → flat_map f (take (i + 1) xs) ≡ flat_map f (take i xs) ++ f (get_or xs i d)
flat_map-more f xs i d within =
    ap (flat_map f) (take_more xs i d within) ∙ flat_map-append f (take i xs) (get_or xs i d ∷ []) ∙ ap (λ ys. flat_map f (take i xs) ++ ys) (append-nil (f (get_or xs i d)))

-- what comes of the keys of changes
pub flat_map-keys : (f : List Value → Keys) (cs : List Change) (d : Changes) → map change_entry cs ≡ entries d → flat_map (λ (c : Change). f c.key) cs ≡ flat_map f (keys d)
flat_map-keys f cs d all =
    sym (flat_map-map (λ (e : List Value × Pair (List Value)). f e.0) change_entry cs)
    ∙ ap (flat_map (λ (e : List Value × Pair (List Value)). f e.0)) all
    ∙ sym (flat_map-map f (λ (e : List Value × Pair (List Value)). e.0) (entries d))

-- ---- changes of a delta

module _ (cs : List Change) (d : Changes) (all : map change_entry cs ≡ entries d) (i : ℕ) (change : Change) (within : i < length cs) (at : change ≡ get_or cs i change) where
  -- each stands at its key
  pub change-there : get d change.key ≡ Some (change_entry change).1
  change-there =
      let entry : List Value × Pair (List Value) = change_entry change in
      let long : length (entries d) ≡ length cs = ap (λ (es : List (List Value × Pair (List Value))). length es) (sym all) ∙ length-map cs change_entry in
      let here : get_or (entries d) i entry ≡ entry = ap (λ (es : List (List Value × Pair (List Value))). get_or es i entry) (sym all) ∙ get_or-map change_entry cs i change ∙ ap change_entry (sym at) in
      subst (λ (e : List Value × Pair (List Value)). get d e.0 ≡ Some e.1) here
      (get-entries d (get_or (entries d) i entry).0 ∙ find-get_or key_cmp-IsTotalOrder (entries d) i entry (entries_sorted d) (omega (arith, long, within)))

  pub change-is : AreChanges cs → IsChange change
  change-is are = subst IsChange (sym at) (are.each i change within)

-- and there are as many as the delta has
pub changes-count : (cs : List Change) (d : Changes) → map change_entry cs ≡ entries d → length cs ≡ len d
changes-count cs d all = sym (length-map cs change_entry) ∙ ap (λ (es : List (List Value × Pair (List Value))). length es) all ∙ sym (len-entries d)

-- ---- notes

module _ (j : JoinOn) (held : List Holding) (news : List Changes) where
  pub notes-none : (old new : SetDraft) → new ≡ old → Notes j held news [] old new
  notes-none old new is xs behind = is

  notes-more : (ks ls : Keys) (old mid new : SetDraft) → Notes j held news ks old mid → Notes j held news ls mid new → Notes j held news (ks ++ ls) old new
  notes-more ks ls old mid new first second xs behind =
      second xs behind ∙ ap (λ (n : SetDraft). fold (noted_key j xs news) n ls) (first xs behind) ∙ sym (fold-append (noted_key j xs news) old ks ls)

  pub notes-same : (ks ls : Keys) (old new : SetDraft) → ks ≡ ls → Notes j held news ks old new → Notes j held news ls old new
  notes-same ks ls old new same h = subst (λ (ms : Keys). Notes j held news ms old new) same h

module _ (j : JoinOn) (held : List Holding) (news : List Changes) {A : Type 0} (xs : List A) (i : ℕ) (x : A) (within : i < length xs) (at : x ≡ get_or xs i x) where
  -- the key of one element more
  pub notes-key : (f : A → List Value) (old mid new : SetDraft) → Notes j held news (map f (take i xs)) old mid → Notes j held news (f x ∷ []) mid new → Notes j held news (map f (take (i + 1) xs)) old new
  notes-key f old mid new first second =
      let longer : map f (take i xs) ++ f x ∷ [] ≡ map f (take (i + 1) xs) = ap (λ (y : A). map f (take i xs) ++ f y ∷ []) at ∙ sym (map_more f xs i x within) in
      notes-same j held news (map f (take i xs) ++ f x ∷ []) (map f (take (i + 1) xs)) old new longer (notes-more j held news (map f (take i xs)) (f x ∷ []) old mid new first second)

  -- the keys of one element more
  pub notes-keys : (f : A → Keys) (old mid new : SetDraft) → Notes j held news (flat_map f (take i xs)) old mid → Notes j held news (f x) mid new → Notes j held news (flat_map f (take (i + 1) xs)) old new
  notes-keys f old mid new first second =
      let longer : flat_map f (take i xs) ++ f x ≡ flat_map f (take (i + 1) xs) = ap (λ (y : A). flat_map f (take i xs) ++ f y) at ∙ sym (flat_map-more f xs i x within) in
      notes-same j held news (flat_map f (take i xs) ++ f x) (flat_map f (take (i + 1) xs)) old new longer (notes-more j held news (flat_map f (take i xs)) (f x) old mid new first second)

-- ---- news by number

-- the news that stand at a number
pub news-at : (news : List (Arc Delta Global)) (i number : ℕ) (x : Arc Delta Global) (d : Changes) → i < length news → x ≡ get_or news i x → d ≡ arc_value x → i ≡ number → d ≡ news_of number (map arc_value news)
news-at news i number x d within at is same =
    is ∙ arc-at news i x at ∙ get_or_default (map arc_value news) i (arc_value x) empty (let long = length-map news arc_value in omega (arith, long, within))
    ∙ ap (λ n. news_of n (map arc_value news)) same

-- ---- drafts

module _ (j : JoinOn) (xs : List DataSet) (news : List Changes) where
  noted-after : (done ks : Keys) (n : SetDraft) → IsNoted j xs news done n → IsNoted j xs news (done ++ ks) (fold (noted_key j xs news) n ks)
  noted-after done [] n h = subst (λ (ms : Keys). IsNoted j xs news ms n) (sym (append-nil done)) h
  noted-after done (k ∷ ks) n h =
      let one : SetDraft = noted_key j xs news n k in
      subst (λ (ms : Keys). IsNoted j xs news ms (fold (noted_key j xs news) one ks)) (append_assoc done (k ∷ []) ks)
      (noted-after (done ++ k ∷ []) ks one
      (IsDraft-value key_cmp-IsTotalOrder key_cmp-IsAntisymmetric (λ key. false) (join_working j xs).value (join_working j (after_news news xs)).value values_eq values_eq-IsEqualityTest [] done k n h))

  -- what is noted key by key is a draft
  pub noted-all : (ks : Keys) → IsNoted j xs news ks (fold (noted_key j xs news) nothing ks)
  noted-all ks = noted-after [] ks nothing (IsDraft-nothing key_cmp-IsTotalOrder key_cmp-IsAntisymmetric (λ key. false) (join_working j xs).value (join_working j (after_news news xs)).value)
