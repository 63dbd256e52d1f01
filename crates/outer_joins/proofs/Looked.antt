-- Operands that are looked up one after the other.
use Rattle.std.proofs.Common.{◌≡◌, ℕ, ◌+◌, ◌*◌, ◌<◌, ◌≤◌, List, [], ◌∷◌, ◌++◌, map, zip, take, drop, length, get_or, false, Option, Result, Ok, Err, OnOk, refl, sym, ap, subst, ◌∙◌, append_assoc, add-one, arith}
use Rattle.std.specs.Prelude.{slice_index_or}
use Rattle.std.specs.Arc.{arc_value}
use Rattle.std.specs.FinMap.{get, keys, entries, len, len-entries}
use Rattle.std.specs.declared.alloc.Global.{Global}
use Rattle.std.specs.declared.sync.Arc.{Arc}
use Rattle.std.proofs.Math.ListN.{drop_of_length-le, get_or-map}
use Rattle.std.proofs.Math.Nat.{mul-le-mul_left}
use Rattle.std.proofs.Math.Seq.{drop-cons}
use Rattle.std.proofs.lemmas.List.{append-nil, length-append, length-map, map-append, take_more}
use Rattle.std.proofs.lemmas.List.Sums.{sum_by-cons}
use Rattle.std.proofs.lemmas.Slice.Zip.{get_or-zip}
use Rattle.vtl_values.specs.declared.structure.Component.{Component}
use Rattle.vtl_values.specs.declared.value.Value.{Value}
use Rattle.vtl_values.proofs.Values.{key_cmp-IsTotalOrder, key_cmp-IsAntisymmetric}
use Rattle.data_model.specs.Deltas.{apply}
use Rattle.data_model.specs.Drafts.{note_value}
use Rattle.data_model.proofs.DraftLemmas.{IsDraft-value}
use Rattle.point_sets.specs.Changes.{Changes, values_eq, values_of, change_entry}
use Rattle.point_sets.specs.DataSets.{DataSet}
use Rattle.point_sets.specs.declared.delta.Change.{Change}
use Rattle.point_sets.specs.declared.point.Point.{Point}
use Rattle.point_sets.proofs.Changes.{values_eq-IsEqualityTest}
use Rattle.held_index.specs.Drafts.{SetDraft}
use Rattle.held_index.specs.Holdings.{Holding, contents}
use Rattle.held_index.specs.Reach.{changes_in}
use Rattle.held_index.specs.Rules.{after_news}
use Rattle.clause_meaning.specs.Clauses.{values_at}
use Rattle.operator_meaning.specs.joins.Joins.{JoinOn, own_places, points_at, join_key, joined_point}
use Rattle.join_eval.specs.Plans.{structure_of, own_key}
use Rattle.join_eval.proofs.Kept.{length-places}
use Rattle.outer_joins.specs.Noted.{value_at, noted_key, IsNoted, all_keys_of}

abbrev Points : Type 0
Points = List (Option (Arc Point Global))

-- ---- what stands at a place

pub content-at : (held : List Holding) (i : ℕ) (h : Holding) → h ≡ get_or held i h → h.content ≡ get_or (contents held) i h.content
content-at held i h at = sym (get_or-map (λ (g : Holding). g.content) held i h ∙ ap (λ (g : Holding). g.content) (sym at))

pub arc-at : {A : Type 0} (xs : List (Arc A Global)) (i : ℕ) (x : Arc A Global) → x ≡ get_or xs i x → arc_value x ≡ get_or (map arc_value xs) i (arc_value x)
arc-at xs i x at = sym (get_or-map arc_value xs i x ∙ ap arc_value (sym at))

pub after-at : (ds : List Changes) (cs : List DataSet) (i : ℕ) (d : Changes) (a : DataSet) → i < length ds → i < length cs → d ≡ get_or ds i d → a ≡ get_or cs i a → apply d a ≡ get_or (after_news ds cs) i (apply d a)
after-at ds cs i d a within inside at own =
    let f : Changes × DataSet → DataSet = λ p. apply p.0 p.1 in
    sym (get_or-map f (zip ds cs) i (d, a) ∙ ap f (get_or-zip ds cs i (d, a) within inside) ∙ (λ j. apply (sym at j) (sym own j)))

pub as-many-after : (ds : List Changes) (cs : List DataSet) → length ds ≡ length cs → length (after_news ds cs) ≡ length cs
as-many-after [] [] long = refl
as-many-after [] (c ∷ cs) long = absurd (omega (arith, long))
as-many-after (d ∷ ds) [] long = absurd (omega (arith, long))
as-many-after (d ∷ ds) (c ∷ cs) long = let rest = as-many-after ds cs (omega (arith, long)) in omega (arith, rest)

-- ---- one operand more

-- what the operands with these places have at a key
abbrev pub points_from : List (List ℕ) → List DataSet → List Value → List (Option (List Value))
points_from places sets key = map (λ q. get q.1 (values_at q.0 key)) (zip places sets)

own-at : (j : JoinOn) (sets : List DataSet) (key : List Value) (i : ℕ) (a : DataSet) → i < length j.operands → i < length sets → a ≡ get_or sets i a
    → points_from (drop i (own_places j)) (drop i sets) key ≡ get a (own_key j i key) ∷ points_from (drop (i + 1) (own_places j)) (drop (i + 1) sets) key
own-at j sets key i a within inside own =
    let many = length-places j in
    let here : i < length (own_places j) = omega (arith, within, many) in
    let first : drop i (own_places j) ≡ slice_index_or (own_places j) i [] ∷ drop (i + 1) (own_places j) = drop-cons (own_places j) i [] here ∙ (λ k. slice_index_or (own_places j) i [] ∷ drop (sym (add-one i) k) (own_places j)) in
    let second : drop i sets ≡ a ∷ drop (i + 1) sets = drop-cons sets i a inside ∙ (λ k. sym own k ∷ drop (sym (add-one i) k) sets) in
    λ k. points_from (first k) (second k) key

pub own-more : (j : JoinOn) (sets : List DataSet) (key : List Value) (i : ℕ) (a : DataSet) (done new : Points) (p : Option (Arc Point Global)) → i < length j.operands → i < length sets → a ≡ get_or sets i a
    → values_of p ≡ get a (own_key j i key) → new ≡ done ++ p ∷ [] → points_at j sets key ≡ map values_of done ++ points_from (drop i (own_places j)) (drop i sets) key
    → points_at j sets key ≡ map values_of new ++ points_from (drop (i + 1) (own_places j)) (drop (i + 1) sets) key
own-more j sets key i a done new p within inside own value is h =
    let rest = points_from (drop (i + 1) (own_places j)) (drop (i + 1) sets) key in
    let next : points_from (drop i (own_places j)) (drop i sets) key ≡ values_of p ∷ rest = own-at j sets key i a within inside own ∙ (λ k. sym value k ∷ rest) in
    let longer : map values_of new ≡ map values_of done ++ values_of p ∷ [] = ap (λ (ps : Points). map values_of ps) is ∙ map-append values_of done (p ∷ []) in
    h ∙ ap (λ (ps : List (Option (List Value))). map values_of done ++ ps) next
    ∙ sym (append_assoc (map values_of done) (values_of p ∷ []) rest)
    ∙ ap (λ (ps : List (Option (List Value))). ps ++ rest) (sym longer)

-- where no operand is left all are looked up
pub points-end : (j : JoinOn) (sets : List DataSet) (key : List Value) (i : ℕ) (done : Points) → length j.operands ≤ i → points_at j sets key ≡ map values_of done ++ points_from (drop i (own_places j)) (drop i sets) key → map values_of done ≡ points_at j sets key
points-end j sets key i done past h =
    let many = length-places j in
    let none : drop i (own_places j) ≡ [] = drop_of_length-le (own_places j) (omega (arith, past, many)) in
    sym (h ∙ ap (λ (ps : List (List ℕ)). map values_of done ++ points_from ps (drop i sets) key) none ∙ append-nil (map values_of done))

-- ---- a key more

pub on-ok : {A E : Type 0} (P Q : Type 0) (r : Result A E) → (P → Q) → OnOk r P → OnOk r Q
on-ok P Q (Ok a) f h = f h
on-ok P Q (Err e) f h = h

pub noted-same : (j : JoinOn) (held : List Holding) (news : List Changes) (key at : List Value) (old new : Option (List Value)) (bs as' : List (Option (List Value))) (n : SetDraft) → at ≡ key
    → old ≡ joined_point j bs → bs ≡ points_at j (contents held) key → new ≡ joined_point j as' → as' ≡ points_at j (after_news news (contents held)) key
    → note_value values_eq at old new n ≡ noted_key j held news key n
noted-same j held news key at old new bs as' n at_is old_is bs_are new_is as_are =
    let was : old ≡ value_at j (contents held) key = old_is ∙ ap (joined_point j) bs_are in
    let comes : new ≡ value_at j (after_news news (contents held)) key = new_is ∙ ap (joined_point j) as_are in
    λ k. note_value values_eq (at_is k) (was k) (comes k) n

pub noted-more : (j : JoinOn) (held : List Holding) (news : List Changes) (ks : List (List Value)) (i : ℕ) (key : List Value) (n m : SetDraft) → i < length ks → key ≡ get_or ks i key → m ≡ noted_key j held news key n
    → IsNoted j held news (take i ks) n → IsNoted j held news (take (i + 1) ks) m
noted-more j held news ks i key n m within at is h =
    let old = value_at j (contents held) in
    let new = value_at j (after_news news (contents held)) in
    let longer : take (i + 1) ks ≡ take i ks ++ key ∷ [] = take_more ks i key within ∙ ap (λ (k : List Value). take i ks ++ k ∷ []) (sym at) in
    subst (λ (t : SetDraft). IsNoted j held news (take (i + 1) ks) t) (sym is)
    (subst (λ (js : List (List Value)). IsNoted j held news js (noted_key j held news key n)) (sym longer)
    (IsDraft-value key_cmp-IsTotalOrder key_cmp-IsAntisymmetric (λ k. false) old new values_eq values_eq-IsEqualityTest [] (take i ks) key n h))

-- ---- the keys

pub keys-by-change : (f : List Value → List Value) (cs : List Change) → map (λ (c : Change). f c.key) cs ≡ map f (map (λ (e : List Value × (Option (List Value) × Option (List Value))). e.0) (map change_entry cs))
keys-by-change f [] = refl
keys-by-change f (c ∷ cs) = ap (λ (ks : List (List Value)). f c.key ∷ ks) (keys-by-change f cs)

pub keys-all : (f : List Value → List Value) (cs : List Change) (d : Changes) → map change_entry cs ≡ entries d → map (λ (c : Change). f c.key) cs ≡ map f (keys d)
keys-all f cs d all = keys-by-change f cs ∙ ap (λ (es : List (List Value × (Option (List Value) × Option (List Value)))). map f (map (λ e. e.0) es)) all

pub keys-more : (j : JoinOn) (ds : List Changes) (i : ℕ) (d : Changes) (done new : List (List Value)) → i < length j.operands → i < length ds → d ≡ get_or ds i d → new ≡ done ++ map (join_key j (structure_of j i)) (keys d)
    → all_keys_of j j.operands ds ≡ done ++ all_keys_of j (drop i j.operands) (drop i ds) → all_keys_of j j.operands ds ≡ new ++ all_keys_of j (drop (i + 1) j.operands) (drop (i + 1) ds)
keys-more j ds i d done new within inside own is h =
    let rest = all_keys_of j (drop (i + 1) j.operands) (drop (i + 1) ds) in
    let ours = map (join_key j (structure_of j i)) (keys d) in
    let first : drop i j.operands ≡ structure_of j i ∷ drop (i + 1) j.operands = drop-cons j.operands i [] within ∙ (λ k. structure_of j i ∷ drop (sym (add-one i) k) j.operands) in
    let second : drop i ds ≡ d ∷ drop (i + 1) ds = drop-cons ds i d inside ∙ (λ k. sym own k ∷ drop (sym (add-one i) k) ds) in
    h ∙ (λ k. done ++ all_keys_of j (first k) (second k)) ∙ sym (append_assoc done ours rest) ∙ ap (λ (ks : List (List Value)). ks ++ rest) (sym is)

-- where no operand is left all keys are put down
pub keys-end : (j : JoinOn) (ds : List Changes) (i : ℕ) (done : List (List Value)) → length j.operands ≤ i → all_keys_of j j.operands ds ≡ done ++ all_keys_of j (drop i j.operands) (drop i ds) → done ≡ all_keys_of j j.operands ds
keys-end j ds i done past h =
    sym (h ∙ ap (λ (ss : List (List Component)). done ++ all_keys_of j ss (drop i ds)) (drop_of_length-le j.operands past) ∙ append-nil done)

-- there is one for each change
pub keys-count : (j : JoinOn) (ss : List (List Component)) (ds : List Changes) → length ds ≡ length ss → length (all_keys_of j ss ds) ≡ changes_in ds
keys-count j [] [] long = refl
keys-count j [] (d ∷ ds) long = absurd (omega (arith, long))
keys-count j (s ∷ ss) [] long = absurd (omega (arith, long))
keys-count j (s ∷ ss) (d ∷ ds) long =
    let rest = keys-count j ss ds (omega (arith, long)) in
    let both = length-append (map (join_key j s) (keys d)) (all_keys_of j ss ds) in
    let own : length (map (join_key j s) (keys d)) ≡ len d = length-map (keys d) (join_key j s) ∙ length-map (entries d) (λ (e : List Value × (Option (List Value) × Option (List Value))). e.0) ∙ sym (len-entries d) in
    let all = sum_by-cons len d ds in
    omega (arith, rest, both, own, all)

-- ---- steps

pub one-more : (n i c before now next : ℕ) → i < c → now ≤ before + 2 * n * i → next ≤ now + 2 * n → next ≤ before + 2 * n * c
one-more n i c before now next within h g =
    let more : 2 * n * (i + 1) ≤ 2 * n * c = mul-le-mul_left (2 * n) (let le : i + 1 ≤ c = omega (arith, within) in le) in
    omega (arith, more, h, g)
