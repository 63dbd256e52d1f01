-- Operands that are looked up one after the other.
use Rattle.std.proofs.Common.{◌≡◌, ℕ, ◌+◌, ◌*◌, ◌<◌, ◌≤◌, List, [], ◌∷◌, ◌++◌, map, zip, take, drop, length, get_or, false, Option, Result, Ok, Err, OnOk, refl, sym, ap, subst, ◌∙◌, append_assoc, add-one, arith}
use Rattle.std.specs.Arc.{arc_value}
use Rattle.std.specs.FinMap.{get, keys, entries, len, len-entries}
use Rattle.std.specs.declared.alloc.Global.{Global}
use Rattle.std.specs.declared.sync.Arc.{Arc}
use Rattle.std.proofs.Math.ListN.{get_or-map}
use Rattle.std.proofs.Math.Nat.{mul-le-mul_left}
use Rattle.std.proofs.Math.Seq.{drop-cons}
use Rattle.std.proofs.lemmas.List.{length-append, length-map, map-append, take_more}
use Rattle.std.proofs.lemmas.List.Sums.{sum_by-cons}
use Rattle.std.proofs.lemmas.Slice.Zip.{get_or-zip}
use Rattle.vtl_values.specs.declared.value.Value.{Value}
use Rattle.vtl_values.proofs.Values.{key_cmp-IsTotalOrder, key_cmp-IsAntisymmetric}
use Rattle.data_model.specs.Deltas.{apply}
use Rattle.data_model.specs.Drafts.{note_value}
use Rattle.data_model.proofs.DraftLemmas.{IsDraft-value}
use Rattle.point_sets.specs.Changes.{Changes, values_eq, values_of, change_entry}
use Rattle.point_sets.specs.DataSets.{DataSet}
use Rattle.point_sets.specs.declared.delta.Change.{Change}
use Rattle.point_sets.specs.declared.point.Point.{Point}
use Rattle.point_sets.proofs.Changes.{values_eq-IsEqualityTest}
use Rattle.held_index.specs.Drafts.{SetDraft}
use Rattle.held_index.specs.Holdings.{Holding, contents}
use Rattle.held_index.specs.Reach.{changes_in}
use Rattle.held_index.specs.Rules.{after_news}
use Rattle.clause_meaning.specs.Clauses.{values_at}
use Rattle.data_set_trees.specs.declared.tree.SetOperation.{SetOperation}
use Rattle.operator_meaning.specs.sets.Sets.{chosen}
use Rattle.set_ops.specs.Noted.{read_value, noted_key, IsNoted, keys_read, all_keys_read}
use Rattle.set_ops.specs.Readings.{own_points, in_order}
use Rattle.set_ops.specs.declared.reading.Reading.{Reading}

abbrev Points : Type 0
Points = List (Option (Arc Point Global))

-- ---- what stands at a place

pub content-at : (held : List Holding) (i : ℕ) (h : Holding) → h ≡ get_or held i h → h.content ≡ get_or (contents held) i h.content
content-at held i h at = sym (get_or-map (λ (g : Holding). g.content) held i h ∙ ap (λ (g : Holding). g.content) (sym at))

pub arc-at : {A : Type 0} (xs : List (Arc A Global)) (i : ℕ) (x : Arc A Global) → x ≡ get_or xs i x → arc_value x ≡ get_or (map arc_value xs) i (arc_value x)
arc-at xs i x at = sym (get_or-map arc_value xs i x ∙ ap arc_value (sym at))

pub after-at : (ds : List Changes) (cs : List DataSet) (i : ℕ) (d : Changes) (a : DataSet) → i < length ds → i < length cs → d ≡ get_or ds i d → a ≡ get_or cs i a → apply d a ≡ get_or (after_news ds cs) i (apply d a)
after-at ds cs i d a within inside at own =
    let f : Changes × DataSet → DataSet = λ p. apply p.0 p.1 in
    sym (get_or-map f (zip ds cs) i (d, a) ∙ ap f (get_or-zip ds cs i (d, a) within inside) ∙ (λ j. apply (sym at j) (sym own j)))

pub as-many-after : (ds : List Changes) (cs : List DataSet) → length ds ≡ length cs → length (after_news ds cs) ≡ length cs
as-many-after [] [] long = refl
as-many-after [] (c ∷ cs) long = absurd (omega (arith, long))
as-many-after (d ∷ ds) [] long = absurd (omega (arith, long))
as-many-after (d ∷ ds) (c ∷ cs) long = let rest = as-many-after ds cs (omega (arith, long)) in omega (arith, rest)

-- ---- one operand more

own-at : (rs : List Reading) (sets : List DataSet) (key : List Value) (i : ℕ) (r : Reading) (a : DataSet) → i < length rs → i < length sets → r ≡ get_or rs i r → a ≡ get_or sets i a
    → own_points (drop i rs) (drop i sets) key ≡ get a (values_at r.own key) ∷ own_points (drop (i + 1) rs) (drop (i + 1) sets) key
own-at rs sets key i r a within inside at own =
    let first : drop i rs ≡ r ∷ drop (i + 1) rs = drop-cons rs i r within ∙ (λ j. sym at j ∷ drop (sym (add-one i) j) rs) in
    let second : drop i sets ≡ a ∷ drop (i + 1) sets = drop-cons sets i a inside ∙ (λ j. sym own j ∷ drop (sym (add-one i) j) sets) in
    λ j. own_points (first j) (second j) key

pub own-more : (rs : List Reading) (sets : List DataSet) (key : List Value) (i : ℕ) (r : Reading) (a : DataSet) (done new : Points) (p : Option (Arc Point Global)) → i < length rs → i < length sets → r ≡ get_or rs i r → a ≡ get_or sets i a
    → values_of p ≡ get a (values_at r.own key) → new ≡ done ++ p ∷ [] → own_points rs sets key ≡ map values_of done ++ own_points (drop i rs) (drop i sets) key
    → own_points rs sets key ≡ map values_of new ++ own_points (drop (i + 1) rs) (drop (i + 1) sets) key
own-more rs sets key i r a done new p within inside at own value is h =
    let rest = own_points (drop (i + 1) rs) (drop (i + 1) sets) key in
    let next : own_points (drop i rs) (drop i sets) key ≡ values_of p ∷ rest = own-at rs sets key i r a within inside at own ∙ (λ j. sym value j ∷ rest) in
    let longer : map values_of new ≡ map values_of done ++ values_of p ∷ [] = ap (λ (ps : Points). map values_of ps) is ∙ map-append values_of done (p ∷ []) in
    h ∙ ap (λ (ps : List (Option (List Value))). map values_of done ++ ps) next
    ∙ sym (append_assoc (map values_of done) (values_of p ∷ []) rest)
    ∙ ap (λ (ps : List (Option (List Value))). ps ++ rest) (sym longer)

-- ---- a key more

pub on-ok : {A E : Type 0} (P Q : Type 0) (r : Result A E) → (P → Q) → OnOk r P → OnOk r Q
on-ok P Q (Ok a) f h = f h
on-ok P Q (Err e) f h = h

pub noted-same : (o : SetOperation) (rs : List Reading) (held : List Holding) (news : List Changes) (key at : List Value) (old new : Option (List Value)) (bs as' : List (Option (List Value))) (n : SetDraft) → at ≡ key
    → old ≡ chosen o (in_order rs bs) → bs ≡ own_points rs (contents held) key → new ≡ chosen o (in_order rs as') → as' ≡ own_points rs (after_news news (contents held)) key
    → note_value values_eq at old new n ≡ noted_key o rs held news key n
noted-same o rs held news key at old new bs as' n at_is old_is bs_are new_is as_are =
    let was : old ≡ read_value o rs (contents held) key = old_is ∙ ap (λ (ps : List (Option (List Value))). chosen o (in_order rs ps)) bs_are in
    let comes : new ≡ read_value o rs (after_news news (contents held)) key = new_is ∙ ap (λ (ps : List (Option (List Value))). chosen o (in_order rs ps)) as_are in
    λ j. note_value values_eq (at_is j) (was j) (comes j) n

pub noted-more : (o : SetOperation) (rs : List Reading) (held : List Holding) (news : List Changes) (ks : List (List Value)) (i : ℕ) (key : List Value) (n m : SetDraft) → i < length ks → key ≡ get_or ks i key → m ≡ noted_key o rs held news key n
    → IsNoted o rs held news (take i ks) n → IsNoted o rs held news (take (i + 1) ks) m
noted-more o rs held news ks i key n m within at is h =
    let old = read_value o rs (contents held) in
    let new = read_value o rs (after_news news (contents held)) in
    let longer : take (i + 1) ks ≡ take i ks ++ key ∷ [] = take_more ks i key within ∙ ap (λ (k : List Value). take i ks ++ k ∷ []) (sym at) in
    subst (λ (t : SetDraft). IsNoted o rs held news (take (i + 1) ks) t) (sym is)
    (subst (λ (js : List (List Value)). IsNoted o rs held news js (noted_key o rs held news key n)) (sym longer)
    (IsDraft-value key_cmp-IsTotalOrder key_cmp-IsAntisymmetric (λ k. false) old new values_eq values_eq-IsEqualityTest [] (take i ks) key n h))

-- ---- the keys

keys-by-change : (ns : List ℕ) (cs : List Change) → map (λ (c : Change). values_at ns c.key) cs ≡ map (values_at ns) (map (λ (e : List Value × (Option (List Value) × Option (List Value))). e.0) (map change_entry cs))
keys-by-change ns [] = refl
keys-by-change ns (c ∷ cs) = ap (λ (ks : List (List Value)). values_at ns c.key ∷ ks) (keys-by-change ns cs)

pub keys-all : (r : Reading) (cs : List Change) (d : Changes) → map change_entry cs ≡ entries d → map (λ (c : Change). values_at r.key c.key) cs ≡ keys_read r d
keys-all r cs d all = keys-by-change r.key cs ∙ ap (λ (es : List (List Value × (Option (List Value) × Option (List Value)))). map (values_at r.key) (map (λ e. e.0) es)) all

pub keys-more : (rs : List Reading) (ds : List Changes) (i : ℕ) (r : Reading) (d : Changes) (done new : List (List Value)) → i < length rs → i < length ds → r ≡ get_or rs i r → d ≡ get_or ds i d → new ≡ done ++ keys_read r d
    → all_keys_read rs ds ≡ done ++ all_keys_read (drop i rs) (drop i ds) → all_keys_read rs ds ≡ new ++ all_keys_read (drop (i + 1) rs) (drop (i + 1) ds)
keys-more rs ds i r d done new within inside at own is h =
    let rest = all_keys_read (drop (i + 1) rs) (drop (i + 1) ds) in
    let first : drop i rs ≡ r ∷ drop (i + 1) rs = drop-cons rs i r within ∙ (λ j. sym at j ∷ drop (sym (add-one i) j) rs) in
    let second : drop i ds ≡ d ∷ drop (i + 1) ds = drop-cons ds i d inside ∙ (λ j. sym own j ∷ drop (sym (add-one i) j) ds) in
    h ∙ (λ j. done ++ all_keys_read (first j) (second j)) ∙ sym (append_assoc done (keys_read r d) rest) ∙ ap (λ (ks : List (List Value)). ks ++ rest) (sym is)

-- there is one for each change
pub keys-count : (rs : List Reading) (ds : List Changes) → length ds ≡ length rs → length (all_keys_read rs ds) ≡ changes_in ds
keys-count [] [] long = refl
keys-count [] (d ∷ ds) long = absurd (omega (arith, long))
keys-count (r ∷ rs) [] long = absurd (omega (arith, long))
keys-count (r ∷ rs) (d ∷ ds) long =
    let rest = keys-count rs ds (omega (arith, long)) in
    let both = length-append (keys_read r d) (all_keys_read rs ds) in
    let own : length (keys_read r d) ≡ len d = length-map (keys d) (values_at r.key) ∙ length-map (entries d) (λ (e : List Value × (Option (List Value) × Option (List Value))). e.0) ∙ sym (len-entries d) in
    let all = sum_by-cons len d ds in
    omega (arith, rest, both, own, all)

-- ---- steps

pub one-more : (n i c before now next : ℕ) → i < c → now ≤ before + 2 * n * i → next ≤ now + 2 * n → next ≤ before + 2 * n * c
one-more n i c before now next within h g =
    let more : 2 * n * (i + 1) ≤ 2 * n * c = mul-le-mul_left (2 * n) (let le : i + 1 ≤ c = omega (arith, within) in le) in
    omega (arith, more, h, g)
