-- Lists of keys of which none stands twice, and how many points there are at them.
use Rattle.std.proofs.Common.{◌≡◌, ◌≤◌, ℕ, suc, ◌+◌, ◌*◌, List, [], ◌∷◌, ◌++◌, map, length, take, Bool, true, false, ◌||◌, cond, Option, Some, None, option_map, refl, sym, ap, subst, ◌∙◌, arith}
use Rattle.std.proofs.Math.Nat.{suc-mul}
use Rattle.std.proofs.Math.Seq.{take-append_seam}
use Rattle.std.specs.Prelude.{flat_map, filter_map}
use Rattle.std.specs.Option.{is_some}
use Rattle.std.specs.List.{cons_option}
use Rattle.std.specs.Ordering.{eq_by_cmp}
use Rattle.std.specs.FinMap.{entries, entries_sorted, from_entries, get, insert, keys, len, len-empty, len-entries, len-insert, same_map}
use Rattle.std.specs.FinMap.Entries.{is_sorted, is_some-find}
use Rattle.std.specs.Prelude.{T}
use Rattle.std.proofs.lemmas.List.{append_cancel_left, length-append, length-map}
use Rattle.std.proofs.lemmas.List.Folds.{list_any-append}
use Rattle.vtl_values.specs.Order.{key_cmp}
use Rattle.vtl_values.specs.declared.value.Value.{Value}
use Rattle.vtl_values.proofs.Values.{key_cmp-IsTotalOrder, key_cmp-IsAntisymmetric}
use Rattle.data_model.specs.Maps.{is_listed, made_at}
use Rattle.data_model.proofs.DeltaLemmas.{contradicted}
use Rattle.data_model.proofs.EntryLemmas.{find-later, is_sorted-rest}
use Rattle.data_model.proofs.MapLemmas.{tied, tied_to_itself, get-made_at, get-made_at_all, len-made_at}
use Rattle.point_sets.specs.DataSets.{DataSet}
use Rattle.operator_meaning.proofs.pairs.Names.{either-left, either-right}

abbrev pub Keys : Type 0
Keys = List (List Value)

abbrev pub Distinct : Keys → Type 0
Distinct [] = Unit {0}
Distinct (k ∷ ks) = (is_listed key_cmp ks k ≡ false) × Distinct ks

unlisted : (ks : Keys) (k : List Value) → (is_listed key_cmp ks k ≡ true → ⊥) → is_listed key_cmp ks k ≡ false
unlisted ks k h = by_test (is_listed key_cmp ks k) refl
  where
    by_test : (b : Bool) → is_listed key_cmp ks k ≡ b → b ≡ false
    by_test true e = absurd (h e)
    by_test false e = refl

-- ---- how many points

pub keys-many : (a : DataSet) → length (keys a) ≡ len a
keys-many a = length-map (entries a) (λ (e : List Value × List Value). e.0) ∙ sym (len-entries a)

-- a data set is made at keys outside of which it has nothing
made-of : (m : DataSet) (ks : Keys) → ((k : List Value) → is_listed key_cmp ks k ≡ false → get m k ≡ None) → m ≡ made_at {R = key_cmp} ks (get m)
made-of m ks none = same_map key_cmp-IsTotalOrder key_cmp-IsAntisymmetric m (made_at ks (get m)) (λ k. sym (get-made_at_all key_cmp-IsTotalOrder key_cmp-IsAntisymmetric ks (get m) none k))

-- so it has no more points than these
pub few-keys : (m : DataSet) (ks : Keys) → ((k : List Value) → is_listed key_cmp ks k ≡ false → get m k ≡ None) → len m ≤ length ks
few-keys m ks none = subst (λ (n : DataSet). len n ≤ length ks) (sym (made-of m ks none)) (len-made_at key_cmp-IsTotalOrder ks (get m))

all-made : (f : List Value → Option (List Value)) (ks : Keys) → Distinct ks → ((k : List Value) → is_listed key_cmp ks k ≡ true → is_some (f k) ≡ true) → len (made_at {R = key_cmp} ks f) ≡ length ks
unfolding made_at
all-made f [] apart all = len-empty key_cmp (List Value)
all-made f (k ∷ ks) apart all =
    by_value (f k) refl (all k (either-left (eq_by_cmp key_cmp k k) (is_listed key_cmp ks k) (tied_to_itself key_cmp-IsTotalOrder k)))
    (all-made f ks apart.1 (λ j h. all j (either-right (eq_by_cmp key_cmp j k) (is_listed key_cmp ks j) h)))
  where
    others : DataSet
    others = made_at ks f

    new : get others k ≡ None
    new = get-made_at key_cmp-IsTotalOrder key_cmp-IsAntisymmetric ks f k ∙ ap (λ b. cond b (f k) None) apart.0

    by_value : (o : Option (List Value)) → f k ≡ o → is_some o ≡ true → len others ≡ length ks → len (from_entries {R = key_cmp} (cons_option (option_map (λ x. (k, x)) o) (filter_map (λ j. option_map (λ x. (j, x)) (f j)) ks))) ≡ suc (length ks)
    by_value None e i later = cc
    by_value (Some x) e i later = let more : len (insert others k x) ≡ len others + 1 = len-insert key_cmp-IsTotalOrder others k x ∙ ap (λ (o : Option (List Value)). cond (is_some o) (len others) (len others + 1)) new in omega (arith, more, later)

-- and as many as these, if they are distinct and each has one
pub as-many-keys : (m : DataSet) (ks : Keys) → Distinct ks → ((k : List Value) → is_listed key_cmp ks k ≡ false → get m k ≡ None) → ((k : List Value) → is_listed key_cmp ks k ≡ true → is_some (get m k) ≡ true) → len m ≡ length ks
as-many-keys m ks apart none some = ap len (made-of m ks none) ∙ all-made (get m) ks apart some

-- ---- the keys of a data set

entries-apart : (es : List (List Value × List Value)) → T (is_sorted key_cmp es) → Distinct (map (λ (e : List Value × List Value). e.0) es)
entries-apart [] sorted = tt
entries-apart (e ∷ es) sorted = (
  sym (is_some-find key_cmp e.0 es) ∙ ap is_some (find-later key_cmp-IsTotalOrder e.0 e es sorted (tied_to_itself key_cmp-IsTotalOrder e.0)),
  entries-apart es (is_sorted-rest key_cmp e es sorted),
)

pub keys-apart : (a : DataSet) → Distinct (keys a)
keys-apart a = entries-apart (entries a) (entries_sorted a)

-- ---- where a listed key comes from

pub from-map : (f : List Value → List Value) (ks : Keys) (q : List Value) → is_listed key_cmp (map f ks) q ≡ true → (k : List Value) × (is_listed key_cmp ks k ≡ true) × (q ≡ f k)
from-map f [] q h = cc
from-map f (j ∷ js) q h = by_test (eq_by_cmp key_cmp q (f j)) refl (from-map f js q) h
  where
    by_test : (b : Bool) → eq_by_cmp key_cmp q (f j) ≡ b → (is_listed key_cmp (map f js) q ≡ true → (k : List Value) × (is_listed key_cmp js k ≡ true) × (q ≡ f k)) → (b || is_listed key_cmp (map f js) q) ≡ true → (k : List Value) × ((eq_by_cmp key_cmp k j || is_listed key_cmp js k) ≡ true) × (q ≡ f k)
    by_test true e later i = (j, either-left (eq_by_cmp key_cmp j j) (is_listed key_cmp js j) (tied_to_itself key_cmp-IsTotalOrder j), tied key_cmp-IsTotalOrder key_cmp-IsAntisymmetric q (f j) e)
    by_test false e later i = let found = later i in (found.0, either-right (eq_by_cmp key_cmp found.0 j) (is_listed key_cmp js found.0) found.1, found.2)

pub from-flat : (f : List Value → Keys) (ks : Keys) (q : List Value) → is_listed key_cmp (flat_map f ks) q ≡ true → (k : List Value) × (is_listed key_cmp ks k ≡ true) × (is_listed key_cmp (f k) q ≡ true)
from-flat f [] q h = cc
from-flat f (j ∷ js) q h = by_test (is_listed key_cmp (f j) q) refl (from-flat f js q) (sym (list_any-append (eq_by_cmp key_cmp q) (f j) (flat_map f js)) ∙ h)
  where
    by_test : (b : Bool) → is_listed key_cmp (f j) q ≡ b → (is_listed key_cmp (flat_map f js) q ≡ true → (k : List Value) × (is_listed key_cmp js k ≡ true) × (is_listed key_cmp (f k) q ≡ true)) → (b || is_listed key_cmp (flat_map f js) q) ≡ true → (k : List Value) × ((eq_by_cmp key_cmp k j || is_listed key_cmp js k) ≡ true) × (is_listed key_cmp (f k) q ≡ true)
    by_test true e later i = (j, either-left (eq_by_cmp key_cmp j j) (is_listed key_cmp js j) (tied_to_itself key_cmp-IsTotalOrder j), e)
    by_test false e later i = let found = later i in (found.0, either-right (eq_by_cmp key_cmp found.0 j) (is_listed key_cmp js found.0) found.1, found.2)

-- ---- all keys of one list with all of another

distinct-append : (xs ys : Keys) → Distinct xs → Distinct ys → ((q : List Value) → is_listed key_cmp xs q ≡ true → is_listed key_cmp ys q ≡ false) → Distinct (xs ++ ys)
distinct-append [] ys own its across = its
distinct-append (x ∷ xs) ys own its across = (
  list_any-append (eq_by_cmp key_cmp x) xs ys ∙ ap (λ b. b || is_listed key_cmp ys x) own.0 ∙ across x (either-left (eq_by_cmp key_cmp x x) (is_listed key_cmp xs x) (tied_to_itself key_cmp-IsTotalOrder x)),
  distinct-append xs ys own.1 its (λ q h. across q (either-right (eq_by_cmp key_cmp q x) (is_listed key_cmp xs q) h)),
)

distinct-after : (k : List Value) (cs : Keys) → Distinct cs → Distinct (map (λ key. k ++ key) cs)
distinct-after k [] apart = tt
distinct-after k (c ∷ cs) apart = (
  unlisted (map (λ key. k ++ key) cs) (k ++ c) (λ h.
      let found = from-map (λ key. k ++ key) cs (k ++ c) h in
      let same : c ≡ found.0 = append_cancel_left k c found.0 found.2 in
      contradicted (is_listed key_cmp cs c) (subst (λ (d : List Value). is_listed key_cmp cs d ≡ true) (sym same) found.1) apart.0),
  distinct-after k cs apart.1,
)

first-same : (k j c d : List Value) → length k ≡ length j → k ++ c ≡ j ++ d → k ≡ j
first-same k j c d long same = sym (take-append_seam k c) ∙ (λ i. take (long i) (same i)) ∙ take-append_seam j d

-- where those of the one list are equally long, none comes twice
pub distinct-all : (n : ℕ) (ks cs : Keys) → ((k : List Value) → is_listed key_cmp ks k ≡ true → length k ≡ n) → Distinct ks → Distinct cs → Distinct (flat_map (λ own. map (λ key. own ++ key) cs) ks)
distinct-all n [] cs long apart its = tt
distinct-all n (k ∷ ks) cs long apart its =
    let later : (j : List Value) → is_listed key_cmp ks j ≡ true → length j ≡ n = λ j h. long j (either-right (eq_by_cmp key_cmp j k) (is_listed key_cmp ks j) h) in
    let own_long : length k ≡ n = long k (either-left (eq_by_cmp key_cmp k k) (is_listed key_cmp ks k) (tied_to_itself key_cmp-IsTotalOrder k)) in
    distinct-append (map (λ key. k ++ key) cs) (flat_map (λ own. map (λ key. own ++ key) cs) ks) (distinct-after k cs its) (distinct-all n ks cs later apart.1 its)
    (λ q h. unlisted (flat_map (λ own. map (λ key. own ++ key) cs) ks) q (λ i.
    let one = from-map (λ key. k ++ key) cs q h in
    let other = from-flat (λ own. map (λ key. own ++ key) cs) ks q i in
    let two = from-map (λ key. other.0 ++ key) cs q other.2 in
    let same : k ≡ other.0 = first-same k other.0 one.0 two.0 (own_long ∙ sym (later other.0 other.1)) (sym one.2 ∙ two.2) in
    contradicted (is_listed key_cmp ks k) (subst (λ (j : List Value). is_listed key_cmp ks j ≡ true) (sym same) other.1) apart.0))

-- they are as many as the product
pub product-many : (ks cs : Keys) → length (flat_map (λ own. map (λ key. own ++ key) cs) ks) ≡ length ks * length cs
product-many [] cs = omega arith
product-many (k ∷ ks) cs =
    let later = product-many ks cs in
    let one = length-append (map (λ key. k ++ key) cs) (flat_map (λ own. map (λ key. own ++ key) cs) ks) in
    let own = length-map cs (λ (key : List Value). k ++ key) in
    let more = suc-mul (length ks) (length cs) in
    one ∙ (λ i. own i + later i) ∙ (omega arith) ∙ sym more
