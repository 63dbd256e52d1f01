-- Keys that agree.
use Rattle.std.proofs.Common.{◌≡◌, ◌<◌, ◌↔◌, ℕ, List, [], ◌∷◌, length, Bool, true, false, ◌&&◌, ◌||◌, cond, Option, Some, None, refl, sym, ap, subst, ◌∙◌, arith}
use Rattle.std.specs.Prelude.{filter}
use Rattle.std.specs.Option.{is_some}
use Rattle.std.specs.List.{cons_option, list_any}
use Rattle.std.specs.Ordering.{eq_by_cmp}
use Rattle.std.specs.FinMap.{entries, get, keys, len, len-entries}
use Rattle.std.proofs.lemmas.List.{length-map}
use Rattle.vtl_values.specs.Texts.{same_text}
use Rattle.vtl_values.specs.declared.kind.Role.TheVariants.{Identifier}
use Rattle.vtl_values.specs.declared.structure.Component.{Component}
use Rattle.vtl_values.specs.declared.value.Value.{Value}
use Rattle.vtl_values.specs.Order.{key_cmp}
use Rattle.vtl_values.proofs.Values.{key_cmp-IsTotalOrder, key_cmp-IsAntisymmetric}
use Rattle.data_model.specs.Maps.{is_listed}
use Rattle.data_model.proofs.MapLemmas.{tied, tied_to_itself, is_listed-keys}
use Rattle.point_sets.specs.DataSets.{DataSet}
use Rattle.scalar_trees.proofs.typing.Sound.{both, left, right}
use Rattle.data_set_trees.specs.clauses.Frames.{has_role}
use Rattle.data_set_trees.specs.Components.{identifiers, is_taken}
use Rattle.operator_meaning.specs.pairs.Pairs.{key_between}
use Rattle.operator_meaning.proofs.pairs.Names.{same-true, same-refl, named, picked, is_in, Among, among-in, all-there, named-there, named-picked, either-left, either-right}
use Rattle.operator_meaning.proofs.pairs.Keys.{names, value-named, key-picked}
use Rattle.operator_meaning.specs.exists.Exists.{ExistsOn, common, left_values, right_values, agree, AgreeByName, is_met}

-- ---- the names that both operands have

pub taken-in : (n : List ℕ) (cs : List Component) → is_taken n cs ≡ is_in (names cs) n
taken-in n [] = refl
taken-in n (c ∷ cs) = ap (λ b. same_text n c.name || b) (taken-in n cs)

none : (b : Bool) → (b && false) ≡ false
none true = refl
none false = refl

-- of the identifiers, those whose names the others have
in-common : (xs cs : List Component) (n : List ℕ) → is_in (names (identifiers (filter (λ c. is_taken c.name xs) (identifiers cs)))) n ≡ (is_taken n xs && is_in (names (identifiers cs)) n)
in-common xs [] n = sym (none (is_taken n xs))
in-common xs (c ∷ cs) n = by_role (has_role Identifier c) refl (in-common xs cs n)
  where
    taken : Component → Bool
    taken d = is_taken d.name xs

    its : List Component
    its = identifiers (filter (λ d. is_taken d.name xs) (identifiers cs))

    as-named : same_text n c.name ≡ true → is_taken n xs ≡ is_taken c.name xs
    as-named e = ap (λ (m : List ℕ). is_taken m xs) (same-true n c.name e)

    by_name : (b : Bool) → same_text n c.name ≡ b → is_taken c.name xs ≡ true → is_in (names its) n ≡ (is_taken n xs && is_in (names (identifiers cs)) n) → (b || is_in (names its) n) ≡ (is_taken n xs && (b || is_in (names (identifiers cs)) n))
    by_name true e t later = sym (both (is_taken n xs) true (as-named e ∙ t) refl)
    by_name false e t later = later

    without : (b : Bool) → same_text n c.name ≡ b → is_taken c.name xs ≡ false → is_in (names its) n ≡ (is_taken n xs && is_in (names (identifiers cs)) n) → is_in (names its) n ≡ (is_taken n xs && (b || is_in (names (identifiers cs)) n))
    without true e t later = later ∙ ap (λ b. b && is_in (names (identifiers cs)) n) (as-named e ∙ t) ∙ sym (ap (λ b. b && true) (as-named e ∙ t))
    without false e t later = later

    by_taken : (b : Bool) → is_taken c.name xs ≡ b → has_role Identifier c ≡ true → is_in (names its) n ≡ (is_taken n xs && is_in (names (identifiers cs)) n)
        → is_in (names (identifiers (cond b (c ∷ filter (λ d. is_taken d.name xs) (identifiers cs)) (filter (λ d. is_taken d.name xs) (identifiers cs))))) n ≡ (is_taken n xs && (same_text n c.name || is_in (names (identifiers cs)) n))
    by_taken true t role later = rw role (by_name (same_text n c.name) refl t later)
    by_taken false t role later = without (same_text n c.name) refl t later

    by_role : (b : Bool) → has_role Identifier c ≡ b → is_in (names its) n ≡ (is_taken n xs && is_in (names (identifiers cs)) n)
        → is_in (names (identifiers (filter (λ d. is_taken d.name xs) (cond b (c ∷ identifiers cs) (identifiers cs))))) n ≡ (is_taken n xs && is_in (names (cond b (c ∷ identifiers cs) (identifiers cs))) n)
    by_role true role later = by_taken (is_taken c.name xs) refl role later
    by_role false role later = later

-- ---- values of names

pub named-in : (ns : List (List ℕ)) (vs : List Value) (n : List ℕ) (v : Value) → named ns vs n ≡ Some v → is_in ns n ≡ true
named-in [] vs n v h = cc
named-in (m ∷ ms) [] n v h = cc
named-in (m ∷ ms) (u ∷ us) n v h = by_test (same_text n m) h (named-in ms us n v)
  where
    by_test : (b : Bool) → cond b (Some u) (named ms us n) ≡ Some v → (named ms us n ≡ Some v → is_in ms n ≡ true) → (b || is_in ms n) ≡ true
    by_test true i later = refl
    by_test false i later = later i

-- what is picked goes by the values of its names
picked-same : (ns ms : List (List ℕ)) (vs ws : List Value) (ks : List (List ℕ)) → ((n : List ℕ) → is_in ks n ≡ true → named ns vs n ≡ named ms ws n) → picked ns ks vs ≡ picked ms ks ws
picked-same ns ms vs ws [] same = refl
picked-same ns ms vs ws (k ∷ ks) same =
    λ i. cons_option (same k (either-left (same_text k k) (is_in ks k) (same-refl k)) i) (picked-same ns ms vs ws ks (λ n h. same n (either-right (same_text n k) (is_in ks n) h)) i)

some-same : {A : Type 0} (x y : A) → Some x ≡ Some y → x ≡ y
some-same x y e = cc

value-of : {A : Type 0} (o : Option A) → is_some o ≡ true → (x : A) × (o ≡ Some x)
value-of None h = cc
value-of (Some x) h = (x, refl)

module _ (e : ExistsOn) where
  abbrev pub ours : List (List ℕ)
  ours = names (identifiers e.left)

  abbrev pub theirs : List (List ℕ)
  theirs = names (identifiers e.right)

  abbrev pub shared : List (List ℕ)
  shared = names (identifiers (common e))

  pub both-have : (n : List ℕ) → is_in shared n ≡ (is_in ours n && is_in theirs n)
  both-have n = in-common (identifiers e.left) e.right n ∙ ap (λ b. b && is_in theirs n) (taken-in n (identifiers e.left))

  ours-among : Among ours shared
  ours-among n h = left (is_in ours n) (is_in theirs n) (sym (both-have n) ∙ h)

  theirs-among : Among theirs shared
  theirs-among n h = right (is_in ours n) (is_in theirs n) (sym (both-have n) ∙ h)

  module _ (key other : List Value) (long : length key ≡ length (identifiers e.left)) (so : length other ≡ length (identifiers e.right)) where
    ours-long : length key ≡ length ours
    ours-long = long ∙ sym (length-map (identifiers e.left) (λ (c : Component). c.name))

    theirs-long : length other ≡ length theirs
    theirs-long = so ∙ sym (length-map (identifiers e.right) (λ (c : Component). c.name))

    one-value : picked ours shared key ≡ picked theirs shared other → (n : List ℕ) → is_in shared n ≡ true → named ours key n ≡ named theirs other n
    one-value same n h =
        sym (named-picked ours key shared n (all-there ours key shared ours-long (among-in ours shared ours-among)) h)
        ∙ ap (λ (vs : List Value). named shared vs n) same
        ∙ named-picked theirs other shared n (all-there theirs other shared theirs-long (among-in theirs shared theirs-among)) h

    pub by-name : left_values e key ≡ right_values e other → AgreeByName e key other
    by-name same n v w own its =
        let here : named ours key n ≡ Some v = sym (value-named n (identifiers e.left) key) ∙ own in
        let there : named theirs other n ≡ Some w = sym (value-named n (identifiers e.right) other) ∙ its in
        let in_both : is_in shared n ≡ true = both-have n ∙ both (is_in ours n) (is_in theirs n) (named-in ours key n v here) (named-in theirs other n w there) in
        some-same v w (sym here ∙ one-value (sym (key-picked e.left (common e) key) ∙ same ∙ key-picked e.right (common e) other) n in_both ∙ there)

    pub from-names : AgreeByName e key other → left_values e key ≡ right_values e other
    from-names all =
        key-picked e.left (common e) key
        ∙ picked-same ours theirs key other shared (λ n h.
        let v = value-of (named ours key n) (named-there ours key n ours-long (ours-among n h)) in
        let w = value-of (named theirs other n) (named-there theirs other n theirs-long (theirs-among n h)) in
        v.1 ∙ ap Some (all n v.0 w.0 (value-named n (identifiers e.left) key ∙ v.1) (value-named n (identifiers e.right) other ∙ w.1)) ∙ sym w.1)
        ∙ sym (key-picked e.right (common e) other)

  pub agree-same : (key other : List Value) → agree e key other ≡ true → left_values e key ≡ right_values e other
  agree-same key other h = sym (tied key_cmp-IsTotalOrder key_cmp-IsAntisymmetric (right_values e other) (left_values e key) h)

  pub same-agree : (key other : List Value) → left_values e key ≡ right_values e other → agree e key other ≡ true
  same-agree key other same = subst (λ (vs : List Value). eq_by_cmp key_cmp vs (left_values e key) ≡ true) same (tied_to_itself key_cmp-IsTotalOrder (left_values e key))

  pub agree-by_name : (key other : List Value) → length key ≡ length (identifiers e.left) → length other ≡ length (identifiers e.right) → (agree e key other ≡ true) ↔ AgreeByName e key other
  agree-by_name key other long so = (λ h. by-name key other long so (agree-same key other h), λ all. same-agree key other (from-names key other long so all))

-- ---- keys that are met

-- one of the keys passes
any-listed : (p : List Value → Bool) (ks : List (List Value)) → list_any p ks ≡ true → (k : List Value) × (is_listed key_cmp ks k ≡ true) × (p k ≡ true)
any-listed p [] h = cc
any-listed p (k ∷ ks) h = by_test (p k) refl h (any-listed p ks)
  where
    by_test : (b : Bool) → p k ≡ b → (b || list_any p ks) ≡ true → (list_any p ks ≡ true → (j : List Value) × (is_listed key_cmp ks j ≡ true) × (p j ≡ true)) → (j : List Value) × (is_listed key_cmp (k ∷ ks) j ≡ true) × (p j ≡ true)
    by_test true e i later = (k, either-left (eq_by_cmp key_cmp k k) (is_listed key_cmp ks k) (tied_to_itself key_cmp-IsTotalOrder k), e)
    by_test false e i later = let found = later i in (found.0, either-right (eq_by_cmp key_cmp found.0 k) (is_listed key_cmp ks found.0) found.1, found.2)

listed-any : (p : List Value → Bool) (k : List Value) (ks : List (List Value)) → is_listed key_cmp ks k ≡ true → p k ≡ true → list_any p ks ≡ true
listed-any p k [] h passes = cc
listed-any p k (j ∷ js) h passes = by_test (eq_by_cmp key_cmp k j) refl h (λ i. listed-any p k js i passes)
  where
    by_test : (b : Bool) → eq_by_cmp key_cmp k j ≡ b → (b || is_listed key_cmp js k) ≡ true → (is_listed key_cmp js k ≡ true → list_any p js ≡ true) → (p j || list_any p js) ≡ true
    by_test true e i later = either-left (p j) (list_any p js) (subst (λ (q : List Value). p q ≡ true) (tied key_cmp-IsTotalOrder key_cmp-IsAntisymmetric k j e) passes)
    by_test false e i later = either-right (p j) (list_any p js) (later i)

module _ (e : ExistsOn) (b : DataSet) (key : List Value) where
  pub met-by : (is_met e b key ≡ true) ↔ ((other : List Value) × (is_some (get b other) ≡ true) × (agree e key other ≡ true))
  met-by = (
    λ h. let found = any-listed (agree e key) (keys b) h in (found.0, sym (is_listed-keys key_cmp-IsTotalOrder b found.0) ∙ found.1, found.2),
    λ found. listed-any (agree e key) found.0 (keys b) (is_listed-keys key_cmp-IsTotalOrder b found.0 ∙ found.1) found.2,
  )

  length-keys : length (keys b) ≡ len b
  length-keys = length-map (entries b) (λ (p : List Value × List Value). p.0) ∙ sym (len-entries b)

  some-any : (p : List Value → Bool) (ks : List (List Value)) → list_any p ks ≡ true → 0 < length ks
  some-any p [] h = cc
  some-any p (k ∷ ks) h = omega arith

  all-any : (p : List Value → Bool) (ks : List (List Value)) → ((k : List Value) → p k ≡ true) → 0 < length ks → list_any p ks ≡ true
  all-any p [] all h = absurd (omega (arith, h))
  all-any p (k ∷ ks) all h = either-left (p k) (list_any p ks) (all k)

  pub met-apart : common e ≡ [] → (is_met e b key ≡ true) ↔ (0 < len b)
  met-apart none = (
    λ h. subst (λ n. 0 < n) length-keys (some-any (agree e key) (keys b) h),
    λ h. all-any (agree e key) (keys b) (λ other. same-agree e key other (ap (λ (cs : List Component). key_between e.left cs key) none ∙ sym (ap (λ (cs : List Component). key_between e.right cs other) none))) (subst (λ n. 0 < n) (sym length-keys) h),
  )
