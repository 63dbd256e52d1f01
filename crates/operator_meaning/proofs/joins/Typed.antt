-- What a well typed join is: the identifiers of its operands, and those that have all.
use Rattle.std.proofs.Common.{◌≡◌, ◌≢◌, ℕ, List, [], ◌∷◌, map, length, Bool, true, false, ◌||◌, refl, sym, ap, subst, ◌∙◌, arith}
use Rattle.std.specs.List.{All, Contains, list_any}
use Rattle.std.proofs.lemmas.List.{length-map}
use Rattle.std.proofs.lemmas.List.Elements.{All-nil, All-cons, All-head, All-tail, All-weaker, All-map, All-contains, Contains-get_or, Contains-append_right}
use Rattle.std.proofs.lemmas.List.Sums.{AllPass-from_list_all}
use Rattle.vtl_values.specs.Structures.{IsStructure}
use Rattle.vtl_values.specs.Texts.{same_text}
use Rattle.vtl_values.specs.declared.kind.Role.TheVariants.{Identifier}
use Rattle.vtl_values.specs.declared.structure.Component.{Component}
use Rattle.vtl_values.specs.declared.value.Value.{Value}
use Rattle.vtl_syntax.specs.declared.words.JoinFunction.{JoinFunction}
use Rattle.vtl_syntax.specs.declared.words.JoinFunction.TheVariants.{Inner, Left, Full, Cross}
use Rattle.point_sets.specs.DataSets.{DataSet}
use Rattle.clause_meaning.specs.Clauses.{values_at}
use Rattle.data_set_trees.specs.clauses.Frames.{has_role}
use Rattle.data_set_trees.specs.Components.{identifiers, include, is_same}
use Rattle.data_set_trees.specs.Joins.{gathered, join_identifiers}
use Rattle.operator_meaning.proofs.pairs.Names.{same-true, picked, is_in, Apart, Among, either-left, either-right, length-among, picked-through, picked-back}
use Rattle.operator_meaning.proofs.pairs.Keys.{names, names-apart, same-in}
use Rattle.operator_meaning.specs.joins.Joins.{JoinOn, join_on, key_components, numbers_among, places_of, own_places, is_whole, join_key, whole_keys, join_keys}
use Rattle.operator_meaning.specs.joins.Typed.{IsTypedJoinOn}
use Rattle.operator_meaning.proofs.joins.Numbers.{values-picked}
use Rattle.operator_meaning.proofs.joins.Gathered.{gathered-all, gathered-in, gathered-apart}

-- ---- lists

-- what some of them passes
pub any-of : {A : Type 0} (p : A → Bool) (xs : List A) → All (λ x. p x ≡ true → list_any p xs ≡ true) xs
any-of p [] = All-nil (λ x. p x ≡ true → list_any p [] ≡ true)
any-of p (y ∷ ys) =
    All-cons (λ x. p x ≡ true → list_any p (y ∷ ys) ≡ true) y ys (either-left (p y) (list_any p ys))
    (All-weaker (λ x. p x ≡ true → list_any p ys ≡ true) (λ x. p x ≡ true → list_any p (y ∷ ys) ≡ true) (λ x h passes. either-right (p y) (list_any p ys) (h passes)) ys (any-of p ys))

pub list_any-map : {A B : Type 0} (p : B → Bool) (f : A → B) (xs : List A) → list_any p (map f xs) ≡ list_any (λ x. p (f x)) xs
list_any-map p f [] = refl
list_any-map p f (x ∷ xs) = ap (λ b. p (f x) || b) (list_any-map p f xs)

pub some-contained : {A : Type 0} (p : A → Bool) (xs : List A) → list_any p xs ≡ true → (x : A) × Contains xs x × (p x ≡ true)
some-contained p [] h = cc
some-contained {A = A} p (x ∷ xs) h = by_test (p x) refl (some-contained p xs) h
  where
    by_test : (b : Bool) → p x ≡ b → (list_any p xs ≡ true → (y : A) × Contains xs y × (p y ≡ true)) → (b || list_any p xs) ≡ true → (y : A) × Contains (x ∷ xs) y × (p y ≡ true)
    by_test true e later i = (x, Contains-get_or (x ∷ xs) 0 x (omega arith), e)
    by_test false e later i = let found = later i in (found.0, Contains-append_right (x ∷ []) xs found.0 found.1, found.2)

-- ---- by the function

-- but for a cross join identifiers of one name are one
pub together : (f : JoinFunction) (ss : List (List Component)) → f ≢ Cross → join_identifiers f ss ≡ gathered [] (map identifiers ss)
together Inner ss h = refl
together Left ss h = refl
together Full ss h = refl
together Cross ss h = absurd (h refl)

places-on : (f : JoinFunction) (ss : List (List Component)) (t : List Component) → f ≢ Cross → own_places (join_on f ss t) ≡ map (places_of (join_on f ss t)) ss
places-on Inner ss t h = refl
places-on Left ss t h = refl
places-on Full ss t h = refl
places-on Cross ss t h = absurd (h refl)

keys-on : (f : JoinFunction) (ss : List (List Component)) (t : List Component) (sets : List DataSet) → f ≢ Cross → join_keys (join_on f ss t) sets ≡ whole_keys (join_on f ss t) sets
keys-on Inner ss t sets h = refl
keys-on Left ss t sets h = refl
keys-on Full ss t sets h = refl
keys-on Cross ss t sets h = absurd (h refl)

-- ---- names and kinds

-- each has one of its name and kind among those
abbrev pub AreIn : List Component → List Component → Type 0
AreIn cs ds = All (λ d. list_any (is_same d) cs ≡ true) ds

among-same : (cs ds : List Component) → AreIn cs ds → Among (names cs) (names ds)
among-same cs [] all n h = cc
among-same cs (d ∷ ds) all n h = by_name (same_text n d.name) refl (among-same cs ds (All-tail (λ e. list_any (is_same e) cs ≡ true) d ds all) n) h
  where
    by_name : (b : Bool) → same_text n d.name ≡ b → (is_in (names ds) n ≡ true → is_in (names cs) n ≡ true) → (b || is_in (names ds) n) ≡ true → is_in (names cs) n ≡ true
    by_name true same later i = subst (λ (m : List ℕ). is_in (names cs) m ≡ true) (sym (same-true n d.name same)) (same-in d cs (All-head (λ e. list_any (is_same e) cs ≡ true) d ds all))
    by_name false same later i = later i

module _ (j : JoinOn) (typed : IsTypedJoinOn j) (apart : j.function ≢ Cross) where
  gathered-are : key_components j ≡ gathered [] (map identifiers j.operands)
  gathered-are = together j.function j.operands apart

  pub places-are : own_places j ≡ map (places_of j) j.operands
  places-are = places-on j.function j.operands j.structure apart

  pub keys-are : (sets : List DataSet) → join_keys j sets ≡ whole_keys j sets
  keys-are sets = keys-on j.function j.operands j.structure sets apart

  -- each identifier of an operand is one of the join
  pub has-own : All (λ s. Among (names (key_components j)) (names (identifiers s))) j.operands
  has-own k d within n h =
      ap (λ (cs : List Component). is_in (names cs) n) gathered-are
      ∙ gathered-in [] (map identifiers j.operands) n
      ∙ list_any-map (λ (cs : List Component). is_in (names cs) n) identifiers j.operands
      ∙ any-of (λ t. is_in (names (identifiers t)) n) j.operands k d within h

  keys-apart : Apart (names (key_components j))
  keys-apart =
      subst (λ (cs : List Component). Apart (names cs)) (sym gathered-are)
      (gathered-apart [] (map identifiers j.operands) tt
      (All-map (λ (cs : List Component). Apart (names cs)) identifiers j.operands
      (All-weaker IsStructure (λ s. Apart (names (identifiers s))) (λ s is. names-apart (has_role Identifier) s is.names_differ) j.operands typed.structures)))

  -- and an operand with all identifiers has those of the join
  pub has-all : (s : List Component) → is_whole j s ≡ true → AreIn (identifiers s) (key_components j)
  has-all s whole =
      let P : Component → Type 0 = λ d. list_any (is_same d) (identifiers s) ≡ true in
      let each : All (λ t. include (identifiers s) (identifiers t) ≡ true) j.operands = AllPass-from_list_all (λ t. include (identifiers s) (identifiers t)) j.operands whole in
      subst (AreIn (identifiers s)) (sym gathered-are)
      (gathered-all P [] (map identifiers j.operands) (All-nil P)
      (All-map (All P) identifiers j.operands
      (All-weaker (λ t. include (identifiers s) (identifiers t) ≡ true) (λ t. All P (identifiers t)) (λ t h. AllPass-from_list_all (λ d. list_any (is_same d) (identifiers s)) (identifiers t) h) j.operands each)))

  module _ (s : List Component) (there : Contains j.operands s) (whole : is_whole j s ≡ true) where
    own-apart : Apart (names (identifiers s))
    own-apart = names-apart (has_role Identifier) s (All-contains IsStructure j.operands s typed.structures there).names_differ

    join-has : Among (names (key_components j)) (names (identifiers s))
    join-has = All-contains (λ t. Among (names (key_components j)) (names (identifiers t))) j.operands s has-own there

    own-has : Among (names (identifiers s)) (names (key_components j))
    own-has = among-same (identifiers s) (key_components j) (has-all s whole)

    module _ (own : List Value) (long : length own ≡ length (identifiers s)) where
      its_names : length own ≡ length (names (identifiers s))
      its_names = long ∙ sym (length-map (identifiers s) (λ (c : Component). c.name))

      pub key-picked : join_key j s own ≡ picked (names (identifiers s)) (names (key_components j)) own
      key-picked = values-picked (identifiers s) (key_components j) own

      pub key-long : length (join_key j s own) ≡ length (key_components j)
      key-long =
          ap length key-picked ∙ length-among (names (identifiers s)) (names (key_components j)) own its_names own-has
          ∙ length-map (key_components j) (λ (c : Component). c.name)

      pub key-back : values_at (places_of j s) (join_key j s own) ≡ own
      key-back =
          values-picked (key_components j) (identifiers s) (join_key j s own)
          ∙ ap (picked (names (key_components j)) (names (identifiers s))) key-picked
          ∙ picked-back (names (identifiers s)) (names (key_components j)) own its_names own-has own-apart join-has

      pub key-partner : (t : List Component) → Contains j.operands t → values_at (places_of j t) (join_key j s own) ≡ values_at (numbers_among (identifiers s) (identifiers t)) own
      key-partner t its =
          values-picked (key_components j) (identifiers t) (join_key j s own)
          ∙ ap (picked (names (key_components j)) (names (identifiers t))) key-picked
          ∙ picked-through (names (identifiers s)) (names (key_components j)) own its_names own-has (names (identifiers t)) (All-contains (λ u. Among (names (key_components j)) (names (identifiers u))) j.operands t has-own its)
          ∙ sym (values-picked (identifiers s) (identifiers t) own)

    pub key-forth : (key : List Value) → length key ≡ length (key_components j) → join_key j s (values_at (places_of j s) key) ≡ key
    key-forth key long =
        values-picked (identifiers s) (key_components j) (values_at (places_of j s) key)
        ∙ ap (picked (names (identifiers s)) (names (key_components j))) (values-picked (key_components j) (identifiers s) key)
        ∙ picked-back (names (key_components j)) (names (identifiers s)) key (long ∙ sym (length-map (key_components j) (λ (c : Component). c.name))) join-has keys-apart own-has

    -- as long as its identifiers
    pub own-long : (key : List Value) → length key ≡ length (key_components j) → length (values_at (places_of j s) key) ≡ length (identifiers s)
    own-long key long =
        ap length (values-picked (key_components j) (identifiers s) key)
        ∙ length-among (names (key_components j)) (names (identifiers s)) key (long ∙ sym (length-map (key_components j) (λ (c : Component). c.name))) join-has
        ∙ length-map (identifiers s) (λ (c : Component). c.name)
