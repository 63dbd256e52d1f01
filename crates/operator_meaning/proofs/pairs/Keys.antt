-- Keys of the operands and of the result.
use Rattle.std.proofs.Common.{◌≡◌, ◌≢◌, ℕ, List, [], ◌∷◌, ◌++◌, map, zip, length, Bool, true, false, not, ◌||◌, cond, if◌then◌else◌, Some, option_map, refl, sym, ap, subst, ◌∙◌}
use Rattle.std.specs.Prelude.{filter, filter_map, find}
use Rattle.std.specs.List.{All, AllPairs, list_any, cons_option}
use Rattle.std.proofs.lemmas.List.{map-append, length-map}
use Rattle.std.proofs.lemmas.List.Elements.{All-head, All-tail}
use Rattle.std.proofs.lemmas.List.Folds.{list_any-append}
use Rattle.vtl_values.specs.Texts.{same_text}
use Rattle.vtl_values.specs.Structures.{IsStructure}
use Rattle.vtl_values.specs.declared.kind.Role.TheVariants.{Identifier}
use Rattle.vtl_values.specs.declared.structure.Component.{Component}
use Rattle.vtl_values.specs.declared.structure.Codes.TheVariants.{Any}
use Rattle.vtl_values.specs.declared.kind.Role.TheVariants as role
use Rattle.vtl_values.specs.declared.value.Value.{Value}
use Rattle.scalar_trees.specs.WellTyped.{is_kind}
use Rattle.scalar_trees.proofs.typing.Sound.{is_kind-refl, left, right, both}
use Rattle.data_set_trees.specs.clauses.Frames.{has_role}
use Rattle.data_set_trees.proofs.clauses.Parts.{pairs_head, pairs_tail}
use Rattle.data_set_trees.specs.Components.{identifiers, further, has_name, is_taken, unlisted, is_same, include}
use Rattle.operator_meaning.specs.pairs.Pairs.{PairOn, value_where, key_between, is_left_main, main, partner, main_key, result_key, partner_key}
use Rattle.operator_meaning.specs.pairs.Typed.{IsTypedPair}
use Rattle.operator_meaning.proofs.pairs.Names.{same-true, same-refl, named, picked, is_in, Apart, Among, either-left, either-right, length-among, picked-through, picked-back}
use Rattle.operator_meaning.proofs.pairs.Joined.{both_identifiers, joined-identifiers}

abbrev pub names : List Component → List (List ℕ)
names cs = map (λ c. c.name) cs

pub value-named : (n : List ℕ) (cs : List Component) (vs : List Value) → value_where (has_name n) cs vs ≡ named (names cs) vs n
value-named n [] vs = refl
value-named n (c ∷ cs) [] = refl
value-named n (c ∷ cs) (v ∷ vs) = by_test (same_text n c.name) (value-named n cs vs)
  where
    by_test : (b : Bool) → value_where (has_name n) cs vs ≡ named (names cs) vs n → option_map (λ (q : Component × Value). q.1) (cond b (Some (c, v)) (find (λ (q : Component × Value). has_name n q.0) (zip cs vs))) ≡ cond b (Some v) (named (names cs) vs n)
    by_test true later = refl
    by_test false later = later

all-named : (fs ts : List Component) (vs : List Value) → filter_map (λ c. value_where (has_name c.name) fs vs) ts ≡ picked (names fs) (names ts) vs
all-named fs [] vs = refl
all-named fs (c ∷ cs) vs = λ i. cons_option (value-named c.name fs vs i) (all-named fs cs vs i)

pub key-picked : (from to : List Component) (key : List Value) → key_between from to key ≡ picked (names (identifiers from)) (names (identifiers to)) key
key-picked from to key = all-named (identifiers from) (identifiers to) key

-- ---- names

none-called : (q : Component → Bool) (n : List ℕ) (cs : List Component) → All (λ d. n ≢ d.name) cs → is_in (names (filter q cs)) n ≡ false
none-called q n [] all = refl
none-called q n (c ∷ cs) all = by_test (q c) (none-called q n cs (All-tail (λ d. n ≢ d.name) c cs all))
  where
    apart : (b : Bool) → same_text n c.name ≡ b → is_in (names (filter q cs)) n ≡ false → (b || is_in (names (filter q cs)) n) ≡ false
    apart true e later = absurd (All-head (λ d. n ≢ d.name) c cs all (same-true n c.name e))
    apart false e later = later

    by_test : (b : Bool) → is_in (names (filter q cs)) n ≡ false → is_in (names (cond b (c ∷ filter q cs) (filter q cs))) n ≡ false
    by_test true later = apart (same_text n c.name) refl later
    by_test false later = later

pub names-apart : (q : Component → Bool) (cs : List Component) → AllPairs (λ a b. a.name ≢ b.name) cs → Apart (names (filter q cs))
names-apart q [] pairs = tt
names-apart q (c ∷ cs) pairs = by_test (q c) (names-apart q cs (pairs_tail (λ a b. a.name ≢ b.name) c cs pairs))
  where
    by_test : (b : Bool) → Apart (names (filter q cs)) → Apart (names (cond b (c ∷ filter q cs) (filter q cs)))
    by_test true later = (none-called q c.name cs (pairs_head (λ a b. a.name ≢ b.name) c cs pairs), later)
    by_test false later = later

same-name : (c : Component) → (unlisted c).name ≡ c.name
same-name c = elim (has_role role.Viral c) as (λ b. (if b then c else record c { codes = Any }).name ≡ c.name) [ true ↦ refl | false ↦ refl ]

pub names-unlisted : (cs : List Component) → names (map unlisted cs) ≡ names cs
names-unlisted [] = refl
names-unlisted (c ∷ cs) = λ i. same-name c i ∷ names-unlisted cs i

-- ---- components of one name and kind

same-itself : (c : Component) → is_same c c ≡ true
same-itself c = both (same_text c.name c.name) (is_kind c.kind c.kind) (same-refl c.name) (is_kind-refl c.kind)

include-later : (c : Component) (cs ds : List Component) → include cs ds ≡ true → include (c ∷ cs) ds ≡ true
include-later c cs [] h = refl
include-later c cs (d ∷ ds) h =
    let own = list_any (is_same d) cs in
    both (is_same d c || own) (include (c ∷ cs) ds) (either-right (is_same d c) own (left own (include cs ds) h)) (include-later c cs ds (right own (include cs ds) h))

include-itself : (cs : List Component) → include cs cs ≡ true
include-itself [] = refl
include-itself (c ∷ cs) = both (is_same c c || list_any (is_same c) cs) (include (c ∷ cs) cs) (either-left (is_same c c) (list_any (is_same c) cs) (same-itself c)) (include-later c cs cs (include-itself cs))

include-both : (cs xs ys : List Component) → include cs xs ≡ true → include cs ys ≡ true → include cs (xs ++ ys) ≡ true
include-both cs [] ys h i = i
include-both cs (x ∷ xs) ys h i =
    let own = list_any (is_same x) cs in
    both own (include cs (xs ++ ys)) (left own (include cs xs) h) (include-both cs xs ys (right own (include cs xs) h) i)

include-some : (q : Component → Bool) (cs xs : List Component) → include cs xs ≡ true → include cs (filter q xs) ≡ true
include-some q cs [] h = refl
include-some q cs (x ∷ xs) h = by_test (q x) (left own (include cs xs) h) (include-some q cs xs (right own (include cs xs) h))
  where
    own : Bool
    own = list_any (is_same x) cs

    by_test : (b : Bool) → list_any (is_same x) cs ≡ true → include cs (filter q xs) ≡ true → include cs (cond b (x ∷ filter q xs) (filter q xs)) ≡ true
    by_test true here later = both (list_any (is_same x) cs) (include cs (filter q xs)) here later
    by_test false here later = later

pub same-in : (d : Component) (cs : List Component) → list_any (is_same d) cs ≡ true → is_in (names cs) d.name ≡ true
same-in d [] h = cc
same-in d (c ∷ cs) h = by_test (same-in d cs) (is_same d c) refl h
  where
    by_test : (list_any (is_same d) cs ≡ true → is_in (names cs) d.name ≡ true) → (b : Bool) → is_same d c ≡ b → (b || list_any (is_same d) cs) ≡ true → (same_text d.name c.name || is_in (names cs) d.name) ≡ true
    by_test later true e i = either-left (same_text d.name c.name) (is_in (names cs) d.name) (left (same_text d.name c.name) (is_kind d.kind c.kind) e)
    by_test later false e i = either-right (same_text d.name c.name) (is_in (names cs) d.name) (later i)

among-include : (cs ds : List Component) → include cs ds ≡ true → Among (names cs) (names ds)
among-include cs [] h n i = cc
among-include cs (d ∷ ds) h n i = by_test (among-include cs ds (right (list_any (is_same d) cs) (include cs ds) h) n) (same_text n d.name) refl i
  where
    by_test : (is_in (names ds) n ≡ true → is_in (names cs) n ≡ true) → (b : Bool) → same_text n d.name ≡ b → (b || is_in (names ds) n) ≡ true → is_in (names cs) n ≡ true
    by_test later true e j = subst (λ (m : List ℕ). is_in (names cs) m ≡ true) (sym (same-true n d.name e)) (same-in d cs (left (list_any (is_same d) cs) (include cs ds) h))
    by_test later false e j = later j

taken-in : (n : List ℕ) (cs : List Component) → is_taken n cs ≡ is_in (names cs) n
taken-in n [] = refl
taken-in n (c ∷ cs) = ap (λ b. same_text n c.name || b) (taken-in n cs)

in-both : (xs ys : List Component) (n : List ℕ) → is_in (names (xs ++ ys)) n ≡ (is_in (names xs) n || is_in (names ys) n)
in-both xs ys n = ap (λ (ns : List (List ℕ)). is_in ns n) (map-append (λ (c : Component). c.name) xs ys) ∙ list_any-append (same_text n) (names xs) (names ys)

-- a name of the second is one of the first or a further one
in-either : (xs ys : List Component) (n : List ℕ) → is_in (names ys) n ≡ true → (is_in (names xs) n || is_in (names (further xs ys)) n) ≡ true
in-either xs [] n h = cc
in-either xs (y ∷ ys) n h = by_test (in-either xs ys n) (same_text n y.name) refl h
  where
    first : same_text n y.name ≡ true → (b : Bool) → is_taken y.name xs ≡ b → (is_in (names xs) n || is_in (names (cond (not b) (y ∷ further xs ys) (further xs ys))) n) ≡ true
    first e true i = either-left (is_in (names xs) n) (is_in (names (further xs ys)) n) (ap (λ (m : List ℕ). is_in (names xs) m) (same-true n y.name e) ∙ sym (taken-in y.name xs) ∙ i)
    first e false i = either-right (is_in (names xs) n) (same_text n y.name || is_in (names (further xs ys)) n) (either-left (same_text n y.name) (is_in (names (further xs ys)) n) e)

    later : (b : Bool) → (is_in (names xs) n || is_in (names (further xs ys)) n) ≡ true → (is_in (names xs) n || is_in (names (cond b (y ∷ further xs ys) (further xs ys))) n) ≡ true
    later false i = i
    later true i = elim (is_in (names xs) n) as (λ b. (b || is_in (names (further xs ys)) n) ≡ true → (b || (same_text n y.name || is_in (names (further xs ys)) n)) ≡ true) [
      | true ↦ λ j. refl
      | false ↦ λ j. either-right (same_text n y.name) (is_in (names (further xs ys)) n) j
    ] i

    by_test : (is_in (names ys) n ≡ true → (is_in (names xs) n || is_in (names (further xs ys)) n) ≡ true) → (b : Bool) → same_text n y.name ≡ b → (b || is_in (names ys) n) ≡ true → (is_in (names xs) n || is_in (names (further xs (y ∷ ys))) n) ≡ true
    by_test rest true e i = first e (is_taken y.name xs) refl
    by_test rest false e i = later (not (is_taken y.name xs)) (rest i)

the-other : (a b : Bool) → (a || b) ≡ true → a ≡ false → b ≡ true
the-other true b h e = cc
the-other false b h e = h

-- ---- of a well typed pair

module _ (p : PairOn) (typed : IsTypedPair p) where
  abbrev ours : List Component
  ours = identifiers p.left

  abbrev theirs : List Component
  theirs = identifiers p.right

  abbrev all_of : List Component
  all_of = both_identifiers p.left p.right

  pub identifiers-are : identifiers p.structure ≡ map unlisted all_of
  identifiers-are = ap identifiers typed.pair.is_joined ∙ joined-identifiers p.measures p.left p.right

  pub names-are : names (identifiers p.structure) ≡ names all_of
  names-are = ap names identifiers-are ∙ names-unlisted all_of

  other-includes : is_left_main p ≡ false → include theirs ours ≡ true
  other-includes e = the-other (include ours theirs) (include theirs ours) typed.pair.identifiers_match e

  -- the main operand's identifiers include those of both, and of the result
  pub main-includes : (include (identifiers (main p)) all_of ≡ true) × (include (identifiers (main p)) (identifiers (partner p)) ≡ true)
  main-includes = by_test (is_left_main p) refl
    where
      by_test : (b : Bool) → is_left_main p ≡ b → (include (identifiers (if b then p.left else p.right)) all_of ≡ true) × (include (identifiers (if b then p.left else p.right)) (identifiers (if b then p.right else p.left)) ≡ true)
      by_test true e = (include-both ours ours (further ours theirs) (include-itself ours) (include-some (λ c. not (is_taken c.name ours)) ours theirs e), e)
      by_test false e = (include-both theirs ours (further ours theirs) (other-includes e) (include-some (λ c. not (is_taken c.name ours)) theirs theirs (include-itself theirs)), other-includes e)

  -- and each identifier of an operand is one of the result
  result-has-left : Among (names (identifiers p.structure)) (names ours)
  result-has-left n h = ap (λ (ns : List (List ℕ)). is_in ns n) names-are ∙ in-both ours (further ours theirs) n ∙ either-left (is_in (names ours) n) (is_in (names (further ours theirs)) n) h

  result-has-right : Among (names (identifiers p.structure)) (names theirs)
  result-has-right n h = ap (λ (ns : List (List ℕ)). is_in ns n) names-are ∙ in-both ours (further ours theirs) n ∙ in-either ours theirs n h

  result-has-main : Among (names (identifiers p.structure)) (names (identifiers (main p)))
  result-has-main = elim (is_left_main p) as (λ b. Among (names (identifiers p.structure)) (names (identifiers (if b then p.left else p.right)))) [ true ↦ result-has-left | false ↦ result-has-right ]

  result-has-partner : Among (names (identifiers p.structure)) (names (identifiers (partner p)))
  result-has-partner = elim (is_left_main p) as (λ b. Among (names (identifiers p.structure)) (names (identifiers (if b then p.right else p.left)))) [ true ↦ result-has-right | false ↦ result-has-left ]

  main-has-result : Among (names (identifiers (main p))) (names (identifiers p.structure))
  main-has-result n h = among-include (identifiers (main p)) all_of main-includes.0 n (sym (ap (λ (ns : List (List ℕ)). is_in ns n) names-are) ∙ h)

  main-is : IsStructure (main p)
  main-is = elim (is_left_main p) as (λ b. IsStructure (if b then p.left else p.right)) [ true ↦ typed.left_is | false ↦ typed.right_is ]

  pub main-apart : Apart (names (identifiers (main p)))
  main-apart = names-apart (has_role Identifier) (main p) main-is.names_differ

  result-apart : Apart (names (identifiers p.structure))
  result-apart = names-apart (has_role Identifier) p.structure typed.structure_is.names_differ

  long-names : (cs : List Component) (key : List Value) → length key ≡ length cs → length key ≡ length (names cs)
  long-names cs key long = long ∙ sym (length-map cs (λ (c : Component). c.name))

  module _ (key : List Value) (long : length key ≡ length (identifiers (main p))) where
    its_names : length key ≡ length (names (identifiers (main p)))
    its_names = long-names (identifiers (main p)) key long

    pub through-result : (cs : List Component) → Among (names (identifiers p.structure)) (names (identifiers cs)) → key_between p.structure cs (result_key p key) ≡ picked (names (identifiers (main p))) (names (identifiers cs)) key
    through-result cs among =
        key-picked p.structure cs (result_key p key)
        ∙ ap (picked (names (identifiers p.structure)) (names (identifiers cs))) (key-picked (main p) p.structure key)
        ∙ picked-through (names (identifiers (main p))) (names (identifiers p.structure)) key its_names main-has-result (names (identifiers cs)) among

    pub main-back : main_key p (result_key p key) ≡ key
    main-back =
        key-picked p.structure (main p) (result_key p key)
        ∙ ap (picked (names (identifiers p.structure)) (names (identifiers (main p)))) (key-picked (main p) p.structure key)
        ∙ picked-back (names (identifiers (main p))) (names (identifiers p.structure)) key its_names main-has-result main-apart result-has-main

    pub partner-same : key_between p.structure (partner p) (result_key p key) ≡ partner_key p key
    partner-same = through-result (partner p) result-has-partner ∙ sym (key-picked (main p) (partner p) key)

    pub result-long : length (result_key p key) ≡ length (identifiers p.structure)
    result-long =
        ap length (key-picked (main p) p.structure key)
        ∙ length-among (names (identifiers (main p))) (names (identifiers p.structure)) key its_names main-has-result
        ∙ length-map (identifiers p.structure) (λ (c : Component). c.name)

  pub result-back : (key : List Value) → length key ≡ length (identifiers p.structure) → result_key p (main_key p key) ≡ key
  result-back key long =
      key-picked (main p) p.structure (main_key p key)
      ∙ ap (picked (names (identifiers (main p))) (names (identifiers p.structure))) (key-picked p.structure (main p) key)
      ∙ picked-back (names (identifiers p.structure)) (names (identifiers (main p))) key (long-names (identifiers p.structure) key long) result-has-main result-apart main-has-result
