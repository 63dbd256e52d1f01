-- Components of structures that are alike.
use Rattle.std.proofs.Common.{◌≡◌, ◌≤◌, ℕ, List, [], ◌∷◌, map, length, Bool, true, false, not, ◌&&◌, ◌||◌, cond, if◌then◌else◌, refl, sym, ap, subst, ◌∙◌, arith}
use Rattle.std.specs.Prelude.{filter, nat_eq}
use Rattle.std.specs.List.{list_any, list_all}
use Rattle.std.specs.Cmp.Lexicographic.{pointwise}
use Rattle.std.proofs.lemmas.Bool.{eqb-true, eq-eqb}
use Rattle.std.proofs.lemmas.List.{length-map}
use Rattle.std.proofs.lemmas.List.Filters.{length-filter_both}
use Rattle.std.proofs.lemmas.Slice.Eq.{slice_eq-Decides}
use Rattle.vtl_values.specs.Structures.{IsStructure}
use Rattle.vtl_values.specs.Texts.{same_text}
use Rattle.vtl_values.specs.declared.kind.Role.{Role}
use Rattle.vtl_values.specs.declared.kind.Role.TheVariants.{Identifier, Measure, Attribute, Viral}
use Rattle.vtl_values.specs.declared.structure.Codes.{Codes}
use Rattle.vtl_values.specs.declared.structure.Codes.TheVariants.{Any, Listed}
use Rattle.vtl_values.specs.declared.structure.Component.{Component}
use Rattle.vtl_values.proofs.StructureNames.{same_text-Decides}
use Rattle.structured_sets.specs.Fitting.{is_identifier}
use Rattle.scalar_trees.specs.WellTyped.{is_kind}
use Rattle.scalar_trees.proofs.typing.Sound.{is_kind-refl, left, right, both}
use Rattle.data_set_trees.specs.clauses.Frames.{is_role, has_role}
use Rattle.data_set_trees.proofs.clauses.Ordered.{role_is}
use Rattle.clause_meaning.proofs.Fits.{same_test}
use Rattle.data_set_trees.specs.Components.{unlisted, is_same, same_codes, is_alike, are_alike}
use Rattle.operator_meaning.proofs.pairs.Names.{same-true, same-refl, is_in, are_in, Apart, Among, either-left, either-right}
use Rattle.operator_meaning.proofs.pairs.Keys.{names, names-apart}
use Rattle.operator_meaning.proofs.sets.Counted.{no-more, all-of-them}

-- ---- a structure is alike itself

is_role-refl : (r : Role) → is_role r r ≡ true
is_role-refl Identifier = refl
is_role-refl Measure = refl
is_role-refl Attribute = refl
is_role-refl Viral = refl

same_codes-refl : (a : Codes) → same_codes a a ≡ true
same_codes-refl Any = refl
same_codes-refl (Listed a) = (slice_eq-Decides same_text-Decides a a (pointwise same_text a a) refl).1 refl

alike-itself : (c : Component) → is_alike c c ≡ true
alike-itself c =
    both (is_same c c && is_role c.role c.role) (not (has_role Viral c) || same_codes c.codes c.codes)
    (both (is_same c c) (is_role c.role c.role) (both (same_text c.name c.name) (is_kind c.kind c.kind) (same-refl c.name) (is_kind-refl c.kind)) (is_role-refl c.role))
    (either-right (not (has_role Viral c)) (same_codes c.codes c.codes) (same_codes-refl c.codes))

-- each is alike one of those
abbrev pub Found : List Component → List Component → Type 0
Found cs ds = list_all (λ c. list_any (is_alike c) ds) cs ≡ true

found-later : (d : Component) (cs ds : List Component) → Found cs ds → Found cs (d ∷ ds)
found-later d [] ds h = refl
found-later d (c ∷ cs) ds h =
    let own = list_any (is_alike c) ds in
    let rest = list_all (λ b. list_any (is_alike b) ds) cs in
    both (is_alike c d || own) (list_all (λ b. is_alike b d || list_any (is_alike b) ds) cs) (either-right (is_alike c d) own (left own rest h)) (found-later d cs ds (right own rest h))

found-itself : (cs : List Component) → Found cs cs
found-itself [] = refl
found-itself (c ∷ cs) = both (is_alike c c || list_any (is_alike c) cs) (list_all (λ b. is_alike b c || list_any (is_alike b) cs) cs) (either-left (is_alike c c) (list_any (is_alike c) cs) (alike-itself c)) (found-later c cs cs (found-itself cs))

pub are_alike-itself : (cs : List Component) → are_alike cs cs ≡ true
are_alike-itself cs = both (nat_eq (length cs) (length cs)) (list_all (λ c. list_any (is_alike c) cs) cs) (eq-eqb (length cs) (length cs) refl) (found-itself cs)

-- ---- what alike components have

module _ (c d : Component) (alike : is_alike c d ≡ true) where
  first_part : (is_same c d && is_role c.role d.role) ≡ true
  first_part = left (is_same c d && is_role c.role d.role) (not (has_role Viral c) || same_codes c.codes d.codes) alike

  pub alike-named : same_text c.name d.name ≡ true
  alike-named = left (same_text c.name d.name) (is_kind c.kind d.kind) (left (is_same c d) (is_role c.role d.role) first_part)

  pub alike-kind : is_kind c.kind d.kind ≡ true
  alike-kind = right (same_text c.name d.name) (is_kind c.kind d.kind) (left (is_same c d) (is_role c.role d.role) first_part)

  pub alike-role : c.role ≡ d.role
  alike-role = role_is c.role d.role (right (is_same c d) (is_role c.role d.role) first_part)

  pub alike-codes : has_role Viral c ≡ true → same_codes c.codes d.codes ≡ true
  alike-codes has = subst (λ b. (not b || same_codes c.codes d.codes) ≡ true) has (right (is_same c d && is_role c.role d.role) (not (has_role Viral c) || same_codes c.codes d.codes) alike)

pub found-named : (c : Component) (ds : List Component) → list_any (is_alike c) ds ≡ true → is_in (names ds) c.name ≡ true
found-named c [] h = cc
found-named c (d ∷ ds) h = by_test (found-named c ds) (is_alike c d) refl h
  where
    by_test : (list_any (is_alike c) ds ≡ true → is_in (names ds) c.name ≡ true) → (b : Bool) → is_alike c d ≡ b → (b || list_any (is_alike c) ds) ≡ true → (same_text c.name d.name || is_in (names ds) c.name) ≡ true
    by_test later true e i = either-left (same_text c.name d.name) (is_in (names ds) c.name) (alike-named c d e)
    by_test later false e i = either-right (same_text c.name d.name) (is_in (names ds) c.name) (later i)

pub all-named : (cs ds : List Component) → Found cs ds → are_in (names ds) (names cs) ≡ true
all-named [] ds h = refl
all-named (c ∷ cs) ds h =
    let own = list_any (is_alike c) ds in
    let rest = list_all (λ b. list_any (is_alike b) ds) cs in
    both (is_in (names ds) c.name) (are_in (names ds) (names cs)) (found-named c ds (left own rest h)) (all-named cs ds (right own rest h))

pub among-all : (ns ms : List (List ℕ)) → are_in ns ms ≡ true → Among ns ms
among-all ns [] all n h = cc
among-all ns (m ∷ ms) all n h = by_test (among-all ns ms (right (is_in ns m) (are_in ns ms) all) n) (same_text n m) refl h
  where
    by_test : (is_in ms n ≡ true → is_in ns n ≡ true) → (b : Bool) → same_text n m ≡ b → (b || is_in ms n) ≡ true → is_in ns n ≡ true
    by_test later true e i = subst (λ (k : List ℕ). is_in ns k ≡ true) (sym (same-true n m e)) (left (is_in ns m) (are_in ns ms) all)
    by_test later false e i = later i

-- ---- of the components that pass a test of the role

pub passing-same : (q : Component → Bool) → ((c : Component) → q (unlisted c) ≡ q c) → (cs : List Component) → filter q (map unlisted cs) ≡ map unlisted (filter q cs)
passing-same q same [] = refl
passing-same q same (c ∷ cs) = ap (λ b. cond b (unlisted c ∷ filter q (map unlisted cs)) (filter q (map unlisted cs))) (same c) ∙ by_test (passing-same q same cs) (q c)
  where
    by_test : filter q (map unlisted cs) ≡ map unlisted (filter q cs) → (b : Bool) → cond b (unlisted c ∷ filter q (map unlisted cs)) (filter q (map unlisted cs)) ≡ map unlisted (cond b (c ∷ filter q cs) (filter q cs))
    by_test later true = ap (λ (xs : List Component). unlisted c ∷ xs) later
    by_test later false = later

module _ (q : Component → Bool) (by_role : (c d : Component) → c.role ≡ d.role → q c ≡ q d) where
  found-one : (c : Component) → q c ≡ true → (ds : List Component) → list_any (is_alike c) ds ≡ true → list_any (is_alike c) (filter q ds) ≡ true
  found-one c passes [] h = cc
  found-one c passes (d ∷ ds) h = by_test (found-one c passes ds) (is_alike c d) refl (q d) refl h
    where
      by_test : (list_any (is_alike c) ds ≡ true → list_any (is_alike c) (filter q ds) ≡ true) → (b : Bool) → is_alike c d ≡ b → (e : Bool) → q d ≡ e → (b || list_any (is_alike c) ds) ≡ true → list_any (is_alike c) (cond e (d ∷ filter q ds) (filter q ds)) ≡ true
      by_test later true is true own i = either-left (is_alike c d) (list_any (is_alike c) (filter q ds)) is
      by_test later true is false own i = let same : q c ≡ q d = by_role c d (alike-role c d is) in cc
      by_test later false is true own i = either-right (is_alike c d) (list_any (is_alike c) (filter q ds)) (later i)
      by_test later false is false own i = later i

  pub found-passing : (cs ds : List Component) → Found cs ds → Found (filter q cs) (filter q ds)
  found-passing [] ds h = refl
  found-passing (c ∷ cs) ds h = by_test (q c) refl (left own rest h) (found-passing cs ds (right own rest h))
    where
      own : Bool
      own = list_any (is_alike c) ds

      rest : Bool
      rest = list_all (λ b. list_any (is_alike b) ds) cs

      by_test : (b : Bool) → q c ≡ b → list_any (is_alike c) ds ≡ true → Found (filter q cs) (filter q ds) → Found (cond b (c ∷ filter q cs) (filter q cs)) (filter q ds)
      by_test true passes here later = both (list_any (is_alike c) (filter q ds)) (list_all (λ b. list_any (is_alike b) (filter q ds)) (filter q cs)) (found-one c passes ds here) later
      by_test false passes here later = later

-- ---- two structures

pub is_identifier-by_role : (c d : Component) → c.role ≡ d.role → is_identifier c ≡ is_identifier d
is_identifier-by_role c d same = same_test c c.role ∙ ap (is_role Identifier) same ∙ sym (same_test d d.role)

pub other-by_role : (c d : Component) → c.role ≡ d.role → not (is_identifier c) ≡ not (is_identifier d)
other-by_role c d same = ap not (is_identifier-by_role c d same)

abbrev pub ids : List Component → List Component
ids = filter is_identifier

abbrev pub rest : List Component → List Component
rest = filter (λ c. not (is_identifier c))

pub unlisted-identifier : (c : Component) → is_identifier (unlisted c) ≡ is_identifier c
unlisted-identifier c = elim (has_role Viral c) as (λ b. is_identifier (if b then c else record c { codes = Any }) ≡ is_identifier c) [ true ↦ refl | false ↦ refl ]

pub unlisted-other : (c : Component) → not (is_identifier (unlisted c)) ≡ not (is_identifier c)
unlisted-other c = ap not (unlisted-identifier c)

module _ (first ds : List Component) (alike : are_alike first ds ≡ true) (first_is : IsStructure first) (other_is : IsStructure ds) where
  found : Found first ds
  found = right (nat_eq (length first) (length ds)) (list_all (λ c. list_any (is_alike c) ds) first) alike

  long : length first ≡ length ds
  long = eqb-true (length first) (length ds) (left (nat_eq (length first) (length ds)) (list_all (λ c. list_any (is_alike c) ds) first) alike)

  pub ids-found : Found (ids first) (ids ds)
  ids-found = found-passing is_identifier is_identifier-by_role first ds found

  pub rest-found : Found (rest first) (rest ds)
  rest-found = found-passing (λ c. not (is_identifier c)) other-by_role first ds found

  long-names : (cs : List Component) → length (names cs) ≡ length cs
  long-names cs = length-map cs (λ (c : Component). c.name)

  ids-apart : Apart (names (ids first))
  ids-apart = names-apart is_identifier first first_is.names_differ

  rest-apart : Apart (names (rest first))
  rest-apart = names-apart (λ c. not (is_identifier c)) first first_is.names_differ

  -- there are as many of both parts
  ids-many : length (names (ids ds)) ≤ length (names (ids first))
  ids-many =
      let fewer = no-more (names (rest first)) (names (rest ds)) rest-apart (all-named (rest first) (rest ds) rest-found) in
      let one = length-filter_both is_identifier (λ c. not (is_identifier c)) (λ c. refl) first in
      let other = length-filter_both is_identifier (λ c. not (is_identifier c)) (λ c. refl) ds in
      let a = long-names (rest first) in
      let b = long-names (rest ds) in
      let c = long-names (ids first) in
      let d = long-names (ids ds) in
      let same = long in
      omega (arith, fewer, one, other, a, b, c, d, same)

  -- the identifiers of the one are those of the other
  pub ids-among : Among (names (ids ds)) (names (ids first))
  ids-among = among-all (names (ids ds)) (names (ids first)) (all-named (ids first) (ids ds) ids-found)

  pub ids-back : Among (names (ids first)) (names (ids ds))
  ids-back = all-of-them (names (ids first)) (names (ids ds)) ids-apart (all-named (ids first) (ids ds) ids-found) ids-many
