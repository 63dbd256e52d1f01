-- Components that are a structure.
use Rattle.std.proofs.Common.{◌≡◌, ◌≢◌, refl, ℕ, ◌≤◌, Bool, true, false, not, ◌&&◌, ◌||◌, List, [], ◌∷◌, ◌++◌, Some, map, get_or, ap, sym, subst, ◌∙◌, if◌then◌else◌, arith}
use Rattle.std.specs.List.{All, AllPairs, filter}
use Rattle.std.proofs.lemmas.Bool.{false≢true}
use Rattle.std.proofs.lemmas.Cmp.{nat_list_eq_equiv}
use Rattle.std.proofs.lemmas.List.Elements.{All-nil, All-cons, All-head, All-tail, All-append, All-map, All-weaker, All-filter, filter_passes}
use Rattle.std.proofs.lemmas.List.Kept.{AllPairs-cons}
use Rattle.vtl_values.specs.Texts.{same_text}
use Rattle.vtl_values.specs.declared.kind.Kind.{Kind}
use Rattle.vtl_values.specs.declared.kind.Role.{Role}
use Rattle.vtl_values.specs.declared.kind.Role.TheVariants.{Identifier, Measure, Viral}
use Rattle.vtl_values.specs.declared.structure.Codes.TheVariants.{Any}
use Rattle.vtl_values.specs.declared.structure.Component.{Component}
use Rattle.vtl_values.specs.Structures.{IsStructure, FitsCodes, place_of}
use Rattle.data_set_trees.specs.declared.clauses.clause.CheckedMeasure.{CheckedMeasure}
use Rattle.data_set_trees.specs.clauses.Frames.{is_role, has_role}
use Rattle.data_set_trees.specs.clauses.After.{made, always_stays}
use Rattle.data_set_trees.proofs.clauses.Parts.{pairs_head, pairs_tail}
use Rattle.data_set_trees.proofs.clauses.Ordered.{role_is, pairs_append}
use Rattle.data_set_trees.specs.Components.{identifiers, virals, unlisted, further, has_name, is_taken, names_differ}
use Rattle.data_set_trees.specs.Lifted.{is_free}
use Rattle.data_set_trees.specs.Pairs.{measure_component, joined}
use Rattle.data_set_parts.specs.Joins.{IsSound, IsOf, both, by_parts}

-- ---- tests

pub both_true : (a b : Bool) → (a && b) ≡ true → (a ≡ true) × (b ≡ true)
both_true true b is = (refl, is)
both_true false b is = absurd (false≢true is)

not_either : (a b : Bool) → not (a || b) ≡ true → (not a ≡ true) × (not b ≡ true)
not_either true b is = absurd (false≢true is)
not_either false b is = (refl, is)

-- ---- names

apart : (name : List ℕ) (c : Component) → not (has_name name c) ≡ true → name ≢ c.name
apart name c other same =
    let is : same_text name c.name ≡ true = subst (λ (n : List ℕ). same_text name n ≡ true) same (nat_list_eq_equiv.refl name) in
    false≢true (ap not (sym is) ∙ other)

pub free_from : (name : List ℕ) (cs : List Component) → not (is_taken name cs) ≡ true → All (λ c. name ≢ c.name) cs
free_from name [] free = All-nil (λ c. name ≢ c.name)
free_from name (c ∷ cs) free =
    let both = not_either (has_name name c) (is_taken name cs) free in
    All-cons (λ c. name ≢ c.name) c cs (apart name c both.0) (free_from name cs both.1)

-- what holds of those that pass holds of each, if it passes
passing_one : (P : Component → Type 0) (q : Component → Bool) (c : Component) (cs rest : List Component) (b : Bool) → q c ≡ b → All P (if b then c ∷ rest else rest) → (All P rest → All (λ d. q d ≡ true → P d) cs) → All (λ d. q d ≡ true → P d) (c ∷ cs)
passing_one P q c cs rest true is all more = All-cons (λ d. q d ≡ true → P d) c cs (λ passes. All-head P c rest all) (more (All-tail P c rest all))
passing_one P q c cs rest false is all more = All-cons (λ d. q d ≡ true → P d) c cs (λ passes. absurd (false≢true (sym is ∙ passes))) (more all)

passing : (P : Component → Type 0) (q : Component → Bool) (cs : List Component) → All P (filter q cs) → All (λ d. q d ≡ true → P d) cs
passing P q [] all = All-nil (λ d. q d ≡ true → P d)
passing P q (c ∷ cs) all = passing_one P q c cs (filter q cs) (q c) refl all (passing P q cs)

all_first : (P : Component → Type 0) (xs ys : List Component) → All P (xs ++ ys) → All P xs
all_first P [] ys all = All-nil P
all_first P (x ∷ xs) ys all = All-cons P x xs (All-head P x (xs ++ ys) all) (all_first P xs ys (All-tail P x (xs ++ ys) all))

all_second : (P : Component → Type 0) (xs ys : List Component) → All P (xs ++ ys) → All P ys
all_second P [] ys all = all
all_second P (x ∷ xs) ys all = all_second P xs ys (All-tail P x (xs ++ ys) all)

by_either : (P : Type 0) (a b : Bool) → (a ≡ true → P) → (b ≡ true → P) → (a || b) ≡ true → P
by_either P true b first second is = first refl
by_either P false b first second is = second is

-- a name that is free is that of nothing that always stays
pub free_of_staying : (name : List ℕ) (cs : List Component) → is_free (Some name) cs ≡ true → All (λ c. always_stays c ≡ true → c.name ≢ name) cs
free_of_staying name cs free =
    let P : Component → Type 0 = λ c. name ≢ c.name in
    let all : All P (identifiers cs ++ virals cs) = free_from name (identifiers cs ++ virals cs) free in
    let first = passing P (has_role Identifier) cs (all_first P (identifiers cs) (virals cs) all) in
    let second = passing P (has_role Viral) cs (all_second P (identifiers cs) (virals cs) all) in
    λ k d within. λ stays. λ same.
    by_either (name ≢ (get_or cs k d).name) (has_role Identifier (get_or cs k d)) (has_role Viral (get_or cs k d)) (first k d within) (second k d within) stays (sym same)

pub names_apart : (cs : List Component) → names_differ cs ≡ true → AllPairs (λ a b. a.name ≢ b.name) cs
names_apart [] differ = λ i j d below within. absurd (omega arith)
names_apart (c ∷ cs) differ =
    let both = both_true (not (is_taken c.name cs)) (names_differ cs) differ in
    AllPairs-cons (λ a b. a.name ≢ b.name) c cs (free_from c.name cs both.0) (names_apart cs both.1)

-- ---- a component by itself

pub all_sound : (cs : List Component) → IsStructure cs → All IsSound cs
all_sound cs is = λ k d within. record { viral_listed = is.viral_listed k d within; codes_fit = is.codes_fit k d within }

pub structure_is : (cs : List Component) → AllPairs (λ a b. place_of a.role ≤ place_of b.role) cs → AllPairs (λ a b. a.name ≢ b.name) cs → All IsSound cs → IsStructure cs
structure_is cs order names all = record {
  in_order = order;
  names_differ = names;
  viral_listed = λ k d within. (all k d within).viral_listed;
  codes_fit = λ k d within. (all k d within).codes_fit;
}

plain_sound : (c : Component) → (c.role ≡ Viral → ⊥) → c.codes ≡ Any → IsSound c
plain_sound c other any = record { viral_listed = λ viral. absurd (other viral); codes_fit = subst (FitsCodes c.kind) (sym any) tt }

-- ---- without code lists

role_unlisted : (c : Component) → (unlisted c).role ≡ c.role
role_unlisted c = elim (has_role Viral c) as (λ (b : Bool). (if b then c else record c { codes = Any }).role ≡ c.role) [ true ↦ refl | false ↦ refl ]

name_unlisted : (c : Component) → (unlisted c).name ≡ c.name
name_unlisted c = elim (has_role Viral c) as (λ (b : Bool). (if b then c else record c { codes = Any }).name ≡ c.name) [ true ↦ refl | false ↦ refl ]

sound_by : (c : Component) (b : Bool) → has_role Viral c ≡ b → IsSound c → IsSound (if b then c else record c { codes = Any })
sound_by c true is sound = sound
sound_by c false is sound = plain_sound (record c { codes = Any }) (λ viral. false≢true (sym is ∙ ap (is_role Viral) viral)) refl

sound_unlisted : (c : Component) → IsSound c → IsSound (unlisted c)
sound_unlisted c sound = sound_by c (has_role Viral c) refl sound

pairs_map : (R : Component → Component → Type 0) (f : Component → Component) → ((a b : Component) → R a b → R (f a) (f b)) → (cs : List Component) → AllPairs R cs → AllPairs R (map f cs)
pairs_map R f keeps [] pairs = pairs
pairs_map R f keeps (c ∷ cs) pairs =
    AllPairs-cons R (f c) (map f cs) (All-map (R (f c)) f cs (All-weaker (R c) (λ y. R (f c) (f y)) (λ y. keeps c y) cs (pairs_head R c cs pairs))) (pairs_map R f keeps cs (pairs_tail R c cs pairs))

keeps_order : (a b : Component) → place_of a.role ≤ place_of b.role → place_of (unlisted a).role ≤ place_of (unlisted b).role
keeps_order a b order =
    let first : place_of (unlisted a).role ≡ place_of a.role = ap place_of (role_unlisted a) in
    let second : place_of (unlisted b).role ≡ place_of b.role = ap place_of (role_unlisted b) in
    omega (arith, first, second)

-- a structure without its code lists is one
pub unlisted_is : (cs : List Component) → IsStructure cs → IsStructure (map unlisted cs)
unlisted_is cs is =
    structure_is (map unlisted cs) (pairs_map (λ a b. place_of a.role ≤ place_of b.role) unlisted keeps_order cs is.in_order)
    (pairs_map (λ a b. a.name ≢ b.name) unlisted (λ a b other same. other (sym (name_unlisted a) ∙ same ∙ name_unlisted b)) cs is.names_differ)
    (All-map IsSound unlisted cs (All-weaker IsSound (λ c. IsSound (unlisted c)) sound_unlisted cs (all_sound cs is)))

-- ---- by role

-- components of a role have it
pub of_role : (r : Role) (cs : List Component) → All (λ c. r ≡ c.role) (filter (has_role r) cs)
of_role r cs = All-weaker (λ c. has_role r c ≡ true) (λ c. r ≡ c.role) (λ c. role_is r c.role) (filter (has_role r) cs) (filter_passes (has_role r) cs)

pub all_across : (R : Component → Component → Type 0) (P Q : Component → Type 0) → ((x y : Component) → P x → Q y → R x y) → (xs ys : List Component) → All P xs → All Q ys → All (λ x. All (R x) ys) xs
all_across R P Q both xs ys ps qs = λ k d within. λ j e there. both (get_or xs k d) (get_or ys j e) (ps k d within) (qs j e there)

-- identifiers, measures and viral attributes, in that order
abbrev At : ℕ → Component → Type 0
At n c = place_of c.role ≡ n

same_place : (n : ℕ) (cs : List Component) → All (At n) cs → AllPairs (λ a b. place_of a.role ≤ place_of b.role) cs
same_place n cs all = λ i j d below within. let one : At n (get_or cs i d) = all i d (omega arith) in let other : At n (get_or cs j d) = all j d within in omega (arith, one, other)

next_place : (m n : ℕ) → m ≤ n → (xs ys : List Component) → All (At m) xs → All (At n) ys → All (λ x. All (λ y. place_of x.role ≤ place_of y.role) ys) xs
next_place m n below xs ys first second = all_across (λ a b. place_of a.role ≤ place_of b.role) (At m) (At n) (λ x y one other. omega (arith, one, other)) xs ys first second

three_in_order : (xs ys zs : List Component) → All (At 0) xs → All (At 1) ys → All (At 3) zs → AllPairs (λ a b. place_of a.role ≤ place_of b.role) ((xs ++ ys) ++ zs)
three_in_order xs ys zs first second third =
    let R : Component → Component → Type 0 = λ a b. place_of a.role ≤ place_of b.role in
    pairs_append R (xs ++ ys) zs (pairs_append R xs ys (same_place 0 xs first) (same_place 1 ys second) (next_place 0 1 (omega arith) xs ys first second)) (same_place 3 zs third)
    (All-append (λ x. All (R x) zs) xs ys (next_place 0 3 (omega arith) xs zs first third) (next_place 1 3 (omega arith) ys zs second third))

pub all_of : (r : Role) (cs : List Component) → IsStructure cs → All (IsOf r) (filter (has_role r) cs)
all_of r cs is = λ k d within. record { role = of_role r cs k d within; sound = All-filter (has_role r) IsSound cs (all_sound cs is) k d within }

pub measure_made : (kind : Kind) (name : List ℕ) → IsOf Measure (made Measure kind name)
measure_made kind name = record { role = refl; sound = plain_sound (made Measure kind name) (λ viral. cc) refl }

all_at : (r : Role) (cs : List Component) → All (IsOf r) cs → All (At (place_of r)) cs
all_at r cs all = All-weaker (IsOf r) (At (place_of r)) (λ c is. ap place_of (sym is.role)) cs all

each_sound : (r : Role) (cs : List Component) → All (IsOf r) cs → All IsSound cs
each_sound r cs all = All-weaker (IsOf r) IsSound (λ c is. is.sound) cs all

unlisted_at : (r : Role) (cs : List Component) → All (IsOf r) cs → All (At (place_of r)) (map unlisted cs)
unlisted_at r cs all = All-map (At (place_of r)) unlisted cs (All-weaker (IsOf r) (λ c. At (place_of r) (unlisted c)) (λ c is. ap place_of (role_unlisted c ∙ sym is.role)) cs all)

unlisted_sound : (r : Role) (cs : List Component) → All (IsOf r) cs → All IsSound (map unlisted cs)
unlisted_sound r cs all = All-map IsSound unlisted cs (All-weaker (IsOf r) (λ c. IsSound (unlisted c)) (λ c is. sound_unlisted c is.sound) cs all)

-- where the names differ, such parts are a structure
pub parts_are : (ids ms vs : List Component) → All (IsOf Identifier) ids → All (IsOf Measure) ms → All (IsOf Viral) vs → names_differ (by_parts ids ms vs) ≡ true → IsStructure (by_parts ids ms vs)
parts_are ids ms vs first second third differ =
    structure_is (by_parts ids ms vs)
    (three_in_order (map unlisted ids) ms vs (unlisted_at Identifier ids first) (all_at Measure ms second) (all_at Viral vs third))
    (names_apart (by_parts ids ms vs) differ)
    (All-append IsSound (map unlisted ids ++ ms) vs (All-append IsSound (map unlisted ids) ms (unlisted_sound Identifier ids first) (each_sound Measure ms second)) (each_sound Viral vs third))

-- ---- the components of two structures

both_of : (r : Role) (s t : List Component) → IsStructure s → IsStructure t → All (IsOf r) (both r s t)
both_of r s t first second =
    let ours = filter (has_role r) s in
    let theirs = filter (has_role r) t in
    All-append (IsOf r) ours (further ours theirs) (all_of r s first) (All-filter (λ c. not (is_taken c.name ours)) (IsOf r) theirs (all_of r t second))

pub measures_made : (items : List CheckedMeasure) → All (IsOf Measure) (map measure_component items)
measures_made items = All-map (IsOf Measure) measure_component items (λ k d within. measure_made (get_or items k d).kind (get_or items k d).name)

-- where the names differ, they are a structure
pub joined_is : (items : List CheckedMeasure) (s t : List Component) → IsStructure s → IsStructure t → names_differ (joined items s t) ≡ true → IsStructure (joined items s t)
joined_is items s t first second differ =
    parts_are (both Identifier s t) (map measure_component items) (both Viral s t) (both_of Identifier s t first second) (measures_made items) (both_of Viral s t first second) differ
