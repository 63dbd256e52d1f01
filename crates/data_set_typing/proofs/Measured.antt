-- Measures that are worked out in place of those of a data set, and its other components, are a structure.
use Rattle.std.proofs.Common.{◌≡◌, ◌≢◌, refl, ℕ, ◌+◌, ◌<◌, Bool, true, false, List, [], ◌∷◌, ◌++◌, map, length, get_or, Option, Some, None, Ok, unwrap_or, ap, sym, subst, ◌∙◌, if◌then◌else◌, arith}
use Rattle.std.specs.Prelude.{nat_eq, fold}
use Rattle.std.specs.List.{All, AllPairs, filter, filter_map, slice_get}
use Rattle.std.proofs.lemmas.Bool.{false≢true, eqb-true}
use Rattle.std.proofs.lemmas.List.{append_assoc, append-nil, get_or-map, length-map}
use Rattle.std.proofs.lemmas.List.Elements.{All-nil, All-cons, All-append, All-weaker, All-filter, filter_map-append}
use Rattle.std.proofs.lemmas.List.Kept.{AllPairs-filter}
use Rattle.vtl_values.specs.declared.kind.Kind.TheVariants.{Truth}
use Rattle.vtl_values.specs.declared.kind.Role.{Role}
use Rattle.vtl_values.specs.declared.kind.Role.TheVariants.{Identifier, Measure, Viral}
use Rattle.vtl_values.specs.declared.place.Place.{Place}
use Rattle.vtl_values.specs.declared.structure.Component.{Component}
use Rattle.vtl_values.specs.Structures.{IsStructure}
use Rattle.scalar_trees.specs.declared.typing.stop.Fault.TheVariants.{WrongType, WrongStructure, NameTwice}
use Rattle.scalar_trees.specs.declared.typing.typed.Typed.{Typed}
use Rattle.scalar_trees.specs.typing.Steps.{◌>>=◌}
use Rattle.data_set_trees.specs.declared.clauses.clause.CheckedMeasure.{CheckedMeasure}
use Rattle.data_set_trees.specs.declared.clauses.clause.CheckedClause.TheVariants as clause
use Rattle.data_set_trees.specs.declared.clauses.frame.Frame.{Frame}
use Rattle.data_set_trees.specs.clauses.Frames.{has_role, frame_of, numbers_of}
use Rattle.data_set_trees.specs.clauses.After.{made, with_measure, staying, measured}
use Rattle.data_set_trees.specs.clauses.Laws.{FitTogether}
use Rattle.data_set_trees.proofs.clauses.Parts.{left_from, picked_are, pairs_head, pairs_tail}
use Rattle.data_set_trees.proofs.clauses.Ordered.{role_is, pairs_append, orders_structures}
use Rattle.data_set_trees.specs.declared.form.Form.{Form}
use Rattle.data_set_trees.specs.declared.measure.Measure as declared
use Rattle.data_set_trees.specs.declared.operand.Operand.{Operand}
use Rattle.data_set_trees.specs.Components.{identifiers, virals, measures, measures_from}
use Rattle.data_set_trees.specs.Lifted.{answer, each_fits, has_one_if, is_free, checked_measure}
use Rattle.data_set_trees.specs.Pairs.{measure_component}
use Rattle.data_set_parts.specs.Results.{structure_after}
use Rattle.data_set_parts.specs.Walks.{each}
use Rattle.data_set_typing.specs.Plans.{measure_checked, demands_on_one, items_on_one}
use Rattle.data_set_parts.proofs.Follows.{gave, first_met}
use Rattle.data_set_parts.specs.Joins.{IsSound}
use Rattle.data_set_parts.proofs.Fits.{all_sound, free_from, unlisted_is, measures_made}

-- ---- the components that stay, and the measures

left_is_filter : (p : Component → Bool) (n : ℕ) (cs : List Component) → left_from (λ number. p) n cs ≡ filter p cs
left_is_filter p n [] = refl
left_is_filter p n (c ∷ cs) =
    let rest = left_is_filter p (n + 1) cs in
    λ i. if p c then c ∷ rest i else rest i

part_is : (r : Role) (s : List Component) → filter_map (slice_get s) (numbers_of r s) ≡ filter (has_role r) s
part_is r s = picked_are (λ number. has_role r) [] s ∙ left_is_filter (has_role r) 0 s

staying_is : (s : List Component) → (staying (frame_of s)).components ≡ identifiers s ++ virals s
staying_is s = filter_map-append (slice_get s) (numbers_of Identifier s) (numbers_of Viral s) ∙ (λ i. part_is Identifier s i ++ part_is Viral s i)

measured_from : (items : List CheckedMeasure) (f : Frame) → (fold with_measure f items).components ≡ f.components ++ map measure_component items
measured_from [] f = sym (append-nil f.components)
measured_from (m ∷ ms) f = measured_from ms (with_measure f m) ∙ append_assoc f.components (measure_component m ∷ []) (map measure_component ms)

measured_is : (items : List CheckedMeasure) (s : List Component) → (measured items (frame_of s)).components ≡ (identifiers s ++ virals s) ++ map measure_component items
measured_is items s = measured_from items (staying (frame_of s)) ∙ ap (λ (q : List Component). q ++ map measure_component items) (staying_is s)

-- ---- components of two roles

across_one : (R : Component → Component → Type 0) (c : Component) (firsts seconds : List Component) (b e : Bool) → (b ≡ true → e ≡ true → ⊥)
    → All (λ x. R x c) firsts → All (R c) seconds → All (λ x. All (R x) seconds) firsts → All (λ x. All (R x) (if e then c ∷ seconds else seconds)) (if b then c ∷ firsts else firsts)
across_one R c firsts seconds true true never to from more = absurd (never refl refl)
across_one R c firsts seconds true false never to from more = All-cons (λ x. All (R x) seconds) c firsts from more
across_one R c firsts seconds false true never to from more = λ k d within. All-cons (R (get_or firsts k d)) c seconds (to k d within) (more k d within)
across_one R c firsts seconds false false never to from more = more

across : (R : Component → Component → Type 0) → ((a b : Component) → R a b → R b a) → (p q : Component → Bool) → ((c : Component) → p c ≡ true → q c ≡ true → ⊥) → (cs : List Component) → AllPairs R cs → All (λ x. All (R x) (filter q cs)) (filter p cs)
across R turned p q never [] pairs = All-nil (λ x. All (R x) [])
across R turned p q never (c ∷ cs) pairs =
    let ahead = pairs_head R c cs pairs in
    across_one R c (filter p cs) (filter q cs) (p c) (q c) (never c) (All-filter p (λ x. R x c) cs (All-weaker (R c) (λ x. R x c) (λ x. turned c x) cs ahead)) (All-filter q (R c) cs ahead) (across R turned p q never cs (pairs_tail R c cs pairs))

abbrev Apart : Component → Component → Type 0
Apart a b = a.name ≢ b.name

apart_turned : (a b : Component) → Apart a b → Apart b a
apart_turned a b other same = other (sym same)

no_two : (r s : Role) → (r ≡ s → ⊥) → (c : Component) → has_role r c ≡ true → has_role s c ≡ true → ⊥
no_two r s never c one other = never (role_is r c.role one ∙ sym (role_is s c.role other))

parts_apart : (r s : Role) → (r ≡ s → ⊥) → (cs : List Component) → AllPairs Apart cs → All (λ x. All (Apart x) (filter (has_role s) cs)) (filter (has_role r) cs)
parts_apart r s never cs pairs = across Apart apart_turned (has_role r) (has_role s) (no_two r s never) cs pairs

abbrev stay : List Component → List Component
stay s = identifiers s ++ virals s

stay_apart : (s : List Component) → AllPairs Apart s → AllPairs Apart (stay s)
stay_apart s pairs =
    pairs_append Apart (identifiers s) (virals s) (AllPairs-filter Apart (has_role Identifier) s pairs) (AllPairs-filter Apart (has_role Viral) s pairs) (parts_apart Identifier Viral (λ e. cc) s pairs)

stay_apart_from : (s : List Component) → AllPairs Apart s → All (λ x. All (Apart x) (filter (has_role Measure) s)) (stay s)
stay_apart_from s pairs =
    All-append (λ x. All (Apart x) (filter (has_role Measure) s)) (identifiers s) (virals s) (parts_apart Identifier Measure (λ e. cc) s pairs) (parts_apart Viral Measure (λ e. cc) s pairs)

-- ---- components of the same names

abbrev name_of : Component → List ℕ
name_of c = c.name

same_length : (xs ys : List Component) → map name_of xs ≡ map name_of ys → length xs ≡ length ys
same_length xs ys same = sym (length-map xs name_of) ∙ ap length same ∙ length-map ys name_of

same_at : (xs ys : List Component) (k : ℕ) (d : Component) → map name_of xs ≡ map name_of ys → k < length xs → (get_or xs k d).name ≡ (get_or ys k d).name
same_at xs ys k d same within =
    let there : k < length ys = omega (arith, same_length xs ys same) in
    sym (get_or-map name_of xs k d [] within) ∙ ap (λ (q : List (List ℕ)). get_or q k []) same ∙ get_or-map name_of ys k d [] there

pairs_by_name : (xs ys : List Component) → map name_of xs ≡ map name_of ys → AllPairs Apart ys → AllPairs Apart xs
pairs_by_name xs ys same pairs = λ i j d below within.
    let long : length xs ≡ length ys = same_length xs ys same in
    λ equal. pairs i j d below (omega (arith, long)) (sym (same_at xs ys i d same (omega arith)) ∙ equal ∙ same_at xs ys j d same within)

across_by_name : (zs xs ys : List Component) → map name_of xs ≡ map name_of ys → All (λ x. All (Apart x) ys) zs → All (λ x. All (Apart x) xs) zs
across_by_name zs xs ys same all = λ k d within. λ j e there.
    let long : length xs ≡ length ys = same_length xs ys same in
    λ equal. all k d within j e (omega (arith, long)) (equal ∙ same_at xs ys j e same there)

-- ---- the measures that are worked out

abbrev new_names : Option (List ℕ) → List declared.Measure → List (List ℕ)
new_names changed ms = map (λ (m : declared.Measure). unwrap_or changed m.name) ms

items_named : (form : Form) (place : Place) (operands : List Operand) (changed : Option (List ℕ)) (ms : List declared.Measure) (items : List CheckedMeasure) → each (measure_checked form place operands changed) ms ≡ Ok items → map name_of (map measure_component items) ≡ new_names changed ms
items_named form place operands changed [] items is = let none : [] ≡ items = cc in ap (λ (q : List CheckedMeasure). map name_of (map measure_component q)) (sym none)
items_named form place operands changed (m ∷ ms) items is =
    let h = measure_checked form place operands changed in
    let one = gave (h m) (λ y. each h ms >>= (λ ys. Ok (y ∷ ys))) items is in
    let more = gave (each h ms) (λ ys. Ok (one.0 ∷ ys)) items one.2 in
    let all : one.0 ∷ more.0 ≡ items = cc in
    let found = gave (answer form place operands (Some (record { number = m.number; kind = m.kind }) ∷ [])) (λ t. Ok (checked_measure (unwrap_or changed m.name) t)) one.0 one.1 in
    let made_so : checked_measure (unwrap_or changed m.name) found.0 ≡ one.0 = cc in
    let named : one.0.name ≡ unwrap_or changed m.name = ap (λ (q : CheckedMeasure). q.name) (sym made_so) in
    ap (λ (q : List CheckedMeasure). map name_of (map measure_component q)) (sym all)
    ∙ (λ i. named i ∷ items_named form place operands changed ms more.0 more.1 i)

measures_named : (n : ℕ) (s : List Component) → map (λ (m : declared.Measure). m.name) (measures_from n s) ≡ map name_of (filter (has_role Measure) s)
measures_named n [] = refl
measures_named n (c ∷ cs) =
    let more = measures_named (n + 1) cs in
    let ms = measures_from (n + 1) cs in
    let rest = filter (has_role Measure) cs in
    elim (has_role Measure c) as (λ (b : Bool). map (λ (m : declared.Measure). m.name) (if b then record { number = n; name = c.name; kind = c.kind } ∷ ms else ms) ≡ map name_of (if b then c ∷ rest else rest)) [
      | true ↦ ap (λ (q : List (List ℕ)). c.name ∷ q) more
      | false ↦ more
    ]

-- ---- together

fits_by : (items : List CheckedMeasure) (s ys : List Component) → IsStructure s → map name_of (map measure_component items) ≡ map name_of ys → AllPairs Apart ys → All (λ x. All (Apart x) ys) (stay s) → FitTogether (stay s ++ map measure_component items)
fits_by items s ys is same pairs apart =
    let ms = map measure_component items in
    let sound : All IsSound (stay s ++ ms) =
    All-append IsSound (stay s) ms (All-append IsSound (identifiers s) (virals s) (All-filter (has_role Identifier) IsSound s (all_sound s is)) (All-filter (has_role Viral) IsSound s (all_sound s is))) (λ k d within. (measures_made items k d within).sound)
    in
    record {
      names_differ = pairs_append Apart (stay s) ms (stay_apart s is.names_differ) (pairs_by_name ms ys same pairs) (across_by_name (stay s) ms ys same apart);
      viral_listed = λ k d within. (sound k d within).viral_listed;
      codes_fit = λ k d within. (sound k d within).codes_fit;
    }

one_apart : (c : Component) → AllPairs Apart (c ∷ [])
one_apart c = λ i j d below within. absurd (omega arith)

free_apart : (name : List ℕ) (cs : List Component) → All (λ c. name ≢ c.name) cs → All (λ x. All (Apart x) (made Measure Truth name ∷ [])) cs
free_apart name cs free = λ k d within. All-cons (Apart (get_or cs k d)) (made Measure Truth name) [] (λ equal. free k d within (sym equal)) (All-nil (Apart (get_or cs k d)))

one_name : (name : List ℕ) (ms : List declared.Measure) → nat_eq (length ms) 1 ≡ true → new_names (Some name) ms ≡ name ∷ []
one_name name [] is = absurd (false≢true is)
one_name name (m ∷ []) is = refl
one_name name (m ∷ n ∷ ms) is = absurd (omega (arith, eqb-true (length (m ∷ n ∷ ms)) 1 is))

fits_so : (form : Form) (place : Place) (operands : List Operand) (changed : Option (List ℕ)) (s : List Component) (items : List CheckedMeasure) → IsStructure s → has_one_if changed (measures s) ≡ true → is_free changed s ≡ true → each (measure_checked form place operands changed) (measures s) ≡ Ok items → FitTogether (stay s ++ map measure_component items)
fits_so form place operands None s items is one free worked =
    fits_by items s (filter (has_role Measure) s) is (items_named form place operands None (measures s) items worked ∙ measures_named 0 s) (AllPairs-filter Apart (has_role Measure) s is.names_differ) (stay_apart_from s is.names_differ)
fits_so form place operands (Some name) s items is one free worked =
    fits_by items s (made Measure Truth name ∷ []) is (items_named form place operands (Some name) (measures s) items worked ∙ one_name name (measures s) one) (one_apart (made Measure Truth name)) (free_apart name (stay s) (free_from name (stay s) free))

-- what the measures of a scalar operator make of a structure is one
pub measured_structure : (form : Form) (place : Place) (operands : List Operand) (changed : Option (List ℕ)) (s : List Component) (items : List CheckedMeasure) → IsStructure s → items_on_one form place operands changed s ≡ Ok items → IsStructure (structure_after (clause.Measures items) s)
measured_structure form place operands changed s items is answered =
    let h = measure_checked form place operands changed in
    let rest = λ (constants : Typed). each h (measures s) in
    let met = gave (demands_on_one form place operands changed s) (λ met. answer form place operands [] >>= rest) items answered in
    let constants = gave (answer form place operands []) rest items met.2 in
    let first = first_met place (each_fits form place operands) WrongType ((has_one_if changed (measures s), WrongStructure) ∷ (is_free changed s, NameTwice) ∷ []) met.0 met.1 in
    let second = first_met place (has_one_if changed (measures s)) WrongStructure ((is_free changed s, NameTwice) ∷ []) met.0 first.1 in
    let third = first_met place (is_free changed s) NameTwice [] met.0 second.1 in
    let fit : FitTogether (measured items (frame_of s)).components = subst FitTogether (sym (measured_is items s)) (fits_so form place operands changed s items is second.0 third.0 constants.2) in
    unlisted_is _ (orders_structures (measured items (frame_of s)) fit)
