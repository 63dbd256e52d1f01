-- Viral attributes of both operands.
use Rattle.std.proofs.Common.{◌≡◌, ◌≢◌, ◌⊎◌, List, [], ◌∷◌, map, zip, get_or, Bool, true, false, not, ◌&&◌, ◌||◌, cond, Option, Some, None, IfSome, option_map, refl, sym, ap, subst, ◌∙◌, inl, inr}
use Rattle.std.specs.Prelude.{filter, find}
use Rattle.std.specs.List.{All, AllPairs, AllZip, Contains, list_all}
use Rattle.std.specs.Cmp.Lexicographic.{pointwise}
use Rattle.std.proofs.lemmas.List.Elements.{All-nil, All-cons, All-head, All-tail, All-filter, All-append, All-contains}
use Rattle.std.proofs.lemmas.Slice.Eq.{slice_eq-Decides}
use Rattle.vtl_values.specs.Structures.{FitsCodes, IsStructure}
use Rattle.vtl_values.specs.Texts.{Fits, same_text}
use Rattle.vtl_values.specs.declared.kind.Kind.{Kind}
use Rattle.vtl_values.specs.declared.kind.Kind.TheVariants as kind
use Rattle.vtl_values.specs.declared.kind.Role.TheVariants.{Viral}
use Rattle.vtl_values.specs.declared.structure.Codes.{Codes}
use Rattle.vtl_values.specs.declared.structure.Codes.TheVariants.{Any, Listed}
use Rattle.vtl_values.specs.declared.structure.Component.{Component}
use Rattle.vtl_values.specs.declared.value.Value.{Value}
use Rattle.vtl_values.specs.declared.value.Value.TheVariants.{Null}
use Rattle.vtl_values.proofs.StructureNames.{same_text-Decides}
use Rattle.data_model.proofs.DeltaLemmas.{contradicted}
use Rattle.structured_sets.specs.Fitting.{FitsComponent, is_in_codes}
use Rattle.scalar_trees.proofs.typing.Sound.{left, right}
use Rattle.data_set_trees.specs.clauses.Frames.{has_role}
use Rattle.data_set_trees.proofs.clauses.Ordered.{role_is}
use Rattle.data_set_trees.proofs.clauses.Parts.{pairs_head, pairs_tail}
use Rattle.data_set_trees.specs.Components.{virals, further, has_name, is_taken, same_codes, virals_agree}
use Rattle.viral_attributes.specs.Combination.{combined}
use Rattle.viral_attributes.proofs.Highest.{combined-IsTheHighest}
use Rattle.operator_meaning.specs.pairs.Pairs.{value_where, viral_value, codes_of, one_or_both}
use Rattle.operator_meaning.proofs.pairs.Names.{same-true}
use Rattle.operator_meaning.proofs.pairs.Joined.{Has, own-role, both_virals}

-- ---- one kind and one code list

-- of one kind and with one code list
abbrev Same : Component → Component → Type 0
Same c d = (c.kind ≡ d.kind) × (c.codes ≡ d.codes)

-- it is so with a viral attribute of its name
abbrev Meets : Component → Component → Type 0
Meets c d = Has Viral d → c.name ≡ d.name → Same c d

-- a viral attribute is a text with a code list
viral-text : (c : Component) (codes : Codes) → codes ≢ Any → FitsCodes c.kind codes → c.kind ≡ kind.Text
viral-text c Any some fit = absurd (some refl)
viral-text c (Listed codes) some fit = fit.0

virals-texts : (cs : List Component) → IsStructure cs → All (λ c. Has Viral c → c.kind ≡ kind.Text) cs
virals-texts cs is k d within has = viral-text (get_or cs k d) (get_or cs k d).codes (is.viral_listed k d within (sym (role_is Viral (get_or cs k d).role has))) (is.codes_fit k d within)

-- code lists with the same texts are equal
pub same-codes : (a b : Codes) → same_codes a b ≡ true → a ≡ b
same-codes Any Any h = refl
same-codes Any (Listed b) h = cc
same-codes (Listed a) Any h = cc
same-codes (Listed a) (Listed b) h = ap Listed ((slice_eq-Decides same_text-Decides a b (pointwise same_text a b) refl).0 h)

-- what all of those have that pass
of-filter : (q r : Component → Bool) (cs : List Component) → list_all r (filter q cs) ≡ true → All (λ c. q c ≡ true → r c ≡ true) cs
of-filter q r [] h = All-nil (λ c. q c ≡ true → r c ≡ true)
of-filter q r (c ∷ cs) h = by_test (of-filter q r cs) (q c) refl h
  where
    by_test : (list_all r (filter q cs) ≡ true → All (λ d. q d ≡ true → r d ≡ true) cs) → (b : Bool) → q c ≡ b → list_all r (cond b (c ∷ filter q cs) (filter q cs)) ≡ true → All (λ d. q d ≡ true → r d ≡ true) (c ∷ cs)
    by_test later true e i = All-cons (λ d. q d ≡ true → r d ≡ true) c cs (λ has. left (r c) (list_all r (filter q cs)) i) (later (right (r c) (list_all r (filter q cs)) i))
    by_test later false e i = All-cons (λ d. q d ≡ true → r d ≡ true) c cs (λ has. contradicted (q c) has e) (later i)

agreed : (a b : Bool) → (not a || b) ≡ true → a ≡ true → b ≡ true
agreed true b h i = h
agreed false b h i = cc

-- a viral attribute of the one and one of the other
across : (s t : List Component) → IsStructure s → IsStructure t → virals_agree s t ≡ true → All (λ c. All (λ d. Has Viral c → Has Viral d → c.name ≡ d.name → Same c d) t) s
across s t is its agree k c within j d inside has own same =
    let v = get_or s k c in
    let w = get_or t j d in
    let each = of-filter (has_role Viral) (λ v. list_all (λ w. not (same_text v.name w.name) || same_codes v.codes w.codes) (virals t)) s agree k c within has in
    let one = of-filter (has_role Viral) (λ w. not (same_text v.name w.name) || same_codes v.codes w.codes) t each j d inside own in
    let texts : same_text v.name w.name ≡ true = (same_text-Decides v.name w.name).1 same in
    (virals-texts s is k c within has ∙ sym (virals-texts t its j d inside own), same-codes v.codes w.codes (agreed (same_text v.name w.name) (same_codes v.codes w.codes) one texts))

-- components of one structure
within-one : (cs : List Component) → AllPairs (λ a b. a.name ≢ b.name) cs → All (λ c. All (Meets c) cs) cs
within-one [] pairs = All-nil (λ c. All (Meets c) [])
within-one (c ∷ cs) pairs =
    let apart = pairs_head (λ a b. a.name ≢ b.name) c cs pairs in
    let later = within-one cs (pairs_tail (λ a b. a.name ≢ b.name) c cs pairs) in
    All-cons (λ e. All (Meets e) (c ∷ cs)) c cs
    (All-cons (Meets c) c cs (λ has same. (refl, refl)) (λ k d within has same. absurd (apart k d within same)))
    (λ k d within. All-cons (Meets (get_or cs k d)) c cs (λ has same. absurd (apart k d within (sym same))) (later k d within))

module _ (s t : List Component) (is : IsStructure s) (its : IsStructure t) (agree : virals_agree s t ≡ true) where
  abbrev MeetsBoth : Component → Type 0
  MeetsBoth c = All (Meets c) s × All (Meets c) t

  ours-meet : All (λ c. Has Viral c → MeetsBoth c) s
  ours-meet k c within has = (within-one s is.names_differ k c within, λ j d inside own same. across s t is its agree k c within j d inside has own same)

  turned : (c d : Component) → Same c d → Same d c
  turned c d h = (sym h.0, sym h.1)

  theirs-meet : All (λ c. Has Viral c → MeetsBoth c) t
  theirs-meet j d inside own = (λ k c within has same. turned (get_or s k c) (get_or t j d) (across s t is its agree k c within j d inside has own (sym same)), within-one t its.names_differ j d inside)

  of-virals : (cs : List Component) → All (λ c. Has Viral c → MeetsBoth c) cs → All MeetsBoth (virals cs)
  of-virals cs all k c within = All-filter (has_role Viral) (λ d. Has Viral d → MeetsBoth d) cs all k c within (own-role Viral cs k c within)

  -- a viral attribute of the result is of one kind and has one code list with those of its name
  pub all-meet : All MeetsBoth (both_virals s t)
  all-meet = All-append MeetsBoth (virals s) (further (virals s) (virals t)) (of-virals s ours-meet) (All-filter (λ c. not (is_taken c.name (virals s))) MeetsBoth (virals t) (of-virals t theirs-meet))

-- ---- values

-- a value that is found is of a component that passes
found-where : (Q : Component → Type 0) (passes : Component → Bool) (cs : List Component) (vs : List Value) → AllZip FitsComponent cs vs → All Q cs → IfSome (value_where passes cs vs) (λ v. (d : Component) × (passes d ≡ true) × Q d × FitsComponent d v)
found-where Q passes [] [] fit all = tt
found-where Q passes [] (v ∷ vs) fit all = absurd fit
found-where Q passes (c ∷ cs) [] fit all = absurd fit
found-where Q passes (c ∷ cs) (v ∷ vs) fit all = by_test (passes c) refl (found-where Q passes cs vs fit.1 (All-tail Q c cs all))
  where
    by_test : (b : Bool) → passes c ≡ b → IfSome (value_where passes cs vs) (λ u. (d : Component) × (passes d ≡ true) × Q d × FitsComponent d u) → IfSome (option_map (λ (q : Component × Value). q.1) (cond b (Some (c, v)) (find (λ (q : Component × Value). passes q.0) (zip cs vs)))) (λ u. (d : Component) × (passes d ≡ true) × Q d × FitsComponent d u)
    by_test true e later = (c, e, All-head Q c cs all, fit.0)
    by_test false e later = later

as-same : (c d : Component) (v : Value) → Same c d → FitsComponent d v → FitsComponent c v
as-same c d v same fit = record {
  kind = subst (λ (k : Kind). Fits k v) (sym same.0) fit.kind;
  codes = subst (λ (cs : Codes). is_in_codes cs v ≡ true) (sym same.1) fit.codes;
}

-- so it is one of this component, which meets all of its name
viral-fits : (c : Component) (cs : List Component) (vs : List Value) → AllZip FitsComponent cs vs → All (Meets c) cs → IfSome (viral_value c.name cs vs) (FitsComponent c)
viral-fits c cs vs fit meets = by_value (viral_value c.name cs vs) (found-where (Meets c) (λ d. has_role Viral d && has_name c.name d) cs vs fit meets)
  where
    by_value : (o : Option Value) → IfSome o (λ v. (d : Component) × ((has_role Viral d && has_name c.name d) ≡ true) × Meets c d × FitsComponent d v) → IfSome o (FitsComponent c)
    by_value None h = tt
    by_value (Some v) h =
        let d = h.0 in
        as-same c d v (h.2 (left (has_role Viral d) (has_name c.name d) h.1) (same-true c.name d.name (right (has_role Viral d) (has_name c.name d) h.1))) h.3

null-of : (k : Kind) → Fits k Null
null-of kind.Integer = tt
null-of kind.Number = tt
null-of kind.Text = tt
null-of kind.Truth = tt

null-in : (codes : Codes) → is_in_codes codes Null ≡ true
null-in Any = refl
null-in (Listed codes) = refl

null-fits : (c : Component) → FitsComponent c Null
null-fits c = record { kind = null-of c.kind; codes = null-in c.codes }

-- so is the combination
one-fits : (c : Component) (x y : Option Value) → IfSome x (FitsComponent c) → IfSome y (FitsComponent c) → FitsComponent c (one_or_both (codes_of c.codes) x y)
one-fits c None None h i = null-fits c
one-fits c (Some x) None h i = h
one-fits c None (Some y) h i = i
one-fits c (Some x) (Some y) h i = by_place (combined (codes_of c.codes) (x ∷ y ∷ [])) (combined-IsTheHighest (codes_of c.codes) (x ∷ y ∷ [])).among
  where
    by_place : (v : Value) → (v ≡ Null) ⊎ Contains (x ∷ y ∷ []) v → FitsComponent c v
    by_place v (inl none) = subst (FitsComponent c) (sym none) (null-fits c)
    by_place v (inr there) = All-contains (FitsComponent c) (x ∷ y ∷ []) v (All-cons (FitsComponent c) x (y ∷ []) h (All-cons (FitsComponent c) y [] i (All-nil (FitsComponent c)))) there

pub map-fits : (f : Component → Value) (cs : List Component) → All (λ c. FitsComponent c (f c)) cs → AllZip FitsComponent cs (map f cs)
map-fits f [] all = tt
map-fits f (c ∷ cs) all = (All-head (λ d. FitsComponent d (f d)) c cs all, map-fits f cs (All-tail (λ d. FitsComponent d (f d)) c cs all))

pub virals-fit : (s t : List Component) (a b : List Value) → IsStructure s → IsStructure t → virals_agree s t ≡ true → AllZip FitsComponent s a → AllZip FitsComponent t b
    → AllZip FitsComponent (both_virals s t) (map (λ c. one_or_both (codes_of c.codes) (viral_value c.name s a) (viral_value c.name t b)) (both_virals s t))
virals-fit s t a b is its agree fit fits =
    map-fits (λ c. one_or_both (codes_of c.codes) (viral_value c.name s a) (viral_value c.name t b)) (both_virals s t)
    (λ k c within. let meets = all-meet s t is its agree k c within in let d = get_or (both_virals s t) k c in one-fits d (viral_value d.name s a) (viral_value d.name t b) (viral-fits d s a fit meets.0) (viral-fits d t b fits meets.1))
