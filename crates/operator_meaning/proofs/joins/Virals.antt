-- Viral attributes of several operands.
use Rattle.std.proofs.Common.{◌≡◌, ◌≢◌, ◌⊎◌, ℕ, List, [], ◌∷◌, ◌++◌, map, zip, get_or, Bool, true, false, not, ◌&&◌, cond, Option, Some, None, IfSome, option_map, refl, sym, subst, inl, inr}
use Rattle.std.specs.Prelude.{filter, find, option_and_then}
use Rattle.std.specs.List.{All, AllPairs, AllZip, Contains, cons_option, list_all}
use Rattle.std.proofs.lemmas.List.Elements.{All-nil, All-cons, All-head, All-tail, All-filter, All-map, All-contains}
use Rattle.std.proofs.lemmas.List.Sums.{AllPass-from_list_all}
use Rattle.vtl_values.specs.Structures.{IsStructure}
use Rattle.vtl_values.specs.Texts.{Fits}
use Rattle.vtl_values.specs.declared.kind.Kind.{Kind}
use Rattle.vtl_values.specs.declared.kind.Kind.TheVariants as kind
use Rattle.vtl_values.specs.declared.kind.Role.TheVariants.{Viral}
use Rattle.vtl_values.specs.declared.structure.Codes.{Codes}
use Rattle.vtl_values.specs.declared.structure.Codes.TheVariants.{Any, Listed}
use Rattle.vtl_values.specs.declared.structure.Component.{Component}
use Rattle.vtl_values.specs.declared.value.Value.{Value}
use Rattle.vtl_values.specs.declared.value.Value.TheVariants.{Null}
use Rattle.data_model.proofs.DeltaLemmas.{contradicted}
use Rattle.structured_sets.specs.Fitting.{FitsComponent, is_identifier, is_in_codes, others}
use Rattle.scalar_trees.proofs.typing.Sound.{left, right}
use Rattle.data_set_trees.specs.clauses.Frames.{has_role}
use Rattle.data_set_trees.proofs.clauses.Parts.{pairs_head, pairs_tail}
use Rattle.data_set_trees.specs.Components.{virals, further, has_name, virals_agree}
use Rattle.data_set_trees.specs.Joins.{all_virals_agree}
use Rattle.viral_attributes.specs.Combination.{combined}
use Rattle.viral_attributes.proofs.Highest.{combined-IsTheHighest}
use Rattle.operator_meaning.specs.pairs.Pairs.{value_where, viral_value, codes_of}
use Rattle.operator_meaning.proofs.pairs.Names.{same-true}
use Rattle.operator_meaning.proofs.pairs.Joined.{Has, own-role}
use Rattle.operator_meaning.proofs.pairs.Virals.{all-meet, map-fits}
use Rattle.operator_meaning.specs.joins.Joins.{values_called, combined_values}
use Rattle.operator_meaning.proofs.joins.Gathered.{gathered-all}
use Rattle.operator_meaning.proofs.joins.Structure.{virals_of}

-- ---- lists

All-left : {A : Type 0} (P : A → Type 0) (xs ys : List A) → All P (xs ++ ys) → All P xs
All-left P [] ys all = All-nil P
All-left P (x ∷ xs) ys all = All-cons P x xs (All-head P x (xs ++ ys) all) (All-left P xs ys (All-tail P x (xs ++ ys) all))

All-unfilter : {A : Type 0} (q : A → Bool) (P : A → Type 0) (xs : List A) → All P (filter q xs) → All (λ x. q x ≡ true → P x) xs
All-unfilter q P [] all = All-nil (λ x. q x ≡ true → P x)
All-unfilter {A = A} q P (x ∷ xs) all = by_test (q x) refl (All-unfilter q P xs) all
  where
    by_test : (b : Bool) → q x ≡ b → (All P (filter q xs) → All (λ y. q y ≡ true → P y) xs) → All P (cond b (x ∷ filter q xs) (filter q xs)) → All (λ y. q y ≡ true → P y) (x ∷ xs)
    by_test true e later i = All-cons (λ y. q y ≡ true → P y) x xs (λ h. All-head P x (filter q xs) i) (later (All-tail P x (filter q xs) i))
    by_test false e later i = All-cons (λ y. q y ≡ true → P y) x xs (λ h. contradicted (q x) h e) (later i)

-- ---- one kind and one code list

-- of one kind and with one code list
abbrev Same : Component → Component → Type 0
Same c d = (c.kind ≡ d.kind) × (c.codes ≡ d.codes)

-- it is so with a viral attribute of its name
abbrev Meets : Component → Component → Type 0
Meets c d = Has Viral d → c.name ≡ d.name → Same c d

-- and with those of all operands
abbrev pub MeetsAll : List (List Component) → Component → Type 0
MeetsAll ss c = All (λ t. All (Meets c) t) ss

turned : (c d : Component) → Same c d → Same d c
turned c d h = (sym h.0, sym h.1)

within-one : (cs : List Component) → AllPairs (λ a b. a.name ≢ b.name) cs → All (λ c. All (Meets c) cs) cs
within-one [] pairs = All-nil (λ c. All (Meets c) [])
within-one (c ∷ cs) pairs =
    let apart = pairs_head (λ a b. a.name ≢ b.name) c cs pairs in
    let later = within-one cs (pairs_tail (λ a b. a.name ≢ b.name) c cs pairs) in
    All-cons (λ e. All (Meets e) (c ∷ cs)) c cs
    (All-cons (Meets c) c cs (λ has same. (refl, refl)) (λ k d within has same. absurd (apart k d within same)))
    (λ k d within. All-cons (Meets (get_or cs k d)) c cs (λ has same. absurd (apart k d within (sym same))) (later k d within))

module _ (s t : List Component) (is : IsStructure s) (its : IsStructure t) (agree : virals_agree s t ≡ true) where
  forth : All (λ c. Has Viral c → All (Meets c) t) s
  forth k c within has = (All-unfilter (has_role Viral) (λ e. All (Meets e) s × All (Meets e) t) s (All-left (λ e. All (Meets e) s × All (Meets e) t) (virals s) (further (virals s) (virals t)) (all-meet s t is its agree)) k c within has).1

  back : All (λ d. Has Viral d → All (Meets d) s) t
  back j d inside own k c within has same = turned (get_or s k c) (get_or t j d) (forth k c within has j d inside own (sym same))

-- each viral attribute of an operand meets all
each-meets : (ss : List (List Component)) → All IsStructure ss → all_virals_agree ss ≡ true → All (λ s. All (λ c. Has Viral c → MeetsAll ss c) s) ss
each-meets [] all agree = All-nil (λ s. All (λ c. Has Viral c → MeetsAll [] c) s)
each-meets (s ∷ ss) all agree =
    let is = All-head IsStructure s ss all in
    let its = All-tail IsStructure s ss all in
    let later = each-meets ss its (right (list_all (virals_agree s) ss) (all_virals_agree ss) agree) in
    let agrees : All (λ t. virals_agree s t ≡ true) ss = AllPass-from_list_all (virals_agree s) ss (left (list_all (virals_agree s) ss) (all_virals_agree ss) agree) in
    All-cons (λ t. All (λ c. Has Viral c → MeetsAll (s ∷ ss) c) t) s ss
    (λ k c within has. let d = get_or s k c in All-cons (λ t. All (Meets d) t) s ss (within-one s is.names_differ k c within) (λ j e inside. forth s (get_or ss j e) is (its j e inside) (agrees j e inside) k c within has))
    (λ j e inside k c within has. let d = get_or (get_or ss j e) k c in All-cons (λ t. All (Meets d) t) s ss (back s (get_or ss j e) is (its j e inside) (agrees j e inside) k c within has) (later j e inside k c within has))

-- and so does each of the join
virals-meet : (ss : List (List Component)) → All IsStructure ss → all_virals_agree ss ≡ true → All (MeetsAll ss) (virals_of ss)
virals-meet ss all agree =
    gathered-all (MeetsAll ss) [] (map virals ss) (All-nil (MeetsAll ss))
    (All-map (All (MeetsAll ss)) virals ss (λ j e inside k c within. All-filter (has_role Viral) (λ d. Has Viral d → MeetsAll ss d) (get_or ss j e) (each-meets ss all agree j e inside) k c within (own-role Viral (get_or ss j e) k c within)))

-- ---- values

-- a value that is found is of a component that passes
found-where : (Q : Component → Type 0) (passes : Component → Bool) (cs : List Component) (vs : List Value) → AllZip FitsComponent cs vs → All Q cs → IfSome (value_where passes cs vs) (λ v. (d : Component) × (passes d ≡ true) × Q d × FitsComponent d v)
found-where Q passes [] [] fit all = tt
found-where Q passes [] (v ∷ vs) fit all = absurd fit
found-where Q passes (c ∷ cs) [] fit all = absurd fit
found-where Q passes (c ∷ cs) (v ∷ vs) fit all = by_test (passes c) refl (found-where Q passes cs vs fit.1 (All-tail Q c cs all))
  where
    by_test : (b : Bool) → passes c ≡ b → IfSome (value_where passes cs vs) (λ u. (d : Component) × (passes d ≡ true) × Q d × FitsComponent d u) → IfSome (option_map (λ (q : Component × Value). q.1) (cond b (Some (c, v)) (find (λ (q : Component × Value). passes q.0) (zip cs vs)))) (λ u. (d : Component) × (passes d ≡ true) × Q d × FitsComponent d u)
    by_test true e later = (c, e, All-head Q c cs all, fit.0)
    by_test false e later = later

as-same : (c d : Component) (v : Value) → Same c d → FitsComponent d v → FitsComponent c v
as-same c d v same fit = record {
  kind = subst (λ (k : Kind). Fits k v) (sym same.0) fit.kind;
  codes = subst (λ (cs : Codes). is_in_codes cs v ≡ true) (sym same.1) fit.codes;
}

-- so it is one of this component, which meets all of its name
viral-fits : (c : Component) (cs : List Component) (vs : List Value) → AllZip FitsComponent cs vs → All (Meets c) cs → IfSome (viral_value c.name cs vs) (FitsComponent c)
viral-fits c cs vs fit meets = by_value (viral_value c.name cs vs) (found-where (Meets c) (λ d. has_role Viral d && has_name c.name d) cs vs fit meets)
  where
    by_value : (o : Option Value) → IfSome o (λ v. (d : Component) × ((has_role Viral d && has_name c.name d) ≡ true) × Meets c d × FitsComponent d v) → IfSome o (FitsComponent c)
    by_value None h = tt
    by_value (Some v) h =
        let d = h.0 in
        as-same c d v (h.2 (left (has_role Viral d) (has_name c.name d) h.1) (same-true c.name d.name (right (has_role Viral d) (has_name c.name d) h.1))) h.3

null-of : (k : Kind) → Fits k Null
null-of kind.Integer = tt
null-of kind.Number = tt
null-of kind.Text = tt
null-of kind.Truth = tt

null-in : (codes : Codes) → is_in_codes codes Null ≡ true
null-in Any = refl
null-in (Listed codes) = refl

pub null-fits : (c : Component) → FitsComponent c Null
null-fits c = record { kind = null-of c.kind; codes = null-in c.codes }

-- what operands have at a key is of their structures
abbrev pub ArePoints : List (List Component) → List (Option (List Value)) → Type 0
ArePoints ss points = AllZip (λ s o. IfSome o (AllZip FitsComponent (others s))) ss points

called-fit : (c : Component) (ss : List (List Component)) (points : List (Option (List Value))) → ArePoints ss points → MeetsAll ss c → All (FitsComponent c) (values_called c.name ss points)
called-fit c [] points fit meets = All-nil (FitsComponent c)
called-fit c (s ∷ ss) [] fit meets = absurd fit
called-fit c (s ∷ ss) (o ∷ points) fit meets = by_value (option_and_then (viral_value c.name (others s)) o) (by_point o fit.0) (called-fit c ss points fit.1 (All-tail (λ t. All (Meets c) t) s ss meets))
  where
    by_point : (o : Option (List Value)) → IfSome o (AllZip FitsComponent (others s)) → IfSome (option_and_then (viral_value c.name (others s)) o) (FitsComponent c)
    by_point None h = tt
    by_point (Some rest) h = viral-fits c (others s) rest h (All-filter (λ d. not (is_identifier d)) (Meets c) s (All-head (λ t. All (Meets c) t) s ss meets))

    by_value : (o : Option Value) → IfSome o (FitsComponent c) → All (FitsComponent c) (values_called c.name ss points) → All (FitsComponent c) (cons_option o (values_called c.name ss points))
    by_value None h later = later
    by_value (Some v) h later = All-cons (FitsComponent c) v (values_called c.name ss points) h later

-- so are the combinations
combined-fits : (c : Component) (codes : List (List ℕ)) (vs : List Value) → All (FitsComponent c) vs → FitsComponent c (combined codes vs)
combined-fits c codes vs all = by_place (combined codes vs) (combined-IsTheHighest codes vs).among
  where
    by_place : (v : Value) → (v ≡ Null) ⊎ Contains vs v → FitsComponent c v
    by_place v (inl none) = subst (FitsComponent c) (sym none) (null-fits c)
    by_place v (inr there) = All-contains (FitsComponent c) vs v all there

pub combined-fit : (ss : List (List Component)) (points : List (Option (List Value))) → All IsStructure ss → all_virals_agree ss ≡ true → ArePoints ss points → AllZip FitsComponent (virals_of ss) (combined_values ss points)
combined-fit ss points all agree fit =
    map-fits (λ c. combined (codes_of c.codes) (values_called c.name ss points)) (virals_of ss)
    (λ k c within. let d = get_or (virals_of ss) k c in combined-fits d (codes_of d.codes) (values_called d.name ss points) (called-fit d ss points fit (virals-meet ss all agree k c within)))
