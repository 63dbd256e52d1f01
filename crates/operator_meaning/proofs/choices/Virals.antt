-- Viral attributes of the condition and of both branches.
use Rattle.std.proofs.Common.{◌≡◌, ◌≢◌, ◌⊎◌, List, [], ◌∷◌, ◌++◌, zip, length, get_or, Bool, true, false, not, ◌&&◌, ◌||◌, cond, Option, Some, None, IfSome, option_map, refl, sym, ap, subst, ◌∙◌, inl, inr}
use Rattle.std.specs.Prelude.{filter, find, nat_eq, unwrap_or}
use Rattle.std.specs.Option.{option_to_list}
use Rattle.std.specs.List.{All, AllPairs, AllZip, Contains, list_any, list_all}
use Rattle.std.specs.Cmp.Lexicographic.{pointwise}
use Rattle.std.proofs.lemmas.List.Elements.{All-nil, All-cons, All-head, All-tail, All-filter, All-append, All-contains, All-weaker}
use Rattle.std.proofs.lemmas.Slice.Eq.{slice_eq-Decides}
use Rattle.vtl_values.specs.Structures.{IsStructure}
use Rattle.vtl_values.specs.Texts.{Fits, same_text}
use Rattle.vtl_values.specs.declared.kind.Kind.{Kind}
use Rattle.vtl_values.specs.declared.kind.Kind.TheVariants as kind
use Rattle.vtl_values.specs.declared.kind.Role.TheVariants.{Viral}
use Rattle.vtl_values.specs.declared.structure.Codes.{Codes}
use Rattle.vtl_values.specs.declared.structure.Codes.TheVariants.{Any, Listed}
use Rattle.vtl_values.specs.declared.structure.Component.{Component}
use Rattle.vtl_values.specs.declared.value.Value.{Value}
use Rattle.vtl_values.specs.declared.value.Value.TheVariants.{Null}
use Rattle.vtl_values.proofs.StructureNames.{same_text-Decides}
use Rattle.structured_sets.specs.Fitting.{FitsComponent, is_in_codes}
use Rattle.scalar_trees.specs.WellTyped.{is_kind}
use Rattle.scalar_trees.proofs.typing.Sound.{is_kind-same, left, right}
use Rattle.data_set_trees.specs.clauses.Frames.{is_role, has_role}
use Rattle.data_set_trees.proofs.clauses.Parts.{pairs_head, pairs_tail}
use Rattle.data_set_trees.specs.Components.{identifiers, include, virals, further, has_name, is_same, is_alike, are_alike, same_codes, virals_agree}
use Rattle.data_set_trees.specs.checked.Choices.{belongs_to, branches, are_of_one, all_virals}
use Rattle.viral_attributes.specs.Combination.{combined}
use Rattle.viral_attributes.proofs.Highest.{combined-IsTheHighest}
use Rattle.operator_meaning.specs.pairs.Pairs.{viral_value, codes_of, one_or_both}
use Rattle.operator_meaning.proofs.pairs.Names.{same-true}
use Rattle.operator_meaning.proofs.pairs.Joined.{Has, own-role}
use Rattle.operator_meaning.proofs.pairs.Virals.{all-meet}
use Rattle.operator_meaning.proofs.choices.Parts.{All-all_virals}

-- ---- one kind and one code list

abbrev pub Same : Component → Component → Type 0
Same c d = (c.kind ≡ d.kind) × (c.codes ≡ d.codes)

-- it is so with a viral attribute of its name
abbrev pub Meets : Component → Component → Type 0
Meets c d = Has Viral d → c.name ≡ d.name → Same c d

-- the viral attributes of the first meet those of the second
abbrev Meet : List Component → List Component → Type 0
Meet s t = All (λ c. All (Meets c) t) (virals s)

-- components of one structure
within-one : (cs : List Component) → AllPairs (λ a b. a.name ≢ b.name) cs → All (λ c. All (Meets c) cs) cs
within-one [] pairs = All-nil (λ c. All (Meets c) [])
within-one (c ∷ cs) pairs =
    let apart = pairs_head (λ a b. a.name ≢ b.name) c cs pairs in
    let later = within-one cs (pairs_tail (λ a b. a.name ≢ b.name) c cs pairs) in
    All-cons (λ e. All (Meets e) (c ∷ cs)) c cs
    (All-cons (Meets c) c cs (λ has same. (refl, refl)) (λ k d within has same. absurd (apart k d within same)))
    (λ k d within. All-cons (Meets (get_or cs k d)) c cs (λ has same. absurd (apart k d within (sym same))) (later k d within))

meets-itself : (s : List Component) → IsStructure s → Meet s s
meets-itself s is = All-filter (has_role Viral) (λ c. All (Meets c) s) s (within-one s is.names_differ)

-- of those that pass, to those that pass
of-filter : (q : Component → Bool) (P : Component → Type 0) (cs : List Component) → All P (filter q cs) → All (λ c. q c ≡ true → P c) cs
of-filter q P [] h = All-nil (λ c. q c ≡ true → P c)
of-filter q P (c ∷ cs) h = by_test (of-filter q P cs) (q c) refl h
  where
    by_test : (All P (filter q cs) → All (λ d. q d ≡ true → P d) cs) → (b : Bool) → q c ≡ b → All P (cond b (c ∷ filter q cs) (filter q cs)) → All (λ d. q d ≡ true → P d) (c ∷ cs)
    by_test later true e i = All-cons (λ d. q d ≡ true → P d) c cs (λ has. All-head P c (filter q cs) i) (later (All-tail P c (filter q cs) i))
    by_test later false e i = All-cons (λ d. q d ≡ true → P d) c cs (λ has. let false_is : false ≡ true = sym e ∙ has in cc) (later i)

turned : (s t : List Component) → Meet s t → Meet t s
turned s t h k d within j c inside has same =
    let v = get_or (virals t) k d in
    let w = get_or s j c in
    let own : Has Viral v = own-role Viral t k d within in
    let of_s = of-filter (has_role Viral) (λ e. All (Meets e) t) s h j c inside has in
    let of_t = All-filter (has_role Viral) (Meets w) t of_s k d within in
    let both = of_t own (sym same) in
    (sym both.0, sym both.1)

-- those of the condition meet those of a branch
with-branch : (s t : List Component) → IsStructure s → IsStructure t → virals_agree s t ≡ true → Meet s t
with-branch s t is its agree =
    All-first (λ c. All (Meets c) t) (virals s) (further (virals s) (virals t))
    (All-weaker (λ c. All (Meets c) s × All (Meets c) t) (λ c. All (Meets c) t) (λ c h. h.1) (virals s ++ further (virals s) (virals t)) (all-meet s t is its agree))
  where
    All-first : (P : Component → Type 0) (xs ys : List Component) → All P (xs ++ ys) → All P xs
    All-first P [] ys h = All-nil P
    All-first P (x ∷ xs) ys h = All-cons P x xs (All-head P x (xs ++ ys) h) (All-first P xs ys (All-tail P x (xs ++ ys) h))

same-codes : (a b : Codes) → same_codes a b ≡ true → a ≡ b
same-codes Any Any h = refl
same-codes Any (Listed b) h = cc
same-codes (Listed a) Any h = cc
same-codes (Listed a) (Listed b) h = ap Listed ((slice_eq-Decides same_text-Decides a b (pointwise same_text a b) refl).0 h)

agreed : (a b : Bool) → (not a || b) ≡ true → a ≡ true → b ≡ true
agreed true b h i = h
agreed false b h i = cc

-- what is alike has one name, and as a viral attribute one kind and one code list
alike-is : (c d : Component) → Has Viral c → is_alike c d ≡ true → (c.name ≡ d.name) × Same c d
alike-is c d has h =
    let same = left (is_same c d && is_role c.role d.role) (not (has_role Viral c) || same_codes c.codes d.codes) h in
    let listed = right (is_same c d && is_role c.role d.role) (not (has_role Viral c) || same_codes c.codes d.codes) h in
    let named = left (is_same c d) (is_role c.role d.role) same in
    (same-true c.name d.name (left (same_text c.name d.name) (is_kind c.kind d.kind) named), (is_kind-same c.kind d.kind (right (same_text c.name d.name) (is_kind c.kind d.kind) named), same-codes c.codes d.codes (agreed (has_role Viral c) (same_codes c.codes d.codes) listed has)))

-- where components have other names than one of its name none is alike
none-alike : (c t : Component) (ds : List Component) → Has Viral c → c.name ≡ t.name → All (λ d. t.name ≢ d.name) ds → list_any (is_alike c) ds ≡ true → ⊥
none-alike c t [] has same all there = cc
none-alike c t (d ∷ ds) has same all there = by_test (none-alike c t ds has same (All-tail (λ u. t.name ≢ u.name) d ds all)) (is_alike c d) refl there
  where
    by_test : (list_any (is_alike c) ds ≡ true → ⊥) → (b : Bool) → is_alike c d ≡ b → (b || list_any (is_alike c) ds) ≡ true → ⊥
    by_test later true e i = All-head (λ u. t.name ≢ u.name) d ds all (sym same ∙ (alike-is c d has e).0)
    by_test later false e i = later i

-- where one is alike, those of its name are of its kind and have its code list
alike-there : (c : Component) (ts : List Component) → Has Viral c → list_any (is_alike c) ts ≡ true → AllPairs (λ a b. a.name ≢ b.name) ts → All (λ d. c.name ≡ d.name → Same c d) ts
alike-there c [] has h pairs = All-nil (λ d. c.name ≡ d.name → Same c d)
alike-there c (t ∷ ts) has h pairs =
    let apart = pairs_head (λ a b. a.name ≢ b.name) t ts pairs in
    by_test apart (λ i. alike-there c ts has i (pairs_tail (λ a b. a.name ≢ b.name) t ts pairs)) (is_alike c t) refl h
  where
    by_test : All (λ d. t.name ≢ d.name) ts → (list_any (is_alike c) ts ≡ true → All (λ d. c.name ≡ d.name → Same c d) ts) → (b : Bool) → is_alike c t ≡ b → (b || list_any (is_alike c) ts) ≡ true → All (λ d. c.name ≡ d.name → Same c d) (t ∷ ts)
    by_test apart later true e i =
        let both = alike-is c t has e in
        All-cons (λ d. c.name ≡ d.name → Same c d) t ts (λ same. both.1) (λ k d within same. absurd (apart k d within (sym both.0 ∙ same)))
    by_test apart later false e i = All-cons (λ d. c.name ≡ d.name → Same c d) t ts (λ same. absurd (none-alike c t ts has same apart i)) (later i)

each-of : (p : Component → Bool) (cs : List Component) → list_all p cs ≡ true → All (λ c. p c ≡ true) cs
each-of p [] h = All-nil (λ c. p c ≡ true)
each-of p (c ∷ cs) h = All-cons (λ d. p d ≡ true) c cs (left (p c) (list_all p cs) h) (each-of p cs (right (p c) (list_all p cs) h))

-- two branches of one structure
between : (s t : List Component) → IsStructure t → are_alike s t ≡ true → Meet s t
between s t its alike k c within =
    let v = get_or (virals s) k c in
    let own : Has Viral v = own-role Viral s k c within in
    let each = each-of (λ d. list_any (is_alike d) t) s (right (nat_eq (length s) (length t)) (list_all (λ d. list_any (is_alike d) t) s) alike) in
    let there : list_any (is_alike v) t ≡ true = All-filter (has_role Viral) (λ d. list_any (is_alike d) t ≡ true) s each k c within in
    λ j d inside has same. alike-there v t own there its.names_differ j d inside same

-- ---- all viral attributes of a result

no-virals : (t : List Component) → Meet [] t
no-virals t = All-nil (λ c. All (Meets c) t)

nothing-met : (s : List Component) → Meet s []
nothing-met s k c within = All-nil (Meets (get_or (virals s) k c))

-- a viral attribute of the result meets those of its name in the condition and in both branches
abbrev pub MeetsAll : List Component → List Component → List Component → Component → Type 0
MeetsAll first s t v = All (Meets v) first × All (Meets v) s × All (Meets v) t

module _ (first : List Component) (is : IsStructure first) where
  -- the condition with a branch, which may be a scalar
  abbrev WithOne : List Component → Type 0
  WithOne s = Meet first s × Meet s first × Meet s s

  with-one : (s : Option (List Component)) → All IsStructure (option_to_list s) → list_all (belongs_to first) (option_to_list s) ≡ true → WithOne (unwrap_or s [])
  with-one None its h = (nothing-met first, no-virals first, no-virals [])
  with-one (Some s) its h =
      let own : IsStructure s = All-head IsStructure s [] its in
      let belongs = left (belongs_to first s) true h in
      let agree = right (include (identifiers first) (identifiers s) && include (identifiers s) (identifiers first)) (virals_agree first s) belongs in
      let meet = with-branch first s is own agree in
      (meet, turned first s meet, meets-itself s own)

  with-both : (s t : Option (List Component)) → All IsStructure (branches s t) → are_of_one (branches s t) ≡ true → Meet (unwrap_or s []) (unwrap_or t []) × Meet (unwrap_or t []) (unwrap_or s [])
  with-both None t its h = (no-virals (unwrap_or t []), nothing-met (unwrap_or t []))
  with-both (Some s) None its h = (nothing-met s, no-virals s)
  with-both (Some s) (Some t) its h =
      let own : IsStructure t = All-head IsStructure t [] (All-tail IsStructure s (t ∷ []) its) in
      let meet = between s t own (left (are_alike s t) true h) in
      (meet, turned s t meet)

  of-option : (P : List Component → Type 0) (s : Option (List Component)) → P (unwrap_or s []) → All P (option_to_list s)
  of-option P None h = All-nil P
  of-option P (Some s) h = All-cons P s [] h (All-nil P)

  first-of : (P : List Component → Type 0) (s t : Option (List Component)) → All P (branches s t) → All P (option_to_list s) × All P (option_to_list t)
  first-of P None t h = (All-nil P, h)
  first-of P (Some s) t h = (All-cons P s [] (All-head P s (option_to_list t) h) (All-nil P), All-tail P s (option_to_list t) h)

  first-belong : (s t : Option (List Component)) → list_all (belongs_to first) (branches s t) ≡ true → (list_all (belongs_to first) (option_to_list s) ≡ true) × (list_all (belongs_to first) (option_to_list t) ≡ true)
  first-belong None t h = (refl, h)
  first-belong (Some s) t h =
      let own = left (belongs_to first s) (list_all (belongs_to first) (option_to_list t)) h in
      (rw own refl, right (belongs_to first s) (list_all (belongs_to first) (option_to_list t)) h)

  pub all-virals-meet : (s t : Option (List Component)) → All IsStructure (branches s t) → list_all (belongs_to first) (branches s t) ≡ true → are_of_one (branches s t) ≡ true → All (MeetsAll first (unwrap_or s []) (unwrap_or t [])) (all_virals [] (first ∷ branches s t))
  all-virals-meet s t its belong alike =
      let a = unwrap_or s [] in
      let b = unwrap_or t [] in
      let Q : Component → Type 0 = MeetsAll first a b in
      let P : List Component → Type 0 = λ u. All Q (virals u) in
      let structures = first-of IsStructure s t its in
      let belongs = first-belong s t belong in
      let one = with-one s structures.0 belongs.0 in
      let two = with-one t structures.1 belongs.1 in
      let both = with-both s t its alike in
      let own : Meet first first = meets-itself first is in
      let of_first : P first = λ k c within. (own k c within, one.0 k c within, two.0 k c within) in
      let of_s : P a = λ k c within. (one.1 k c within, one.2 k c within, both.0 k c within) in
      let of_t : P b = λ k c within. (two.1 k c within, both.1 k c within, two.2 k c within) in
      All-all_virals Q [] (first ∷ branches s t) (All-nil Q)
      (All-cons P first (branches s t) of_first (All-append P (option_to_list s) (option_to_list t) (of-option P s of_s) (of-option P t of_t)))

-- ---- values

-- a value that is found is of a component that passes
found-where : (Q : Component → Type 0) (passes : Component → Bool) (cs : List Component) (vs : List Value) → AllZip FitsComponent cs vs → All Q cs → IfSome (option_map (λ (q : Component × Value). q.1) (find (λ q. passes q.0) (zip cs vs))) (λ v. (d : Component) × (passes d ≡ true) × Q d × FitsComponent d v)
found-where Q passes [] [] fit all = tt
found-where Q passes [] (v ∷ vs) fit all = absurd fit
found-where Q passes (c ∷ cs) [] fit all = absurd fit
found-where Q passes (c ∷ cs) (v ∷ vs) fit all = by_test (passes c) refl (found-where Q passes cs vs fit.1 (All-tail Q c cs all))
  where
    by_test : (b : Bool) → passes c ≡ b → IfSome (option_map (λ (q : Component × Value). q.1) (find (λ q. passes q.0) (zip cs vs))) (λ u. (d : Component) × (passes d ≡ true) × Q d × FitsComponent d u) → IfSome (option_map (λ (q : Component × Value). q.1) (cond b (Some (c, v)) (find (λ (q : Component × Value). passes q.0) (zip cs vs)))) (λ u. (d : Component) × (passes d ≡ true) × Q d × FitsComponent d u)
    by_test true e later = (c, e, All-head Q c cs all, fit.0)
    by_test false e later = later

as-same : (c d : Component) (v : Value) → Same c d → FitsComponent d v → FitsComponent c v
as-same c d v same fit = record {
  kind = subst (λ (k : Kind). Fits k v) (sym same.0) fit.kind;
  codes = subst (λ (cs : Codes). is_in_codes cs v ≡ true) (sym same.1) fit.codes;
}

-- so it is one of this component, which meets all of its name
pub viral-fits : (c : Component) (cs : List Component) (vs : List Value) → AllZip FitsComponent cs vs → All (Meets c) cs → IfSome (viral_value c.name cs vs) (FitsComponent c)
viral-fits c cs vs fit meets = by_value (viral_value c.name cs vs) (found-where (Meets c) (λ d. has_role Viral d && has_name c.name d) cs vs fit meets)
  where
    by_value : (o : Option Value) → IfSome o (λ v. (d : Component) × ((has_role Viral d && has_name c.name d) ≡ true) × Meets c d × FitsComponent d v) → IfSome o (FitsComponent c)
    by_value None h = tt
    by_value (Some v) h =
        let d = h.0 in
        as-same c d v (h.2 (left (has_role Viral d) (has_name c.name d) h.1) (same-true c.name d.name (right (has_role Viral d) (has_name c.name d) h.1))) h.3

null-of : (k : Kind) → Fits k Null
null-of kind.Integer = tt
null-of kind.Number = tt
null-of kind.Text = tt
null-of kind.Truth = tt

null-in : (codes : Codes) → is_in_codes codes Null ≡ true
null-in Any = refl
null-in (Listed codes) = refl

null-fits : (c : Component) → FitsComponent c Null
null-fits c = record { kind = null-of c.kind; codes = null-in c.codes }

-- and so is the combination
pub one-fits : (c : Component) (x y : Option Value) → IfSome x (FitsComponent c) → IfSome y (FitsComponent c) → FitsComponent c (one_or_both (codes_of c.codes) x y)
one-fits c None None h i = null-fits c
one-fits c (Some x) None h i = h
one-fits c None (Some y) h i = i
one-fits c (Some x) (Some y) h i = by_place (combined (codes_of c.codes) (x ∷ y ∷ [])) (combined-IsTheHighest (codes_of c.codes) (x ∷ y ∷ [])).among
  where
    by_place : (v : Value) → (v ≡ Null) ⊎ Contains (x ∷ y ∷ []) v → FitsComponent c v
    by_place v (inl none) = subst (FitsComponent c) (sym none) (null-fits c)
    by_place v (inr there) = All-contains (FitsComponent c) (x ∷ y ∷ []) v (All-cons (FitsComponent c) x (y ∷ []) h (All-cons (FitsComponent c) y [] i (All-nil (FitsComponent c)))) there
