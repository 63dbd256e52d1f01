-- What a well typed pair gives is of the result's structure.
use Rattle.std.proofs.Common.{◌≡◌, ◌≢◌, ℕ, List, [], ◌∷◌, ◌++◌, map, length, Bool, true, false, ◌&&◌, ◌||◌, cond, if◌then◌else◌, Option, Some, None, IfSome, option_map, refl, sym, ap, subst, ◌∙◌}
use Rattle.std.specs.Prelude.{option_and_then}
use Rattle.std.specs.Option.{is_some, option_zip}
use Rattle.std.specs.List.{All, AllZip, cons_option, list_all, list_any}
use Rattle.std.specs.FinMap.{get}
use Rattle.std.specs.Ordering.{eq_by_cmp}
use Rattle.std.proofs.lemmas.List.Elements.{All-head, All-tail}
use Rattle.std.proofs.lemmas.Slice.Zip.{AllZip-long}
use Rattle.vtl_values.specs.Order.{key_cmp}
use Rattle.vtl_values.specs.Texts.{Fits, same_text}
use Rattle.vtl_values.specs.declared.kind.Kind.{Kind}
use Rattle.vtl_values.specs.declared.kind.Role.TheVariants.{Identifier, Viral}
use Rattle.vtl_values.specs.declared.structure.Codes.TheVariants.{Any}
use Rattle.vtl_values.specs.declared.structure.Component.{Component}
use Rattle.vtl_values.specs.declared.value.Value.{Value}
use Rattle.vtl_values.specs.declared.value.Value.TheVariants.{Null}
use Rattle.vtl_values.specs.Structures.{IsStructure}
use Rattle.vtl_values.proofs.Values.{key_cmp-IsTotalOrder}
use Rattle.data_model.specs.Outcomes.{Made}
use Rattle.data_model.proofs.MapLemmas.{tied_to_itself}
use Rattle.data_model.proofs.DeltaLemmas.{contradicted}
use Rattle.point_sets.specs.DataSets.{DataSet}
use Rattle.structured_sets.specs.Fitting as fitting
use Rattle.structured_sets.specs.Fitting.{FitsComponent, FitsIdentifier, IsPointOf, IsSetOf, others}
use Rattle.scalar_trees.specs.WellTyped.{Kinds, is_kind, is_of_kind}
use Rattle.scalar_trees.specs.typing.Scopes.{column_of}
use Rattle.scalar_trees.proofs.typing.Sound.{is_kind-same, left, right}
use Rattle.scalar_meaning.specs.Kept.{IsRowOf}
use Rattle.scalar_meaning.specs.Rows.{Row, point_row}
use Rattle.scalar_meaning.specs.Scalars.{meaning}
use Rattle.scalar_meaning.proofs.Kept.{kinds-kept, points-are-rows}
use Rattle.data_set_trees.specs.declared.clauses.clause.CheckedMeasure.{CheckedMeasure}
use Rattle.data_set_trees.specs.clauses.Frames.{frame_of, has_role}
use Rattle.clause_meaning.specs.Clauses.{worked_values}
use Rattle.clause_meaning.proofs.ByRole.{of-identifiers, other-role}
use Rattle.clause_meaning.proofs.First.{identifiers-first}
use Rattle.clause_meaning.proofs.Fits.{all-fit}
use Rattle.clause_meaning.proofs.Picked.{AllZip-++, AllZip-weaker}
use Rattle.data_set_trees.specs.Components.{identifiers, include, is_same, unlisted, virals}
use Rattle.data_set_trees.specs.Pairs.{measure_component}
use Rattle.data_set_trees.specs.checked.Operators.{kinds_on_both}
use Rattle.operator_meaning.specs.pairs.Pairs.{PairOn, key_between, values_there, is_left_main, left_key, right_key, main, main_key, partner, partner_key, result_key, is_key, main_set, partner_set, both_there, pair_at, pair_values, viral_value, viral_values, codes_of, one_or_both, pair_meaning}
use Rattle.operator_meaning.specs.pairs.Typed.{IsTypedPair}
use Rattle.operator_meaning.proofs.pairs.Names.{same-true, named, picked, is_in, Apart}
use Rattle.operator_meaning.proofs.pairs.Joined.{Has, own-role, both-role, both_identifiers, both_virals, joined-others, joined-virals}
use Rattle.operator_meaning.proofs.pairs.Keys.{names, key-picked, same-in, identifiers-are, names-unlisted, main-includes, main-apart, partner-same, result-back}
use Rattle.operator_meaning.proofs.pairs.Paired.{paired, comes-back, main-there, pair-result, from-pair}
use Rattle.operator_meaning.proofs.pairs.Virals.{virals-fit}

-- ---- keys

-- the value of a name, where there is one of it and of this kind among the identifiers
identifier-named : (d : Component) (cs : List Component) (vs : List Value) → Apart (names cs) → AllZip FitsIdentifier cs vs → list_any (is_same d) cs ≡ true → (v : Value) × (named (names cs) vs d.name ≡ Some v) × Fits d.kind v × (v ≢ Null)
identifier-named d [] vs apart fit there = cc
identifier-named d (c ∷ cs) [] apart fit there = absurd fit
identifier-named d (c ∷ cs) (v ∷ vs) apart fit there = by_name (identifier-named d cs vs apart.1 fit.1) (same_text d.name c.name) refl there
  where
    by_kind : same_text d.name c.name ≡ true → (k : Bool) → is_kind d.kind c.kind ≡ k → (k || list_any (is_same d) cs) ≡ true → Fits d.kind v
    by_kind e true is i = subst (λ (kind : Kind). Fits kind v) (sym (is_kind-same d.kind c.kind is)) fit.0.fits.kind
    by_kind e false is i = contradicted (is_in (names cs) c.name) (subst (λ (n : List ℕ). is_in (names cs) n ≡ true) (same-true d.name c.name e) (same-in d cs i)) apart.0

    by_name : (list_any (is_same d) cs ≡ true → (u : Value) × (named (names cs) vs d.name ≡ Some u) × Fits d.kind u × (u ≢ Null)) → (b : Bool) → same_text d.name c.name ≡ b → ((b && is_kind d.kind c.kind) || list_any (is_same d) cs) ≡ true → (u : Value) × (cond b (Some v) (named (names cs) vs d.name) ≡ Some u) × Fits d.kind u × (u ≢ Null)
    by_name later true e i = (v, refl, by_kind e (is_kind d.kind c.kind) refl i, fit.0.some)
    by_name later false e i = later i

without-codes : (d : Component) (v : Value) → Has Identifier d → Fits d.kind v → v ≢ Null → FitsIdentifier (unlisted d) v
without-codes d v has fit some = by_role (has_role Viral d) (other-role Viral Identifier refl d has)
  where
    by_role : (b : Bool) → b ≡ false → FitsIdentifier (if b then d else record d { codes = Any }) v
    by_role true e = cc
    by_role false e = record { fits = record { kind = fit; codes = refl }; some = some }

identifiers-picked : (cs : List Component) (vs : List Value) (ds : List Component) → Apart (names cs) → AllZip FitsIdentifier cs vs → include cs ds ≡ true → All (Has Identifier) ds → AllZip FitsIdentifier (map unlisted ds) (picked (names cs) (names ds) vs)
identifiers-picked cs vs [] apart fit there all = tt
identifiers-picked cs vs (d ∷ ds) apart fit there all =
    let own = list_any (is_same d) cs in
    let found = identifier-named d cs vs apart fit (left own (include cs ds) there) in
    subst (λ (o : Option Value). AllZip FitsIdentifier (unlisted d ∷ map unlisted ds) (cons_option o (picked (names cs) (names ds) vs))) (sym found.1)
    (without-codes d found.0 (All-head (Has Identifier) d ds all) found.2 found.3, identifiers-picked cs vs ds apart fit (right own (include cs ds) there) (All-tail (Has Identifier) d ds all))

-- ---- measures

AllZip-map : {A B C : Type 0} (F : B → C → Type 0) (f : A → B) (xs : List A) (ys : List C) → AllZip (λ x y. F (f x) y) xs ys → AllZip F (map f xs) ys
AllZip-map F f [] [] h = h
AllZip-map F f [] (y ∷ ys) h = absurd h
AllZip-map F f (x ∷ xs) [] h = absurd h
AllZip-map F f (x ∷ xs) (y ∷ ys) h = (h.0, AllZip-map F f xs ys h.1)

module _ (kinds : Kinds) (row : Row) (is : IsRowOf kinds row) where
  measures-worked : (ms : List CheckedMeasure) → list_all (λ m. is_of_kind kinds m.value m.kind) ms ≡ true → (vs : List Value) → worked_values row ms ≡ Some vs → AllZip FitsComponent (map measure_component ms) vs
  measures-worked [] typed [] h = tt
  measures-worked [] typed (v ∷ vs) h = cc
  measures-worked (m ∷ ms) typed vs h =
      let own = is_of_kind kinds m.value m.kind in
      let rest = list_all (λ n. is_of_kind kinds n.value n.kind) ms in
      by_values (meaning row m.value) (kinds-kept m.value kinds row m.kind (left own rest typed) is) (worked_values row ms) (measures-worked ms (right own rest typed)) h
    where
      by_values : (o : Option Value) → IfSome o (Fits m.kind) → (p : Option (List Value)) → ((us : List Value) → p ≡ Some us → AllZip FitsComponent (map measure_component ms) us) → option_map (λ q. q.0 ∷ q.1) (option_zip o p) ≡ Some vs → AllZip FitsComponent (measure_component m ∷ map measure_component ms) vs
      by_values None fit p later i = cc
      by_values (Some v) fit None later i = cc
      by_values (Some v) fit (Some us) later i = let same : v ∷ us ≡ vs = cc in subst (λ (ws : List Value). AllZip FitsComponent (measure_component m ∷ map measure_component ms) ws) same (record { kind = fit; codes = refl }, later us refl)

-- ---- a pair

module _ (p : PairOn) (typed : IsTypedPair p) where
  -- a key of the main operand comes to one of the result
  pub key-fits : (key : List Value) → AllZip FitsIdentifier (fitting.identifiers (main p)) key → AllZip FitsIdentifier (fitting.identifiers p.structure) (result_key p key)
  key-fits key fit =
      let all = both_identifiers p.left p.right in
      let own : AllZip FitsIdentifier (identifiers (main p)) key = subst (λ (cs : List Component). AllZip FitsIdentifier cs key) (sym (of-identifiers (main p))) fit in
      let role = both-role Identifier (identifiers p.left) (identifiers p.right) (own-role Identifier p.left) (own-role Identifier p.right) in
      let made : AllZip FitsIdentifier (map unlisted all) (picked (names (identifiers (main p))) (names all) key) = identifiers-picked (identifiers (main p)) key all (main-apart p typed) own (main-includes p typed).0 role in
      let is : fitting.identifiers p.structure ≡ map unlisted all = sym (of-identifiers p.structure) ∙ identifiers-are p typed in
      let same : result_key p key ≡ picked (names (identifiers (main p))) (names all) key = key-picked (main p) p.structure key ∙ ap (λ (ns : List (List ℕ)). picked (names (identifiers (main p))) ns key) (ap names (identifiers-are p typed) ∙ names-unlisted all) in
      subst (λ (cs : List Component). AllZip FitsIdentifier cs (result_key p key)) (sym is) (subst (λ (k : List Value). AllZip FitsIdentifier (map unlisted all) k) (sym same) made)

  -- the values of both points are of both operands' components
  pub values-fit : (a b vs : List Value) → AllZip FitsComponent p.left a → AllZip FitsComponent p.right b → pair_values p a b ≡ Some vs → AllZip FitsComponent (others p.structure) vs
  values-fit a b vs fit fits h =
      let ms = map measure_component p.measures in
      let all = both_virals p.left p.right in
      let is : others p.structure ≡ ms ++ all = ap others typed.pair.is_joined ∙ joined-others p.measures p.left p.right in
      let its : virals p.structure ≡ all = ap virals typed.pair.is_joined ∙ joined-virals p.measures p.left p.right in
      subst (λ (cs : List Component). AllZip FitsComponent cs vs) (sym is) (by_values (worked_values (point_row a b) p.measures) refl its h)
    where
      row : IsRowOf (kinds_on_both p.left p.right) (point_row a b)
      row =
          points-are-rows (map column_of (p.left ++ p.right)) a b
          (AllZip-map (λ c v. Fits c.kind v) column_of (p.left ++ p.right) (a ++ b)
          (AllZip-weaker FitsComponent (λ c v. Fits c.kind v) (λ c v i. i.kind) (p.left ++ p.right) (a ++ b) (AllZip-++ FitsComponent p.left p.right a b fit fits)))

      valued : virals p.structure ≡ both_virals p.left p.right → AllZip FitsComponent (both_virals p.left p.right) (viral_values p a b)
      valued its =
          subst (λ (cs : List Component). AllZip FitsComponent cs (viral_values p a b)) its
          (subst (λ (cs : List Component). AllZip FitsComponent cs (map (λ c. one_or_both (codes_of c.codes) (viral_value c.name p.left a) (viral_value c.name p.right b)) cs)) (sym its) (virals-fit p.left p.right a b typed.left_is typed.right_is typed.pair.virals_match fit fits))

      by_values : (o : Option (List Value)) → worked_values (point_row a b) p.measures ≡ o → virals p.structure ≡ both_virals p.left p.right → option_map (λ us. us ++ viral_values p a b) o ≡ Some vs → AllZip FitsComponent (map measure_component p.measures ++ both_virals p.left p.right) vs
      by_values None e its i = cc
      by_values (Some us) e its i =
          let same : us ++ viral_values p a b ≡ vs = cc in
          subst (λ (ws : List Value). AllZip FitsComponent (map measure_component p.measures ++ both_virals p.left p.right) ws) same
          (AllZip-++ FitsComponent (map measure_component p.measures) (both_virals p.left p.right) us (viral_values p a b) (measures-worked (kinds_on_both p.left p.right) (point_row a b) row p.measures typed.pair.of_kind us e) (valued its))

if-there : {A : Type 0} (P : A → Type 0) (o : Option A) (x : A) → o ≡ Some x → IfSome o P → P x
if-there {A = A} P o x e h = subst (λ (q : Option A). IfSome q P) e h

of-some : {A : Type 0} (o : Option A) → is_some o ≡ true → (x : A) × (o ≡ Some x)
of-some None h = cc
of-some (Some x) h = (x, refl)

module _ (p : PairOn) (a b y : DataSet) (typed : IsTypedPair p) where
  set-of-main : IsSetOf p.left a → IsSetOf p.right b → IsSetOf (main p) (main_set p a b)
  set-of-main fit fits = elim (is_left_main p) as (λ c. IsSetOf (if c then p.left else p.right) (if c then a else b)) [ true ↦ fit | false ↦ fits ]

  key-of-main : IsSetOf p.left a → IsSetOf p.right b → (key : List Value) → is_some (get (main_set p a b) key) ≡ true → AllZip FitsIdentifier (fitting.identifiers (main p)) key
  key-of-main fit fits key there =
      let point = of-some (get (main_set p a b) key) there in
      (if-there (IsPointOf (main p) key) (get (main_set p a b) key) point.0 point.1 (set-of-main fit fits key)).key_fits

  long-key : (key : List Value) → AllZip FitsIdentifier (fitting.identifiers (main p)) key → length key ≡ length (identifiers (main p))
  long-key key fit = AllZip-long FitsIdentifier (fitting.identifiers (main p)) key fit ∙ ap length (sym (of-identifiers (main p)))

  -- each key is that of a main point whose partner is there
  pub keys-are : IsSetOf p.left a → IsSetOf p.right b → pair_meaning p a b ≡ Made y → (key rest : List Value) → get y key ≡ Some rest → (from : List Value) × (result_key p from ≡ key) × (is_some (get (main_set p a b) from) ≡ true) × (is_some (get (partner_set p a b) (partner_key p from)) ≡ true)
  keys-are fit fits e key rest there =
      let pair = from-pair p a b y e key rest there in
      let all = paired p a b key pair in
      let own = main-there p a b key pair in
      let back : result_key p (main_key p key) ≡ key = sym (comes-back p a b key all.0) in
      let long = long-key (main_key p key) (key-of-main fit fits (main_key p key) own) in
      let its : key_between p.structure (partner p) key ≡ partner_key p (main_key p key) = ap (key_between p.structure (partner p)) (sym back) ∙ partner-same p typed (main_key p key) long in
      let found : is_some (get (partner_set p a b) (key_between p.structure (partner p) key)) ≡ true = by_test (is_left_main p) refl all.1 all.2 in
      (main_key p key, back, own, subst (λ (k : List Value). is_some (get (partner_set p a b) k) ≡ true) its found)
    where
      by_test : (c : Bool) → is_left_main p ≡ c → is_some (get a (left_key p key)) ≡ true → is_some (get b (right_key p key)) ≡ true → is_some (get (if c then b else a) (key_between p.structure (if c then p.right else p.left) key)) ≡ true
      by_test true e l r = r
      by_test false e l r = l

  -- at a key of the result
  pub pairs-are : pair_meaning p a b ≡ Made y → (key : List Value) → length key ≡ length (identifiers p.structure) → get y key ≡ option_and_then (λ q. pair_values p q.0 q.1) (both_there p a b key)
  pairs-are e key long =
      let tied : is_key p key ≡ true = subst (λ (k : List Value). eq_by_cmp key_cmp key k ≡ true) (sym (result-back p typed key long)) (tied_to_itself key_cmp-IsTotalOrder key) in
      let same : pair_at p a b key ≡ both_there p a b key = ap (λ c. if c then both_there p a b key else None) tied in
      (pair-result p a b y e).values key ∙ ap (option_and_then (λ (q : List Value × List Value). pair_values p q.0 q.1)) same

  all-of-point : (cs : List Component) (set : DataSet) (key : List Value) → IsStructure cs → IsSetOf cs set → IfSome (values_there set key) (AllZip FitsComponent cs)
  all-of-point cs set key is fit = by_point (get set key) (fit key)
    where
      by_point : (o : Option (List Value)) → IfSome o (IsPointOf cs key) → IfSome (option_map (λ rest. key ++ rest) o) (AllZip FitsComponent cs)
      by_point None h = tt
      by_point (Some rest) h = all-fit (frame_of cs) key rest (identifiers-first cs is) h

  if-both : (o q : Option (List Value)) (vs : List Value) → IfSome o (AllZip FitsComponent p.left) → IfSome q (AllZip FitsComponent p.right) → option_and_then (λ r. pair_values p r.0 r.1) (option_zip o q) ≡ Some vs → AllZip FitsComponent (others p.structure) vs
  if-both None q vs fit fits h = cc
  if-both (Some l) None vs fit fits h = cc
  if-both (Some l) (Some r) vs fit fits h = values-fit p typed l r vs fit fits h

  pub pair-fits : IsSetOf p.left a → IsSetOf p.right b → pair_meaning p a b ≡ Made y → IsSetOf p.structure y
  pair-fits fit fits e key = by_point (get y key) refl
    where
      by_test : (c : Bool) (vs : List Value) → option_and_then (λ q. pair_values p q.0 q.1) (if c then both_there p a b key else None) ≡ Some vs → AllZip FitsComponent (others p.structure) vs
      by_test true vs h = if-both (values_there a (left_key p key)) (values_there b (right_key p key)) vs (all-of-point p.left a (left_key p key) typed.left_is fit) (all-of-point p.right b (right_key p key) typed.right_is fits) h
      by_test false vs h = cc

      by_point : (o : Option (List Value)) → get y key ≡ o → IfSome o (IsPointOf p.structure key)
      by_point None there = tt
      by_point (Some rest) there =
          let pair = from-pair p a b y e key rest there in
          let back = comes-back p a b key (paired p a b key pair).0 in
          let own = key-of-main fit fits (main_key p key) (main-there p a b key pair) in
          record {
            key_fits = subst (λ (k : List Value). AllZip FitsIdentifier (fitting.identifiers p.structure) k) (sym back) (key-fits p typed (main_key p key) own);
            rest_fits = by_test (is_key p key) rest (sym ((pair-result p a b y e).values key) ∙ there);
          }
