-- Identifiers and other components of a frame by role.
use Rattle.std.proofs.Common.{◌≡◌, Bool, true, false, not, List, [], ◌∷◌, ◌++◌, cond, refl, sym, ap, subst, ◌∙◌}
use Rattle.std.specs.Prelude.{filter, filter_map, slice_get}
use Rattle.std.specs.List.{All, AllZip}
use Rattle.std.proofs.lemmas.List.{append-nil}
use Rattle.std.proofs.lemmas.List.Elements.{All-nil, All-cons, All-head, All-tail, filter-append, filter_map-append}
use Rattle.vtl_values.specs.declared.kind.Role.{Role}
use Rattle.vtl_values.specs.declared.kind.Role.TheVariants.{Identifier, Measure, Attribute, Viral}
use Rattle.vtl_values.specs.declared.structure.Component.{Component}
use Rattle.vtl_values.specs.declared.value.Value.{Value}
use Rattle.structured_sets.specs.Fitting.{is_identifier, identifiers, others, FitsComponent, FitsIdentifier, IsPointOf}
use Rattle.data_set_trees.specs.declared.clauses.frame.Frame.{Frame}
use Rattle.data_set_trees.specs.clauses.Frames.{is_role, has_role, numbers_of, by_role}
use Rattle.data_set_trees.proofs.clauses.Ordered.{role_is}
use Rattle.clause_meaning.proofs.Picked.{picked-filter}
use Rattle.clause_meaning.proofs.Fits.{same_test}

-- ---- filters

pub filter-pass : {A : Type 0} (p : A → Bool) (xs : List A) → All (λ x. p x ≡ true) xs → filter p xs ≡ xs
filter-pass p [] all = refl
filter-pass {A = A} p (x ∷ xs) all = rw (All-head (λ y. p y ≡ true) x xs all) (ap (λ (ys : List A). x ∷ ys) (filter-pass p xs (All-tail (λ y. p y ≡ true) x xs all)))

pub filter-none : {A : Type 0} (p : A → Bool) (xs : List A) → All (λ x. p x ≡ false) xs → filter p xs ≡ []
filter-none p [] all = refl
filter-none p (x ∷ xs) all = rw (All-head (λ y. p y ≡ false) x xs all) (filter-none p xs (All-tail (λ y. p y ≡ false) x xs all))

filter-all : {A : Type 0} (p : A → Bool) (P : A → Type 0) → ((x : A) → p x ≡ true → P x) → (xs : List A) → All P (filter p xs)
filter-all p P each [] = All-nil P
filter-all {A = A} p P each (x ∷ xs) = by_test (p x) refl (filter-all p P each xs)
  where
    by_test : (b : Bool) → p x ≡ b → All P (filter p xs) → All P (cond b (x ∷ filter p xs) (filter p xs))
    by_test true e later = All-cons P x (filter p xs) (each x e) later
    by_test false e later = later

filter-same : {A : Type 0} (p q : A → Bool) → ((x : A) → p x ≡ q x) → (xs : List A) → filter p xs ≡ filter q xs
filter-same p q same [] = refl
filter-same {A = A} p q same (x ∷ xs) = ap (λ b. cond b (x ∷ filter p xs) (filter p xs)) (same x) ∙ ap (λ (ys : List A). cond (q x) (x ∷ ys) ys) (filter-same p q same xs)

-- ---- the components of a role

abbrev pub of : Role → List Component → List Component
of r cs = filter (has_role r) cs

-- those of a role have no other one
pub other-role : (r s : Role) → is_role r s ≡ false → (c : Component) → has_role s c ≡ true → has_role r c ≡ false
other-role r s apart c has = subst (λ (q : Role). is_role r q ≡ false) (role_is s c.role has) apart

pub of-own : (r : Role) (cs : List Component) → of r (of r cs) ≡ of r cs
of-own r cs = filter-pass (has_role r) (of r cs) (filter-all (has_role r) (λ c. has_role r c ≡ true) (λ c e. e) cs)

pub of-other : (r s : Role) → is_role r s ≡ false → (cs : List Component) → of r (of s cs) ≡ []
of-other r s apart cs = filter-none (has_role r) (of s cs) (filter-all (has_role s) (λ c. has_role r c ≡ false) (other-role r s apart) cs)

is-identifier : (c : Component) → is_identifier c ≡ has_role Identifier c
is-identifier c = same_test c c.role

pub of-identifiers : (cs : List Component) → of Identifier cs ≡ identifiers cs
of-identifiers cs = filter-same (has_role Identifier) is_identifier (λ c. sym (is-identifier c)) cs

identified : (s : Role) → is_role Identifier s ≡ false → (cs : List Component) → identifiers (of s cs) ≡ []
identified s apart cs = sym (of-identifiers (of s cs)) ∙ of-other Identifier s apart cs

others-of : (s : Role) → is_role Identifier s ≡ false → (cs : List Component) → others (of s cs) ≡ of s cs
others-of s apart cs = filter-pass (λ c. not (is_identifier c)) (of s cs) (filter-all (has_role s) (λ c. not (is_identifier c) ≡ true) (λ c e. ap not (is-identifier c ∙ other-role Identifier s apart c e)) cs)

no-others : (cs : List Component) → others (of Identifier cs) ≡ []
no-others cs = filter-none (λ c. not (is_identifier c)) (of Identifier cs) (filter-all (has_role Identifier) (λ c. not (is_identifier c) ≡ false) (λ c e. ap not (is-identifier c ∙ e)) cs)

-- ---- by role

abbrev ordered : List Component → List Component
ordered cs = ((of Identifier cs ++ of Measure cs) ++ of Attribute cs) ++ of Viral cs

pub by_role-is : (frame : Frame) → (by_role frame).components ≡ ordered frame.components
by_role-is frame =
    let cs = frame.components in
    let at = filter_map (slice_get cs) in
    let i = numbers_of Identifier cs in
    let m = numbers_of Measure cs in
    let a = numbers_of Attribute cs in
    let v = numbers_of Viral cs in
    let is = λ (r : Role). picked-filter cs (has_role r) 0 cs refl in
    let two : at (i ++ m) ≡ of Identifier cs ++ of Measure cs = filter_map-append (slice_get cs) i m ∙ (λ q. is Identifier q ++ is Measure q) in
    let three : at ((i ++ m) ++ a) ≡ (of Identifier cs ++ of Measure cs) ++ of Attribute cs = filter_map-append (slice_get cs) (i ++ m) a ∙ (λ q. two q ++ is Attribute q) in
    filter_map-append (slice_get cs) ((i ++ m) ++ a) v ∙ (λ q. three q ++ is Viral q)

filter-four : (p : Component → Bool) (i m a v : List Component) → filter p (((i ++ m) ++ a) ++ v) ≡ ((filter p i ++ filter p m) ++ filter p a) ++ filter p v
filter-four p i m a v = filter-append p ((i ++ m) ++ a) v ∙ ap (λ (q : List Component). q ++ filter p v) (filter-append p (i ++ m) a ∙ ap (λ (q : List Component). q ++ filter p a) (filter-append p i m))

ordered-identifiers : (cs : List Component) → identifiers (ordered cs) ≡ of Identifier cs
ordered-identifiers cs =
    let own : identifiers (of Identifier cs) ≡ of Identifier cs = sym (of-identifiers (of Identifier cs)) ∙ of-own Identifier cs in
    filter-four is_identifier (of Identifier cs) (of Measure cs) (of Attribute cs) (of Viral cs)
    ∙ (λ q. ((own q ++ identified Measure refl cs q) ++ identified Attribute refl cs q) ++ identified Viral refl cs q)
    ∙ append-nil ((of Identifier cs ++ []) ++ []) ∙ append-nil (of Identifier cs ++ []) ∙ append-nil (of Identifier cs)

ordered-others : (cs : List Component) → others (ordered cs) ≡ (of Measure cs ++ of Attribute cs) ++ of Viral cs
ordered-others cs =
    filter-four (λ c. not (is_identifier c)) (of Identifier cs) (of Measure cs) (of Attribute cs) (of Viral cs)
    ∙ (λ q. ((no-others cs q ++ others-of Measure refl cs q) ++ others-of Attribute refl cs q) ++ others-of Viral refl cs q)

-- a point of the identifiers, and then of the measures, the attributes and the viral attributes
pub by_role-fits : (frame : Frame) (key rest : List Value) → AllZip FitsIdentifier (of Identifier frame.components) key
    → AllZip FitsComponent ((of Measure frame.components ++ of Attribute frame.components) ++ of Viral frame.components) rest → IsPointOf (by_role frame).components key rest
by_role-fits frame key rest own all =
    let cs = frame.components in
    subst (λ (ds : List Component). IsPointOf ds key rest) (sym (by_role-is frame)) (record {
      key_fits = subst (λ (ds : List Component). AllZip FitsIdentifier ds key) (sym (ordered-identifiers cs)) own;
      rest_fits = subst (λ (ds : List Component). AllZip FitsComponent ds rest) (sym (ordered-others cs)) all;
    })
