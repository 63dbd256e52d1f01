-- The components of a result by role.
use Rattle.std.proofs.Common.{◌≡◌, List, [], ◌∷◌, ◌++◌, map, Bool, true, false, not, cond, if◌then◌else◌, refl, ap, ◌∙◌}
use Rattle.std.specs.Prelude.{filter}
use Rattle.std.specs.List.{All}
use Rattle.std.proofs.lemmas.List.{append-nil}
use Rattle.std.proofs.lemmas.List.Elements.{All-nil, All-cons, All-weaker, All-map, All-filter, All-append, filter-append}
use Rattle.vtl_values.specs.declared.kind.Role.{Role}
use Rattle.vtl_values.specs.declared.kind.Role.TheVariants.{Identifier, Measure, Viral}
use Rattle.vtl_values.specs.declared.structure.Codes.TheVariants.{Any}
use Rattle.vtl_values.specs.declared.structure.Component.{Component}
use Rattle.structured_sets.specs.Fitting.{is_identifier, others}
use Rattle.data_set_trees.specs.declared.clauses.clause.CheckedMeasure.{CheckedMeasure}
use Rattle.data_set_trees.specs.clauses.Frames.{is_role, has_role}
use Rattle.clause_meaning.proofs.ByRole.{filter-pass, filter-none, other-role}
use Rattle.clause_meaning.proofs.Fits.{same_test}
use Rattle.data_set_trees.specs.Components.{identifiers, virals, further, is_taken, unlisted}
use Rattle.data_set_trees.specs.Pairs.{joined, measure_component}

abbrev pub Has : Role → Component → Type 0
Has r c = has_role r c ≡ true

pub own-role : (r : Role) (cs : List Component) → All (Has r) (filter (has_role r) cs)
own-role r [] = All-nil (Has r)
own-role r (c ∷ cs) = by_test (has_role r c) refl (own-role r cs)
  where
    by_test : (b : Bool) → has_role r c ≡ b → All (Has r) (filter (has_role r) cs) → All (Has r) (cond b (c ∷ filter (has_role r) cs) (filter (has_role r) cs))
    by_test true e later = All-cons (Has r) c (filter (has_role r) cs) e later
    by_test false e later = later

pub unlisted-role : (r : Role) (c : Component) → has_role r (unlisted c) ≡ has_role r c
unlisted-role r c = elim (has_role Viral c) as (λ b. has_role r (if b then c else record c { codes = Any }) ≡ has_role r c) [ true ↦ refl | false ↦ refl ]

-- the identifiers and the viral attributes of a result
abbrev pub both_identifiers : List Component → List Component → List Component
both_identifiers s t = identifiers s ++ further (identifiers s) (identifiers t)

abbrev pub both_virals : List Component → List Component → List Component
both_virals s t = virals s ++ further (virals s) (virals t)

pub both-role : (r : Role) (xs ys : List Component) → All (Has r) xs → All (Has r) ys → All (Has r) (xs ++ further xs ys)
both-role r xs ys h i = All-append (Has r) xs (further xs ys) h (All-filter (λ c. not (is_taken c.name xs)) (Has r) ys i)

module _ (p : Component → Bool) (ms : List CheckedMeasure) (s t : List Component) where
  of_parts : filter p (joined ms s t) ≡ (filter p (map unlisted (both_identifiers s t)) ++ filter p (map measure_component ms)) ++ filter p (both_virals s t)
  of_parts =
      filter-append p (map unlisted (both_identifiers s t) ++ map measure_component ms) (both_virals s t)
      ∙ ap (λ (q : List Component). q ++ filter p (both_virals s t)) (filter-append p (map unlisted (both_identifiers s t)) (map measure_component ms))

  parts : (i m v : List Component) → filter p (map unlisted (both_identifiers s t)) ≡ i → filter p (map measure_component ms) ≡ m → filter p (both_virals s t) ≡ v → filter p (joined ms s t) ≡ (i ++ m) ++ v
  parts i m v x y z = of_parts ∙ (λ q. (x q ++ y q) ++ z q)

module _ (ms : List CheckedMeasure) (s t : List Component) where
  identify : All (Has Identifier) (map unlisted (both_identifiers s t))
  identify =
      All-map (Has Identifier) unlisted (both_identifiers s t)
      (All-weaker (Has Identifier) (λ c. Has Identifier (unlisted c)) (λ c h. unlisted-role Identifier c ∙ h) (both_identifiers s t) (both-role Identifier (identifiers s) (identifiers t) (own-role Identifier s) (own-role Identifier t)))

  measure : All (Has Measure) (map measure_component ms)
  measure = All-map (Has Measure) measure_component ms (λ k d within. refl)

  viral : All (Has Viral) (both_virals s t)
  viral = both-role Viral (virals s) (virals t) (own-role Viral s) (own-role Viral t)

  -- those of a role have no other one
  none-of : (r q : Role) (cs : List Component) → is_role r q ≡ false → All (Has q) cs → filter (has_role r) cs ≡ []
  none-of r q cs apart all = filter-none (has_role r) cs (All-weaker (Has q) (λ c. has_role r c ≡ false) (other-role r q apart) cs all)

  pub joined-identifiers : identifiers (joined ms s t) ≡ map unlisted (both_identifiers s t)
  joined-identifiers =
      parts (has_role Identifier) ms s t (map unlisted (both_identifiers s t)) [] []
      (filter-pass (has_role Identifier) (map unlisted (both_identifiers s t)) identify)
      (none-of Identifier Measure (map measure_component ms) refl measure)
      (none-of Identifier Viral (both_virals s t) refl viral)
      ∙ append-nil (map unlisted (both_identifiers s t) ++ []) ∙ append-nil (map unlisted (both_identifiers s t))

  pub joined-virals : virals (joined ms s t) ≡ both_virals s t
  joined-virals =
      parts (has_role Viral) ms s t [] [] (both_virals s t)
      (none-of Viral Identifier (map unlisted (both_identifiers s t)) refl identify)
      (none-of Viral Measure (map measure_component ms) refl measure)
      (filter-pass (has_role Viral) (both_virals s t) viral)

  is-other : (r : Role) → is_role Identifier r ≡ false → (c : Component) → Has r c → not (is_identifier c) ≡ true
  is-other r apart c h = ap not (same_test c c.role ∙ other-role Identifier r apart c h)

  pub joined-others : others (joined ms s t) ≡ map measure_component ms ++ both_virals s t
  joined-others =
      parts (λ c. not (is_identifier c)) ms s t [] (map measure_component ms) (both_virals s t)
      (filter-none (λ c. not (is_identifier c)) (map unlisted (both_identifiers s t)) (All-weaker (Has Identifier) (λ c. not (is_identifier c) ≡ false) (λ c h. ap not (same_test c c.role ∙ h)) (map unlisted (both_identifiers s t)) identify))
      (filter-pass (λ c. not (is_identifier c)) (map measure_component ms) (All-weaker (Has Measure) (λ c. not (is_identifier c) ≡ true) (is-other Measure refl) (map measure_component ms) measure))
      (filter-pass (λ c. not (is_identifier c)) (both_virals s t) (All-weaker (Has Viral) (λ c. not (is_identifier c) ≡ true) (is-other Viral refl) (both_virals s t) viral))
