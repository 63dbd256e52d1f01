-- The components of a join's result by role, whatever their names.
use Rattle.std.proofs.Common.{◌≡◌, List, [], ◌∷◌, ◌++◌, map, length, get_or, Bool, true, false, not, cond, if◌then◌else◌, refl, sym, ap, subst, ◌∙◌}
use Rattle.std.specs.Prelude.{filter, flat_map}
use Rattle.std.specs.List.{All, AllZip}
use Rattle.std.proofs.lemmas.List.{append-nil, length-map}
use Rattle.std.proofs.lemmas.List.Elements.{All-nil, All-weaker, All-map, All-append, filter-append}
use Rattle.vtl_values.specs.declared.kind.Role.{Role}
use Rattle.vtl_values.specs.declared.kind.Role.TheVariants.{Identifier, Measure, Viral}
use Rattle.vtl_values.specs.declared.structure.Codes.TheVariants.{Any}
use Rattle.vtl_values.specs.declared.structure.Component.{Component}
use Rattle.vtl_values.specs.declared.value.Value.{Value}
use Rattle.vtl_syntax.specs.declared.words.JoinFunction.{JoinFunction}
use Rattle.vtl_syntax.specs.declared.words.JoinFunction.TheVariants.{Inner, Left, Full, Cross}
use Rattle.structured_sets.specs.Fitting as fitting
use Rattle.structured_sets.specs.Fitting.{FitsComponent, FitsIdentifier, IsPointOf, is_identifier, others}
use Rattle.data_set_trees.specs.clauses.Frames.{is_role, has_role}
use Rattle.clause_meaning.proofs.ByRole.{filter-pass, filter-none, other-role, of-identifiers}
use Rattle.clause_meaning.proofs.Fits.{same_test}
use Rattle.clause_meaning.proofs.Picked.{AllZip-weaker}
use Rattle.data_set_trees.specs.Components.{identifiers, virals, unlisted}
use Rattle.data_set_trees.specs.Joins.{gathered, join_identifiers, join_components}
use Rattle.data_set_trees.specs.checked.Operators.{unnamed, AreSameButNames}
use Rattle.operator_meaning.proofs.pairs.Joined.{Has, own-role}
use Rattle.operator_meaning.proofs.joins.Gathered.{gathered-all}

-- what passes stays what passes
passing-same : (q : Component → Bool) (g : Component → Component) → ((c : Component) → q (g c) ≡ q c) → (cs : List Component) → filter q (map g cs) ≡ map g (filter q cs)
passing-same q g same [] = refl
passing-same q g same (c ∷ cs) = ap (λ b. cond b (g c ∷ filter q (map g cs)) (filter q (map g cs))) (same c) ∙ by_test (passing-same q g same cs) (q c)
  where
    by_test : filter q (map g cs) ≡ map g (filter q cs) → (b : Bool) → cond b (g c ∷ filter q (map g cs)) (filter q (map g cs)) ≡ map g (cond b (c ∷ filter q cs) (filter q cs))
    by_test later true = ap (λ (xs : List Component). g c ∷ xs) later
    by_test later false = later

AllZip-map : (F : Component → Value → Type 0) (g : Component → Component) (cs : List Component) (vs : List Value) → AllZip (λ c. F (g c)) cs vs → AllZip F (map g cs) vs
AllZip-map F g [] [] h = h
AllZip-map F g [] (v ∷ vs) h = absurd h
AllZip-map F g (c ∷ cs) [] h = absurd h
AllZip-map F g (c ∷ cs) (v ∷ vs) h = (h.0, AllZip-map F g cs vs h.1)

AllZip-unmap : (F : Component → Value → Type 0) (g : Component → Component) (cs : List Component) (vs : List Value) → AllZip F (map g cs) vs → AllZip (λ c. F (g c)) cs vs
AllZip-unmap F g [] [] h = h
AllZip-unmap F g [] (v ∷ vs) h = absurd h
AllZip-unmap F g (c ∷ cs) [] h = absurd h
AllZip-unmap F g (c ∷ cs) (v ∷ vs) h = (h.0, AllZip-unmap F g cs vs h.1)

-- ---- without names

without : (c : Component) (v : Value) → FitsComponent c v → FitsComponent (unnamed c) v
without c v fit = record { kind = fit.kind; codes = fit.codes }

with : (c : Component) (v : Value) → FitsComponent (unnamed c) v → FitsComponent c v
with c v fit = record { kind = fit.kind; codes = fit.codes }

without-identifier : (c : Component) (v : Value) → FitsIdentifier c v → FitsIdentifier (unnamed c) v
without-identifier c v fit = record { fits = without c v fit.fits; some = fit.some }

with-identifier : (c : Component) (v : Value) → FitsIdentifier (unnamed c) v → FitsIdentifier c v
with-identifier c v fit = record { fits = with c v fit.fits; some = fit.some }

-- a point of a structure is one of any other with the same components but for names
pub but-names : (s t : List Component) (key rest : List Value) → AreSameButNames s t → IsPointOf t key rest → IsPointOf s key rest
but-names s t key rest same fit = record {
  key_fits = moved FitsIdentifier without-identifier with-identifier is_identifier (λ c. refl) key fit.key_fits;
  rest_fits = moved FitsComponent without with (λ c. not (is_identifier c)) (λ c. refl) rest fit.rest_fits;
}
  where
    moved : (F : Component → Value → Type 0) → ((c : Component) (v : Value) → F c v → F (unnamed c) v) → ((c : Component) (v : Value) → F (unnamed c) v → F c v) → (q : Component → Bool) → ((c : Component) → q (unnamed c) ≡ q c) → (vs : List Value) → AllZip F (filter q t) vs → AllZip F (filter q s) vs
    moved F there back q kept vs h =
        let bare : AllZip F (filter q (map unnamed t)) vs = subst (λ (cs : List Component). AllZip F cs vs) (sym (passing-same q unnamed kept t)) (AllZip-map F unnamed (filter q t) vs (AllZip-weaker F (λ c. F (unnamed c)) there (filter q t) vs h)) in
        let own : AllZip F (map unnamed (filter q s)) vs = subst (λ (cs : List Component). AllZip F cs vs) (passing-same q unnamed kept s) (subst (λ (cs : List Component). AllZip F (filter q cs) vs) (sym same) bare) in
        AllZip-weaker (λ c. F (unnamed c)) F back (filter q s) vs (AllZip-unmap F unnamed (filter q s) vs own)

-- they have as many identifiers
pub as-many : (s t : List Component) → AreSameButNames s t → length (identifiers s) ≡ length (identifiers t)
as-many s t same =
    sym (length-map (identifiers s) unnamed)
    ∙ ap length (sym (passing-same (has_role Identifier) unnamed (λ c. refl) s) ∙ ap identifiers same ∙ passing-same (has_role Identifier) unnamed (λ c. refl) t)
    ∙ length-map (identifiers t) unnamed

-- ---- the components of a join

flat-all : (P : Component → Type 0) (g : List Component → List Component) → ((s : List Component) → All P (g s)) → (ss : List (List Component)) → All P (flat_map g ss)
flat-all P g each [] = All-nil P
flat-all P g each (s ∷ ss) = All-append P (g s) (flat_map g ss) (each s) (flat-all P g each ss)

gathered-role : (r : Role) (ss : List (List Component)) → All (Has r) (gathered [] (map (filter (has_role r)) ss))
gathered-role r ss = gathered-all (Has r) [] (map (filter (has_role r)) ss) (All-nil (Has r)) (All-map (All (Has r)) (filter (has_role r)) ss (λ k d within. own-role r (get_or ss k d)))

pub all-identify : (f : JoinFunction) (ss : List (List Component)) → All (Has Identifier) (join_identifiers f ss)
all-identify Inner ss = gathered-role Identifier ss
all-identify Left ss = gathered-role Identifier ss
all-identify Full ss = gathered-role Identifier ss
all-identify Cross ss = flat-all (Has Identifier) identifiers (own-role Identifier) ss

abbrev pub measures_of : List (List Component) → List Component
measures_of ss = flat_map (filter (has_role Measure)) ss

abbrev pub virals_of : List (List Component) → List Component
virals_of ss = gathered [] (map virals ss)

all-measure : (ss : List (List Component)) → All (Has Measure) (measures_of ss)
all-measure ss = flat-all (Has Measure) (filter (has_role Measure)) (own-role Measure) ss

all-viral : (ss : List (List Component)) → All (Has Viral) (virals_of ss)
all-viral ss = gathered-role Viral ss

identifier-unlisted : (c : Component) → is_identifier (unlisted c) ≡ is_identifier c
identifier-unlisted c = elim (has_role Viral c) as (λ b. is_identifier (if b then c else record c { codes = Any }) ≡ is_identifier c) [ true ↦ refl | false ↦ refl ]

module _ (f : JoinFunction) (ss : List (List Component)) where
  parts : (p : Component → Bool) (i m v : List Component) → filter p (join_identifiers f ss) ≡ i → filter p (measures_of ss) ≡ m → filter p (virals_of ss) ≡ v → filter p (join_components f ss) ≡ (i ++ m) ++ v
  parts p i m v x y z =
      filter-append p (join_identifiers f ss ++ measures_of ss) (virals_of ss)
      ∙ ap (λ (q : List Component). q ++ filter p (virals_of ss)) (filter-append p (join_identifiers f ss) (measures_of ss))
      ∙ (λ q. (x q ++ y q) ++ z q)

  own : (c : Component) → Has Identifier c → is_identifier c ≡ true
  own c h = same_test c c.role ∙ h

  other : (r : Role) → is_role Identifier r ≡ false → (c : Component) → Has r c → is_identifier c ≡ false
  other r apart c h = same_test c c.role ∙ other-role Identifier r apart c h

  none-of : (r : Role) → is_role Identifier r ≡ false → (cs : List Component) → All (Has r) cs → filter is_identifier cs ≡ []
  none-of r apart cs all = filter-none is_identifier cs (All-weaker (Has r) (λ c. is_identifier c ≡ false) (other r apart) cs all)

  all-of : (r : Role) → is_role Identifier r ≡ false → (cs : List Component) → All (Has r) cs → filter (λ c. not (is_identifier c)) cs ≡ cs
  all-of r apart cs all = filter-pass (λ c. not (is_identifier c)) cs (All-weaker (Has r) (λ c. not (is_identifier c) ≡ true) (λ c h. ap not (other r apart c h)) cs all)

  pub join-identifiers : fitting.identifiers (map unlisted (join_components f ss)) ≡ map unlisted (join_identifiers f ss)
  join-identifiers =
      passing-same is_identifier unlisted identifier-unlisted (join_components f ss)
      ∙ ap (map unlisted) (
      parts is_identifier (join_identifiers f ss) [] []
      (filter-pass is_identifier (join_identifiers f ss) (All-weaker (Has Identifier) (λ c. is_identifier c ≡ true) own (join_identifiers f ss) (all-identify f ss)))
      (none-of Measure refl (measures_of ss) (all-measure ss))
      (none-of Viral refl (virals_of ss) (all-viral ss))
      ∙ append-nil (join_identifiers f ss ++ []) ∙ append-nil (join_identifiers f ss)
      )

  pub join-others : others (map unlisted (join_components f ss)) ≡ map unlisted (measures_of ss ++ virals_of ss)
  join-others =
      passing-same (λ c. not (is_identifier c)) unlisted (λ c. ap not (identifier-unlisted c)) (join_components f ss)
      ∙ ap (map unlisted) (
      parts (λ c. not (is_identifier c)) [] (measures_of ss) (virals_of ss)
      (filter-none (λ c. not (is_identifier c)) (join_identifiers f ss) (All-weaker (Has Identifier) (λ c. not (is_identifier c) ≡ false) (λ c h. ap not (own c h)) (join_identifiers f ss) (all-identify f ss)))
      (all-of Measure refl (measures_of ss) (all-measure ss))
      (all-of Viral refl (virals_of ss) (all-viral ss))
      )

  -- it has as many identifiers as the join's keys have values
  pub as-many-identifiers : (s : List Component) → AreSameButNames s (map unlisted (join_components f ss)) → length (identifiers s) ≡ length (join_identifiers f ss)
  as-many-identifiers s same =
      as-many s (map unlisted (join_components f ss)) same
      ∙ ap length (of-identifiers (map unlisted (join_components f ss)) ∙ join-identifiers)
      ∙ length-map (join_identifiers f ss) unlisted
