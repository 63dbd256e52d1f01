-- In a structure identifiers stand first.
use Rattle.std.proofs.Common.{◌≡◌, ◌≤◌, zero, suc, List, [], ◌∷◌, ◌++◌, Bool, true, false, cond, not, refl, ap, arith}
use Rattle.std.specs.List.{All, AllPairs}
use Rattle.std.proofs.lemmas.List.Elements.{All-head, All-tail, All-weaker}
use Rattle.vtl_values.specs.declared.kind.Role.{Role}
use Rattle.vtl_values.specs.declared.kind.Role.TheVariants.{Identifier, Measure, Attribute, Viral}
use Rattle.vtl_values.specs.declared.structure.Component.{Component}
use Rattle.vtl_values.specs.Structures.{place_of, IsStructure}
use Rattle.structured_sets.specs.Fitting.{is_identifier, identifiers, others}

pairs-head : {A : Type 0} (R : A → A → Type 0) (x : A) (xs : List A) → AllPairs R (x ∷ xs) → All (R x) xs
pairs-head R x xs h k d l = h zero (suc k) d (omega arith) (omega arith)

pairs-tail : {A : Type 0} (R : A → A → Type 0) (x : A) (xs : List A) → AllPairs R (x ∷ xs) → AllPairs R xs
pairs-tail R x xs h i j d l m = h (suc i) (suc j) d (omega arith) (omega arith)

-- what stands in a later place than identifiers is none
later : (c : Component) (r : Role) → 1 ≤ place_of r → is_identifier (record c { role = r }) ≡ false
later c Identifier h = absurd (omega (arith, h))
later c Measure h = refl
later c Attribute h = refl
later c Viral h = refl

after-identifiers : (c : Component) (r : Role) → is_identifier (record c { role = r }) ≡ false → 1 ≤ place_of r
after-identifiers c Identifier h = cc
after-identifiers c Measure h = omega arith
after-identifiers c Attribute h = omega arith
after-identifiers c Viral h = omega arith

abbrev IsLater : Component → Type 0
IsLater c = 1 ≤ place_of c.role

no-identifiers : (cs : List Component) → All IsLater cs → identifiers cs ≡ []
no-identifiers [] h = refl
no-identifiers (c ∷ cs) h = rw (later c c.role (All-head IsLater c cs h)) (no-identifiers cs (All-tail IsLater c cs h))

others-all : (cs : List Component) → All IsLater cs → others cs ≡ cs
others-all [] h = refl
others-all (c ∷ cs) h = rw (later c c.role (All-head IsLater c cs h)) (ap (λ (ds : List Component). c ∷ ds) (others-all cs (All-tail IsLater c cs h)))

abbrev Before : Component → Component → Type 0
Before a b = place_of a.role ≤ place_of b.role

in-order : (cs : List Component) → AllPairs Before cs → cs ≡ identifiers cs ++ others cs
in-order [] h = refl
in-order (c ∷ cs) h = by_test (is_identifier c) refl (in-order cs (pairs-tail Before c cs h))
  where
    by_test : (b : Bool) → is_identifier c ≡ b → cs ≡ identifiers cs ++ others cs → c ∷ cs ≡ cond b (c ∷ identifiers cs) (identifiers cs) ++ cond (not b) (c ∷ others cs) (others cs)
    by_test true e rest = ap (λ (ds : List Component). c ∷ ds) rest
    by_test false e rest =
        let own : 1 ≤ place_of c.role = after-identifiers c c.role e in
        let all : All IsLater cs = All-weaker (Before c) IsLater (λ d h. omega (arith, own, h)) cs (pairs-head Before c cs h) in
        rw (no-identifiers cs all, others-all cs all) refl

pub identifiers-first : (cs : List Component) → IsStructure cs → cs ≡ identifiers cs ++ others cs
identifiers-first cs h = in-order cs h.in_order
