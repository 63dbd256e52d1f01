-- Names of the components of a join.
use Rattle.std.proofs.Common.{◌≡◌, refl, ℕ, zero, suc, ◌+◌, Bool, true, false, ◌&&◌, ◌||◌, List, [], ◌∷◌, ◌++◌, drop, ap, sym, ◌∙◌, if◌then◌else◌, arith}
use Rattle.std.specs.Prelude.{filter, slice_get}
use Rattle.std.specs.List.{list_any}
use Rattle.vtl_values.specs.declared.kind.Role.TheVariants.{Identifier}
use Rattle.vtl_values.specs.declared.structure.Component.{Component}
use Rattle.data_set_trees.specs.clauses.Frames.{has_role}
use Rattle.data_set_trees.specs.Components.{identifiers, has_name, is_taken}
use Rattle.data_set_trees.specs.Joins.{Titles, names_under}
use Rattle.join_typing.specs.Joining.{is_identifier_named, names_of}

-- an identifier of the name is one among the identifiers
pub taken_by : (name : List ℕ) (cs : List Component) → list_any (is_identifier_named name) cs ≡ is_taken name (identifiers cs)
taken_by name [] = refl
taken_by name (c ∷ cs) = by_test (has_role Identifier c) (taken_by name cs)
  where
    by_test : (b : Bool) → list_any (is_identifier_named name) cs ≡ is_taken name (identifiers cs) → ((b && has_name name c) || list_any (is_identifier_named name) cs) ≡ is_taken name (if b then c ∷ identifiers cs else identifiers cs)
    by_test true is = ap (λ (b : Bool). has_name name c || b) is
    by_test false is = is

no_titles : (n : ℕ) (cs : List Component) → names_under n cs [] ≡ []
no_titles n [] = refl
no_titles n (c ∷ cs) = refl

next_title : (i : ℕ) (t : Titles) (ts : List Titles) → drop (suc i + 1) (t ∷ ts) ≡ drop (i + 1) ts
next_title i t ts = let same : suc i + 1 ≡ suc (i + 1) = omega arith in ap (λ (k : ℕ). drop k (t ∷ ts)) same

drop_none : (i : ℕ) → drop {A = Titles} i [] ≡ []
drop_none zero = refl
drop_none (suc i) = refl

-- the names of a component, and those of the others
pub one_named : (n : ℕ) (c : Component) (cs : List Component) (ts : List Titles) (i : ℕ) → names_under n (c ∷ cs) (drop i ts) ≡ names_of n c.name (slice_get ts i) ++ names_under (n + 1) cs (drop (i + 1) ts)
one_named n c cs [] i = ap (names_under n (c ∷ cs)) (drop_none i) ∙ sym (no_titles (n + 1) cs) ∙ ap (names_under (n + 1) cs) (sym (drop_none (i + 1)))
one_named n c cs (t ∷ ts) zero = refl
one_named n c cs (t ∷ ts) (suc i) = one_named n c cs ts i ∙ ap (λ (us : List Titles). names_of n c.name (slice_get ts i) ++ names_under (n + 1) cs us) (sym (next_title i t ts))
