-- Keys of operands of one structure, in whatever order.
use Rattle.std.proofs.Common.{◌≡◌, ℕ, List, map, length, get_or, true, sym, ap, subst, ◌∙◌}
use Rattle.std.specs.List.{All}
use Rattle.std.proofs.lemmas.List.{length-map}
use Rattle.std.proofs.lemmas.List.Elements.{All-cons, All-head}
use Rattle.std.proofs.lemmas.List.Sums.{AllPass-from_list_all}
use Rattle.vtl_values.specs.declared.kind.Role.TheVariants.{Identifier}
use Rattle.vtl_values.specs.declared.structure.Component.{Component}
use Rattle.vtl_values.specs.declared.value.Value.{Value}
use Rattle.vtl_values.specs.Structures.{IsStructure}
use Rattle.structured_sets.specs.Fitting.{is_identifier}
use Rattle.data_set_trees.specs.clauses.Frames.{has_role}
use Rattle.clause_meaning.proofs.ByRole.{of-identifiers}
use Rattle.data_set_trees.specs.Components.{identifiers, unlisted, are_alike}
use Rattle.operator_meaning.specs.pairs.Pairs.{key_between}
use Rattle.operator_meaning.proofs.pairs.Names.{picked, is_in, Apart, Among, length-among, picked-back}
use Rattle.operator_meaning.proofs.pairs.Keys.{names, names-apart, names-unlisted, key-picked}
use Rattle.operator_meaning.specs.sets.Sets.{SetOn}
use Rattle.operator_meaning.specs.sets.Typed.{IsTypedSet}
use Rattle.operator_meaning.proofs.sets.Alike.{ids, are_alike-itself, passing-same, unlisted-identifier, ids-among, ids-back}

-- the identifiers of both have the same names
pub record IsRead (from to : List Component) : Type 0 where
  pub there : Among (names (identifiers from)) (names (identifiers to))
  pub back : Among (names (identifiers to)) (names (identifiers from))
  pub from_apart : Apart (names (identifiers from))
  pub to_apart : Apart (names (identifiers to))

-- and so the other way
pub turned : (from to : List Component) → IsRead from to → IsRead to from
turned from to h = record { there = h.back; back = h.there; from_apart = h.to_apart; to_apart = h.from_apart }

-- a key with a value for each identifier comes back
module _ (from to : List Component) (read : IsRead from to) (key : List Value) (long : length key ≡ length (identifiers from)) where
  its_names : length key ≡ length (names (identifiers from))
  its_names = long ∙ sym (length-map (identifiers from) (λ (c : Component). c.name))

  pub key-back : key_between to from (key_between from to key) ≡ key
  key-back =
      key-picked to from (key_between from to key)
      ∙ ap (picked (names (identifiers to)) (names (identifiers from))) (key-picked from to key)
      ∙ picked-back (names (identifiers from)) (names (identifiers to)) key its_names read.there read.from_apart read.back

  -- and what it comes to has a value for each identifier
  pub key-long : length (key_between from to key) ≡ length (identifiers to)
  key-long =
      ap length (key-picked from to key)
      ∙ length-among (names (identifiers from)) (names (identifiers to)) key its_names read.there
      ∙ length-map (identifiers to) (λ (c : Component). c.name)

-- ---- of a well typed operator

-- its operands are alike the first one, whose components the result has
pub record IsSetLike (s : SetOn) (first : List Component) : Type 0 where
  pub first_is : IsStructure first
  pub alike : All (λ cs. are_alike first cs ≡ true) s.operands
  pub bare : s.structure ≡ map unlisted first

pub like-first : (s : SetOn) (typed : IsTypedSet s) → IsSetLike s typed.set.first
like-first s typed =
    let first = typed.set.first in
    let rest = typed.set.others in
    record {
      first_is = All-head IsStructure first rest (subst (λ (ss : List (List Component)). All IsStructure ss) typed.set.some typed.structures);
      alike = subst (λ (ss : List (List Component)). All (λ cs. are_alike first cs ≡ true) ss) (sym typed.set.some) (All-cons (λ cs. are_alike first cs ≡ true) first rest (are_alike-itself first) (AllPass-from_list_all (are_alike first) rest typed.set.alike));
      bare = typed.set.bare;
    }

module _ (s : SetOn) (typed : IsTypedSet s) where
  abbrev first : List Component
  first = typed.set.first

  like : IsSetLike s first
  like = like-first s typed

  own_names : (cs : List Component) → names (identifiers cs) ≡ names (ids cs)
  own_names cs = ap names (of-identifiers cs)

  result_names : names (identifiers s.structure) ≡ names (ids first)
  result_names = own_names s.structure ∙ ap (λ (cs : List Component). names (ids cs)) like.bare ∙ ap names (passing-same is_identifier unlisted-identifier first) ∙ names-unlisted (ids first)

  read-one : (from : List Component) → IsStructure from → are_alike first from ≡ true → IsRead from s.structure
  read-one from is alike = record {
    there = λ n h. ap (λ (ns : List (List ℕ)). is_in ns n) (own_names from) ∙ ids-among first from alike like.first_is is n (sym (ap (λ (ns : List (List ℕ)). is_in ns n) result_names) ∙ h);
    back = λ n h. ap (λ (ns : List (List ℕ)). is_in ns n) result_names ∙ ids-back first from alike like.first_is is n (sym (ap (λ (ns : List (List ℕ)). is_in ns n) (own_names from)) ∙ h);
    from_apart = names-apart (has_role Identifier) from is.names_differ;
    to_apart = names-apart (has_role Identifier) s.structure typed.structure_is.names_differ;
  }

  pub all-read : All (λ from. IsRead from s.structure) s.operands
  all-read k d within = read-one (get_or s.operands k d) (typed.structures k d within) (like.alike k d within)
