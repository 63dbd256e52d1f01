-- The main operand of an inner join, and how keys of the join stand to those of the operands.
use Rattle.std.proofs.Common.{◌≡◌, ◌≢◌, ℕ, ◌+◌, ◌<◌, List, [], ◌∷◌, length, get_or, Bool, true, false, not, ◌||◌, cond, suc, sym, ap, ◌∙◌, arith}
use Rattle.std.specs.List.{Contains, list_any, position_or_len}
use Rattle.std.proofs.lemmas.List.{get_or-map}
use Rattle.std.proofs.lemmas.List.Elements.{All-contains, Contains-get_or}
use Rattle.std.proofs.lemmas.List.Sums.{AllPass-from_list_all, passes_at_first}
use Rattle.vtl_values.specs.Structures.{IsStructure}
use Rattle.vtl_values.specs.declared.kind.Role.TheVariants.{Identifier}
use Rattle.vtl_values.specs.declared.structure.Component.{Component}
use Rattle.vtl_values.specs.declared.value.Value.{Value}
use Rattle.vtl_syntax.specs.declared.words.JoinFunction.TheVariants.{Inner, Cross}
use Rattle.clause_meaning.specs.Clauses.{values_at}
use Rattle.data_set_trees.specs.clauses.Frames.{has_role}
use Rattle.data_set_trees.specs.Components.{identifiers, include}
use Rattle.held_index.specs.Walks.{part_key}
use Rattle.operator_meaning.proofs.pairs.Keys.{names, names-apart, key-picked}
use Rattle.operator_meaning.proofs.pairs.Names.{Apart}
use Rattle.pair_ops.proofs.Parts.{part_key-between}
use Rattle.operator_meaning.specs.joins.Joins.{JoinOn, is_whole, key_components, places_of}
use Rattle.operator_meaning.proofs.joins.Covered.{fits}
use Rattle.operator_meaning.proofs.joins.Numbers.{values-picked}
use Rattle.operator_meaning.proofs.joins.Typed.{places-are, key-long, key-back, key-partner, key-forth, own-long}
use Rattle.join_eval.specs.Plans.{own_key, structure_of}
use Rattle.inner_joins.specs.Rules.{key_from, main_number, partner_numbers, IsInnerOn}

-- the first that passes is there where one passes
first-within : {A : Type 0} (p : A → Bool) (xs : List A) → list_any p xs ≡ true → position_or_len p xs < length xs
first-within p [] h = cc
first-within p (x ∷ xs) h = by_test (p x) (first-within p xs) h
  where
    by_test : (b : Bool) → (list_any p xs ≡ true → position_or_len p xs < length xs) → (b || list_any p xs) ≡ true → cond (not b) (1 + position_or_len p xs) 0 < suc (length xs)
    by_test true later i = omega arith
    by_test false later i = let rest = later i in omega (arith, rest)

module _ (j : JoinOn) (on : IsInnerOn j) where
  abbrev main : List Component
  main = structure_of j (main_number j)

  apart : j.function ≢ Cross
  apart e = let never : Inner ≡ Cross = sym on.inner ∙ e in cc

  -- there is a main operand
  pub main-within : main_number j < length j.operands
  main-within = first-within (is_whole j) j.operands (fits j on.typed Inner on.inner)

  main-whole : is_whole j main ≡ true
  main-whole = passes_at_first (is_whole j) j.operands [] main-within

  is-there : (number : ℕ) → number < length j.operands → Contains j.operands (structure_of j number)
  is-there number within = Contains-get_or j.operands number [] within

  main-there : Contains j.operands main
  main-there = is-there (main_number j) main-within

  -- which has the identifiers of each operand, none twice
  pub main-includes : (number : ℕ) → number < length j.operands → include (identifiers main) (identifiers (structure_of j number)) ≡ true
  main-includes number within = AllPass-from_list_all (λ s. include (identifiers main) (identifiers s)) j.operands main-whole number [] within

  pub main-apart : Apart (names (identifiers main))
  main-apart = names-apart (has_role Identifier) main (All-contains IsStructure j.operands main on.typed.structures main-there).names_differ

  -- the key of an operand by the places of its identifiers
  own-placed : (number : ℕ) → number < length j.operands → (key : List Value) → own_key j number key ≡ values_at (places_of j (structure_of j number)) key
  own-placed number within key =
      ap (λ (ns : List ℕ). values_at ns key)
      (ap (λ (ps : List (List ℕ)). get_or ps number []) (places-are j on.typed apart) ∙ get_or-map (places_of j) j.operands number [] [] within)

  -- at the key of the join that one of the main operand comes to
  module _ (own : List Value) (long : length own ≡ length (identifiers main)) where
    pub from-long : length (key_from j own) ≡ length (key_components j)
    from-long = key-long j on.typed apart main main-there main-whole own long

    -- the main operand's key is that one
    pub main-back : own_key j (main_number j) (key_from j own) ≡ own
    main-back = own-placed (main_number j) main-within (key_from j own) ∙ key-back j on.typed apart main main-there main-whole own long

    -- and another operand's key tells the part of its points
    pub other-back : (number : ℕ) → number < length j.operands → (rest : List Value) → own_key j number (key_from j own) ≡ part_key (partner_numbers j number) (own, rest)
    other-back number within rest =
        let s = structure_of j number in
        own-placed number within (key_from j own)
        ∙ key-partner j on.typed apart main main-there main-whole own long s (is-there number within)
        ∙ values-picked (identifiers main) (identifiers s) own
        ∙ sym (key-picked main s own)
        ∙ sym (part_key-between main s own rest long)

  -- a key of the join is the one that its key of the main operand comes to
  module _ (key : List Value) (long : length key ≡ length (key_components j)) where
    pub main-long : length (own_key j (main_number j) key) ≡ length (identifiers main)
    main-long = ap (λ (k : List Value). length k) (own-placed (main_number j) main-within key) ∙ own-long j on.typed apart main main-there main-whole key long

    pub main-forth : key_from j (own_key j (main_number j) key) ≡ key
    main-forth = ap (key_from j) (own-placed (main_number j) main-within key) ∙ key-forth j on.typed apart main main-there main-whole key long
