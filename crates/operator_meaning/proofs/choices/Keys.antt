-- Keys of the condition and of the branches.
use Rattle.std.proofs.Common.{◌≡◌, ◌<◌, ℕ, zero, suc, List, [], ◌∷◌, length, Bool, true, false, ◌||◌, ◌&&◌, refl, sym, ap, subst, ◌∙◌, arith}
use Rattle.std.specs.Prelude.{slice_get, unwrap_or}
use Rattle.std.specs.List.{list_any, list_all}
use Rattle.std.proofs.lemmas.List.{length-map}
use Rattle.vtl_values.specs.Texts.{same_text}
use Rattle.vtl_values.specs.Structures.{IsStructure}
use Rattle.vtl_values.specs.declared.kind.Role.TheVariants.{Identifier}
use Rattle.vtl_values.specs.declared.structure.Component.{Component}
use Rattle.vtl_values.specs.declared.value.Value.{Value}
use Rattle.scalar_trees.proofs.typing.Sound.{left, right}
use Rattle.data_set_trees.specs.clauses.Frames.{has_role}
use Rattle.data_set_trees.specs.Components.{identifiers, include, is_same, virals_agree}
use Rattle.data_set_trees.specs.checked.Choices.{belongs_to, branches}
use Rattle.operator_meaning.specs.pairs.Pairs.{key_between}
use Rattle.operator_meaning.proofs.pairs.Names.{same-true, picked, is_in, Among, length-among, picked-back}
use Rattle.operator_meaning.proofs.pairs.Keys.{names, key-picked, same-in, names-apart}
use Rattle.operator_meaning.specs.choices.Choices.{ChoiceOn, structure_at, condition, operand_key, condition_key}
use Rattle.operator_meaning.specs.choices.Typed.{IsTypedChoice}
use Rattle.operator_meaning.proofs.choices.Parts.{structure-at}

-- components that others include have names of theirs
among-include : (cs ds : List Component) → include cs ds ≡ true → Among (names cs) (names ds)
among-include cs [] h n i = cc
among-include cs (d ∷ ds) h n i = by_test (among-include cs ds (right (list_any (is_same d) cs) (include cs ds) h) n) (same_text n d.name) refl i
  where
    by_test : (is_in (names ds) n ≡ true → is_in (names cs) n ≡ true) → (b : Bool) → same_text n d.name ≡ b → (b || is_in (names ds) n) ≡ true → is_in (names cs) n ≡ true
    by_test later true e j = subst (λ (m : List ℕ). is_in (names cs) m ≡ true) (sym (same-true n d.name e)) (same-in d cs (left (list_any (is_same d) cs) (include cs ds) h))
    by_test later false e j = later j

-- the identifiers of both have the same names
abbrev pub Match : List Component → List Component → Type 0
Match s t = Among (names (identifiers s)) (names (identifiers t)) × Among (names (identifiers t)) (names (identifiers s))

belongs-matches : (s t : List Component) → belongs_to s t ≡ true → Match s t
belongs-matches s t h =
    let ours = include (identifiers s) (identifiers t) in
    let theirs = include (identifiers t) (identifiers s) in
    let both = left (ours && theirs) (virals_agree s t) h in
    (among-include (identifiers s) (identifiers t) (left ours theirs both), among-include (identifiers t) (identifiers s) (right ours theirs both))

branches-match : (s : List Component) (ts : List (List Component)) → list_all (belongs_to s) ts ≡ true → (n : ℕ) → n < length ts → Match s (unwrap_or (slice_get ts n) [])
branches-match s [] h n within = absurd (omega (arith, within))
branches-match s (t ∷ ts) h zero within = belongs-matches s t (left (belongs_to s t) (list_all (belongs_to s) ts) h)
branches-match s (t ∷ ts) h (suc n) within = branches-match s ts (right (belongs_to s t) (list_all (belongs_to s) ts) h) n (omega (arith, within))

all-match : (s : List Component) (ts : List (List Component)) → list_all (belongs_to s) ts ≡ true → (n : ℕ) → n < length (s ∷ ts) → Match s (unwrap_or (slice_get (s ∷ ts) n) [])
all-match s ts h zero within = (λ m i. i, λ m i. i)
all-match s ts h (suc n) within = branches-match s ts h n (omega (arith, within))

-- ---- keys of two structures

module _ (s t : List Component) (match : Match s t) (key : List Value) (long : length key ≡ length (identifiers s)) where
  its_names : length key ≡ length (names (identifiers s))
  its_names = long ∙ sym (length-map (identifiers s) (λ (c : Component). c.name))

  pub long-between : length (key_between s t key) ≡ length (identifiers t)
  long-between =
      ap length (key-picked s t key)
      ∙ length-among (names (identifiers s)) (names (identifiers t)) key its_names match.0
      ∙ length-map (identifiers t) (λ (c : Component). c.name)

  pub there-and-back : IsStructure s → key_between t s (key_between s t key) ≡ key
  there-and-back is =
      key-picked t s (key_between s t key)
      ∙ ap (picked (names (identifiers t)) (names (identifiers s))) (key-picked s t key)
      ∙ picked-back (names (identifiers s)) (names (identifiers t)) key its_names match.0 (names-apart (has_role Identifier) s is.names_differ) match.1

-- ---- of a conditional

module _ (c : ChoiceOn) (typed : IsTypedChoice c) (n : ℕ) (within : n < length c.operands) where
  pub operand-matches : Match (condition c) (structure_at c n)
  operand-matches =
      let own = typed.choice.condition in
      let bs = branches typed.choice.when_holds typed.choice.when_fails in
      let inside : n < length (own ∷ bs) = subst (λ (os : List (List Component)). n < length os) typed.choice.operands_are within in
      subst (λ (os : List (List Component)). Match (unwrap_or (slice_get os 0) []) (unwrap_or (slice_get os n) [])) (sym typed.choice.operands_are) (all-match own bs typed.choice.choice.belong n inside)

  operand-is : IsStructure (structure_at c n)
  operand-is = structure-at c.operands typed.structures n within

  pub condition-structure : IsStructure (condition c)
  condition-structure = structure-at c.operands typed.structures 0 (omega (arith, within))

  pub key-back : (key : List Value) → length key ≡ length (identifiers (condition c)) → condition_key c n (operand_key c n key) ≡ key
  key-back key long = there-and-back (condition c) (structure_at c n) operand-matches key long condition-structure

  turned : Match (structure_at c n) (condition c)
  turned = (operand-matches.1, operand-matches.0)

  pub key-forth : (key : List Value) → length key ≡ length (identifiers (structure_at c n)) → operand_key c n (condition_key c n key) ≡ key
  key-forth key long = there-and-back (structure_at c n) (condition c) turned key long operand-is

  pub key-whole : (key : List Value) → length key ≡ length (identifiers (structure_at c n)) → length (condition_key c n key) ≡ length (identifiers (condition c))
  key-whole key long = long-between (structure_at c n) (condition c) turned key long
