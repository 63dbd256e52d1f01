-- Values by the numbers of identifiers, and by their names.
use Rattle.std.proofs.Common.{◌≡◌, ℕ, zero, suc, ◌+◌, ◌≤◌, List, [], ◌∷◌, ◌++◌, map, length, get_or, Bool, true, false, not, ◌&&◌, ◌||◌, cond, if◌then◌else◌, Option, Some, None, option_map, unwrap_or, refl, sym, ap, ◌∙◌, arith, add-one}
use Rattle.std.specs.Prelude.{filter, filter_map, find, slice_get, zip}
use Rattle.std.specs.Option.{is_some}
use Rattle.std.specs.List.{All, cons_option, position}
use Rattle.std.proofs.lemmas.List.Elements.{All-nil, All-cons, All-head, All-tail}
use Rattle.vtl_values.specs.Structures.{IsStructure}
use Rattle.vtl_values.specs.declared.kind.Role.TheVariants.{Identifier}
use Rattle.vtl_values.specs.declared.structure.Component.{Component}
use Rattle.vtl_values.specs.declared.value.Value.{Value}
use Rattle.vtl_values.specs.declared.value.Value.TheVariants.{Null}
use Rattle.structured_sets.specs.Fitting.{is_identifier, others}
use Rattle.structured_sets.proofs.Lists.{position-cons}
use Rattle.held_index.specs.Walks.{component_of, part_key}
use Rattle.data_set_trees.specs.clauses.Frames.{has_role}
use Rattle.clause_meaning.proofs.ByRole.{of-identifiers}
use Rattle.clause_meaning.proofs.First.{identifiers-first}
use Rattle.clause_meaning.proofs.Fits.{same_test}
use Rattle.data_set_trees.specs.Components.{identifiers, has_name, is_taken}
use Rattle.operator_meaning.specs.pairs.Pairs.{key_between, value_where}
use Rattle.operator_meaning.proofs.pairs.Joined.{Has, own-role}
use Rattle.operator_meaning.specs.exists.Exists.{ExistsOn, common}
use Rattle.exists_ops.specs.Parts.{number_of, shared_number, numbers_in, key_part}

-- ---- the place of the first that passes

none-passes : {X : Type 0} (p : X → Bool) (xs : List X) → All (λ x. p x ≡ false) xs → position p xs ≡ None
none-passes p [] all = refl
none-passes p (x ∷ xs) all = position-cons p x xs ∙ ap (λ b. cond b (Some 0) (option_map (λ i. i + 1) (position p xs))) (All-head (λ y. p y ≡ false) x xs all) ∙ ap (option_map (λ i. i + 1)) (none-passes p xs (All-tail (λ y. p y ≡ false) x xs all))

-- ---- the identifiers that both operands have

abbrev pub is_called : List ℕ → Component → Bool
is_called n c = has_role Identifier c && has_name n c

-- a name has a number where an identifier has it
pub number-some : (n : List ℕ) (cs : List Component) → is_some (number_of n cs) ≡ is_taken n (identifiers cs)
number-some n [] = refl
number-some n (c ∷ cs) = ap is_some (position-cons (is_called n) c cs) ∙ by_role (number-some n cs) (has_role Identifier c) ∙ sym (taken (has_role Identifier c))
  where
    some-more : (o : Option ℕ) → is_some (option_map (λ i. i + 1) o) ≡ is_some o
    some-more None = refl
    some-more (Some i) = refl

    rest : Bool
    rest = is_taken n (identifiers cs)

    by_name : is_some (number_of n cs) ≡ rest → (b : Bool) → is_some (cond b (Some 0) (option_map (λ i. i + 1) (number_of n cs))) ≡ (b || rest)
    by_name later true = refl
    by_name later false = some-more (number_of n cs) ∙ later

    by_role : is_some (number_of n cs) ≡ rest → (b : Bool) → is_some (cond (b && has_name n c) (Some 0) (option_map (λ i. i + 1) (number_of n cs))) ≡ cond b (has_name n c || rest) rest
    by_role later true = by_name later (has_name n c)
    by_role later false = by_name later false

    taken : (b : Bool) → is_taken n (cond b (c ∷ identifiers cs) (identifiers cs)) ≡ cond b (has_name n c || rest) rest
    taken true = refl
    taken false = refl

module _ (structure left : List Component) where
  -- of the identifiers of the second operand, the numbers of those that the first one has
  numbered-each : (cs : List Component) → filter_map (shared_number structure left) cs ≡ numbers_in structure (identifiers (filter (λ c. is_taken c.name (identifiers left)) (identifiers cs)))
  numbered-each [] = refl
  numbered-each (c ∷ cs) = ap (λ b. with_test (has_role Identifier c) b) (number-some c.name left) ∙ by_role (numbered-each cs) (has_role Identifier c) refl
    where
      rest : List ℕ
      rest = filter_map (shared_number structure left) cs

      with_test : Bool → Bool → List ℕ
      with_test r t = cons_option (if r && t then number_of c.name structure else None) rest

      kept : List Component
      kept = filter (λ d. is_taken d.name (identifiers left)) (identifiers cs)

      IsLater : Type 0
      IsLater = filter_map (shared_number structure left) cs ≡ numbers_in structure (identifiers (filter (λ d. is_taken d.name (identifiers left)) (identifiers cs)))

      by_taken : IsLater → (t : Bool) → has_role Identifier c ≡ true → cons_option (if t then number_of c.name structure else None) rest ≡ numbers_in structure (identifiers (cond t (c ∷ kept) kept))
      by_taken later true e = ap (λ (ns : List ℕ). cons_option (number_of c.name structure) ns) later ∙ sym (ap (λ b. numbers_in structure (cond b (c ∷ identifiers kept) (identifiers kept))) e)
      by_taken later false e = later

      by_role : IsLater → (r : Bool) → has_role Identifier c ≡ r → cons_option (if r && is_taken c.name (identifiers left) then number_of c.name structure else None) rest ≡ numbers_in structure (identifiers (filter (λ d. is_taken d.name (identifiers left)) (cond r (c ∷ identifiers cs) (identifiers cs))))
      by_role later true e = by_taken later (is_taken c.name (identifiers left)) e
      by_role later false e = later

pub shared-numbers : (e : ExistsOn) (structure : List Component) → filter_map (shared_number structure e.left) e.right ≡ numbers_in structure (identifiers (common e))
shared-numbers e structure = numbered-each structure e.left e.right

-- ---- values by numbers, and by names

pub first-part : (xs ys : List Value) (i : ℕ) (v : Value) → slice_get xs i ≡ Some v → slice_get (xs ++ ys) i ≡ Some v
first-part [] ys i v there = cc
first-part (x ∷ xs) ys zero v there = there
first-part (x ∷ xs) ys (suc i) v there = first-part xs ys i v there

-- a function has the values of a list
abbrev Gives : (ℕ → Value) → List Value → Type 0
Gives f key = (i : ℕ) (v : Value) → slice_get key i ≡ Some v → f i ≡ v

numbered : (n : List ℕ) (is os : List Component) → All (Has Identifier) is → All (λ c. has_role Identifier c ≡ false) os → (key : List Value) → length is ≤ length key → (f : ℕ → Value) → Gives f key → option_map f (number_of n (is ++ os)) ≡ value_where (has_name n) is key
numbered n [] os own other key long f gives = ap (option_map f) (none-passes (is_called n) os (λ k d within. ap (λ b. b && has_name n (get_or os k d)) (other k d within)))
numbered n (c ∷ cs) os own other [] long f gives = absurd (omega (arith, long))
numbered n (c ∷ cs) os own other (v ∷ vs) long f gives =
    ap (option_map f) (position-cons (is_called n) c (cs ++ os))
    ∙ ap (λ b. option_map f (cond (b && has_name n c) (Some 0) (option_map (λ i. i + 1) (number_of n (cs ++ os))))) (All-head (Has Identifier) c cs own)
    ∙ by_name (numbered n cs os (All-tail (Has Identifier) c cs own) other vs (omega (arith, long)) (λ i. f (i + 1)) (λ i u there. gives (i + 1) u (rw add-one there))) (has_name n c)
  where
    next : ℕ → Value
    next i = f (i + 1)

    one_more : (o : Option ℕ) → option_map f (option_map (λ i. i + 1) o) ≡ option_map next o
    one_more None = refl
    one_more (Some i) = refl

    by_name : option_map next (number_of n (cs ++ os)) ≡ value_where (has_name n) cs vs → (b : Bool) → option_map f (cond b (Some 0) (option_map (λ i. i + 1) (number_of n (cs ++ os)))) ≡ option_map (λ (q : Component × Value). q.1) (cond b (Some (c, v)) (find (λ (q : Component × Value). has_name n q.0) (zip cs vs)))
    by_name later true = ap Some (gives 0 v refl)
    by_name later false = one_more (number_of n (cs ++ os)) ∙ later

map-cons_option : {A B : Type 0} (f : A → B) (o : Option A) (xs : List A) → map f (cons_option o xs) ≡ cons_option (option_map f o) (map f xs)
map-cons_option f None xs = refl
map-cons_option f (Some x) xs = refl

pub not-other : (cs : List Component) → All (λ c. has_role Identifier c ≡ false) (others cs)
not-other [] = All-nil (λ c. has_role Identifier c ≡ false)
not-other (c ∷ cs) = by_test (is_identifier c) refl (not-other cs)
  where
    by_test : (b : Bool) → is_identifier c ≡ b → All (λ d. has_role Identifier d ≡ false) (others cs) → All (λ d. has_role Identifier d ≡ false) (cond (not b) (c ∷ others cs) (others cs))
    by_test true e later = later
    by_test false e later = All-cons (λ d. has_role Identifier d ≡ false) c (others cs) (sym (same_test c c.role) ∙ e) later

module _ (from : List Component) (is : IsStructure from) (key : List Value) (long : length key ≡ length (identifiers from)) where
  its-number : (f : ℕ → Value) → Gives f key → (n : List ℕ) → option_map f (number_of n from) ≡ value_where (has_name n) (identifiers from) key
  its-number f gives n =
      let split : from ≡ identifiers from ++ others from = identifiers-first from is ∙ ap (λ (cs : List Component). cs ++ others from) (sym (of-identifiers from)) in
      ap (λ (cs : List Component). option_map f (number_of n cs)) split
      ∙ numbered n (identifiers from) (others from) (own-role Identifier from) (not-other from) key (omega (arith, long)) f gives

  all-numbers : (f : ℕ → Value) → Gives f key → (cs : List Component) → map f (numbers_in from cs) ≡ filter_map (λ c. value_where (has_name c.name) (identifiers from) key) cs
  all-numbers f gives [] = refl
  all-numbers f gives (c ∷ cs) =
      map-cons_option f (number_of c.name from) (numbers_in from cs)
      ∙ (λ i. cons_option (its-number f gives c.name i) (all-numbers f gives cs i))

  -- the part of a key has the values of its identifiers that both have
  pub part-values : (both : List Component) → key_part (numbers_in from (identifiers both)) key ≡ key_between from both key
  part-values both = all-numbers (λ n. unwrap_or (slice_get key n) Null) (λ i v there. ap (λ (o : Option Value). unwrap_or o Null) there) (identifiers both)

  -- and so has the part of a point
  pub point-values : (rest : List Value) (both : List Component) → part_key (numbers_in from (identifiers both)) (key, rest) ≡ key_between from both key
  point-values rest both = all-numbers (λ n. component_of n (key, rest)) (λ i v there. ap (λ (o : Option Value). unwrap_or o Null) (first-part key rest i v there)) (identifiers both)

  pub same-part : (rest : List Value) (both : List Component) → part_key (numbers_in from (identifiers both)) (key, rest) ≡ key_part (numbers_in from (identifiers both)) key
  same-part rest both = point-values rest both ∙ sym (part-values both)
