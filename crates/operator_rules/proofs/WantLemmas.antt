-- What rules want fits the structures of their operands.
use Rattle.std.proofs.Common.{◌≡◌, ◌<◌, ◌≤◌, ℕ, Bool, true, false, not, List, [], ◌∷◌, length, Option, Some, None, refl, subst, sym, if◌then◌else◌, arith}
use Rattle.std.specs.List.{All, filter_map, position, slice_index_or}
use Rattle.std.proofs.lemmas.List.Elements.{All-nil, All-cons, All-weaker}
use Rattle.std.proofs.lemmas.List.Filters.{length-filter_both}
use Rattle.std.proofs.lemmas.List.Quantifiers.{position-Some}
use Rattle.vtl_values.specs.declared.kind.Role.TheVariants.{Identifier}
use Rattle.vtl_values.specs.declared.structure.Component.{Component}
use Rattle.data_set_trees.specs.clauses.Frames.{has_role}
use Rattle.vtl_syntax.specs.declared.words.ExistsRows.{ExistsRows}
use Rattle.vtl_syntax.specs.declared.words.JoinFunction.{JoinFunction}
use Rattle.vtl_syntax.specs.declared.words.JoinFunction.TheVariants as joining
use Rattle.data_set_trees.specs.Components.{identifiers, has_name}
use Rattle.data_set_trees.specs.declared.tree.DataSetOperator.{DataSetOperator}
use Rattle.data_set_trees.specs.declared.tree.DataSetOperator.TheVariants as operator
use Rattle.data_set_trees.specs.checked.Operators.{an_operator, Operator, IsTyped, TakesOperands}
use Rattle.held_index.specs.declared.want.Want.{Want}
use Rattle.held_index.specs.Wants.{all_whole, in_parts, whole}
use Rattle.held_index.proofs.WantLemmas.{all_whole-each, in_parts-fits, whole-fits}
use Rattle.operator_meaning.specs.pairs.Pairs.{PairOn, is_left_main, main, partner}
use Rattle.pair_eval.specs.Plans.{partner_numbers}
use Rattle.pair_ops.specs.Rules as pair
use Rattle.operator_meaning.specs.exists.Exists.{exists_on}
use Rattle.exists_ops.specs.Parts.{left_want, right_want}
use Rattle.exists_ops.specs.Rules as exists
use Rattle.exists_ops.proofs.Wanted.{left-fits, right-fits}
use Rattle.inner_joins.specs.Rules as inner
use Rattle.inner_joins.proofs.Wanted.{inner-on, wants-fit, wants-there}
use Rattle.operator_rules.specs.Rules.{AreWanted, IsWanted, wanted_by, wanted_by_join, wanted_of}

number-below : (s : List Component) (c : Component) (cs : List Component) (n : ℕ) → length s ≤ n → (o : Option ℕ) → position (has_name c.name) s ≡ o
    → All (λ k. k < n) (filter_map (λ d. position (has_name d.name) s) cs) → All (λ k. k < n) (filter_map (λ d. position (has_name d.name) s) (c ∷ cs))
number-below s c cs n within None e others = rw e others
number-below s c cs n within (Some k) e others =
    let below = (position-Some (has_name c.name) s k c e).0 in
    rw e (All-cons (λ j. j < n) k (filter_map (λ d. position (has_name d.name) s) cs) (omega (arith, below, within)) others)

-- numbers by name are those of components
numbers-below : (s names : List Component) (n : ℕ) → length s ≤ n → All (λ k. k < n) (filter_map (λ c. position (has_name c.name) s) names)
numbers-below s [] n within = All-nil (λ k. k < n)
numbers-below s (c ∷ cs) n within = number-below s c cs n within (position (has_name c.name) s) refl (numbers-below s cs n within)

-- there are no more identifiers than components
few-identifiers : (s : List Component) → length (identifiers s) ≤ length s
few-identifiers s = let both = length-filter_both (has_role Identifier) (λ c. not (has_role Identifier c)) (λ c. refl) s in omega (arith, both)

partner-below : (p : PairOn) → All (λ k. k < length (main p)) (partner_numbers p)
partner-below p = numbers-below (identifiers (main p)) (identifiers (partner p)) (length (main p)) (few-identifiers (main p))

-- an operand that there is, in parts by components of it
wanted-in_parts : (n : ℕ) (ns : List ℕ) (operands : List (List Component)) → n < length operands → ((operand : List Component) → All (λ k. k < length (slice_index_or operands n operand)) ns) → IsWanted (in_parts n ns) operands
wanted-in_parts n ns operands there below = record { below = there; fits = λ operand. in_parts-fits n ns (slice_index_or operands n operand) (below operand) }

two-wanted : (v w : Want) (operands : List (List Component)) → IsWanted v operands → IsWanted w operands → AreWanted (v ∷ w ∷ []) operands
two-wanted v w operands first second = All-cons (λ u. IsWanted u operands) v (w ∷ []) first (All-cons (λ u. IsWanted u operands) w [] second (All-nil (λ u. IsWanted u operands)))

pair-wanted : (p : PairOn) → AreWanted (pair.wants_on p) (p.left ∷ p.right ∷ [])
pair-wanted p = by_main (is_left_main p) refl
  where
    operands : List (List Component)
    operands = p.left ∷ p.right ∷ []

    Wanted : Bool → Type 0
    Wanted b = AreWanted (if b then in_parts 0 (partner_numbers p) ∷ whole 1 ∷ [] else whole 0 ∷ in_parts 1 (partner_numbers p) ∷ []) operands

    by_main : (b : Bool) → is_left_main p ≡ b → AreWanted (pair.wants_on p) operands
    by_main true e =
        let below : All (λ k. k < length p.left) (partner_numbers p) = subst (λ (b : Bool). All (λ k. k < length (if b then p.left else p.right)) (partner_numbers p)) e (partner-below p) in
        subst (λ (b : Bool). AreWanted (if b then in_parts 0 (partner_numbers p) ∷ whole 1 ∷ [] else whole 0 ∷ in_parts 1 (partner_numbers p) ∷ []) operands) (sym e)
        (two-wanted (in_parts 0 (partner_numbers p)) (whole 1) operands (wanted-in_parts 0 (partner_numbers p) operands (omega arith) (λ operand. below)) (wanted-in_parts 1 [] operands (omega arith) (λ operand. All-nil _)))
    by_main false e =
        let below : All (λ k. k < length p.right) (partner_numbers p) = subst (λ (b : Bool). All (λ k. k < length (if b then p.left else p.right)) (partner_numbers p)) e (partner-below p) in
        subst (λ (b : Bool). AreWanted (if b then in_parts 0 (partner_numbers p) ∷ whole 1 ∷ [] else whole 0 ∷ in_parts 1 (partner_numbers p) ∷ []) operands) (sym e)
        (two-wanted (whole 0) (in_parts 1 (partner_numbers p)) operands (wanted-in_parts 0 [] operands (omega arith) (λ operand. All-nil _)) (wanted-in_parts 1 (partner_numbers p) operands (omega arith) (λ operand. below)))

pairs-wanted : (o : DataSetOperator) (operands : List (List Component)) (structure : List Component) → TakesOperands (an_operator o operands structure) → AreWanted (pair.wanted_of (an_operator o operands structure)) operands
pairs-wanted (operator.Pair items) operands structure takes =
    subst (λ (ss : List (List Component)). AreWanted (pair.wanted_of (an_operator (operator.Pair items) ss structure)) ss) (sym takes.two) (pair-wanted (pair.pair_in (an_operator (operator.Pair items) (takes.left ∷ takes.right ∷ []) structure)))
pairs-wanted _ operands structure takes = All-nil (λ w. IsWanted w operands)

exists-wanted-on_two : (rows : ExistsRows) (operands : List (List Component)) (structure : List Component) → AreWanted (exists.wanted_on_two rows operands structure) operands
exists-wanted-on_two rows [] structure = All-nil (λ w. IsWanted w [])
exists-wanted-on_two rows (left ∷ []) structure = All-nil (λ w. IsWanted w (left ∷ []))
exists-wanted-on_two rows (left ∷ right ∷ operands) structure =
    let e = exists_on rows left right structure in
    two-wanted (left_want e) (right_want e) (left ∷ right ∷ operands) (record { below = omega arith; fits = λ operand. left-fits e }) (record { below = omega arith; fits = λ operand. right-fits e })

exists-wanted : (o : DataSetOperator) (operands : List (List Component)) (structure : List Component) → AreWanted (exists.wanted_of (an_operator o operands structure)) operands
exists-wanted (operator.ExistsIn rows) operands structure = exists-wanted-on_two rows operands structure
exists-wanted _ operands structure = All-nil (λ w. IsWanted w operands)

-- all operands, whole
all-wanted : (operands : List (List Component)) → AreWanted (all_whole (length operands)) operands
all-wanted operands = all_whole-each (λ w. IsWanted w operands) (length operands) (λ n within. record { below = within; fits = λ operand. whole-fits n (slice_index_or operands n operand) })

inner-wanted : (o : DataSetOperator) (operands : List (List Component)) (structure : List Component) → IsTyped (an_operator o operands structure) → AreWanted (inner.wanted_of (an_operator o operands structure)) operands
inner-wanted (operator.Join joining.Inner) operands structure typed =
    let o : Operator = an_operator (operator.Join joining.Inner) operands structure in
    let on : inner.IsInnerOn (inner.join_in o) = inner-on o typed refl in
    λ k d within. record { below = wants-there (inner.join_in o) on k d within; fits = wants-fit (inner.join_in o) on k d within }
inner-wanted _ operands structure typed = All-nil (λ w. IsWanted w operands)

join-wanted : (function : JoinFunction) (operands : List (List Component)) (structure : List Component) → IsTyped (an_operator (operator.Join function) operands structure)
    → AreWanted (wanted_by_join function (an_operator (operator.Join function) operands structure)) operands
join-wanted joining.Inner operands structure typed = inner-wanted (operator.Join joining.Inner) operands structure typed
join-wanted joining.Left operands structure typed = all-wanted operands
join-wanted joining.Full operands structure typed = all-wanted operands
join-wanted joining.Cross operands structure typed = all-wanted operands

operator-wanted : (o : DataSetOperator) (operands : List (List Component)) (structure : List Component) → IsTyped (an_operator o operands structure) → AreWanted (wanted_by o (an_operator o operands structure)) operands
operator-wanted (operator.Pair items) operands structure typed = pairs-wanted (operator.Pair items) operands structure typed.takes
operator-wanted (operator.Choice holds fails measures) operands structure typed = all-wanted operands
operator-wanted (operator.ExistsIn rows) operands structure typed = exists-wanted (operator.ExistsIn rows) operands structure
operator-wanted (operator.Set operation) operands structure typed = all-wanted operands
operator-wanted (operator.Join function) operands structure typed = join-wanted function operands structure typed
operator-wanted _ operands structure typed = All-nil (λ w. IsWanted w operands)

-- what a rule wants of its operator's operands
pub rule-wanted : (o : Operator) → IsTyped o → AreWanted (wanted_of o) o.operands
unfolding wanted_of
rule-wanted o typed = operator-wanted o.operator o.operands o.structure typed

-- a rule wants operands that its operator has
pub wanted_below : (o : Operator) → IsTyped o → All (λ w. w.operand < length o.operands) (wanted_of o)
wanted_below o typed = All-weaker (λ w. IsWanted w o.operands) (λ w. w.operand < length o.operands) (λ w wanted. wanted.below) (wanted_of o) (rule-wanted o typed)
