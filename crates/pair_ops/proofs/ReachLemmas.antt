-- The steps of both operands' changes are within the reach.
use Rattle.std.proofs.Common.{◌≡◌, ℕ, ◌+◌, ◌*◌, ◌≤◌, List, [], ◌∷◌, map, length, get_or, Bool, true, false, if◌then◌else◌, cond, Option, Some, None, option_map, unwrap_or, refl, sym, ap, subst, ◌∙◌, arith, nat_eq}
use Rattle.std.specs.Prelude.{find}
use Rattle.std.specs.FinMap.{empty, keys, len}
use Rattle.vtl_values.specs.declared.structure.Component.{Component}
use Rattle.data_set_trees.specs.Components.{identifiers, include}
use Rattle.data_set_trees.specs.declared.tree.DataSetOperator.TheVariants.{Pair}
use Rattle.data_set_trees.specs.checked.Operators.{an_operator, Operator}
use Rattle.point_sets.specs.Changes.{Changes}
use Rattle.point_sets.specs.DataSets.{DataSet}
use Rattle.held_index.specs.Holdings.{Holding, look_steps}
use Rattle.held_index.specs.Wants.{in_parts, whole}
use Rattle.held_index.specs.declared.want.Want.{Want}
use Rattle.operator_meaning.specs.pairs.Pairs.{PairOn, is_left_main}
use Rattle.operator_meaning.specs.pairs.Typed.{pair_on}
use Rattle.operator_meaning.proofs.pairs.Keys.{main-apart, main-includes, names}
use Rattle.operator_meaning.proofs.pairs.Names.{Apart}
use Rattle.pair_eval.specs.Plans.{numbers_between}
use Rattle.pair_ops.specs.Noted.{walk_steps}
use Rattle.pair_ops.specs.Reach.{NamedValue, held_of, main_points, matching_reach, met_keys, named_values, pairs_with}
use Rattle.pair_ops.specs.Rules.{main_number, pair_in, partner_number, wants_on}
use Rattle.pair_ops.proofs.Agree.{walk-within}
use Rattle.pair_ops.proofs.Asked.{IsOfTwo}

-- a look takes at most two steps
pub few_steps : {A : Type 0} (o : Option A) → look_steps o ≤ 2
few_steps None = omega arith
few_steps (Some a) = omega arith

-- the steps of changes d of the main operand, of which h is held, and of changes e of the other one
abbrev pub Within : List (List Component) → ℕ → List Holding → List Changes → Holding → Changes → Changes → Type 0
Within structures n held news h d e = 2 * len d + walk_steps h (keys e) ≤ matching_reach structures n held news

abbrev held_in : Option Holding → DataSet
held_in found = unwrap_or (option_map (λ x. x.content) found) empty

within_first : (l r : List Component) (f g h : Holding) (c k d e : Changes) → f.want ≡ in_parts 0 (numbers_between l r) → h ≡ f → d ≡ c → e ≡ k → Apart (names (identifiers l)) → include (identifiers l) (identifiers r) ≡ true
    → Within (l ∷ r ∷ []) 0 (f ∷ g ∷ []) (c ∷ k ∷ []) h d e
within_first l r f g h c k d e wanted h_is d_is e_is apart has =
    let held : held_of 0 (f ∷ g ∷ []) ≡ h.content =
    ap (λ (w : Want). held_in (cond (nat_eq w.operand 0) (Some f) (find (λ (x : Holding). nat_eq x.want.operand 0) (g ∷ [])))) wanted ∙ ap (λ (x : Holding). x.content) (sym h_is) in
    let parts : h.want.part ≡ numbers_between l r = ap (λ (x : Holding). x.want.part) h_is ∙ ap (λ (w : Want). w.part) wanted in
    let points : List (List NamedValue) = main_points (l ∷ r ∷ []) 0 (f ∷ g ∷ []) (c ∷ k ∷ []) in
    let walk = walk-within l r h d apart has parts e in
    let same : pairs_with points r k ≡ pairs_with (map (named_values l) (met_keys h.content d)) r e = λ i. pairs_with (map (named_values l) (met_keys (held i) (sym d_is i))) r (sym e_is i) in
    let all : matching_reach (l ∷ r ∷ []) 0 (f ∷ g ∷ []) (c ∷ k ∷ []) ≡ 6 * (((0 + len c) + len k) + ((0 + pairs_with points l c) + pairs_with points r k)) = refl in
    let own = ap (λ (x : Changes). len x) d_is in
    let other = ap (λ (x : Changes). len x) e_is in
    omega (arith, walk, same, all, own, other)

within_second : (l r : List Component) (f g h : Holding) (c k d e : Changes) → f.want ≡ whole 0 → g.want ≡ in_parts 1 (numbers_between r l) → h ≡ g → d ≡ k → e ≡ c → Apart (names (identifiers r)) → include (identifiers r) (identifiers l) ≡ true
    → Within (l ∷ r ∷ []) 1 (f ∷ g ∷ []) (c ∷ k ∷ []) h d e
within_second l r f g h c k d e first wanted h_is d_is e_is apart has =
    let held : held_of 1 (f ∷ g ∷ []) ≡ h.content =
    ap (λ (w : Want). held_in (cond (nat_eq w.operand 1) (Some f) (find (λ (x : Holding). nat_eq x.want.operand 1) (g ∷ [])))) first
    ∙ ap (λ (w : Want). held_in (cond (nat_eq w.operand 1) (Some g) None)) wanted ∙ ap (λ (x : Holding). x.content) (sym h_is) in
    let parts : h.want.part ≡ numbers_between r l = ap (λ (x : Holding). x.want.part) h_is ∙ ap (λ (w : Want). w.part) wanted in
    let points : List (List NamedValue) = main_points (l ∷ r ∷ []) 1 (f ∷ g ∷ []) (c ∷ k ∷ []) in
    let walk = walk-within r l h d apart has parts e in
    let same : pairs_with points l c ≡ pairs_with (map (named_values r) (met_keys h.content d)) l e = λ i. pairs_with (map (named_values r) (met_keys (held i) (sym d_is i))) l (sym e_is i) in
    let all : matching_reach (l ∷ r ∷ []) 1 (f ∷ g ∷ []) (c ∷ k ∷ []) ≡ 6 * (((0 + len c) + len k) + ((0 + pairs_with points l c) + pairs_with points r k)) = refl in
    let own = ap (λ (x : Changes). len x) d_is in
    let other = ap (λ (x : Changes). len x) e_is in
    omega (arith, walk, same, all, own, other)

by_side : (s : Bool) (l r : List Component) (held : List Holding) (news : List Changes) (h : Holding) (d e : Changes)
    → map (λ (x : Holding). x.want) held ≡ (if s then in_parts 0 (numbers_between (if s then l else r) (if s then r else l)) ∷ whole 1 ∷ [] else whole 0 ∷ in_parts 1 (numbers_between (if s then l else r) (if s then r else l)) ∷ [])
    → length news ≡ 2 → h ≡ get_or held (if s then 0 else 1) h → d ≡ get_or news (if s then 0 else 1) d → e ≡ get_or news (if s then 1 else 0) e
    → Apart (names (identifiers (if s then l else r))) → include (identifiers (if s then l else r)) (identifiers (if s then r else l)) ≡ true → Within (l ∷ r ∷ []) (if s then 0 else 1) held news h d e
by_side true l r [] news h d e wants two h_is d_is e_is apart has = cc
by_side true l r (f ∷ []) news h d e wants two h_is d_is e_is apart has = cc
by_side true l r (f ∷ g ∷ x ∷ xs) news h d e wants two h_is d_is e_is apart has = cc
by_side true l r (f ∷ g ∷ []) [] h d e wants two h_is d_is e_is apart has = absurd (omega arith)
by_side true l r (f ∷ g ∷ []) (c ∷ []) h d e wants two h_is d_is e_is apart has = absurd (omega arith)
by_side true l r (f ∷ g ∷ []) (c ∷ k ∷ y ∷ ys) h d e wants two h_is d_is e_is apart has = absurd (omega arith)
by_side true l r (f ∷ g ∷ []) (c ∷ k ∷ []) h d e wants two h_is d_is e_is apart has = within_first l r f g h c k d e (cc) h_is d_is e_is apart has
by_side false l r [] news h d e wants two h_is d_is e_is apart has = cc
by_side false l r (f ∷ []) news h d e wants two h_is d_is e_is apart has = cc
by_side false l r (f ∷ g ∷ x ∷ xs) news h d e wants two h_is d_is e_is apart has = cc
by_side false l r (f ∷ g ∷ []) [] h d e wants two h_is d_is e_is apart has = absurd (omega arith)
by_side false l r (f ∷ g ∷ []) (c ∷ []) h d e wants two h_is d_is e_is apart has = absurd (omega arith)
by_side false l r (f ∷ g ∷ []) (c ∷ k ∷ y ∷ ys) h d e wants two h_is d_is e_is apart has = absurd (omega arith)
by_side false l r (f ∷ g ∷ []) (c ∷ k ∷ []) h d e wants two h_is d_is e_is apart has = within_second l r f g h c k d e (cc) (cc) h_is d_is e_is apart has

-- of what is wanted all steps are within the operator's reach
pub all_within : (o : Operator) → IsOfTwo o → (held : List Holding) (news : List Changes) (h : Holding) (d e : Changes) → map (λ (x : Holding). x.want) held ≡ wants_on (pair_in o) → length news ≡ 2
    → h ≡ get_or held (main_number (pair_in o)) h → d ≡ get_or news (main_number (pair_in o)) d → e ≡ get_or news (partner_number (pair_in o)) e → Within o.operands (main_number (pair_in o)) held news h d e
all_within o two held news h d e wants long h_is d_is e_is =
    subst (λ (q : Operator). All q) (sym two.is) by_structures wants h_is d_is e_is
  where
    All : Operator → Type 0
    All q =
        map (λ (x : Holding). x.want) held ≡ wants_on (pair_in q) → h ≡ get_or held (main_number (pair_in q)) h → d ≡ get_or news (main_number (pair_in q)) d → e ≡ get_or news (partner_number (pair_in q)) e
        → Within q.operands (main_number (pair_in q)) held news h d e

    by_structures : All (an_operator (Pair two.items) (two.left ∷ two.right ∷ []) o.structure)
    by_structures wanted is_h is_d is_e =
        let p : PairOn = pair_on two.items two.left two.right o.structure in
        by_side (is_left_main p) two.left two.right held news h d e wanted long is_h is_d is_e (main-apart p two.typed) (main-includes p two.typed).1
