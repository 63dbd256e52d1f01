-- Statements that are typed one after another.
use Rattle.std.proofs.Common.{◌≡◌, ℕ, ◌+◌, ◌<◌, List, [], ◌∷◌, Option, Some, None, length, drop, get_or, slice_get, refl, sym, ap, ◌∙◌, drop-cons, length-set, add-one}
use Rattle.std.proofs.lemmas.Option.{slice_get_within}
use Rattle.shortest_cycles.specs.Paths.{Graph, targets_of}
use Rattle.expression_rules.specs.Expressions.{Naming}
use Rattle.script_typing.specs.declared.state.State.{State}
use Rattle.script_typing.specs.States.{SoFar, turn, comes_to, after_turn, after_turns}

-- each statement has a state, as before
comes-long : (i : ℕ) (o : Option State) (s : SoFar) → length (comes_to i o s).states ≡ length s.states
comes-long i None s = refl
comes-long i (Some state) s = length-set s.states i state

pub turns-long : (g : Graph) (is : List ℕ) (s : SoFar) → length (after_turns g is s).states ≡ length s.states
turns-long g [] s = refl
turns-long g (i ∷ is) s = turns-long g is (after_turn (targets_of g i) i s) ∙ comes-long i (turn s.naming s.states (targets_of g i) (slice_get s.states i)) s

-- what comes to something has a state
comes_of : (naming : Naming) (states : List State) (uses : List ℕ) (i : ℕ) (state : State) (o : Option State) → slice_get states i ≡ o → turn naming states uses o ≡ Some state → i < length states
comes_of naming states uses i state None at is = absurd (cc is)
comes_of naming states uses i state (Some x) at is = slice_get_within states i x at

pub comes_within : (naming : Naming) (states : List State) (uses : List ℕ) (i : ℕ) (state : State) → turn naming states uses (slice_get states i) ≡ Some state → i < length states
comes_within naming states uses i state is = comes_of naming states uses i state (slice_get states i) refl is

-- one statement more
pub one_more : (g : Graph) (order : List ℕ) (k : ℕ) (s s' end : SoFar) → k < length order → s' ≡ after_turn (targets_of g (get_or order k 0)) (get_or order k 0) s → after_turns g (drop k order) s ≡ end → after_turns g (drop (k + 1) order) s' ≡ end
one_more g order k s s' end less is left =
    ap (after_turns g (drop (k + 1) order)) is
    ∙ ap (λ (n : ℕ). after_turns g (drop n order) (after_turn (targets_of g (get_or order k 0)) (get_or order k 0) s)) (add-one k)
    ∙ ap (λ (is : List ℕ). after_turns g is s) (sym (drop-cons order k 0 less))
    ∙ left
