-- A walk over rules that keeps those that have no fault, and the first fault of all others.
use Rattle.std.proofs.Common.{◌≡◌, ℕ, ◌+◌, ◌<◌, ◌≤◌, List, [], ◌∷◌, ◌++◌, length, get_or, take, Option, Some, None, Result, ap, sym, ◌∙◌, arith}
use Rattle.std.specs.List.{cons_option, filter_map, flat_map, range_with_len, zip}
use Rattle.std.proofs.lemmas.Grind.{flat_map-append}
use Rattle.std.proofs.lemmas.List.{append-nil, length-take-le, take_all, take_more}
use Rattle.std.proofs.lemmas.List.Elements.{filter_map-append}
use Rattle.scalar_trees.specs.declared.typing.stop.Fault.{Fault}
use Rattle.scalar_trees.specs.declared.typing.stop.Refusal.{Refusal}
use Rattle.data_set_trees.specs.rules.Datapoints.{numbered}
use Rattle.data_set_trees.specs.rules.Rules.{first_fault, given}
use Rattle.rule_typing.specs.Faults.{earlier}
use Rattle.rule_typing.proofs.FirstFaults.{earlier-none, first_fault-append}

-- the rules with their places, of which the first is this one
abbrev numbered_from : {R : Type 0} → ℕ → List R → List (ℕ × R)
numbered_from n rules = zip (range_with_len n (length rules)) rules

numbered_from-push : {R : Type 0} (n : ℕ) (xs : List R) (x : R) → numbered_from n (xs ++ x ∷ []) ≡ numbered_from n xs ++ (n + length xs, x) ∷ []
numbered_from-push n [] x = let same : n ≡ n + 0 = omega arith in ap (λ (m : ℕ). (m, x) ∷ []) same
numbered_from-push n (y ∷ ys) x =
    let on : (n + 1) + length ys ≡ n + length (y ∷ ys) = omega arith in
    ap (λ q. (n, y) ∷ q) (numbered_from-push (n + 1) ys x ∙ ap (λ (m : ℕ). numbered_from (n + 1) ys ++ (m, x) ∷ []) on)

module _ {R P : Type 0} (typed : ℕ → R → Result P Refusal) (faults : R → List Fault) where
  abbrev pub checked_of : List R → List P
  checked_of rules = filter_map (λ p. given (typed p.0 p.1)) (numbered rules)

  -- what is known of the first rules
  pub record Walked (rules : List R) (i : ℕ) (checked : List P) (first : Option Fault) : Type 0 where
    pub checked_is : checked ≡ checked_of (take i rules)
    pub first_is : first ≡ first_fault (flat_map faults (take i rules))

  pub all_checked : (rules : List R) (i : ℕ) (checked : List P) (first : Option Fault) → length rules ≤ i → Walked rules i checked first → checked ≡ checked_of rules
  all_checked rules i checked first all walked = walked.checked_is ∙ ap checked_of (take_all i rules all)

  pub all_told : (rules : List R) (i : ℕ) (checked : List P) (first : Option Fault) → length rules ≤ i → Walked rules i checked first → first ≡ first_fault (flat_map faults rules)
  all_told rules i checked first all walked = walked.first_is ∙ ap (λ (rs : List R). first_fault (flat_map faults rs)) (take_all i rules all)

  -- one rule more
  module _ (rules : List R) (i : ℕ) (x : R) (checked : List P) (first : Option Fault) (within : i < length rules) (read : x ≡ get_or rules i x) (walked : Walked rules i checked first) where
    pushed : take (i + 1) rules ≡ take i rules ++ x ∷ []
    pushed = take_more rules i x within ∙ ap (λ (y : R). take i rules ++ y ∷ []) (sym read)

    next_checked : checked ++ cons_option (given (typed (i + 1) x)) [] ≡ checked_of (take (i + 1) rules)
    next_checked =
        let keep : ℕ × R → Option P = λ p. given (typed p.0 p.1) in
        let place : 1 + length (take i rules) ≡ i + 1 = omega (arith, length-take-le i rules (omega arith)) in
        ap (λ (q : List P). q ++ cons_option (given (typed (i + 1) x)) []) walked.checked_is
        ∙ sym (filter_map-append keep (numbered (take i rules)) ((i + 1, x) ∷ []))
        ∙ ap (filter_map keep) (ap (λ (m : ℕ). numbered (take i rules) ++ (m, x) ∷ []) (sym place) ∙ sym (numbered_from-push 1 (take i rules) x))
        ∙ ap checked_of (sym pushed)

    next_first : earlier first (first_fault (faults x)) ≡ first_fault (flat_map faults (take (i + 1) rules))
    next_first =
        ap (λ (o : Option Fault). earlier o (first_fault (faults x))) walked.first_is
        ∙ sym (first_fault-append (flat_map faults (take i rules)) (faults x))
        ∙ ap first_fault (ap (λ q. flat_map faults (take i rules) ++ q) (sym (append-nil (faults x))) ∙ sym (flat_map-append faults (take i rules) (x ∷ [])))
        ∙ ap (λ (rs : List R). first_fault (flat_map faults rs)) (sym pushed)

    -- it has no fault
    pub goes_on : (rule : P) (after : List P) (last : Option Fault) → Some rule ≡ given (typed (i + 1) x) → None ≡ first_fault (faults x) → after ≡ checked ++ rule ∷ [] → last ≡ first → Walked rules (i + 1) after last
    goes_on rule after last is none put stays = record {
      checked_is = put ∙ ap (λ (o : Option P). checked ++ cons_option o []) is ∙ next_checked;
      first_is = stays ∙ sym (earlier-none first) ∙ ap (earlier first) none ∙ next_first;
    }

    -- it has one
    pub finds : (fault : Fault) (after : List P) (last : Option Fault) → None ≡ given (typed (i + 1) x) → Some fault ≡ first_fault (faults x) → after ≡ checked → last ≡ earlier first (Some fault) → Walked rules (i + 1) after last
    finds fault after last none is stays put = record {
      checked_is = stays ∙ sym (append-nil checked) ∙ ap (λ (o : Option P). checked ++ cons_option o []) none ∙ next_checked;
      first_is = put ∙ ap (earlier first) is ∙ next_first;
    }
