-- A walk over a list in order that hands on what is below a key, and stops behind the key.
use Rattle.std.proofs.Common.{◌≡◌, List, [], ◌∷◌, ◌++◌, map, Option, Some, None, T, sym, ◌∙◌, ap, refl, subst, length, append_assoc, arith}
use Rattle.std.proofs.lemmas.List.{map-append}
use Rattle.std.specs.declared.cmp.Ordering.{Ordering}
use Rattle.std.specs.declared.cmp.Ordering.TheVariants.{Less, Equal, Greater}
use Rattle.std.specs.Cmp.{IsTotalOrder}
use Rattle.std.specs.FinMap.{find, is_sorted}
use Rattle.point_sets.specs.Places.{below, above}
use Rattle.point_sets.proofs.Ordered.{second}
use Rattle.point_sets.proofs.Edited.{below-less, above-less, find-less, below-equal, above-equal, find-equal, below-greater, above-greater, find-greater}

append-nothing : {A : Type 0} (xs : List A) → xs ++ [] ≡ xs
append-nothing [] = refl
append-nothing {A} (x ∷ xs) = ap (λ (t : List A). x ∷ t) (append-nothing xs)

no_items : {A : Type 0} (xs : List A) → length xs ≡ 0 → xs ≡ []
no_items [] e = refl
no_items (x ∷ xs) e = absurd (omega arith)

-- from all and items, so far: what is below the key in the rest is still to be handed on
pub record Passes {K Y P : Type 0} (R : K → K → Ordering) (f : P → K × Y) (k : K) (all items done rest : List P) : Type 0 where
  pub pushed : map f done ++ below R k (map f rest) ≡ map f all ++ below R k (map f items)
  pub behind : above R k (map f rest) ≡ above R k (map f items)
  pub found : find R k (map f rest) ≡ find R k (map f items)
  pub ascend : T (is_sorted R (map f rest))

-- at the end: what is below the key is handed on, what was found is at the key, and the rest is above
pub record Passed {K Y P : Type 0} (R : K → K → Ordering) (f : P → K × Y) (k : K) (all items done rest : List P) (at : Option Y) : Type 0 where
  pub pushed : map f done ≡ map f all ++ below R k (map f items)
  pub behind : map f rest ≡ above R k (map f items)
  pub found : at ≡ find R k (map f items)
  pub ascend : T (is_sorted R (map f rest))

module _ {K Y P : Type 0} {R : K → K → Ordering} (o : IsTotalOrder R) (f : P → K × Y) (k : K) (all items : List P) where
  pub passes-start : T (is_sorted R (map f items)) → Passes R f k all items all items
  passes-start s = record { pushed = refl; behind = refl; found = refl; ascend = s }

  module _ (done rest : List P) (p : P) (later : List P) (h : Passes R f k all items done rest) (is : rest ≡ p ∷ later) where
    here : Passes R f k all items done (p ∷ later)
    here = subst (λ (t : List P). Passes R f k all items done t) is h

    pub passes-more : (q : P) → f q ≡ f p → R (f p).0 k ≡ Less → Passes R f k all items (done ++ q ∷ []) later
    passes-more q same l = record {
      pushed = ap (λ (t : List (K × Y)). t ++ below R k (map f later)) (map-append f done (q ∷ []) ∙ ap (λ (t : K × Y). map f done ++ t ∷ []) same)
          ∙ append_assoc (map f done) (f p ∷ []) (below R k (map f later))
          ∙ ap (λ (t : List (K × Y)). map f done ++ t) (sym (below-less o k (f p) (map f later) l))
          ∙ here.pushed;
      behind = sym (above-less o k (f p) (map f later) l) ∙ here.behind;
      found = sym (find-less o k (f p) (map f later) l) ∙ here.found;
      ascend = second _ _ here.ascend;
    }

    pub passed-equal : R (f p).0 k ≡ Equal → Passed R f k all items done later (Some (f p).1)
    passed-equal l = record {
      pushed = sym (append-nothing (map f done)) ∙ ap (λ (t : List (K × Y)). map f done ++ t) (sym (below-equal o k (f p) (map f later) l here.ascend)) ∙ here.pushed;
      behind = sym (above-equal o k (f p) (map f later) l here.ascend) ∙ here.behind;
      found = sym (find-equal o k (f p) (map f later) l) ∙ here.found;
      ascend = second _ _ here.ascend;
    }

    pub passed-greater : R (f p).0 k ≡ Greater → Passed R f k all items done rest None
    passed-greater l = subst (λ (t : List P). Passed R f k all items done t None) (sym is) record {
      pushed = sym (append-nothing (map f done)) ∙ ap (λ (t : List (K × Y)). map f done ++ t) (sym (below-greater o k (f p) (map f later) l here.ascend)) ∙ here.pushed;
      behind = sym (above-greater o k (f p) (map f later) l here.ascend) ∙ here.behind;
      found = sym (find-greater o k (f p) (map f later) l here.ascend) ∙ here.found;
      ascend = here.ascend;
    }

  pub passed-end : (done rest : List P) → Passes R f k all items done rest → length rest ≡ 0 → Passed R f k all items done rest None
  passed-end done rest h e =
      let none : rest ≡ [] = no_items rest e in
      let at_end : Passes R f k all items done [] = subst (λ (t : List P). Passes R f k all items done t) none h in
      subst (λ (t : List P). Passed R f k all items done t None) (sym none) record {
        pushed = sym (append-nothing (map f done)) ∙ at_end.pushed;
        behind = at_end.behind;
        found = at_end.found;
        ascend = at_end.ascend;
      }
