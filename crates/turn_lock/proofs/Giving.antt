-- Giving the turn back keeps the rule.
use Rattle.std.proofs.Common.{◌≡◌, ◌≢◌, ℕ, ◌*◌, ◌%◌, ◌^◌, ◌≤◌, ◌<◌, List, [], ◌∷◌, ◌++◌, length, drop, set, true, false, true≢false, refl, sym, ap, subst, ◌∙◌, ⊎_elim, arith, sum_by, Option, Some, All}
use Rattle.std.proofs.lemmas.Bool.{cases_Bool}
use Rattle.std.proofs.lemmas.Bool.Decides.{nat_tests}
use Rattle.std.proofs.lemmas.List.Elements.{All-append, All-weaker}
use mathlib.Core.Option.{some, some-injective}
use lib.ListN.{get_elem?}
use Rattle.atomic_table.specs.Table.{State, Me, gives, Allows}
use Rattle.atomic_table.proofs.Lists.{at_set}
use Rattle.turn_lock.specs.declared.rule.View.{View}
use Rattle.turn_lock.specs.Calls.{last_number, StartsWith}
use Rattle.turn_lock.specs.Pass.{places}
use Rattle.turn_lock.specs.Rule.{HasSeen, HasOwn, IsTaken, Points, KeepsRule}
use Rattle.turn_lock.specs.Steps.{given, Continues, Gave}
use Rattle.turn_lock.proofs.Journals.{starts_along, starts_same, starts_drop}
use Rattle.turn_lock.proofs.Numbers.{sum_by-put, sum_by-at, sum_by-two}
use Rattle.turn_lock.proofs.Owning.{put_here, places-own, HasOwn-other, HasOwn-given}
use Rattle.turn_lock.proofs.Soles.{places-given}
use Rattle.turn_lock.proofs.Looking.{even_or_odd}

some_is : {G : Type 0} (a b : G) → Some a ≡ Some b → a ≡ b
some_is a b e = cc

module _ {S E G : Type 0} (journal_of : S → List E) (caller_of : E → ℕ) (ground_of : S → G) where
  gives_back : (g : G) (word : ℕ) (log : List E) (s : State (Option S) (View E G)) (id : ℕ) (v : View E G) (x : S) (t : IsTaken log s) → Points journal_of caller_of ground_of g word log s
      → v.live ≡ true → v.holds ≡ true → ((h : G) → v.ground ≡ Some h → ground_of x ≡ h) → (base : G) → v.ground ≡ Some base → get_elem? s.views id ≡ some v
      → (more : List E) → journal_of x ≡ log ++ more → All (λ e. caller_of e ≡ v.number) more → length (log ++ more) < 2 ^ 62
      → Points journal_of caller_of ground_of g (2 * length (log ++ more)) (log ++ more) (record { words = (2 * length (log ++ more)) ∷ []; homes = some (Some x) ∷ []; views = set s.views id (given (log ++ more) v) })
  gives_back g word log s id v x t p live held fits base known at more is by short =
      let w = given (log ++ more) v in
      let here = t.alone id v at held in
      let found : v.found ≡ log = ap (λ (u : View E G). u.found) (some-injective v t.holder (sym at ∙ ap (get_elem? s.views) here ∙ t.there)) ∙ t.found in
      let on : StartsWith (log ++ more) log = (more, refl) in
      let mine = p.different v.number in
      let once : sum_by (places v.number) s.views ≤ 1 = grind (arith, nat_tests) in
      let at_one = sum_by-at (places v.number) s.views id v at in
      let own_place = places-own v live in
      let low : v.number ≤ last_number = grind (arith, nat_tests) in
      record {
        words = refl;
        longest = record { seat = id; view = w; there = put_here s.views id v w at; seen = refl };
        short = short;
        counts = omega arith;
        free = λ _. record {
          nobody = λ k u there. ⊎_elim
              (λ (y : (k ≡ id) × (w ≡ u)). ap (λ (z : View E G). z.holds) (sym y.1))
              (λ (y : (k ≢ id) × (get_elem? s.views k ≡ some u)). ⊎_elim
              (λ (h : u.holds ≡ true). absurd (y.0 (t.alone k u y.1 h ∙ sym here)))
              (λ (h : u.holds ≡ false). h)
              (cases_Bool u.holds))
              (at_set s.views id k w u there);
          value = x;
          home = refl;
          kept = is;
          ground = fits base known ∙ (p.seen id v at).ground base known;
        };
        taken = λ odd. absurd (omega arith);
        seen = λ k u there. ⊎_elim
            (λ (y : (k ≡ id) × (w ≡ u)).
            let h = p.seen id v at in
            subst (HasSeen g (log ++ more)) y.1 (record { seen = starts_same (log ++ more); other = starts_along v.other v.seen (log ++ more) h.other (starts_along v.seen log (log ++ more) h.seen on); ground = h.ground }))
            (λ (y : (k ≢ id) × (get_elem? s.views k ≡ some u)).
            let h = p.seen k u y.1 in
            record { seen = starts_along u.seen log (log ++ more) h.seen on; other = h.other; ground = h.ground })
            (at_set s.views id k w u there);
        own = λ k u there. ⊎_elim
            (λ (y : (k ≡ id) × (w ≡ u)). subst (HasOwn caller_of (log ++ more)) y.1 (HasOwn-given caller_of log more v live found by (omega arith) (p.own id v at)))
            (λ (y : (k ≢ id) × (get_elem? s.views k ≡ some u)).
            let both = sum_by-two (places v.number) s.views k id u v y.0 y.1 at in
            HasOwn-other caller_of v.number log more u by (omega arith) (p.own k u y.1))
            (at_set s.views id k w u there);
        numbered = All-append (λ e. caller_of e ≤ last_number) log more p.numbered (All-weaker (λ e. caller_of e ≡ v.number) (λ e. caller_of e ≤ last_number) (λ e (is : caller_of e ≡ v.number). omega arith) more by);
        different = λ n. let d = p.different n in let e = sum_by-put (places n) s.views id v w at in let same = places-given n (log ++ more) v live in omega arith;
      }

  give_allows : (g : G) (id : ℕ) (v : View E G) (x : S) → v.live ≡ true → v.holds ≡ true → (base : G) → v.ground ≡ Some base → ground_of x ≡ base → Continues caller_of v (journal_of x) → length (journal_of x) < 2 ^ 62
      → Allows (KeepsRule journal_of caller_of ground_of g) 1 id (v, (0, Some x) ∷ []) 0 (λ _. 2 * length (journal_of x)) (λ _ w. Gave journal_of (v, (0, Some x) ∷ []) w)
  give_allows g id v x live held base known fits on short s kept one at small =
      let word = kept.0 in
      let log = kept.1 in
      let p = kept.2 in
      ⊎_elim
      (λ (even : word % 2 ≡ 0). absurd (true≢false (sym held ∙ (p.free even).nobody id v at)))
      (λ (odd : word % 2 ≡ 1).
      let t = p.taken odd in
      let here = t.alone id v at held in
      let found : v.found ≡ log = ap (λ (u : View E G). u.found) (some-injective v t.holder (sym at ∙ ap (get_elem? s.views) here ∙ t.there)) ∙ t.found in
      let more = drop (length v.found) (journal_of x) in
      let is : journal_of x ≡ log ++ more = starts_drop (journal_of x) v.found on.begins ∙ ap (λ l. l ++ more) found in
      let q = gives_back g word log s id v x t p live held (λ h e. fits ∙ some_is base h (sym known ∙ e)) base known at more is on.by_me (subst (λ l. length l < 2 ^ 62) is short) in
      let ended : set s.words 0 (2 * length (journal_of x)) ≡ (2 * length (journal_of x)) ∷ [] = rw p.words refl in
      let home : set s.homes 0 (some (Some x)) ≡ some (Some x) ∷ [] = rw t.away refl in
      let q' = subst (λ l. Points journal_of caller_of ground_of g (2 * length l) l (record { words = (2 * length l) ∷ []; homes = some (Some x) ∷ []; views = set s.views id (given l v) })) (sym is) q in (
        given (journal_of x) v,
        gives,
        tt,
        (
          2 * length (journal_of x),
          journal_of x,
          subst (λ ws. Points journal_of caller_of ground_of g (2 * length (journal_of x)) (journal_of x) (record { words = ws; homes = set s.homes 0 (some (Some x)); views = set s.views id (given (journal_of x) v) })) (sym ended)
              (subst (λ hs. Points journal_of caller_of ground_of g (2 * length (journal_of x)) (journal_of x) (record { words = (2 * length (journal_of x)) ∷ []; homes = hs; views = set s.views id (given (journal_of x) v) })) (sym home) q'),
        ),
        (x, refl, refl),
      ))
      (even_or_odd word)

  pub give_allows_as : (g : G) (slots id n : ℕ) (m : Me (Option S) (View E G)) (x : S) → slots ≡ 1 → n ≡ 2 * length (journal_of x) → m.0.live ≡ true → m.0.holds ≡ true → m.1 ≡ (0, Some x) ∷ [] → (base : G) → m.0.ground ≡ Some base → ground_of x ≡ base
      → Continues caller_of m.0 (journal_of x) → length (journal_of x) < 2 ^ 62 → Allows (KeepsRule journal_of caller_of ground_of g) slots id m 0 (λ _. n) (λ _ w. Gave journal_of m w)
  give_allows_as g slots id n m x one size live held slot base known fits on short =
      let P : ℕ → ℕ → List (ℕ × Option S) → Type 0 = λ k w l. Allows (KeepsRule journal_of caller_of ground_of g) k id (m.0, l) 0 (λ _. w) (λ _ z. Gave journal_of (m.0, l) z) in
      subst (λ (k : ℕ). P k n m.1) (sym one) (subst (λ (w : ℕ). P 1 w m.1) (sym size) (subst (P 1 (2 * length (journal_of x))) (sym slot) (give_allows g id m.0 x live held base known fits on short)))
