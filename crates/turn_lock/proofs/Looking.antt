-- A look keeps the rule.
use Rattle.std.proofs.Common.{◌≡◌, ◌≢◌, ◌==◌, ◌⊎◌, ℕ, ◌+◌, ◌*◌, ◌/◌, ◌%◌, ◌^◌, ◌≤◌, ◌<◌, List, [], ◌∷◌, length, set, true, false, true≢false, refl, sym, ap, subst, ◌∙◌, inl, inr, ⊎_elim, arith, Option, Some, bit_or, All}
use Rattle.std.specs.Prelude.{slice_index}
use Rattle.std.specs.Int.Bits.{or_zero_r}
use Rattle.std.proofs.lemmas.Nat.{or_shifted, or_block}
use Rattle.std.proofs.lemmas.Bool.{cases_lt}
use Rattle.std.proofs.lemmas.List.Elements.{All-head, All-tail}
use mathlib.Core.Option.{some, none, some-injective}
use lib.ListN.{get_elem?}
use Rattle.atomic_table.specs.Table.{State, Me, keeps, takes, Allows}
use Rattle.atomic_table.proofs.Lists.{at_set, set_else}
use Rattle.turn_lock.specs.declared.rule.View.{View}
use Rattle.turn_lock.specs.Calls.{last_number}
use Rattle.turn_lock.specs.Pass.{places}
use Rattle.turn_lock.specs.Rule.{HasSeen, HasOwn, IsFree, Points, KeepsRule}
use Rattle.turn_lock.specs.Steps.{looked, holding, Finds, Looked}
use Rattle.turn_lock.proofs.Numbers.{sum_by-put}
use Rattle.turn_lock.proofs.Owning.{each_set, put_here, Listed, lists_of-live, sole_saw_all, IsLongest-set}

pub even_or_odd : (n : ℕ) → (n % 2 ≡ 0) ⊎ (n % 2 ≡ 1)
even_or_odd n = ⊎_elim (λ (h : n % 2 < 1). inl (omega arith)) (λ (h : 1 ≤ n % 2). inr (omega arith)) (cases_lt (n % 2) 1)

or_even : (n : ℕ) → bit_or (2 * n) 1 ≡ 2 * n + 1
or_even n = subst (λ m. bit_or m 1 ≡ m + 1) (omega arith) (or_shifted n 1 1 (omega arith))

or_odd : (n : ℕ) → bit_or (2 * n + 1) 1 ≡ 2 * n + 1
or_odd n = subst (λ m. bit_or m 1 ≡ m) (omega arith) (or_block 1 n 0 1 1 (omega arith) (omega arith) ∙ ap (λ m. m * 2 ^ 1 + 1) (or_zero_r n))

bit_or-even : (n : ℕ) → n % 2 ≡ 0 → bit_or n 1 ≡ n + 1
bit_or-even n even = let e : 2 * (n / 2) ≡ n = omega arith in subst (λ m. bit_or m 1 ≡ m + 1) e (or_even (n / 2))

bit_or-odd : (n : ℕ) → n % 2 ≡ 1 → bit_or n 1 ≡ n
bit_or-odd n odd = let e : 2 * (n / 2) + 1 ≡ n = omega arith in subst (λ m. bit_or m 1 ≡ m) e (or_odd (n / 2))

module _ {S E G : Type 0} (journal_of : S → List E) (caller_of : E → ℕ) (ground_of : S → G) where
  -- what a pass that takes the turn knows of the value
  finds : (g : G) (v : View E G) (x : S) → v.live ≡ true → HasSeen g (journal_of x) v → HasOwn caller_of (journal_of x) v → All (λ e. caller_of e ≤ last_number) (journal_of x) → ground_of x ≡ g → length (journal_of x) < 2 ^ 62
      → (h : G) → v.ground ≡ Some h → Finds journal_of caller_of ground_of h v x
  finds g v x live s o numbered base short h known =
      let listed : All (Listed caller_of (journal_of x)) (record { number = v.number; own = v.own } ∷ v.kept) = subst (All (Listed caller_of (journal_of x))) (lists_of-live v live) o.listed in
      record {
        ground = base ∙ sym (s.ground h known);
        seen = s.seen;
        own = All-head (Listed caller_of (journal_of x)) (record { number = v.number; own = v.own }) v.kept listed;
        kept = All-tail (Listed caller_of (journal_of x)) (record { number = v.number; own = v.own }) v.kept listed;
        unused = o.unused;
        numbered = numbered;
        short = short;
        sole = sole_saw_all caller_of g (journal_of x) v s o numbered;
      }

  -- the turn was free, and the seat has it now
  takes_free : (g : G) (word : ℕ) (log : List E) (s : State (Option S) (View E G)) (id : ℕ) (v : View E G) (n : ℕ) (f : IsFree journal_of ground_of g log s) → Points journal_of caller_of ground_of g word log s → word % 2 ≡ 0 → get_elem? s.views id ≡ some v
      → Points journal_of caller_of ground_of g (word + 1) log (record { words = (word + 1) ∷ []; homes = set s.homes 0 none; views = set s.views id (holding n (journal_of f.value) v) })
  takes_free g word log s id v n f p even at =
      let w = holding n (journal_of f.value) v in
      record {
        words = refl;
        longest = IsLongest-set log s.views id v w at (λ e. e) p.longest;
        short = p.short;
        counts = let c = p.counts in omega arith;
        free = λ odd. absurd (omega arith);
        taken = λ _. record {
          seat = id;
          holder = w;
          there = put_here s.views id v w at;
          holds = refl;
          found = f.kept;
          alone = λ k u there held. ⊎_elim
              (λ (y : (k ≡ id) × (w ≡ u)). y.0)
              (λ (y : (k ≢ id) × (get_elem? s.views k ≡ some u)). absurd (true≢false (sym held ∙ f.nobody k u y.1)))
              (at_set s.views id k w u there);
          away = ap (λ h. set h 0 none) f.home;
        };
        seen = each_set (HasSeen g log) s.views id w p.seen (let h = p.seen id v at in record { seen = h.seen; other = h.other; ground = h.ground });
        own = each_set (HasOwn caller_of log) s.views id w p.own (let h = p.own id v at in record { listed = h.listed; seen = h.seen; unused = h.unused });
        numbered = p.numbered;
        different = λ n. let d = p.different n in let e = sum_by-put (places n) s.views id v w at in omega arith;
      }

  -- the turn is taken, and stays so
  looks_taken : (g : G) (word : ℕ) (log : List E) (s : State (Option S) (View E G)) (id : ℕ) (v : View E G) (n : ℕ) → Points journal_of caller_of ground_of g word log s → word % 2 ≡ 1 → v.holds ≡ false → get_elem? s.views id ≡ some v
      → Points journal_of caller_of ground_of g word log (record { words = word ∷ []; homes = s.homes; views = set s.views id (looked n v) })
  looks_taken g word log s id v n p odd idle at =
      let w = looked n v in
      let t = p.taken odd in
      let other : t.seat ≢ id = λ same. absurd (true≢false (sym t.holds ∙ ap (λ (u : View E G). u.holds) (some-injective t.holder v (sym t.there ∙ ap (get_elem? s.views) same ∙ at)) ∙ idle)) in
      record {
        words = refl;
        longest = IsLongest-set log s.views id v w at (λ e. e) p.longest;
        short = p.short;
        counts = p.counts;
        free = λ even. absurd (omega arith);
        taken = λ _. record {
          seat = t.seat;
          holder = t.holder;
          there = set_else s.views id t.seat w other ∙ t.there;
          holds = t.holds;
          found = t.found;
          alone = λ k u there held. ⊎_elim
              (λ (y : (k ≡ id) × (w ≡ u)). absurd (true≢false (sym held ∙ ap (λ (z : View E G). z.holds) (sym y.1) ∙ idle)))
              (λ (y : (k ≢ id) × (get_elem? s.views k ≡ some u)). t.alone k u y.1 held)
              (at_set s.views id k w u there);
          away = t.away;
        };
        seen = each_set (HasSeen g log) s.views id w p.seen (let h = p.seen id v at in record { seen = h.seen; other = h.other; ground = h.ground });
        own = each_set (HasOwn caller_of log) s.views id w p.own (let h = p.own id v at in record { listed = h.listed; seen = h.seen; unused = h.unused });
        numbered = p.numbered;
        different = λ n. let d = p.different n in let e = sum_by-put (places n) s.views id v w at in omega arith;
      }

  look_allows : (g : G) (id : ℕ) (v : View E G) → v.live ≡ true → v.holds ≡ false → Allows (KeepsRule journal_of caller_of ground_of g) 1 id (v, []) 0 (λ n. bit_or n 1) (Looked journal_of caller_of ground_of (v, []))
  look_allows g id v live idle s kept one at small =
      let word = kept.0 in
      let log = kept.1 in
      let p = kept.2 in
      let found : slice_index s.words 0 ≡ word = ap (λ ws. slice_index ws 0) p.words in
      ⊎_elim
      (λ (even : word % 2 ≡ 0).
      let f = p.free even in
      let w = holding (slice_index s.words 0) (journal_of f.value) v in
      let new : set s.words 0 (bit_or (slice_index s.words 0) 1) ≡ (word + 1) ∷ [] = rw p.words (ap (λ n. n ∷ []) (bit_or-even word even)) in
      let q = takes_free g word log s id v (slice_index s.words 0) f p even at in
      let mine = p.seen id v at in
      let test : (slice_index s.words 0 % 2 == 0) ≡ true = rw found (rw even refl) in (
        w,
        takes 0 (Some f.value),
        ap (λ h. get_elem? h 0) f.home,
        (word + 1, log, subst (λ ws. Points journal_of caller_of ground_of g (word + 1) log (record { words = ws; homes = set s.homes 0 none; views = set s.views id w })) (sym new) q),
        rw test (
          f.value,
          refl,
          finds g v f.value live
              (subst (λ l. HasSeen g l v) (sym f.kept) mine)
              (subst (λ l. HasOwn caller_of l v) (sym f.kept) (p.own id v at))
              (subst (All (λ e. caller_of e ≤ last_number)) (sym f.kept) p.numbered)
              f.ground
              (subst (λ l. length l < 2 ^ 62) (sym f.kept) p.short),
        ),
      ))
      (λ (odd : word % 2 ≡ 1).
      let w = looked (slice_index s.words 0) v in
      let same : set s.words 0 (bit_or (slice_index s.words 0) 1) ≡ word ∷ [] = rw p.words (ap (λ n. n ∷ []) (bit_or-odd word odd)) in
      let q = looks_taken g word log s id v (slice_index s.words 0) p odd idle at in
      let test : (slice_index s.words 0 % 2 == 0) ≡ false = rw found (rw odd refl) in (
        w,
        keeps,
        tt,
        (word, log, subst (λ ws. Points journal_of caller_of ground_of g word log (record { words = ws; homes = s.homes; views = set s.views id w })) (sym same) q),
        rw test refl,
      ))
      (even_or_odd word)

  pub look_allows_as : (g : G) (slots id : ℕ) (m : Me (Option S) (View E G)) → slots ≡ 1 → m.0.live ≡ true → m.0.holds ≡ false → m.1 ≡ [] → Allows (KeepsRule journal_of caller_of ground_of g) slots id m 0 (λ n. bit_or n 1) (Looked journal_of caller_of ground_of m)
  look_allows_as g slots id m one live idle bare =
      let P : ℕ → List (ℕ × Option S) → Type 0 = λ k l. Allows (KeepsRule journal_of caller_of ground_of g) k id (m.0, l) 0 (λ n. bit_or n 1) (Looked journal_of caller_of ground_of (m.0, l)) in
      subst (λ (k : ℕ). P k m.1) (sym one) (subst (P 1) (sym bare) (look_allows g id m.0 live idle))
