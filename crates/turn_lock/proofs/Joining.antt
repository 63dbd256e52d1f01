-- A join keeps the rule, and the load after it.
use Rattle.std.proofs.Common.{◌≡◌, ◌≢◌, ◌==◌, ℕ, ◌+◌, ◌≤◌, nat_lt, List, [], ◌++◌, length, set, get_or, true, false, true≢false, refl, sym, ap, subst, ◌∙◌, ⊎_elim, arith, Option, All, length-append}
use Rattle.std.specs.Prelude.{slice_index}
use Rattle.std.proofs.lemmas.Bool.{cases_Bool, cases_eq}
use Rattle.std.proofs.lemmas.Bool.Decides.{nat_tests}
use Rattle.std.proofs.lemmas.List.{append-nil, nil_from_length}
use Rattle.std.proofs.lemmas.List.Elements.{All-append, All-nil}
use mathlib.Core.Option.{some, some-injective}
use lib.ListN.{get_elem?}
use Rattle.atomic_table.specs.Table.{Me, keeps, Allows, Joins}
use Rattle.atomic_table.proofs.Lists.{at_set, set_else, set_again}
use Rattle.turn_lock.specs.declared.rule.Joined.{Joined}
use Rattle.turn_lock.specs.declared.rule.View.{View}
use Rattle.turn_lock.specs.Calls.{StartsWith, longer, shorter}
use Rattle.turn_lock.specs.Pass.{lists_of, places}
use Rattle.turn_lock.specs.Rule.{HasSeen, HasOwn, IsTaken, IsLongest, KeepsRule}
use Rattle.turn_lock.specs.Steps.{nobody, joined, Compared}
use Rattle.turn_lock.proofs.Journals.{starts_nil, starts_same, starts_compared, between}
use Rattle.turn_lock.proofs.Numbers.{sum_by-put}
use Rattle.turn_lock.proofs.Owning.{each_set, put_here, Listed}
use Rattle.turn_lock.proofs.Soles.{places-joined}

module _ {E : Type 0} where
  -- of two beginnings of one list the longer begins with both
  longer_starts : (log a b : List E) → StartsWith log a → StartsWith log b → StartsWith log (longer a b) × StartsWith (longer a b) a × StartsWith (longer a b) b × StartsWith (longer a b) (shorter a b)
  longer_starts log a b p q = ⊎_elim
      (λ (less : nat_lt (length a) (length b) ≡ true). let on = starts_compared log a b p q (grind (arith, nat_tests)) in rw less (q, on, starts_same b, on))
      (λ (no : nat_lt (length a) (length b) ≡ false). let on = starts_compared log b a q p (grind (arith, nat_tests)) in rw no (p, starts_same a, on, on))
      (cases_Bool (nat_lt (length a) (length b)))

  -- the whole is the longer of itself and a beginning
  no_longer : (log a : List E) → StartsWith log a → length log ≤ length a → a ≡ log
  no_longer log a p h = let e : length log ≡ length a + length p.0 = ap length p.1 ∙ length-append a p.0 in sym (p.1 ∙ ap (λ l. a ++ l) (nil_from_length p.0 (omega arith)) ∙ append-nil a)

  longer-left : (log a b : List E) → StartsWith log b → a ≡ log → longer a b ≡ log
  longer-left log a b q whole = ⊎_elim
      (λ (less : nat_lt (length a) (length b) ≡ true). let n = ap length whole in let e : length log ≡ length b + length q.0 = ap length q.1 ∙ length-append b q.0 in absurd (grind (arith, nat_tests)))
      (λ (no : nat_lt (length a) (length b) ≡ false). rw no whole)
      (cases_Bool (nat_lt (length a) (length b)))

  longer-right : (log a b : List E) → StartsWith log a → b ≡ log → longer a b ≡ log
  longer-right log a b p whole = ⊎_elim
      (λ (less : nat_lt (length a) (length b) ≡ true). rw less whole)
      (λ (no : nat_lt (length a) (length b) ≡ false). rw no (no_longer log a p (let n = ap length whole in grind (arith, nat_tests))))
      (cases_Bool (nat_lt (length a) (length b)))

  -- and so it begins with both where it begins with the shorter
  pub longer_begins : (a b : List E) → StartsWith (longer a b) (shorter a b) → StartsWith (longer a b) a × StartsWith (longer a b) b
  longer_begins a b = ⊎_elim
      (λ (less : nat_lt (length a) (length b) ≡ true). rw less (λ (on : StartsWith b a). (on, starts_same b)))
      (λ (no : nat_lt (length a) (length b) ≡ false). rw no (λ (on : StartsWith a b). (starts_same a, on)))
      (cases_Bool (nat_lt (length a) (length b)))

module _ {E G : Type 0} where
  -- the longest seen list stays where the first of two passes takes it over and the second is spent
  IsLongest-join : (log : List E) (views : List (View E G)) (id other : ℕ) (v w both spent : View E G) → get_elem? views id ≡ some v → get_elem? views other ≡ some w → ¬ (other ≡ id) → (v.seen ≡ log → both.seen ≡ log) → (w.seen ≡ log → both.seen ≡ log)
      → IsLongest log views → IsLongest log (set (set views id both) other spent)
  IsLongest-join log views id other v w both spent at at_other apart mine theirs l =
      let first = set views id both in
      let kept_here = λ (whole : both.seen ≡ log). (let r : IsLongest log (set first other spent) = record { seat = id; view = both; there = set_else first other id spent (λ e. apart (sym e)) ∙ put_here views id v both at; seen = whole } in r) in
      let seen_at = λ (k : ℕ) (u : View E G) (same : l.seat ≡ k) (there : get_elem? views k ≡ some u). (let e : u.seen ≡ log = ap (λ (x : View E G). x.seen) (some-injective u l.view (sym there ∙ ap (get_elem? views) (sym same) ∙ l.there)) ∙ l.seen in e) in
      ⊎_elim
      (λ (same : l.seat ≡ other). kept_here (theirs (seen_at other w same at_other)))
      (λ (away : l.seat ≢ other). ⊎_elim
      (λ (same : l.seat ≡ id). kept_here (mine (seen_at id v same at)))
      (λ (elsewhere : l.seat ≢ id). record { seat = l.seat; view = l.view; there = set_else first other l.seat spent away ∙ set_else views id l.seat both elsewhere ∙ l.there; seen = l.seen })
      (cases_eq l.seat id))
      (cases_eq l.seat other)

module _ {S E G : Type 0} (journal_of : S → List E) (caller_of : E → ℕ) (ground_of : S → G) where
  -- lists that a beginning and the whole agree on stand in each list between them
  listed_between : (log a b : List E) (ls : List (Joined E)) → StartsWith b a → StartsWith log b → All (Listed caller_of a) ls → All (Listed caller_of log) ls → All (Listed caller_of b) ls
  listed_between log a b ls p q x y = λ k d low. between (λ e. caller_of e == (get_or ls k d).number) a b log (get_or ls k d).own p q (x k d low) (y k d low)

  pub join_keeps : (g : G) (id other : ℕ) (v w : View E G) → v.live ≡ true → w.live ≡ true → v.holds ≡ false → w.holds ≡ false → Joins (KeepsRule {S = S} journal_of caller_of ground_of g) id v other w (joined v w) nobody
  join_keeps g id other v w live w_live idle w_idle s kept at apart at_other =
      let word = kept.0 in
      let log = kept.1 in
      let p = kept.2 in
      let both = joined v w in
      let first = set s.views id both in
      let there_other : get_elem? s.views other ≡ some w = sym (set_else s.views id other both apart) ∙ at_other in
      let each = λ (P : View E G → Type 0) (old : (k : ℕ) (u : View E G) → get_elem? s.views k ≡ some u → P u) (one : P both) (two : P nobody).
      each_set P first other nobody (each_set P s.views id both old one) two in
      let h = p.seen id v at in
      let i = p.seen other w there_other in
      let o = p.own id v at in
      let q = p.own other w there_other in
      let long = longer_starts log v.seen w.seen h.seen i.seen in
      let lists_both : lists_of both ≡ lists_of v ++ lists_of w = rw (live, w_live) refl in
      let listed_both = λ (l : List E) (a : All (Listed caller_of l) (lists_of v)) (b : All (Listed caller_of l) (lists_of w)). subst (All (Listed caller_of l)) (sym lists_both) (All-append (Listed caller_of l) (lists_of v) (lists_of w) a b) in
      let not_id : IsTaken log s → (k : ℕ) (u : View E G) → u.holds ≡ false → get_elem? s.views k ≡ some u → (t : IsTaken log s) → t.seat ≢ k = λ _ k u free there t same. absurd (true≢false (sym t.holds ∙ ap (λ (z : View E G). z.holds) (some-injective t.holder u (sym t.there ∙ ap (get_elem? s.views) same ∙ there)) ∙ free)) in (
        word,
        log,
        record {
          words = p.words;
          longest = IsLongest-join log s.views id other v w both nobody at there_other apart (longer-left log v.seen w.seen i.seen) (longer-right log v.seen w.seen h.seen) p.longest;
          short = p.short;
          counts = p.counts;
          free = λ even. let f = p.free even in record { nobody = each (λ u. u.holds ≡ false) f.nobody idle refl; value = f.value; home = f.home; kept = f.kept; ground = f.ground };
          taken = λ odd.
              let t = p.taken odd in
              record {
                seat = t.seat;
                holder = t.holder;
                there = set_else first other t.seat nobody (not_id t other w w_idle there_other t) ∙ set_else s.views id t.seat both (not_id t id v idle at t) ∙ t.there;
                holds = t.holds;
                found = t.found;
                alone = λ k u there held. ⊎_elim
                    (λ (z : (k ≡ other) × (nobody ≡ u)). absurd (true≢false (sym held ∙ ap (λ (y : View E G). y.holds) (sym z.1))))
                    (λ (z : (k ≢ other) × (get_elem? first k ≡ some u)). ⊎_elim
                    (λ (y : (k ≡ id) × (both ≡ u)). absurd (true≢false (sym held ∙ ap (λ (x : View E G). x.holds) (sym y.1) ∙ idle)))
                    (λ (y : (k ≢ id) × (get_elem? s.views k ≡ some u)). t.alone k u y.1 held)
                    (at_set s.views id k both u z.1))
                    (at_set first other k nobody u there);
                away = t.away;
              };
          seen = each (HasSeen g log) p.seen
              (record { seen = long.0; other = long.3; ground = h.ground })
              (record { seen = starts_nil log; other = starts_nil []; ground = λ known e. cc });
          own = each (HasOwn caller_of log) p.own
              (record {
                listed = listed_both log o.listed q.listed;
                seen = listed_both both.seen
                    (listed_between log v.seen both.seen (lists_of v) long.1 long.0 o.seen o.listed)
                    (listed_between log w.seen both.seen (lists_of w) long.2 long.0 q.seen q.listed);
                unused = o.unused;
              })
              (record { listed = All-nil (Listed caller_of log); seen = All-nil (Listed caller_of []); unused = λ n low high. absurd (omega arith) });
          numbered = p.numbered;
          different = λ n.
              let d = p.different n in
              let a = sum_by-put (places n) s.views id v both at in
              let b = sum_by-put (places n) first other w nobody at_other in
              let c = places-joined n v w live w_live in
              let z : places n (nobody {E = E} {G = G}) ≡ 0 = grind (arith, nat_tests) in
              omega arith;
        },
      )

  -- the load changes nothing
  compare_allows : (g : G) (id : ℕ) (m : Me (Option S) (View E G)) → Allows (KeepsRule journal_of caller_of ground_of g) 1 id m 0 (λ n. n) (λ _. Compared m)
  compare_allows g id m s kept one at small =
      let p = kept.2 in
      let words : set s.words 0 (slice_index s.words 0) ≡ s.words = rw p.words refl in
      let views : set s.views id m.0 ≡ s.views = set_again s.views id m.0 at in
      let same : record { words = s.words; homes = s.homes; views = s.views } ≡ record { words = set s.words 0 (slice_index s.words 0); homes = s.homes; views = set s.views id m.0 } = λ i. record { words = sym words i; homes = s.homes; views = sym views i } in
      (m.0, keeps, tt, subst (KeepsRule journal_of caller_of ground_of g) same kept, (refl, (p.seen id m.0 at).other))

  pub compare_allows_as : (g : G) (slots id : ℕ) (m : Me (Option S) (View E G)) → slots ≡ 1 → Allows (KeepsRule journal_of caller_of ground_of g) slots id m 0 (λ n. n) (λ _. Compared m)
  compare_allows_as g slots id m one = subst (λ k. Allows (KeepsRule journal_of caller_of ground_of g) k id m 0 (λ n. n) (λ _. Compared m)) (sym one) (compare_allows g id m)
