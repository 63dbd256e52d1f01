-- A split keeps the rule.
use Rattle.std.proofs.Common.{◌≡◌, ◌≢◌, ◌==◌, ℕ, ◌<◌, List, [], ◌∷◌, ◌++◌, set, true, false, true≢false, refl, sym, ap, subst, ◌∙◌, ⊎_elim, arith}
use Rattle.std.proofs.lemmas.List.Sums.{sum_by_push}
use Rattle.std.proofs.lemmas.List.Elements.{All-cons, All-nil}
use mathlib.Core.Option.{some, some-injective}
use lib.ListN.{get_elem?}
use Rattle.atomic_table.specs.Table.{Splits}
use Rattle.atomic_table.proofs.Lists.{at_set, at_snoc, at_longer, set_else}
use Rattle.turn_lock.specs.declared.rule.View.{View}
use Rattle.turn_lock.specs.Calls.{own_calls}
use Rattle.turn_lock.specs.Pass.{places}
use Rattle.turn_lock.specs.Rule.{HasSeen, HasOwn, KeepsRule}
use Rattle.turn_lock.specs.Steps.{split_left, split_right}
use Rattle.turn_lock.proofs.Journals.{starts_nil, beginning_has_none}
use Rattle.turn_lock.proofs.Numbers.{sum_by-put}
use Rattle.turn_lock.proofs.Owning.{each_set, Listed, IsLongest-set}
use Rattle.turn_lock.proofs.Soles.{places-split}

module _ {S E G : Type 0} (journal_of : S → List E) (caller_of : E → ℕ) (ground_of : S → G) where
  pub split_keeps : (g : G) (id share : ℕ) (v : View E G) → v.live ≡ true → v.holds ≡ false → share < v.left → Splits (KeepsRule {S = S} journal_of caller_of ground_of g) id v (split_left share v) (split_right share v)
  split_keeps g id share v live idle enough s kept at =
      let word = kept.0 in
      let log = kept.1 in
      let p = kept.2 in
      let left = split_left share v in
      let right = split_right share v in
      let views = set s.views id left ++ right ∷ [] in
      let each = λ (P : View E G → Type 0) (old : (k : ℕ) (u : View E G) → get_elem? s.views k ≡ some u → P u) (one : P left) (two : P right) (k : ℕ) (u : View E G) (there : get_elem? views k ≡ some u).
      ⊎_elim (λ (y : get_elem? (set s.views id left) k ≡ some u). each_set P s.views id left old one k u y) (λ (y : right ≡ u). subst P y two) (at_snoc (set s.views id left) right u k there) in
      let h = p.seen id v at in
      let o = p.own id v at in
      let first_free = o.unused v.unused (omega arith) (omega arith) in
      let none_there = λ (l : List E) (e : own_calls caller_of v.unused l ≡ []). All-cons (Listed caller_of l) (record { number = v.unused; own = [] }) [] e (All-nil (Listed caller_of l)) in (
        word,
        log,
        record {
          words = p.words;
          longest =
              let l = IsLongest-set log s.views id v left at (λ e. e) p.longest in
              record { seat = l.seat; view = l.view; there = at_longer (set s.views id left) (right ∷ []) l.seat l.view l.there; seen = l.seen };
          short = p.short;
          counts = p.counts;
          free = λ even. let f = p.free even in record { nobody = each (λ u. u.holds ≡ false) f.nobody idle refl; value = f.value; home = f.home; kept = f.kept; ground = f.ground };
          taken = λ odd.
              let t = p.taken odd in
              let other : t.seat ≢ id = λ same. absurd (true≢false (sym t.holds ∙ ap (λ (u : View E G). u.holds) (some-injective t.holder v (sym t.there ∙ ap (get_elem? s.views) same ∙ at)) ∙ idle)) in
              record {
                seat = t.seat;
                holder = t.holder;
                there = at_longer (set s.views id left) (right ∷ []) t.seat t.holder (set_else s.views id t.seat left other ∙ t.there);
                holds = t.holds;
                found = t.found;
                alone = λ k u there held. ⊎_elim
                    (λ (y : get_elem? (set s.views id left) k ≡ some u). ⊎_elim
                    (λ (z : (k ≡ id) × (left ≡ u)). absurd (true≢false (sym held ∙ ap (λ (w : View E G). w.holds) (sym z.1) ∙ idle)))
                    (λ (z : (k ≢ id) × (get_elem? s.views k ≡ some u)). t.alone k u z.1 held)
                    (at_set s.views id k left u y))
                    (λ (y : right ≡ u). absurd (true≢false (sym held ∙ ap (λ (w : View E G). w.holds) (sym y))))
                    (at_snoc (set s.views id left) right u k there);
                away = t.away;
              };
          seen = each (HasSeen g log) p.seen (record { seen = h.seen; other = h.other; ground = h.ground }) (record { seen = h.seen; other = starts_nil v.seen; ground = h.ground });
          own = each (HasOwn caller_of log) p.own
              (record { listed = o.listed; seen = o.seen; unused = λ n low high. o.unused n (omega arith) (omega arith) })
              (record {
                listed = none_there log first_free;
                seen = none_there v.seen (beginning_has_none (λ e. caller_of e == v.unused) log v.seen h.seen first_free);
                unused = λ n low high. o.unused n (omega arith) (omega arith);
              });
          numbered = p.numbered;
          different = λ n.
              let d = p.different n in
              let a = sum_by-put (places n) s.views id v left at in
              let b = sum_by_push (places n) (set s.views id left) right in
              let c = places-split n share v live enough in
              omega arith;
        },
      )
