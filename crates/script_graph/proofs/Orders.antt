-- Orders of the numbers of a graph.
use Rattle.std.proofs.Common.{◌≡◌, ◌≢◌, ◌⊎◌, inl, inr, ℕ, zero, suc, ◌+◌, ◌≤◌, ◌<◌, ◌==◌, Bool, true, false, not, ◌&&◌, ◌||◌, List, [], ◌∷◌, ◌++◌, Option, Some, None, length, get_or, refl, sym, ap, ◌∙◌, subst, arith, append_assoc, length-append}
use Rattle.std.proofs.Math.Dec.{eqb}
use Rattle.std.specs.Prelude.{find, replicate}
use Rattle.std.specs.List.{All, AllPairs, Contains, list_any}
use Rattle.std.proofs.lemmas.Bool.{eqb-true, eq-eqb, cases_lt}
use Rattle.std.proofs.lemmas.List.{append-nil, get_or-set_same, get_or-set_other, length-replicate}
use Rattle.std.proofs.lemmas.Option.{unwrap_or-slice_get}
use Rattle.std.proofs.Math.ListN.{set, length-set, get_or-append}
use Rattle.std.proofs.Math.Seq.{get_or-append_seam}
use Rattle.std.proofs.lemmas.List.Folds.{Any-from_list_any, list_any-from_Any, list_any_none, list_any-append}
use Rattle.std.proofs.lemmas.List.Elements.{All-contains, All-push, All-weaker, Contains-append_left, Contains-push_cases, Contains-get_or}
use Rattle.std.proofs.lemmas.List.Quantifiers.{all_pairs_push}
use Rattle.std.proofs.lemmas.Map.Made.{IsDistinct-from_AllPairs}
use Rattle.std.proofs.lemmas.Map.Steps.{length-le_from_distinct_below, le-length_from_below}
use Rattle.std.proofs.lemmas.Bool.Decides.{Decides-eqb}
use Rattle.shortest_cycles.specs.Paths.{Graph, contains, targets_of, LeadsTo, IsWay, HasNoCycle}
use Rattle.shortest_cycles.specs.Cycles.{count_from}
use Rattle.shortest_cycles.specs.Tables.{mark_at}
use Rattle.shortest_cycles.proofs.CycleLemmas.{tells, apart, one_of, any_of, least_from}
use Rattle.shortest_cycles.proofs.CyclesFound.{starts_within, found_within}
use Rattle.shortest_cycles.proofs.Rows.{found-within}
use Rattle.shortest_cycles.proofs.Lines.{IsLine, lines_end}
use Rattle.script_graph.specs.Orders.{CanCome, FollowUses, FirstsCome, IsOrder, LeadsWithin, waits, can_come, next_of}

-- ---- what a list contains

pub has-Contains : (xs : List ℕ) (n : ℕ) → contains xs n ≡ true → Contains xs n
has-Contains xs n h =
    let a = Any-from_list_any (λ (m : ℕ). m == n) xs h in
    subst (Contains xs) (eqb-true a.1 n a.4) (a.0, a.2, a.3)

pub Contains-has : (xs : List ℕ) (n : ℕ) → Contains xs n → contains xs n ≡ true
Contains-has xs n c = list_any-from_Any (λ (m : ℕ). m == n) xs (c.0, n, c.1, c.2, eq-eqb n n refl)

-- the same with the test the other way round

any-Contains : (xs : List ℕ) (n : ℕ) → list_any (eqb n) xs ≡ true → Contains xs n
any-Contains xs n h =
    let a = Any-from_list_any (eqb n) xs h in
    subst (Contains xs) (sym (eqb-true n a.1 a.4)) (a.0, a.2, a.3)

Contains-any : (xs : List ℕ) (n : ℕ) → Contains xs n → list_any (eqb n) xs ≡ true
Contains-any xs n c = list_any-from_Any (eqb n) xs (c.0, n, c.1, c.2, eq-eqb n n refl)

-- ---- as far as an order goes

pub record IsSoFar (g : Graph) (order : List ℕ) : Type 0 where
  pub below : All (λ i. i < length g) order
  pub once : AllPairs (λ i j. i ≢ j) order
  pub follows : FollowUses g [] order
  pub firsts : FirstsCome g [] order

pub so_far_none : (g : Graph) → IsSoFar g []
so_far_none g = record {
  below = λ k d less. absurd (omega arith);
  once = λ i j d less within. absurd (omega arith);
  follows = tt;
  firsts = tt;
}

follows_more : (g : Graph) (done xs : List ℕ) (i : ℕ) → FollowUses g done xs → All (Contains (done ++ xs)) (targets_of g i) → FollowUses g done (xs ++ i ∷ [])
follows_more g done [] i f ready = (subst (λ (ds : List ℕ). All (Contains ds) (targets_of g i)) (append-nil done) ready, tt)
follows_more g done (x ∷ xs) i f ready = (f.0, follows_more g (done ++ x ∷ []) xs i f.1 (subst (λ (ds : List ℕ). All (Contains ds) (targets_of g i)) (sym (append_assoc done (x ∷ []) xs)) ready))

abbrev IsLeastNext : Graph → List ℕ → ℕ → Type 0
IsLeastNext g done i = (j : ℕ) → CanCome g done j → i ≤ j

firsts_more : (g : Graph) (done xs : List ℕ) (i : ℕ) → FirstsCome g done xs → IsLeastNext g (done ++ xs) i → FirstsCome g done (xs ++ i ∷ [])
firsts_more g done [] i f least = (subst (λ (ds : List ℕ). IsLeastNext g ds i) (append-nil done) least, tt)
firsts_more g done (x ∷ xs) i f least = (f.0, firsts_more g (done ++ x ∷ []) xs i f.1 (subst (λ (ds : List ℕ). IsLeastNext g ds i) (sym (append_assoc done (x ∷ []) xs)) least))

pub so_far_more : (g : Graph) (order : List ℕ) (i : ℕ) → IsSoFar g order → CanCome g order i → ((j : ℕ) → CanCome g order j → i ≤ j) → IsSoFar g (order ++ i ∷ [])
so_far_more g order i s can least = record {
  below = All-push (λ j. j < length g) order i s.below can.below;
  once = all_pairs_push (λ j k. j ≢ k) order i s.once (λ k d less e. can.new (subst (Contains order) e (Contains-get_or order k d less)));
  follows = follows_more g [] order i s.follows can.ready;
  firsts = firsts_more g [] order i s.firsts least;
}

pub order_from : (g : Graph) (order : List ℕ) → IsSoFar g order → length order ≡ length g → IsOrder g order
order_from g order s all = record { all = all; below = s.below; once = s.once; follows = s.follows; firsts = s.firsts }

-- ---- in a graph with an order there is no cycle

abbrev IsClosed : Graph → List ℕ → Type 0
IsClosed g done = (x : ℕ) → Contains done x → All (Contains done) (targets_of g x)

closed_more : (g : Graph) (done : List ℕ) (x : ℕ) → IsClosed g done → All (Contains done) (targets_of g x) → IsClosed g (done ++ x ∷ [])
closed_more g done x closed ready y h =
    All-weaker (Contains done) (Contains (done ++ x ∷ [])) (λ z. Contains-append_left done (x ∷ []) z) (targets_of g y)
    (elim (Contains-push_cases done x y h) [
      | inl old ↦ closed y old
      | inr same ↦ subst (λ (z : ℕ). All (Contains done) (targets_of g z)) same ready
    ])

closed_none : (g : Graph) → IsClosed g []
closed_none g x h = absurd (let less = h.1 in omega arith)

-- what stands before i has all that it uses, and all that i uses
record Before (g : Graph) (done : List ℕ) (i : ℕ) : Type 0 where
  pub closed : IsClosed g done
  pub ready : All (Contains done) (targets_of g i)

before_at : (g : Graph) (done front : List ℕ) (i : ℕ) (back : List ℕ) → FollowUses g done (front ++ i ∷ back) → IsClosed g done → Before g (done ++ front) i
before_at g done [] i back f closed = subst (λ (ds : List ℕ). Before g ds i) (sym (append-nil done)) (record { closed = closed; ready = f.0 })
before_at g done (x ∷ front) i back f closed = subst (λ (ds : List ℕ). Before g ds i) (append_assoc done (x ∷ []) front) (before_at g (done ++ x ∷ []) front i back f.1 (closed_more g done x closed f.0))

leads_back : (g : Graph) (done : List ℕ) (i k : ℕ) → All (Contains done) (targets_of g i) → LeadsTo g i k → Contains done k
leads_back g done i k ready leads = All-contains (Contains done) (targets_of g i) k ready (has-Contains (targets_of g i) k leads)

ways_stay : (g : Graph) (done : List ℕ) → IsClosed g done → (i : ℕ) (ks : List ℕ) (j : ℕ) → All (Contains done) (targets_of g i) → IsWay g i ks j → Contains done j
ways_stay g done closed i [] j ready way = leads_back g done i j ready way
ways_stay g done closed i (k ∷ ks) j ready way = ways_stay g done closed k ks j (closed k (leads_back g done i k ready way.0)) way.1

-- a place in a list
record At (xs : List ℕ) (i : ℕ) : Type 0 where
  pub front : List ℕ
  pub back : List ℕ
  pub is : xs ≡ front ++ i ∷ back

at_later : (x : ℕ) (xs : List ℕ) (i : ℕ) → At xs i → At (x ∷ xs) i
at_later x xs i a = record { front = x ∷ a.front; back = a.back; is = ap (λ (ys : List ℕ). x ∷ ys) a.is }

at_of : (xs : List ℕ) (i : ℕ) → contains xs i ≡ true → At xs i
at_of [] i h = apart false h refl
at_of (x ∷ xs) i h = elim (tells (x == i)) [
  | inl same ↦ record { front = []; back = xs; is = ap (λ (y : ℕ). y ∷ xs) (eqb-true x i same) }
  | inr other ↦ at_later x xs i (at_of xs i (ap (λ b. b || contains xs i) (sym other) ∙ h))
]

pub not_before : (front : List ℕ) (i : ℕ) (back : List ℕ) → AllPairs (λ j k. j ≢ k) (front ++ i ∷ back) → Contains front i → ⊥
not_before front i back once c =
    let less : c.0 < length front = c.1 in
    let within : length front < length (front ++ i ∷ back) = omega (arith, length-append front (i ∷ back)) in
    once c.0 (length front) i less within (get_or-append front (i ∷ back) i c.0 less ∙ c.2 ∙ sym (get_or-append_seam front i back i))

on_none : (g : Graph) (order : List ℕ) → IsOrder g order → (i : ℕ) → contains order i ≡ true → (ks : List ℕ) → IsWay g i ks i → ⊥
on_none g order o i h ks way =
    let a = at_of order i h in
    let b = before_at g [] a.front i a.back (subst (FollowUses g []) a.is o.follows) (closed_none g) in
    not_before a.front i a.back (subst (AllPairs (λ j k. j ≢ k)) a.is o.once) (ways_stay g a.front b.closed i ks i b.ready way)

-- each number is in the order
pub order_has : (g : Graph) (order : List ℕ) → IsOrder g order → (i : ℕ) → i < length g → contains order i ≡ true
order_has g order o i less = elim (tells (contains order i)) [
  | inl has ↦ has
  | inr lacks ↦
      let more : List ℕ = order ++ i ∷ [] in
      let differ : AllPairs (λ j k. j ≢ k) more = all_pairs_push (λ j k. j ≢ k) order i o.once (λ k d within e. apart (contains order i) (Contains-has order i (subst (Contains order) e (Contains-get_or order k d within))) lacks) in
      let each : All (λ j. j < length g) more = All-push (λ j. j < length g) order i o.below less in
      let most : length more ≤ length g = length-le_from_distinct_below more (length g) (IsDistinct-from_AllPairs Decides-eqb more differ) (λ q any. All-contains (λ j. j < length g) more q each (any-Contains more q any)) in
      let long : length more ≡ length order + 1 = length-append order (i ∷ []) in
      let all : length order ≡ length g = o.all in
      absurd (omega arith)
]

pub order_acyclic : (g : Graph) (order : List ℕ) → IsOrder g order → HasNoCycle g
order_acyclic g order o i ks way = on_none g order o i (order_has g order o i (starts_within g i ks i way)) ks way

-- ---- those that have come are marked

pub record Marks (g : Graph) (marks : List Bool) (order : List ℕ) : Type 0 where
  pub long : length marks ≡ length g
  pub same : (k : ℕ) → mark_at marks k ≡ contains order k

or-second : (a b : Bool) → b ≡ true → (a || b) ≡ true
or-second true b h = refl
or-second false b h = h

or-nothing : (a b : Bool) → b ≡ false → (a || b) ≡ a
or-nothing true b h = refl
or-nothing false b h = h

and-both : (a b : Bool) → (not a && not b) ≡ true → (a ≡ false) × (b ≡ false)
and-both true b h = apart false h refl
and-both false true h = apart false h refl
and-both false false h = (refl, refl)

both-and : (a b : Bool) → a ≡ false → b ≡ false → (not a && not b) ≡ true
both-and a b x y = rw (x, y) refl

not-true : (b : Bool) → not b ≡ true → b ≡ false
not-true true h = apart false h refl
not-true false h = refl

-- all that it uses are marked
ready_from : (marks : List Bool) (order : List ℕ) → ((k : ℕ) → mark_at marks k ≡ contains order k) → (ts : List ℕ) → list_any (λ k. not (mark_at marks k)) ts ≡ false → All (Contains order) ts
ready_from marks order same ts none k d less =
    let t = get_or ts k d in
    let p : ℕ → Bool = λ k. not (mark_at marks k) in
    elim (tells (mark_at marks t)) [
      | inl marked ↦ has-Contains order t (sym (same t) ∙ marked)
      | inr free ↦ apart (list_any p ts) (any_of p ts t (Contains-has ts t (Contains-get_or ts k d less)) (ap not free)) none
    ]

waits_none : (marks : List Bool) (order : List ℕ) → ((k : ℕ) → mark_at marks k ≡ contains order k) → (ts : List ℕ) → All (Contains order) ts → list_any (λ k. not (mark_at marks k)) ts ≡ false
waits_none marks order same ts ready =
    list_any_none (λ (k : ℕ). not (mark_at marks k)) ts (λ k d less. let t = get_or ts k d in ap not (same t ∙ Contains-has order t (ready k d less)))

pub can-come : (g : Graph) (marks : List Bool) (order : List ℕ) → Marks g marks order → (j : ℕ) → CanCome g order j → can_come g marks j ≡ true
can-come g marks order m j can =
    both-and (mark_at marks j) (waits g marks j)
    (elim (tells (contains order j)) [ inl has ↦ absurd (can.new (has-Contains order j has)) | inr lacks ↦ m.same j ∙ lacks ])
    (waits_none marks order m.same (targets_of g j) can.ready)

-- the first that can come does
pub next_can : (g : Graph) (marks : List Bool) (order : List ℕ) (i : ℕ) → Marks g marks order → next_of g marks ≡ Some i → CanCome g order i
next_can g marks order i m found =
    let l = least_from (can_come g marks) 0 (length g) i found in
    let b = and-both (mark_at marks i) (waits g marks i) l.passes in
    let within : i < 0 + length g = found-within (can_come g marks) 0 (length g) i found in
    record {
      below = omega arith;
      new = λ has. apart (contains order i) (Contains-has order i has) (sym (m.same i) ∙ b.0);
      ready = ready_from marks order m.same (targets_of g i) b.1;
    }

pub next_least : (g : Graph) (marks : List Bool) (order : List ℕ) (i : ℕ) → Marks g marks order → next_of g marks ≡ Some i → (j : ℕ) → CanCome g order j → i ≤ j
next_least g marks order i m found j can =
    let l = least_from (can_come g marks) 0 (length g) i found in
    elim (cases_lt j i) [
      | inl low ↦ apart (can_come g marks j) (can-come g marks order m j can) (l.none_below j (omega arith) low)
      | inr high ↦ high
    ]

mark-get : (marks : List Bool) (k : ℕ) → mark_at marks k ≡ get_or marks k false
mark-get marks k = unwrap_or-slice_get marks k false

mark_more : (marks : List Bool) (order : List ℕ) (i k : ℕ) → i < length marks → mark_at marks k ≡ contains order k → mark_at (set marks i true) k ≡ contains (order ++ i ∷ []) k
mark_more marks order i k less same =
    let joined : contains (order ++ i ∷ []) k ≡ (contains order k || ((i == k) || false)) = list_any-append (λ (m : ℕ). m == k) order (i ∷ []) in
    elim (tells (i == k)) [
      | inl marked ↦
          let e : i ≡ k = eqb-true i k marked in
          let here : mark_at (set marks i true) k ≡ true = mark-get (set marks i true) k ∙ ap (λ (j : ℕ). get_or (set marks i true) j false) (sym e) ∙ get_or-set_same marks i true false less in
          here ∙ sym (joined ∙ or-second (contains order k) ((i == k) || false) (ap (λ (b : Bool). b || false) marked))
      | inr free ↦
          let other : k ≢ i = λ e. apart (i == k) (eq-eqb i k (sym e)) free in
          let here : mark_at (set marks i true) k ≡ contains order k = mark-get (set marks i true) k ∙ get_or-set_other marks i k true false other ∙ sym (mark-get marks k) ∙ same in
          here ∙ sym (joined ∙ or-nothing (contains order k) ((i == k) || false) (ap (λ (b : Bool). b || false) free))
    ]

pub marks_more : (g : Graph) (marks : List Bool) (order : List ℕ) (i : ℕ) → i < length g → Marks g marks order → Marks g (set marks i true) (order ++ i ∷ [])
marks_more g marks order i less m = record {
  long = length-set marks i true ∙ m.long;
  same = λ k. mark_more marks order i k (subst (λ (n : ℕ). i < n) (sym m.long) less) (m.same k);
}

-- ---- where none can come there is a cycle

not_next : (g : Graph) (marks : List Bool) → next_of g marks ≡ None → (i : ℕ) → i < length g → can_come g marks i ≡ false
not_next g marks none i less = elim (tells (can_come g marks i)) [
  | inl can ↦ absurd (found_within (can_come g marks) 0 (length g) i (omega arith) (omega arith) can none)
  | inr fails ↦ fails
]

waits_then : (a b : Bool) → (not a && not b) ≡ false → a ≡ false → b ≡ true
waits_then a true h x = refl
waits_then true false h x = apart true refl x
waits_then false false h x = apart true refl h

-- a line of so many that haven't come
waiting_line : (g : Graph) (marks : List Bool) → LeadsWithin g → next_of g marks ≡ None → (m i : ℕ) → i < length g → mark_at marks i ≡ false → (ks : List ℕ) × IsLine g i ks × (length ks ≡ m)
waiting_line g marks within none zero i less left = ([], less, refl)
waiting_line g marks within none (suc m) i less left =
    let w : waits g marks i ≡ true = waits_then (mark_at marks i) (waits g marks i) (not_next g marks none i less) left in
    let t = one_of (λ (k : ℕ). not (mark_at marks k)) (targets_of g i) w in
    let r = waiting_line g marks within none m t.0 (within i t.0 t.1) (not-true (mark_at marks t.0) t.2) in
    (t.0 ∷ r.0, (t.1, r.1), ap suc r.2)

pub stuck : (g : Graph) (marks : List Bool) → LeadsWithin g → next_of g marks ≡ None → (i : ℕ) → i < length g → mark_at marks i ≡ false → HasNoCycle g → ⊥
stuck g marks within none i less left acyclic =
    let l = waiting_line g marks within none (length g) i less left in
    lines_end g acyclic i l.0 l.1 l.2

-- ---- as long as an order isn't complete, one hasn't come

all_marked : (marks : List Bool) (n q : ℕ) → find (λ (j : ℕ). not (mark_at marks j)) (count_from 0 n) ≡ None → q < n → mark_at marks q ≡ true
all_marked marks n q none less = elim (tells (mark_at marks q)) [
  | inl marked ↦ marked
  | inr free ↦ absurd (found_within (λ (j : ℕ). not (mark_at marks j)) 0 n q (omega arith) (omega arith) (ap not free) none)
]

left_of : (g : Graph) (marks : List Bool) (order : List ℕ) → Marks g marks order → length order < length g → (o : Option ℕ) → find (λ (j : ℕ). not (mark_at marks j)) (count_from 0 (length g)) ≡ o → (i : ℕ) × (i < length g) × (mark_at marks i ≡ false)
left_of g marks order m short None none =
    let many : length g ≤ length order = le-length_from_below order (length g) (λ q less. Contains-any order q (has-Contains order q (sym (m.same q) ∙ all_marked marks (length g) q none less))) in
    absurd (omega arith)
left_of g marks order m short (Some i) found =
    let within : i < 0 + length g = found-within (λ (j : ℕ). not (mark_at marks j)) 0 (length g) i found in
    (i, omega arith, not-true (mark_at marks i) (least_from (λ (j : ℕ). not (mark_at marks j)) 0 (length g) i found).passes)

pub one_left : (g : Graph) (marks : List Bool) (order : List ℕ) → Marks g marks order → length order < length g → (i : ℕ) × (i < length g) × (mark_at marks i ≡ false)
one_left g marks order m short = left_of g marks order m short (find (λ (j : ℕ). not (mark_at marks j)) (count_from 0 (length g))) refl

-- where none can come and one hasn't, there is a cycle
pub stuck_early : (g : Graph) (marks : List Bool) (order : List ℕ) → LeadsWithin g → Marks g marks order → length order < length g → next_of g marks ≡ None → HasNoCycle g → ⊥
stuck_early g marks order within m short none acyclic = let l = one_left g marks order m short in stuck g marks within none l.0 l.1 l.2 acyclic

-- ---- where nothing has come

mark_none : (n k : ℕ) → mark_at (replicate n false) k ≡ false
mark_none zero k = refl
mark_none (suc n) zero = refl
mark_none (suc n) (suc k) = mark_none n k

pub marks_none : (g : Graph) → Marks g (replicate (length g) false) []
marks_none g = record { long = length-replicate (length g) false; same = λ k. mark_none (length g) k }

-- ---- one step of an order

pub order_step : (g : Graph) (marks marks' : List Bool) (order order' : List ℕ) (i n : ℕ) → Marks g marks order → IsSoFar g order → length order ≡ n → next_of g marks ≡ Some i → marks' ≡ set marks i true → order' ≡ order ++ i ∷ [] → Marks g marks' order' × IsSoFar g order' × (length order' ≡ n + 1)
order_step g marks marks' order order' i n m s long found em eo =
    let can = next_can g marks order i m found in
    let longer : length order' ≡ length order + 1 = ap length eo ∙ length-append order (i ∷ []) in (
      subst (λ (ms : List Bool). Marks g ms order') (sym em) (subst (λ (os : List ℕ). Marks g (set marks i true) os) (sym eo) (marks_more g marks order i can.below m)),
      subst (IsSoFar g) (sym eo) (so_far_more g order i s can (next_least g marks order i m found)),
      omega arith,
    )
