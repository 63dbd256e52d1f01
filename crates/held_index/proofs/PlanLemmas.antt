-- What a delta makes of a walk.
use Rattle.std.proofs.Common.{◌≡◌, ◌≢◌, ℕ, zero, suc, ◌+◌, ◌<◌, ◌≤◌, List, [], ◌∷◌, ◌++◌, map, drop, get_or, length, Bool, true, false, cond, Option, Some, None, is_some, T, ◌&&◌, refl, sym, ap, subst, ◌∙◌, inl, inr, arith, length-append}
use Rattle.std.specs.Option.{option_map, option_or, IfSome}
use Rattle.std.specs.List.{All, AllByRecursion}
use Rattle.std.specs.Ordering.{is_eq, is_lt, ordering_reverse}
use Rattle.std.specs.declared.cmp.Ordering.{Ordering}
use Rattle.std.specs.declared.cmp.Ordering.TheVariants.{Less, Equal, Greater}
use Rattle.std.specs.FinMap.{get-from_entries, get-entries, entries, get, len, len-entries, find, is_sorted, same_map}
use Rattle.std.specs.FinMap.Entries.{below_all}
use Rattle.std.specs.declared.sync.Arc.{Arc}
use Rattle.std.specs.declared.alloc.Global.{Global}
use Rattle.std.proofs.lemmas.Bool.{cases_Bool}
use Rattle.std.proofs.lemmas.Cmp.{tied_itself}
use Rattle.std.proofs.lemmas.List.{drop_more, drop_all, length-map}
use Rattle.std.proofs.lemmas.List.Elements.{All-head, All-tail}
use Rattle.vtl_values.specs.declared.value.Value.{Value}
use Rattle.vtl_values.specs.Order.{key_cmp}
use Rattle.vtl_values.proofs.Values.{key_cmp-IsTotalOrder, key_cmp-IsAntisymmetric}
use Rattle.data_model.specs.Deltas as deltas
use Rattle.data_model.proofs.DeltaLemmas.{get-apply}
use Rattle.data_model.proofs.EntryLemmas.{find-++, find-later}
use Rattle.ordered_tree.specs.Orders.{changed}
use Rattle.ordered_tree.proofs.Orders.{equal_from_is_eq}
use Rattle.ordered_tree.proofs.Maps as maps
use Rattle.ordered_tree.proofs.Maps.{AtKey, ChangeAt, Begin, Apart, all_changed, lookup-all_changed}
use Rattle.point_sets.specs.declared.point.Point.{Point}
use Rattle.point_sets.specs.declared.delta.Change.{Change}
use Rattle.point_sets.specs.DataSets.{entry_of, HasKey}
use Rattle.point_sets.specs.Changes.{Changes, values_of, change_entry, IsChange, AreChanges}
use Rattle.held_index.specs.declared.want.Want.{Want}
use Rattle.held_index.specs.Walks.{PointValues, walk_cmp}
use Rattle.held_index.specs.WalkedPoints.{Walked, IsWalk}
use Rattle.held_index.proofs.OrderLemmas.{lookup-find}
use Rattle.held_index.proofs.HoldingLemmas.{walk_fits, set_of}

-- a change of points
abbrev pub change_at : Change → ChangeAt (List Value) PointValues
change_at c = (c.key, (option_map entry_of c.old, option_map entry_of c.new))

abbrev pub changes_at : List Change → List (ChangeAt (List Value) PointValues)
changes_at cs = map change_at cs

abbrev pub begin_at : List PointValues → List Change → Type 0
begin_at ps cs = Begin key_cmp (λ (p : PointValues). p.0) (λ (p : PointValues). p.1) ps (changes_at cs)

pub values_entry : (p : Option (Arc Point Global)) → option_map (λ (p : PointValues). p.1) (option_map entry_of p) ≡ values_of p
values_entry None = refl
values_entry (Some p) = refl

at_key : (k : List Value) (p : Option (Arc Point Global)) → HasKey k p → AtKey (λ (p : PointValues). p.0) k (option_map entry_of p)
at_key k None h = tt
at_key k (Some p) h = h

entries_are : (cs : List Change) → map (maps.change_entry (λ (p : PointValues). p.1)) (changes_at cs) ≡ map change_entry cs
entries_are [] = refl
entries_are (c ∷ cs) = λ i. (c.key, (values_entry c.old i, values_entry c.new i)) ∷ entries_are cs i

-- ---- changes in order are at different keys

first : (a b : Bool) → T (a && b) → T a
first true b p = tt
first false b p = absurd p

second : (a b : Bool) → T (a && b) → T b
second true b p = p
second false b p = absurd p

not_tied : (r : Ordering) → T (is_lt r) → is_eq (ordering_reverse r) ≡ false
not_tied Less h = refl
not_tied Equal h = absurd h
not_tied Greater h = absurd h

other_key : (k j : List Value) → T (is_lt (key_cmp k j)) → is_eq (key_cmp j k) ≡ false
other_key k j h = ap is_eq (key_cmp-IsTotalOrder.antisymm j k) ∙ not_tied (key_cmp k j) h

other_keys : (k : List Value) (cs : List Change) → T (below_all key_cmp k (map change_entry cs)) → AllByRecursion (λ (f : ChangeAt (List Value) PointValues). is_eq (key_cmp f.0 k) ≡ false) (changes_at cs)
other_keys k [] h = tt
other_keys k (c ∷ cs) h = (other_key k c.key (first _ _ h), other_keys k cs (second _ _ h))

pub apart : (cs : List Change) → T (is_sorted key_cmp (map change_entry cs)) → Apart key_cmp (changes_at cs)
apart [] s = tt
apart (c ∷ cs) s = (other_keys c.key cs (first _ _ s), apart cs (second _ _ s))

-- ---- a delta that begins at the points' data set

own_found : (c : Change) (cs : List Change) → find key_cmp c.key (map change_entry (c ∷ cs)) ≡ Some (values_of c.old, values_of c.new)
own_found c cs = let t : is_eq (key_cmp c.key c.key) ≡ true = ap is_eq (tied_itself key_cmp-IsTotalOrder c.key) in rw t refl

begins_later : (ps : List PointValues) (c : Change) (cs : List Change) → T (is_sorted key_cmp (map change_entry (c ∷ cs)))
    → ((q : List Value) → IfSome (find key_cmp q (map change_entry (c ∷ cs))) (λ e. find key_cmp q ps ≡ e.0))
    → (q : List Value) → IfSome (find key_cmp q (map change_entry cs)) (λ e. find key_cmp q ps ≡ e.0)
begins_later ps c cs s b q = elim (cases_Bool (is_eq (key_cmp q c.key))) [
  | inl t ↦ let none : find key_cmp q (map change_entry cs) ≡ None = find-later key_cmp-IsTotalOrder q (change_entry c) (map change_entry cs) s t in rw none tt
  | inr f ↦ rw f at (b q)
]

begin_from : (ps : List PointValues) (cs : List Change) → T (is_sorted key_cmp (map change_entry cs)) → All IsChange cs
    → ((q : List Value) → IfSome (find key_cmp q (map change_entry cs)) (λ e. find key_cmp q ps ≡ e.0)) → begin_at ps cs
begin_from ps [] s a b = tt
begin_from ps (c ∷ cs) s a b =
    let is = All-head IsChange c cs a in
    let here : find key_cmp c.key ps ≡ values_of c.old = rw (own_found c cs) at (b c.key) in
    ((at_key c.key c.old is.old, at_key c.key c.new is.new, lookup-find key_cmp c.key ps ∙ here ∙ sym (values_entry c.old)), begin_from ps cs (second _ _ s) (All-tail IsChange c cs a) (begins_later ps c cs s b))

-- the changes of a delta that begins at the data set of the points
pub begins : (ps : List PointValues) (d : Changes) (cs : List Change) → map change_entry cs ≡ entries d → AreChanges cs → deltas.BeginsAt d (set_of ps) → begin_at ps cs
begins ps d cs e are b =
    begin_from ps cs are.ascend are.each
    (λ q. subst (λ (o : Option (Option (List Value) × Option (List Value))). IfSome o (λ c. find key_cmp q ps ≡ c.0)) (get-entries d q ∙ ap (find key_cmp q) (sym e)) (rw (get-from_entries key_cmp-IsTotalOrder ps q) at (b q)))

-- ---- the points after all changes

after_same : {V : Type 0} (c : Option (Option V × Option V)) (x : Option V) → maps.after c x ≡ deltas.after c x
after_same None x = refl
after_same (Some c) x = refl

pub all_changed_is : (w : Want) (ps : List PointValues) (d : Changes) (cs : List Change) → IsWalk w ps → map change_entry cs ≡ entries d → AreChanges cs → deltas.BeginsAt d (set_of ps)
    → set_of (all_changed (walk_cmp w) (changes_at cs) ps) ≡ deltas.apply d (set_of ps)
all_changed_is w ps d cs is e are b =
    same_map key_cmp-IsTotalOrder key_cmp-IsAntisymmetric _ _ (λ q.
    get-from_entries key_cmp-IsTotalOrder (all_changed (walk_cmp w) (changes_at cs) ps) q
    ∙ sym (lookup-find key_cmp q (all_changed (walk_cmp w) (changes_at cs) ps))
    ∙ lookup-all_changed (walk_fits w) q (changes_at cs) ps is.ascends is.unlike (apart cs are.ascend) (begins ps d cs e are b)
    ∙ (λ i. maps.after (find key_cmp q ((entries_are cs ∙ e) i)) (lookup-find key_cmp q ps i))
    ∙ after_same (find key_cmp q (entries d)) (find key_cmp q ps)
    ∙ sym (get-apply key_cmp-IsTotalOrder key_cmp-IsAntisymmetric d (set_of ps) q ∙ (λ i. deltas.after (get-entries d q i) (get-from_entries key_cmp-IsTotalOrder ps q i))))

-- ---- a walk that is changed stays a walk, and what is still to come begins at it

module _ (w : Want) (ps : List PointValues) (c : Change) (is : IsWalk w ps) (old : HasKey c.key c.old) (new : HasKey c.key c.new) (b : find key_cmp c.key ps ≡ values_of c.old) where
  pub changed_is_walk : IsWalk w (changed (walk_cmp w) (option_map entry_of c.old) (option_map entry_of c.new) ps)
  changed_is_walk = record {
    ascends = maps.Ascends-changed (walk_fits w) (option_map entry_of c.old) (option_map entry_of c.new) ps is.ascends;
    unlike = maps.Unlike-changed (walk_fits w) c.key (option_map entry_of c.old) (option_map entry_of c.new) ps is.ascends is.unlike (at_key c.key c.old old) (at_key c.key c.new new) (lookup-find key_cmp c.key ps ∙ b ∙ sym (values_entry c.old));
  }

pub begin_changed : (w : Want) (ps : List PointValues) (c : Change) (cs : List Change) → IsWalk w ps → Apart key_cmp (changes_at (c ∷ cs)) → begin_at ps (c ∷ cs)
    → begin_at (changed (walk_cmp w) (option_map entry_of c.old) (option_map entry_of c.new) ps) cs
begin_changed w ps c cs is a b = maps.Begin-changed (walk_fits w) (change_at c) (changes_at cs) ps is.ascends is.unlike a b

-- what a list begins with a change has at its key
pub begin_head : (ps : List PointValues) (c : Change) (cs : List Change) → begin_at ps (c ∷ cs) → find key_cmp c.key ps ≡ values_of c.old
begin_head ps c cs b = sym (lookup-find key_cmp c.key ps) ∙ b.0.2 ∙ values_entry c.old

-- ---- there are no more changes than points before and after

module _ {X : Type 0} where
  dropped : List Value → List (List Value × X) → List (List Value × X)
  dropped k [] = []
  dropped k (y ∷ ys) = cond (is_eq (key_cmp k y.0)) ys (y ∷ dropped k ys)

  length-dropped : (k : List Value) (ys : List (List Value × X)) → is_some (find key_cmp k ys) ≡ true → suc (length (dropped k ys)) ≡ length ys
  unfolding dropped
  length-dropped k [] h = cc h
  length-dropped k (y ∷ ys) h = elim (cases_Bool (is_eq (key_cmp k y.0))) [
    | inl t ↦ rw t refl
    | inr f ↦ rw f (ap suc (length-dropped k ys (rw f at h)))
  ]

  find-dropped : (q k : List Value) (ys : List (List Value × X)) → is_eq (key_cmp q k) ≡ false → find key_cmp q (dropped k ys) ≡ find key_cmp q ys
  unfolding dropped
  find-dropped q k [] n = refl
  find-dropped q k (y ∷ ys) n = elim (cases_Bool (is_eq (key_cmp k y.0))) [
    | inl t ↦
        let key : k ≡ y.0 = key_cmp-IsAntisymmetric k y.0 (equal_from_is_eq _ t) in
        let other : is_eq (key_cmp q y.0) ≡ false = ap (λ (j : List Value). is_eq (key_cmp q j)) (sym key) ∙ n in
        rw (t, other) refl
    | inr f ↦ rw f (ap (cond (is_eq (key_cmp q y.0)) (Some y.1)) (find-dropped q k ys n))
  ]

  still_found : {Y : Type 0} (k : List Value) (es : List (List Value × Y)) (ys : List (List Value × X)) → AllByRecursion (λ (f : List Value × Y). is_eq (key_cmp f.0 k) ≡ false) es → AllByRecursion (λ (f : List Value × Y). is_some (find key_cmp f.0 ys) ≡ true) es → AllByRecursion (λ (f : List Value × Y). is_some (find key_cmp f.0 (dropped k ys)) ≡ true) es
  still_found k [] ys a h = tt
  still_found k (e ∷ es) ys a h = (ap is_some (find-dropped e.0 k ys a.0) ∙ h.0, still_found k es ys a.1 h.1)

  -- different keys that are found are no more than what they are found in
  found_few : {Y : Type 0} (es : List (List Value × Y)) (ys : List (List Value × X)) → Apart key_cmp es → AllByRecursion (λ (f : List Value × Y). is_some (find key_cmp f.0 ys) ≡ true) es → length es ≤ length ys
  found_few [] ys a h = omega arith
  found_few (e ∷ es) ys a h = omega (arith, found_few es (dropped e.0 ys) a.1 (still_found e.0 es ys a.0 h.1), length-dropped e.0 ys h.0)

some_of_two : {V : Type 0} (x y : Option V) → x ≢ y → is_some (option_or x y) ≡ true
some_of_two None None n = absurd (n refl)
some_of_two None (Some y) n = refl
some_of_two (Some x) y n = refl

-- the new values of changes, where they are found
found_new : (ms : List PointValues) (c : Change) (cs : List Change)
    → ((q : List Value) → IfSome (find key_cmp q (map change_entry (c ∷ cs))) (λ e. find key_cmp q ms ≡ e.1)) → find key_cmp c.key ms ≡ values_of c.new
found_new ms c cs b = rw (own_found c cs) at (b c.key)

ends_later : (ms : List PointValues) (c : Change) (cs : List Change) → T (is_sorted key_cmp (map change_entry (c ∷ cs)))
    → ((q : List Value) → IfSome (find key_cmp q (map change_entry (c ∷ cs))) (λ e. find key_cmp q ms ≡ e.1))
    → (q : List Value) → IfSome (find key_cmp q (map change_entry cs)) (λ e. find key_cmp q ms ≡ e.1)
ends_later ms c cs s b q = elim (cases_Bool (is_eq (key_cmp q c.key))) [
  | inl t ↦ let none : find key_cmp q (map change_entry cs) ≡ None = find-later key_cmp-IsTotalOrder q (change_entry c) (map change_entry cs) s t in rw none tt
  | inr f ↦ rw f at (b q)
]

all_found : (ps ms : List PointValues) (cs : List Change) → T (is_sorted key_cmp (map change_entry cs)) → All IsChange cs → begin_at ps cs
    → ((q : List Value) → IfSome (find key_cmp q (map change_entry cs)) (λ e. find key_cmp q ms ≡ e.1))
    → AllByRecursion (λ (f : ChangeAt (List Value) PointValues). is_some (find key_cmp f.0 (ps ++ ms)) ≡ true) (changes_at cs)
all_found ps ms [] s a b n = tt
all_found ps ms (c ∷ cs) s a b n =
    let found : find key_cmp c.key (ps ++ ms) ≡ option_or (values_of c.old) (values_of c.new) = find-++ key_cmp ps ms c.key ∙ (λ i. option_or (begin_head ps c cs b i) (found_new ms c cs n i)) in
    (ap is_some found ∙ some_of_two (values_of c.old) (values_of c.new) (All-head IsChange c cs a).differs, all_found ps ms cs (second _ _ s) (All-tail IsChange c cs a) b.1 (ends_later ms c cs s n))

new_at : (c : Option (Option (List Value) × Option (List Value))) (x y : Option (List Value)) → y ≡ deltas.after c x → IfSome c (λ e. y ≡ e.1)
new_at None x y h = tt
new_at (Some c) x y h = h

pub changes_few : (ps : List PointValues) (d : Changes) (cs : List Change) → map change_entry cs ≡ entries d → AreChanges cs → deltas.BeginsAt d (set_of ps) → length cs ≤ length ps + len (deltas.apply d (set_of ps))
changes_few ps d cs e are b =
    let m = deltas.apply d (set_of ps) in
    let ends : (q : List Value) → IfSome (find key_cmp q (map change_entry cs)) (λ c. find key_cmp q (entries m) ≡ c.1) =
    λ q. subst (λ (o : Option (Option (List Value) × Option (List Value))). IfSome o (λ c. find key_cmp q (entries m) ≡ c.1)) (get-entries d q ∙ ap (find key_cmp q) (sym e)) (new_at (get d q) (get (set_of ps) q) (find key_cmp q (entries m)) (sym (get-entries m q) ∙ get-apply key_cmp-IsTotalOrder key_cmp-IsAntisymmetric d (set_of ps) q)) in
    let few = found_few (changes_at cs) (ps ++ entries m) (apart cs are.ascend) (all_found ps (entries m) cs are.ascend are.each (begins ps d cs e are b) ends) in
    omega (arith, few, length-append ps (entries m), len-entries m, length-map cs change_at)

-- ---- change by change

-- the first i changes are made, and the others begin at what they made
pub record IsUnderWay (start : Walked) (cs : List Change) (i : ℕ) (walk : Walked) : Type 0 where
  pub want : walk.want ≡ start.want
  pub is : IsWalk walk.want walk.points
  pub begins : begin_at walk.points (drop i cs)
  pub ends : all_changed (walk_cmp walk.want) (changes_at (drop i cs)) walk.points ≡ all_changed (walk_cmp start.want) (changes_at cs) start.points
  pub few : length walk.points ≤ length start.points + i

apart_drop : (i : ℕ) (cs : List Change) → Apart key_cmp (changes_at cs) → Apart key_cmp (changes_at (drop i cs))
apart_drop zero cs a = a
apart_drop (suc i) [] a = tt
apart_drop (suc i) (c ∷ cs) a = apart_drop i cs a.1

pub under_way_first : (start : Walked) (cs : List Change) → IsWalk start.want start.points → begin_at start.points cs → IsUnderWay start cs 0 start
under_way_first start cs is b = record { want = refl; is = is; begins = b; ends = refl; few = omega arith }

module _ (start walk : Walked) (cs : List Change) (i : ℕ) (c : Change) (u : IsUnderWay start cs i walk) (within : i < length cs) (at : c ≡ get_or cs i c) where
  rest_is : drop i cs ≡ c ∷ drop (i + 1) cs
  rest_is = drop_more cs i c within ∙ ap (λ (d : Change). d ∷ drop (i + 1) cs) (sym at)

  pub under_way_begins : find key_cmp c.key walk.points ≡ values_of c.old
  under_way_begins = begin_head walk.points c (drop (i + 1) cs) (subst (begin_at walk.points) rest_is u.begins)

  pub under_way_next : (next : Walked) → T (is_sorted key_cmp (map change_entry cs)) → next.want ≡ walk.want
      → next.points ≡ changed (walk_cmp walk.want) (option_map entry_of c.old) (option_map entry_of c.new) walk.points → length next.points ≤ length walk.points + 1 → IsWalk next.want next.points
      → IsUnderWay start cs (i + 1) next
  under_way_next next sorted w points few is =
      let others : Apart key_cmp (changes_at (c ∷ drop (i + 1) cs)) = subst (λ (ds : List Change). Apart key_cmp (changes_at ds)) rest_is (apart_drop i cs (apart cs sorted)) in
      let begun : begin_at walk.points (c ∷ drop (i + 1) cs) = subst (begin_at walk.points) rest_is u.begins in
      let short = u.few in
      record {
        want = w ∙ u.want;
        is = is;
        begins = subst (λ (ps : List PointValues). begin_at ps (drop (i + 1) cs)) (sym points) (begin_changed walk.want walk.points c (drop (i + 1) cs) u.is others begun);
        ends = (λ j. all_changed (walk_cmp (w j)) (changes_at (drop (i + 1) cs)) (points j)) ∙ ap (λ (ds : List Change). all_changed (walk_cmp walk.want) (changes_at ds) walk.points) (sym rest_is) ∙ u.ends;
        few = omega arith;
      }

-- all changes are made
pub under_way_last : (start walk : Walked) (d : Changes) (cs : List Change) (i : ℕ) → IsUnderWay start cs i walk → length cs ≤ i → IsWalk start.want start.points → map change_entry cs ≡ entries d → AreChanges cs → deltas.BeginsAt d (set_of start.points)
    → set_of walk.points ≡ deltas.apply d (set_of start.points)
under_way_last start walk d cs i u all is e are b =
    let none : drop i cs ≡ [] = drop_all i cs all in
    let ends : walk.points ≡ all_changed (walk_cmp start.want) (changes_at cs) start.points = rw none at u.ends in
    ap set_of ends ∙ all_changed_is start.want start.points d cs is e are b
