-- What is noted is what the result had and has, and where nothing is noted nothing changes.
use Rattle.std.proofs.Common.{◌≡◌, ◌≢◌, ℕ, ◌+◌, ◌<◌, ◌≤◌, List, [], ◌∷◌, ◌++◌, map, take, length, get_or, Bool, true, false, ◌||◌, cond, if◌then◌else◌, Option, Some, None, IfSome, nat_lt, refl, sym, ap, subst, ◌∙◌, inl, inr, arith}
use Rattle.std.specs.Prelude.{filter, slice_get, option_and_then, unwrap_or}
use Rattle.std.specs.Option.{is_some, option_map_or}
use Rattle.std.specs.List.{All}
use Rattle.std.specs.Map.{lookup}
use Rattle.std.specs.Ordering.{eq_by_cmp}
use Rattle.std.specs.BTreeMap.{BTreeMap}
use Rattle.std.specs.BTreeMap as tree
use Rattle.std.specs.FinMap.{entries, get, get-entries, keys, len}
use Rattle.std.specs.FinMap.Entries.{where_key, find-where_key, is_some-find}
use Rattle.std.proofs.lemmas.List.{append_assoc, append-nil, map-append, length-map, take_more, take_all}
use Rattle.std.proofs.lemmas.List.Elements.{All-nil, All-cons, All-filter}
use Rattle.std.proofs.lemmas.List.Folds.{list_any-append}
use Rattle.std.proofs.lemmas.Bool.{cases_lt}
use Rattle.std.proofs.lemmas.List.Sums.{sum_by-cons}
use Rattle.std.proofs.lemmas.Option.{slice_get_within, get_or_from_slice_get, slice_get-get_or}
use Rattle.vtl_values.specs.declared.value.Value.{Value}
use Rattle.vtl_values.specs.Order.{key_cmp}
use Rattle.vtl_values.proofs.Values.{key_cmp-IsTotalOrder, key_cmp-IsAntisymmetric}
use Rattle.data_model.specs.Answers.{IsRight}
use Rattle.data_model.specs.Deltas.{Pair, after, apply}
use Rattle.data_model.specs.Drafts.{finished, nothing, note_value}
use Rattle.data_model.specs.Maps.{is_listed}
use Rattle.data_model.specs.Outcomes.{Made}
use Rattle.data_model.proofs.DeltaLemmas.{contradicted, get-apply}
use Rattle.data_model.proofs.DraftLemmas.{IsDraft-along, IsDraft-nothing, IsDraft-value, IsRight-outcome}
use Rattle.data_model.proofs.MapLemmas.{get-unlisted, neither, tied, tied_to_itself}
use Rattle.point_sets.specs.DataSets.{DataSet}
use Rattle.point_sets.specs.declared.delta.Change.{Change}
use Rattle.point_sets.specs.Changes.{Changes, change_entry, values_eq, values_of, AreChanges}
use Rattle.point_sets.proofs.Changes.{values_eq-IsEqualityTest}
use Rattle.point_sets.proofs.Found.{change_at}
use Rattle.data_set_trees.specs.clauses.Frames.{numbers_of}
use Rattle.data_set_trees.specs.Components.{identifiers}
use Rattle.operator_meaning.proofs.pairs.Names.{either-left, either-right}
use Rattle.vtl_values.specs.declared.kind.Role.TheVariants.{Viral}
use Rattle.held_index.specs.Drafts.{SetDraft}
use Rattle.held_index.specs.Holdings.{Holding, look_steps, part_of}
use Rattle.held_index.specs.Rules.{SetOutcome}
use Rattle.held_index.specs.Walks.{PointValues}
use Rattle.operator_meaning.specs.exists.Exists.{ExistsOn, common, is_met, exists_values, exists_working, exists_meaning}
use Rattle.operator_meaning.proofs.exists.Told.{exists-covered}
use Rattle.exists_ops.specs.Parts.{AreShifts, left_numbers, right_numbers, right_want, has_part, has_part_after, is_in, key_part, no_shift, shift_at}
use Rattle.exists_ops.specs.Told.{told_of}
use Rattle.exists_ops.specs.Noted.{differ, noted_at, IsFor, IsMetIn, IsNoted}
use Rattle.exists_ops.specs.Walked.{met_in, keys_in, walked_in, walked, part_cost, cost}
use Rattle.exists_ops.specs.declared.notes.Met.{Met}
use Rattle.exists_ops.specs.declared.parts.Shift.{Shift}
use Rattle.exists_ops.specs.declared.told.Told.{Told}
use Rattle.exists_ops.proofs.PartLemmas.{entries-there, long-key, part-is, has-after, met-part}
use Rattle.exists_ops.proofs.ShiftLemmas.{first-more}

own-pass : {A : Type 0} (q : A → Bool) (xs : List A) → All (λ x. q x ≡ true) (filter q xs)
own-pass q [] = All-nil (λ x. q x ≡ true)
own-pass q (x ∷ xs) = by_test (q x) refl (own-pass q xs)
  where
    by_test : (b : Bool) → q x ≡ b → All (λ y. q y ≡ true) (filter q xs) → All (λ y. q y ≡ true) (cond b (x ∷ filter q xs) (filter q xs))
    by_test true e later = All-cons (λ y. q y ≡ true) x (filter q xs) e later
    by_test false e later = later

differ-same : (b : Bool) → differ b b ≡ false
differ-same true = refl
differ-same false = refl

same-of : (a b : Bool) → differ a b ≡ false → a ≡ b
same-of true true h = refl
same-of true false h = cc
same-of false true h = cc
same-of false false h = refl

-- a part that is kept is gone through
walked-listed : (a b : Holding) (part : List Value) (s : Shift) (key : List Value) (ss : List (List Value × Shift)) → lookup (tree.is_at (key_cmp part)) ss ≡ Some s → is_listed key_cmp (walked_in a b (part, s)) key ≡ true → is_listed key_cmp (walked a b ss) key ≡ true
walked-listed a b part s key [] h listed = cc
walked-listed a b part s key (t ∷ ts) h listed = list_any-append (eq_by_cmp key_cmp key) (walked_in a b t) (walked a b ts) ∙ by_test (eq_by_cmp key_cmp part t.0) refl h (λ i. walked-listed a b part s key ts i listed)
  where
    by_test : (c : Bool) → eq_by_cmp key_cmp part t.0 ≡ c → cond c (Some t.1) (lookup (tree.is_at (key_cmp part)) ts) ≡ Some s → (lookup (tree.is_at (key_cmp part)) ts ≡ Some s → is_listed key_cmp (walked a b ts) key ≡ true) → (is_listed key_cmp (walked_in a b t) key || is_listed key_cmp (walked a b ts) key) ≡ true
    by_test true e i later =
        let own : part ≡ t.0 = tied key_cmp-IsTotalOrder key_cmp-IsAntisymmetric part t.0 e in
        let kept : t.1 ≡ s = cc in
        either-left (is_listed key_cmp (walked_in a b t) key) (is_listed key_cmp (walked a b ts) key) ((λ j. is_listed key_cmp (walked_in a b (sym own j, kept j)) key) ∙ listed)
    by_test false e i later = either-right (is_listed key_cmp (walked_in a b t) key) (is_listed key_cmp (walked a b ts) key) (later i)

pub same-met : (m n : Met) → m.was ≡ n.was → m.is ≡ n.is → m ≡ n
same-met m n was is = λ i. record { was = was i; is = is i }

pub few_steps : {A : Type 0} (o : Option A) → look_steps o ≤ 2
few_steps None = omega arith
few_steps (Some a) = omega arith

-- where nothing is found there is no item
pub none-there : {A : Type 0} (xs : List A) (i : ℕ) → None ≡ slice_get xs i → length xs ≤ i
none-there [] i e = omega arith
none-there (x ∷ xs) i e = elim (cases_lt i (length (x ∷ xs))) [
  | inl within ↦ let there = slice_get-get_or (x ∷ xs) i x within in cc
  | inr done ↦ done
]

-- ---- parts that are gone through one by one

pub still-kept : (m n : BTreeMap (List Value) Shift) (part q : List Value) (s : Shift) → ((k : List Value) → tree.get key_cmp n k ≡ cond (eq_by_cmp key_cmp part k) None (tree.get key_cmp m k)) → tree.get key_cmp n q ≡ Some s → tree.get key_cmp m q ≡ Some s
still-kept m n part q s gets at = by_test (eq_by_cmp key_cmp part q) (sym (gets q) ∙ at)
  where
    by_test : (b : Bool) → cond b None (tree.get key_cmp m q) ≡ Some s → tree.get key_cmp m q ≡ Some s
    by_test true i = cc
    by_test false i = i

module _ (a b : Holding) (part : List Value) (s : Shift) (ss rest : List (List Value × Shift)) where
  pub cost-first : ss ≡ (part, s) ∷ rest → cost a ss ≡ part_cost a part + cost a rest
  cost-first is = ap (cost a) is ∙ sum_by-cons (λ (t : List Value × Shift). part_cost a t.0) (part, s) rest

  module _ (js all : List (List Value)) (is : ss ≡ (part, s) ∷ rest) where
    abbrev turns : Bool
    turns = differ (has_part b.want b.content part) (has_part_after b.want b.content part s)

    pub part-turned : turns ≡ true → js ++ walked a b ss ≡ all → (js ++ keys_in a part) ++ walked a b rest ≡ all
    part-turned yes' h =
        append_assoc js (keys_in a part) (walked a b rest)
        ∙ sym (ap (λ t. js ++ ((if t then keys_in a part else []) ++ walked a b rest)) yes')
        ∙ sym (ap (λ (ts : List (List Value × Shift)). js ++ walked a b ts) is) ∙ h

    pub part-stays : turns ≡ false → js ++ walked a b ss ≡ all → js ++ walked a b rest ≡ all
    part-stays no' h =
        sym (ap (λ t. js ++ ((if t then keys_in a part else []) ++ walked a b rest)) no')
        ∙ sym (ap (λ (ts : List (List Value × Shift)). js ++ walked a b ts) is) ∙ h

pub none-left : {A : Type 0} (xs : List A) → (0 < length xs → false ≡ true) → xs ≡ []
none-left [] h = refl
none-left (x ∷ xs) h = let bad : false ≡ true = h (omega arith) in cc

pub no-parts : (a b : Holding) (ss : List (List Value × Shift)) (js all : List (List Value)) → ss ≡ [] → js ++ walked a b ss ≡ all → js ≡ all
no-parts a b ss js all none h = sym (append-nil js) ∙ sym (ap (λ (ts : List (List Value × Shift)). js ++ walked a b ts) none) ∙ h

never-out : (o : Option (List Value)) → option_map_or (λ (rest : List Value). false) o false ≡ false
never-out None = refl
never-out (Some rest) = refl

module _ (e : ExistsOn) (told : Told) (a b : Holding) (d f : Changes) (for : IsFor e told a b d f) where
  abbrev A : DataSet
  A = a.content

  abbrev B : DataSet
  B = b.content

  abbrev A' : DataSet
  A' = apply d A

  abbrev B' : DataSet
  B' = apply f B

  abbrev was : List Value → Option (List Value)
  was = (exists_working e A B).value

  abbrev is : List Value → Option (List Value)
  is = (exists_working e A' B').value

  -- ---- what the result had and has at a key

  told-same : (met : Bool) (key : List Value) (o : Option (List Value)) → told_of e.rows (numbers_of Viral e.left) met key o ≡ told_of told.rows told.virals met key o
  told-same met key o = λ i. told_of (sym for.rows_are i) (sym for.virals_are i) met key o

  pub noted-nothing : IsNoted e A B d f [] nothing
  noted-nothing = IsDraft-nothing key_cmp-IsTotalOrder key_cmp-IsAntisymmetric (λ key. false) was is

  -- the key that is noted is met as it is said
  note-one : (ks : List (List Value)) (key : List Value) (old new : Option (List Value)) (met : Met) (n : SetDraft) → get A key ≡ old → get A' key ≡ new → met.was ≡ is_met e B key → met.is ≡ is_met e B' key
      → IsNoted e A B d f ks n → IsNoted e A B d f (ks ++ key ∷ []) (noted_at told met key old new n)
  note-one ks key old new met n at_old at_new met_was met_is h =
      let old_is : was key ≡ told_of told.rows told.virals met.was key old = told-same (is_met e B key) key (get A key) ∙ (λ i. told_of told.rows told.virals (sym met_was i) key (at_old i)) in
      let new_is : is key ≡ told_of told.rows told.virals met.is key new = told-same (is_met e B' key) key (get A' key) ∙ (λ i. told_of told.rows told.virals (sym met_is i) key (at_new i)) in
      subst (λ (v : Option (List Value)). IsNoted e A B d f (ks ++ key ∷ []) (note_value values_eq key v (told_of told.rows told.virals met.is key new) n)) old_is
      (subst (λ (v : Option (List Value)). IsNoted e A B d f (ks ++ key ∷ []) (note_value values_eq key (was key) v n)) new_is
      (IsDraft-value key_cmp-IsTotalOrder key_cmp-IsAntisymmetric (λ key. false) was is values_eq values_eq-IsEqualityTest [] ks key n h))

  -- ---- parts

  module _ (key : List Value) (long : length key ≡ length (identifiers e.left)) where
    abbrev its_part : List Value
    its_part = key_part (left_numbers e) key

    pub met-was : is_met e B key ≡ has_part (right_want e) B its_part
    met-was = met-part e for.typed B for.right_fits key long

    pub met-is : is_met e B' key ≡ has_part (right_want e) B' its_part
    met-is = met-part e for.typed B' for.right_fits_after key long

  -- what is kept of a part tells whether it has a point after the news
  module _ (shifts : BTreeMap (List Value) Shift) (kept : AreShifts (right_numbers e) (entries f) shifts) where
    pub part-after : (part : List Value) → has_part_after (right_want e) B part (shift_at shifts part) ≡ has_part (right_want e) B' part
    part-after part = ap (has_part_after (right_want e) B part) (kept.kept part) ∙ has-after e.right for.typed.right_is (common e) B for.right_fits f for.right_fits_after for.right_begins 1 part

    pub met-in : (part : List Value) → IsMetIn e B f part (met_in b shifts part)
    met-in part = record {
      was_met = ap (λ w. has_part w B part) for.right_held;
      is_met = ap (λ w. has_part_after w B part (shift_at shifts part)) for.right_held ∙ part-after part;
    }

  -- ---- a change of the first operand

  changed-long : (key : List Value) (x y : Option (List Value)) → x ≢ y → get A key ≡ x → get A' key ≡ y → length key ≡ length (identifiers e.left)
  changed-long key (Some rest) y apart old new = long-key e.left A for.left_fits key rest old
  changed-long key None (Some rest) apart old new = long-key e.left A' for.left_fits_after key rest new
  changed-long key None None apart old new = absurd (apart refl)

  pub change-noted : (ks : List (List Value)) (c : Change) (shifts : BTreeMap (List Value) Shift) (numbers : List ℕ) (n : SetDraft) → numbers ≡ left_numbers e → AreShifts (right_numbers e) (entries f) shifts → values_of c.old ≢ values_of c.new → get d c.key ≡ Some (change_entry c).1
      → IsNoted e A B d f ks n → IsNoted e A B d f (ks ++ c.key ∷ []) (noted_at told (met_in b shifts (key_part numbers c.key)) c.key (values_of c.old) (values_of c.new) n)
  change-noted ks c shifts numbers n same kept apart there h =
      let old : get A c.key ≡ values_of c.old = subst (λ (o : Option (Pair (List Value))). IfSome o (λ p. get A c.key ≡ p.0)) there (for.left_begins c.key) in
      let new : get A' c.key ≡ values_of c.new = get-apply key_cmp-IsTotalOrder key_cmp-IsAntisymmetric d A c.key ∙ ap (λ (o : Option (Pair (List Value))). after o (get A c.key)) there in
      let long = changed-long c.key (values_of c.old) (values_of c.new) apart old new in
      let met = met-in shifts kept (its_part c.key long) in
      subst (λ (ns : List ℕ). IsNoted e A B d f (ks ++ c.key ∷ []) (noted_at told (met_in b shifts (key_part ns c.key)) c.key (values_of c.old) (values_of c.new) n)) (sym same)
      (note-one ks c.key (values_of c.old) (values_of c.new) (met_in b shifts (its_part c.key long)) n old new (met.was_met ∙ sym (met-was c.key long)) (met.is_met ∙ sym (met-is c.key long)) h)

  pub changes-more : (cs : List Change) (i : ℕ) (c : Change) (shifts : BTreeMap (List Value) Shift) (numbers : List ℕ) (n m : SetDraft) → numbers ≡ left_numbers e → AreShifts (right_numbers e) (entries f) shifts → map change_entry cs ≡ entries d → AreChanges cs → i < length cs → c ≡ get_or cs i c
      → m ≡ noted_at told (met_in b shifts (key_part numbers c.key)) c.key (values_of c.old) (values_of c.new) n
      → IsNoted e A B d f (map (λ g. g.0) (take i (map change_entry cs))) n → IsNoted e A B d f (map (λ g. g.0) (take (i + 1) (map change_entry cs))) m
  changes-more cs i c shifts numbers n m same kept all ordered within at noted h =
      let longer : map (λ g. g.0) (take (i + 1) (map change_entry cs)) ≡ map (λ g. g.0) (take i (map change_entry cs)) ++ c.key ∷ [] = ap (map (λ g. g.0)) (first-more cs i c within at) ∙ map-append _ _ _ in
      let apart : values_of c.old ≢ values_of c.new = subst (λ (g : Change). values_of g.old ≢ values_of g.new) (sym at) (ordered.each i c within).differs in
      subst (λ (t : List (List Value)). IsNoted e A B d f t m) (sym longer)
      (subst (λ (t : SetDraft). IsNoted e A B d f (map (λ g. g.0) (take i (map change_entry cs)) ++ c.key ∷ []) t) (sym noted)
      (change-noted (map (λ g. g.0) (take i (map change_entry cs))) c shifts numbers n same kept apart (change_at cs d all ordered i c within at) h))

  pub changes-all : (cs : List Change) (i : ℕ) (n : SetDraft) → map change_entry cs ≡ entries d → length cs ≤ i → IsNoted e A B d f (map (λ g. g.0) (take i (map change_entry cs))) n → IsNoted e A B d f (keys d) n
  changes-all cs i n all done h =
      let long : length (map change_entry cs) ≤ i = omega (arith, done, length-map cs change_entry) in
      subst (λ (es : List (List Value × Pair (List Value))). IsNoted e A B d f (map (λ g. g.0) es) n) (take_all i (map change_entry cs) long ∙ all) h

  -- ---- a point of a part of the first operand

  abbrev points : List Value → List PointValues
  points part = part_of a.want part A

  points-are : (part : List Value) → points part ≡ where_key key_cmp (is_in (left_numbers e) part) (entries A)
  points-are part = ap (λ w. part_of w part A) for.left_held ∙ part-is e.left for.typed.left_is (common e) A for.left_fits 0 part

  in-part : (part : List Value) (n : ℕ) (p : PointValues) → slice_get (points part) n ≡ Some p → (get A p.0 ≡ Some p.1) × (key_part (left_numbers e) p.0 ≡ part)
  in-part part n p at =
      let q : PointValues → Bool = λ r. is_in (left_numbers e) part r.0 in
      let here : slice_get (filter q (entries A)) n ≡ Some p = ap (λ (ps : List PointValues). slice_get ps n) (sym (points-are part)) ∙ at in
      let same : get_or (filter q (entries A)) n p ≡ p = get_or_from_slice_get (filter q (entries A)) n p p here in
      let within = slice_get_within (filter q (entries A)) n p here in
      let there = All-filter q (λ (r : PointValues). get A r.0 ≡ Some r.1) (entries A) (entries-there A) n p within in
      let passes = own-pass q (entries A) n p within in
      (subst (λ (r : PointValues). get A r.0 ≡ Some r.1) same there, tied key_cmp-IsTotalOrder key_cmp-IsAntisymmetric (key_part (left_numbers e) p.0) part (subst (λ (r : PointValues). q r ≡ true) same passes))

  pub point-noted : (part : List Value) (met : Met) (ks : List (List Value)) (i : ℕ) (p : PointValues) (old new : Option (List Value)) (n m : SetDraft) → IsMetIn e B f part met → slice_get (points part) i ≡ Some p → old ≡ Some p.1 → new ≡ after (get d p.0) (Some p.1)
      → m ≡ noted_at told met p.0 old new n → IsNoted e A B d f (ks ++ map (λ r. r.0) (take i (points part))) n → IsNoted e A B d f (ks ++ map (λ r. r.0) (take (i + 1) (points part))) m
  point-noted part met ks i p old new n m is_met_in at old_is new_is noted h =
      let found = in-part part i p at in
      let long = long-key e.left A for.left_fits p.0 p.1 found.0 in
      let comes : get A' p.0 ≡ new = get-apply key_cmp-IsTotalOrder key_cmp-IsAntisymmetric d A p.0 ∙ ap (after (get d p.0)) found.0 ∙ sym new_is in
      let met_was : met.was ≡ is_met e B p.0 = is_met_in.was_met ∙ sym (met-was p.0 long ∙ ap (has_part (right_want e) B) found.1) in
      let met_is : met.is ≡ is_met e B' p.0 = is_met_in.is_met ∙ sym (met-is p.0 long ∙ ap (has_part (right_want e) B') found.1) in
      let one = note-one (ks ++ map (λ r. r.0) (take i (points part))) p.0 old new met n (found.0 ∙ sym old_is) comes met_was met_is h in
      let within = slice_get_within (points part) i p at in
      let longer : (ks ++ map (λ r. r.0) (take i (points part))) ++ p.0 ∷ [] ≡ ks ++ map (λ r. r.0) (take (i + 1) (points part)) =
      append_assoc ks (map (λ r. r.0) (take i (points part))) (p.0 ∷ [])
      ∙ ap (λ (t : List (List Value)). ks ++ t) (sym (ap (map (λ r. r.0)) (take_more (points part) i p within ∙ ap (λ (r : PointValues). take i (points part) ++ r ∷ []) (get_or_from_slice_get (points part) i p p at)) ∙ map-append _ _ _)) in
      subst (λ (t : List (List Value)). IsNoted e A B d f t m) longer (subst (λ (t : SetDraft). IsNoted e A B d f ((ks ++ map (λ r. r.0) (take i (points part))) ++ p.0 ∷ []) t) (sym noted) one)

  pub points-all : (part : List Value) (ks : List (List Value)) (i : ℕ) (n : SetDraft) → length (points part) ≤ i → IsNoted e A B d f (ks ++ map (λ r. r.0) (take i (points part))) n → IsNoted e A B d f (ks ++ keys_in a part) n
  points-all part ks i n done h = subst (λ (ps : List PointValues). IsNoted e A B d f (ks ++ map (λ r. r.0) ps) n) (take_all i (points part) done) h

  -- ---- where nothing is noted

  listed-part : (key rest : List Value) → get A key ≡ Some rest → is_listed key_cmp (keys_in a (key_part (left_numbers e) key)) key ≡ true
  listed-part key rest there =
      let p = is_in (left_numbers e) (key_part (left_numbers e) key) in
      ap (λ (ps : List PointValues). is_listed key_cmp (map (λ r. r.0) ps) key) (points-are (key_part (left_numbers e) key))
      ∙ sym (is_some-find key_cmp key (where_key key_cmp p (entries A)))
      ∙ ap is_some (find-where_key key_cmp p key (λ x t. ap p (sym (key_cmp-IsAntisymmetric key x t))) (entries A)
      ∙ (λ i. cond (tied_to_itself key_cmp-IsTotalOrder (key_part (left_numbers e) key) i) ((sym (get-entries A key) ∙ there) i) None))

  module _ (shifts : BTreeMap (List Value) Shift) (kept : AreShifts (right_numbers e) (entries f) shifts) where
    -- what was kept of a part says whether it turns
    pub popped-met : (part : List Value) (s : Shift) (met : Met) → tree.get key_cmp shifts part ≡ Some s → met.was ≡ has_part b.want B part → met.is ≡ has_part_after b.want B part s → IsMetIn e B f part met
    popped-met part s met at met_was met_is =
        let found = met-in shifts kept part in
        let same : shift_at shifts part ≡ s = ap (λ (o : Option Shift). unwrap_or o no_shift) at in
        record { was_met = met_was ∙ found.was_met; is_met = met_is ∙ sym (ap (has_part_after b.want B part) same) ∙ found.is_met }

    -- where a part turns, the keys of its points are listed
    turned-listed : (key rest : List Value) → get A key ≡ Some rest → differ (has_part (right_want e) B (key_part (left_numbers e) key)) (has_part (right_want e) B' (key_part (left_numbers e) key)) ≡ true → is_listed key_cmp (walked a b shifts.entries) key ≡ true
    turned-listed key rest there turns = by_kept (tree.get key_cmp shifts part) refl
      where
        part : List Value
        part = key_part (left_numbers e) key

        its_own : (s : Shift) → shift_at shifts part ≡ s → is_listed key_cmp (walked_in a b (part, s)) key ≡ true
        its_own s at =
            let same : differ (has_part b.want B part) (has_part_after b.want B part s) ≡ true =
            (λ i. differ (has_part (for.right_held i) B part) (has_part_after (for.right_held i) B part (sym at i))) ∙ ap (differ (has_part (right_want e) B part)) (part-after shifts kept part) ∙ turns in
            ap (λ (t : Bool). is_listed key_cmp (if t then keys_in a part else []) key) same ∙ listed-part key rest there

        by_kept : (o : Option Shift) → tree.get key_cmp shifts part ≡ o → is_listed key_cmp (walked a b shifts.entries) key ≡ true
        by_kept None at =
            let none : shift_at shifts part ≡ no_shift = ap (λ (o : Option Shift). unwrap_or o no_shift) at in
            let same : has_part_after (right_want e) B part no_shift ≡ has_part (right_want e) B part = ap (nat_lt 0) (let n = length (part_of (right_want e) part B) in let q : n + 0 ≡ n = omega arith in q) in
            contradicted _ turns (ap (differ (has_part (right_want e) B part)) (sym (part-after shifts kept part) ∙ ap (has_part_after (right_want e) B part) none ∙ same) ∙ differ-same (has_part (right_want e) B part))
        by_kept (Some s) at = walked-listed a b part s key shifts.entries at (its_own s (ap (λ (o : Option Shift). unwrap_or o no_shift) at))

    -- a key that isn't noted has what it had
    same-value : (key : List Value) → is_listed key_cmp (keys d ++ walked a b shifts.entries) key ≡ false → is key ≡ was key
    same-value key none = by_point (get A key) refl
      where
        apart : (is_listed key_cmp (keys d) key ≡ false) × (is_listed key_cmp (walked a b shifts.entries) key ≡ false)
        apart = neither (is_listed key_cmp (keys d) key) (is_listed key_cmp (walked a b shifts.entries) key) (sym (list_any-append (eq_by_cmp key_cmp key) (keys d) (walked a b shifts.entries)) ∙ none)

        same_point : get A' key ≡ get A key
        same_point = get-apply key_cmp-IsTotalOrder key_cmp-IsAntisymmetric d A key ∙ ap (λ (c : Option (Pair (List Value))). after c (get A key)) (get-unlisted key_cmp-IsTotalOrder d key apart.0)

        values : Bool → Option (List Value) → Option (List Value)
        values met o = option_and_then (exists_values e met key) o

        part : List Value
        part = key_part (left_numbers e) key

        by_turn : (rest : List Value) → get A key ≡ Some rest → (t : Bool) → differ (has_part (right_want e) B part) (has_part (right_want e) B' part) ≡ t → is_met e B' key ≡ is_met e B key
        by_turn rest there true turns = contradicted _ (turned-listed key rest there turns) apart.1
        by_turn rest there false turns =
            let long = long-key e.left A for.left_fits key rest there in
            met-is key long ∙ sym (same-of (has_part (right_want e) B part) (has_part (right_want e) B' part) turns) ∙ sym (met-was key long)

        by_point : (o : Option (List Value)) → get A key ≡ o → is key ≡ was key
        by_point None there = ap (values (is_met e B' key)) (same_point ∙ there) ∙ sym (ap (values (is_met e B key)) there)
        by_point (Some rest) there = ap (values (is_met e B' key)) same_point ∙ ap (λ met. values met (get A key)) (by_turn rest there (differ (has_part (right_want e) B part) (has_part (right_want e) B' part)) refl)

    pub right-answer : (x : DataSet) (before : ℕ) (n : SetDraft) → IsNoted e A B d f (keys d ++ walked a b shifts.entries) n → (let o : SetOutcome = Made x in exists_meaning e A B ≡ o) → len x ≡ before → IsRight (exists_meaning e A' B') x (finished before n)
    right-answer x before n h made count =
        let old = exists_working e A B in
        let new = exists_working e A' B' in
        subst (λ points. IsRight (exists_meaning e A' B') x (finished points n)) count
        (IsRight-outcome key_cmp-IsTotalOrder key_cmp-IsAntisymmetric old.evaluated old.beyond old.keys old.value new.evaluated new.beyond new.keys new.value x [] (keys d ++ walked a b shifts.entries) n
        (exists-covered e A B) (exists-covered e A' B') made
        (record { evaluations = λ key none. never-out (get A' key) ∙ sym (never-out (get A key)); values = λ within. same-value })
        (IsDraft-along (λ key. false) new.beyond was was is is [] (keys d ++ walked a b shifts.entries) n (λ key. never-out (get A' key)) (λ key. refl) (λ key. refl) h))
