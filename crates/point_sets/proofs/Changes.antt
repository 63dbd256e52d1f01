-- Deltas as their lists of changes.
use Rattle.std.proofs.Common.{◌≡◌, ◌≢◌, ℕ, suc, ◌+◌, ◌<◌, List, [], ◌∷◌, ◌++◌, map, Option, Some, None, true, false, T, sym, ◌∙◌, ap, refl, subst, length, get_or, take, append_assoc, arith}
use Rattle.std.specs.Option.{option_eq, IfSome}
use Rattle.std.specs.List.{All, AllByRecursion}
use Rattle.std.proofs.lemmas.List.{take_more, map-append}
use Rattle.std.proofs.lemmas.List.Elements.{All-append, All-cons}
use Rattle.std.proofs.Math.ListN.{length-map}
use Rattle.std.specs.Arc.{arc_value}
use Rattle.std.specs.Cmp.{tied_itself}
use Rattle.std.specs.Ordering.{is_eq}
use Rattle.std.specs.declared.sync.Arc.{Arc}
use Rattle.std.specs.declared.alloc.Global.{Global}
use Rattle.std.specs.FinMap.{entries, empty, len, empty_of_len, len-entries, len-empty, from_entries, get-from_entries, get-entries, is_sorted, same_map}
use Rattle.vtl_values.specs.Order.{key_cmp}
use Rattle.vtl_values.specs.declared.value.Value.{Value}
use Rattle.vtl_values.proofs.Values.{key_cmp-IsTotalOrder, key_cmp-IsAntisymmetric}
use Rattle.data_model.specs.Deltas.{Pair, IsEqualityTest, BeginsAt, Differs, Leads, apply, composed}
use Rattle.data_model.proofs.DeltaLemmas.{contradicted, option_eq-decides, Leads-apply, Leads-composed, Leads-empty}
use Rattle.data_model.proofs.EntryLemmas.{entries-from_entries, IfSome-find}
use Rattle.data_model.proofs.MapLemmas.{equal}
use Rattle.point_sets.specs.declared.point.Point.{Point}
use Rattle.point_sets.specs.declared.delta.Change.{Change}
use Rattle.point_sets.specs.DataSets.{DataSet, HasKey}
use Rattle.point_sets.specs.Changes.{Changes, values_eq, values_of, change_entry, of_changes, joined, IsChange, AreChanges, IsSamePoint}
use Rattle.point_sets.proofs.Edited.{edited, is_sorted-edited, from_entries-joined}

pub values_eq-IsEqualityTest : IsEqualityTest values_eq
values_eq-IsEqualityTest x y = (λ e. key_cmp-IsAntisymmetric x y (equal (key_cmp x y) e), λ e. subst (λ (t : List Value). values_eq x t ≡ true) e (ap is_eq (tied_itself key_cmp-IsTotalOrder x)))

-- ---- lists of changes

pub entries-of_changes : (cs : List Change) → AreChanges cs → entries (of_changes cs) ≡ map change_entry cs
entries-of_changes cs h = entries-from_entries key_cmp-IsTotalOrder key_cmp-IsAntisymmetric (map change_entry cs) h.ascend

pub of_changes-entries : (cs : List Change) (d : Changes) → map change_entry cs ≡ entries d → of_changes cs ≡ d
of_changes-entries cs d e =
    ap (λ (es : List (List Value × Pair (List Value))). let m : Changes = from_entries es in m) e
    ∙ same_map key_cmp-IsTotalOrder key_cmp-IsAntisymmetric _ _ (λ q. get-from_entries key_cmp-IsTotalOrder (entries d) q ∙ sym (get-entries d q))

pub All-more : {A : Type 0} (P : A → Type 0) (xs : List A) (x : A) → All P xs → P x → All P (xs ++ x ∷ [])
All-more P xs x h p = All-append P xs (x ∷ []) h (All-cons P x [] p (λ k d l. absurd (omega arith)))

-- ---- copies

HasKey-same : (k : List Value) (p q : Option (Arc Point Global)) → IsSamePoint p q → HasKey k p → HasKey k q
HasKey-same k None None e h = tt
HasKey-same k None (Some q) e h = cc
HasKey-same k (Some p) None e h = cc
HasKey-same k (Some p) (Some q) e h = let same : arc_value q ≡ arc_value p = cc in ap (λ (v : Point). v.key) same ∙ h

values_of-same : (p q : Option (Arc Point Global)) → IsSamePoint p q → values_of q ≡ values_of p
values_of-same None None e = refl
values_of-same None (Some q) e = cc
values_of-same (Some p) None e = cc
values_of-same (Some p) (Some q) e = let same : arc_value q ≡ arc_value p = cc in ap (λ (v : Point). Some v.rest) same

module _ (c d : Change) (key : d.key ≡ c.key) (old : IsSamePoint c.old d.old) (new : IsSamePoint c.new d.new) where
  pub change_entry-copied : change_entry d ≡ change_entry c
  change_entry-copied = λ i. (key i, (values_of-same c.old d.old old i, values_of-same c.new d.new new i))

  pub IsChange-copied : IsChange c → IsChange d
  IsChange-copied h = record {
    old = subst (λ (k : List Value). HasKey k d.old) (sym key) (HasKey-same c.key c.old d.old old h.old);
    new = subst (λ (k : List Value). HasKey k d.new) (sym key) (HasKey-same c.key c.new d.new new h.new);
    differs = λ e. h.differs (sym (values_of-same c.old d.old old) ∙ e ∙ values_of-same c.new d.new new);
  }

-- one change for two
pub IsChange-joined : (c n d : Change) → IsChange c → IsChange n → n.key ≡ c.key → d.key ≡ c.key → IsSamePoint c.old d.old → IsSamePoint n.new d.new → option_eq values_eq (values_of c.old) (values_of n.new) ≡ false → IsChange d
IsChange-joined c n d h t next key old new apart = record {
  old = subst (λ (k : List Value). HasKey k d.old) (sym key) (HasKey-same c.key c.old d.old old h.old);
  new = subst (λ (k : List Value). HasKey k d.new) (next ∙ sym key) (HasKey-same n.key n.new d.new new t.new);
  differs = λ e. contradicted _ ((option_eq-decides values_eq values_eq-IsEqualityTest (values_of c.old) (values_of n.new)).1 (sym (values_of-same c.old d.old old) ∙ e ∙ values_of-same n.new d.new new)) apart;
}

-- one more copy
pub pushed_more : (cs : List Change) (i : ℕ) (c d : Change) (before all : List Change) → i < length cs → c ≡ get_or cs i c → change_entry d ≡ change_entry c → map change_entry all ≡ map change_entry before ++ map change_entry (take i cs)
    → map change_entry (all ++ d ∷ []) ≡ map change_entry before ++ map change_entry (take (i + 1) cs)
pushed_more cs i c d before all lt at same h =
    let longer : take (i + 1) cs ≡ take i cs ++ c ∷ [] = take_more cs i c lt ∙ ap (λ (t : Change). take i cs ++ t ∷ []) (sym at) in
    map-append change_entry all (d ∷ [])
    ∙ (λ j. h j ++ (same j ∷ []))
    ∙ append_assoc (map change_entry before) (map change_entry (take i cs)) (change_entry c ∷ [])
    ∙ ap (λ (t : List (List Value × Pair (List Value))). map change_entry before ++ t) (sym (ap (map change_entry) longer ∙ map-append change_entry (take i cs) (c ∷ [])))

-- ---- what is made of changes

module _ (cs ds all : List Change) (e : map change_entry all ≡ edited key_cmp (joined values_eq) (map change_entry cs) (map change_entry ds)) (h : AreChanges cs) where
  pub are_changes_composed : AreChanges ds → All IsChange all → AreChanges all
  are_changes_composed t each = record {
    ascend = subst (λ (es : List (List Value × Pair (List Value))). T (is_sorted key_cmp es)) (sym e) (is_sorted-edited key_cmp-IsTotalOrder key_cmp-IsAntisymmetric (joined values_eq) (map change_entry cs) (map change_entry ds) h.ascend t.ascend);
    each = each;
  }

  pub map_composed : of_changes all ≡ composed values_eq (of_changes cs) (of_changes ds)
  map_composed = ap (λ (es : List (List Value × Pair (List Value))). let m : Changes = from_entries es in m) e ∙ from_entries-joined key_cmp-IsTotalOrder key_cmp-IsAntisymmetric values_eq (map change_entry cs) (map change_entry ds) h.ascend

pub leads_composed : (first then' both : Changes) → both ≡ composed values_eq first then' → (l m n : DataSet) → Leads first l m → Leads then' m n → Leads both l n
leads_composed first then' both e l m n h k = subst (λ (d : Changes). Leads d l n) (sym e) (Leads-composed key_cmp-IsTotalOrder key_cmp-IsAntisymmetric values_eq values_eq-IsEqualityTest first then' l m n h k)

-- what holds of each item holds of the first one, and of each later one
pub All-parts : {A : Type 0} (P : A → Type 0) (all : List A) (x : A) (xs : List A) → all ≡ x ∷ xs → All P all → P x × All P xs
All-parts P all x xs e h =
    let whole : All P (x ∷ xs) = subst (λ t. All P t) e h in
    (whole 0 x (omega arith), λ k d l. whole (suc k) d (omega arith))

differ_each : (cs : List Change) → All IsChange cs → AllByRecursion (λ (e : List Value × Pair (List Value)). e.1.0 ≢ e.1.1) (map change_entry cs)
differ_each [] h = tt
differ_each (c ∷ cs) h = let parts = All-parts IsChange (c ∷ cs) c cs refl h in (parts.0.differs, differ_each cs parts.1)

-- each change of a delta is from a value to another one
pub Differs-of_changes : (cs : List Change) → AreChanges cs → Differs (of_changes cs)
Differs-of_changes cs h q = subst (λ (c : Option (Pair (List Value))). IfSome c (λ (p : Pair (List Value)). p.0 ≢ p.1)) (sym (get-from_entries key_cmp-IsTotalOrder (map change_entry cs) q))
    (IfSome-find key_cmp key_cmp-IsAntisymmetric (λ k (p : Pair (List Value)). p.0 ≢ p.1) (map change_entry cs) (differ_each cs h.each) q)

-- a delta leads from where it begins to where it is applied
pub leads_applied : (d : Changes) (m n : DataSet) → Differs d → n ≡ apply d m → BeginsAt d m → Leads d m n
leads_applied d m n h e b = subst (λ (t : DataSet). Leads d m t) (sym e) (Leads-apply key_cmp-IsTotalOrder key_cmp-IsAntisymmetric d m b h)

-- no changes are the empty delta, which leads nowhere
pub none_from_length : (cs : List Change) (d : Changes) → map change_entry cs ≡ entries d → length cs ≡ 0 → d ≡ empty
none_from_length cs d e n = empty_of_len d (len-entries d ∙ ap length (sym e) ∙ length-map cs change_entry ∙ n)

pub length_from_none : (cs : List Change) (d : Changes) → map change_entry cs ≡ entries d → d ≡ empty → length cs ≡ 0
length_from_none cs d e none = sym (length-map cs change_entry) ∙ ap length e ∙ sym (len-entries d) ∙ ap (λ (t : Changes). len t) none ∙ len-empty key_cmp (Pair (List Value))

pub leads_nowhere : (d : Changes) (m : DataSet) → d ≡ empty → Leads d m m
leads_nowhere d m none = subst (λ (t : Changes). Leads t m m) (sym none) (Leads-empty key_cmp-IsTotalOrder key_cmp-IsAntisymmetric m)
