-- What is settled operand by operand is settled.
use Rattle.std.proofs.Common.{◌≡◌, ℕ, zero, suc, ◌+◌, ◌<◌, ◌≤◌, List, [], ◌∷◌, ◌++◌, map, take, drop, set, get_or, length, length-append, refl, sym, ◌∙◌, ap, subst, arith}
use Rattle.std.proofs.Math.ListN.{get_or-map}
use Rattle.std.proofs.lemmas.List.{length-map, map-set, map-append, take_all, take_more}
use Rattle.held_index.specs.Holdings.{Holding}
use Rattle.transform_nodes.specs.Trees.{Plain, Plains, more, plains_of, plain, applied, forgotten}
use Rattle.transform_nodes.specs.Nodes.{CanSettle, AllCanSettle, settled_tree, all_settled}
use Rattle.transform_nodes.specs.declared.node.Child.{Child}
use Rattle.transform_nodes.specs.declared.work.Settle.{Settle}
use Rattle.transform_nodes.specs.declared.work.Settle.TheVariants.{Apply, Forget}

pub take_set : {X : Type 0} (xs : List X) (i : ℕ) (x : X) → i < length xs → take (i + 1) (set xs i x) ≡ take i xs ++ x ∷ []
take_set [] i x l = absurd (omega arith)
take_set (y ∷ xs) zero x l = refl
take_set (y ∷ xs) (suc i) x l = let s : suc i + 1 ≡ suc (i + 1) = omega arith in rw s (ap (λ t. y ∷ t) (take_set xs i x (omega arith)))

-- ---- operands, one after another

can_settle_at : (settle : Settle) (ps : List Plain) (i : ℕ) (d : Plain) → AllCanSettle settle (plains_of ps) → i < length ps → CanSettle settle (get_or ps i d)
can_settle_at settle [] i d h l = absurd (omega arith)
can_settle_at Apply (p ∷ ps) zero d h l = h.0
can_settle_at Apply (p ∷ ps) (suc i) d h l = can_settle_at Apply ps i d h.1 (omega arith)
can_settle_at Forget (p ∷ ps) i d h l = tt

settled_all : (settle : Settle) (ps : List Plain) → plains_of (map (settled_tree settle) ps) ≡ all_settled settle (plains_of ps)
settled_all Apply [] = refl
settled_all Forget [] = refl
settled_all Apply (p ∷ ps) = ap (λ (t : Plains). more (applied p) t) (settled_all Apply ps)
settled_all Forget (p ∷ ps) = ap (λ (t : Plains). more (forgotten p) t) (settled_all Forget ps)

-- operands that were all settled
pub settled_children : (settle : Settle) (ks0 ks : List Child) (i : ℕ) → length ks ≡ length ks0 → length ks0 ≤ i → take i (map plain ks) ≡ map (settled_tree settle) (take i (map plain ks0)) → plains_of (map plain ks) ≡ all_settled settle (plains_of (map plain ks0))
settled_children settle ks0 ks i long all h =
    let a = length-map ks plain in
    let b = length-map ks0 plain in
    ap plains_of (sym (take_all i (map plain ks) (omega (arith, a, long, all))) ∙ h ∙ ap (map (settled_tree settle)) (take_all i (map plain ks0) (omega (arith, b, all)))) ∙ settled_all settle (map plain ks0)

module _ (settle : Settle) (ks0 ks : List Child) (i : ℕ) (k new : Child) (within : i < length ks0) (long : length ks ≡ length ks0) (is : k ≡ get_or ks i k) (same : get_or ks i k ≡ get_or ks0 i k) where
  pub can_settle_child : AllCanSettle settle (plains_of (map plain ks0)) → CanSettle settle (plain k)
  can_settle_child h = let e = length-map ks0 plain in subst (λ (t : Plain). CanSettle settle t) (sym (ap plain (is ∙ same) ∙ sym (get_or-map plain ks0 i k))) (can_settle_at settle (map plain ks0) i (plain k) h (omega (arith, e, within)))

  pub settled_more : plain new ≡ settled_tree settle (plain k) → take i (map plain ks) ≡ map (settled_tree settle) (take i (map plain ks0)) → take (i + 1) (map plain (set ks i new)) ≡ map (settled_tree settle) (take (i + 1) (map plain ks0))
  settled_more e h =
      let a = length-map ks plain in
      let b = length-map ks0 plain in
      ap (take (i + 1)) (map-set plain ks i new) ∙ take_set (map plain ks) i (plain new) (omega (arith, a, long, within))
      ∙ ap (λ (t : List Plain). t ++ plain new ∷ []) h
      ∙ ap (λ (t : Plain). map (settled_tree settle) (take i (map plain ks0)) ++ t ∷ []) (e ∙ ap (settled_tree settle) (ap plain (is ∙ same) ∙ sym (get_or-map plain ks0 i k)))
      ∙ sym (ap (map (settled_tree settle)) (take_more (map plain ks0) i (plain k) (omega (arith, b, within))) ∙ map-append (settled_tree settle) (take i (map plain ks0)) (get_or (map plain ks0) i (plain k) ∷ []))

-- ---- patches, from the last to the first

pub put-none : (h0 q0 : List Holding) → length q0 ≡ length h0 → h0 ≡ take (length q0) h0 ++ drop (length q0) q0
put-none [] [] long = refl
put-none [] (q ∷ qs) long = absurd (omega arith)
put-none (h ∷ hs) [] long = absurd (omega arith)
put-none (h ∷ hs) (q ∷ qs) long = ap (λ (t : List Holding). h ∷ t) (put-none hs qs (omega arith))

put_at : (h0 q0 : List Holding) (n : ℕ) (p : Holding) → length q0 ≡ length h0 → n < length q0 → get_or q0 n p ≡ p
    → set (take (suc n) h0 ++ drop (suc n) q0) n p ≡ take n h0 ++ drop n q0
put_at [] q0 n p long l last = absurd (omega arith)
put_at (h ∷ hs) [] n p long l last = absurd (omega arith)
put_at (h ∷ hs) (q ∷ qs) zero p long l last = ap (λ (t : Holding). t ∷ qs) (sym last)
put_at (h ∷ hs) (q ∷ qs) (suc n) p long l last = ap (λ (t : List Holding). h ∷ t) (put_at hs qs n p (omega arith) (omega arith) last)

-- the last of the first items
pub record IsLast (first : List Holding) (p : Holding) (all : List Holding) : Type 0 where
  pub first_is : first ≡ take (length first) all
  pub last_is : get_or all (length first) p ≡ p
  pub within : length first < length all

pub last_of : (first all : List Holding) (p : Holding) (m : ℕ) → first ++ p ∷ [] ≡ take m all → IsLast first p all
last_of [] all p zero e = cc
last_of [] [] p (suc m) e = cc
last_of [] (q ∷ qs) p (suc m) e = let same : q ≡ p = cc in record { first_is = refl; last_is = same; within = omega arith }
last_of (a ∷ rest) all p zero e = cc
last_of (a ∷ rest) [] p (suc m) e = cc
last_of (a ∷ rest) (q ∷ qs) p (suc m) e =
    let head : a ≡ q = cc in
    let tail : rest ++ p ∷ [] ≡ take m qs = cc in
    let r = last_of rest qs p m tail in
    let h = head in
    let t = r.first_is in
    let l = r.within in
    record { first_is = (λ i. h i ∷ t i); last_is = r.last_is; within = omega (arith, l) }

-- one patch more is in place
pub record IsPutMore (h0 q0 first h : List Holding) : Type 0 where
  pub few : length first ≤ length q0
  pub left : first ≡ take (length first) q0
  pub put : h ≡ take (length first) h0 ++ drop (length first) q0

pub put-more : (h0 h q0 all first : List Holding) (p : Holding) → length q0 ≡ length h0 → all ≡ first ++ p ∷ [] → all ≡ take (length all) q0 → h ≡ take (length all) h0 ++ drop (length all) q0
    → IsPutMore h0 q0 first (set h (length first) p)
put-more h0 h q0 all first p long parts left put =
    let l = last_of first q0 p (length all) (sym parts ∙ left) in
    let n : length all ≡ suc (length first) = ap length parts ∙ length-append first (p ∷ []) ∙ (omega arith) in
    let put' : h ≡ take (suc (length first)) h0 ++ drop (suc (length first)) q0 = put ∙ ap (λ m. take m h0 ++ drop m q0) n in
    let within = l.within in
    record {
      few = omega (arith, within);
      left = l.first_is;
      put = ap (λ (t : List Holding). set t (length first) p) put' ∙ put_at h0 q0 (length first) p long l.within l.last_is;
    }
