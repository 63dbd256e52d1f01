-- What is granted to a row, and the tally after it.
use Rattle.std.proofs.Common.{◌≡◌, ◌+◌, ◌-◌, ◌<◌, ◌≤◌, List, [], ◌∷◌, length, Option, Some, None, Bool, true, false, cond, sym, ◌∙◌, ap, refl, subst, arith, nat_le, Result, Ok, Err, IsErrAnd}
use Rattle.std.specs.Prelude.{is_some}
use Rattle.std.specs.Result.{IsOkAnd, is_err, result_unwrap_or}
use Rattle.std.specs.List.{list_any}
use Rattle.std.specs.Ordering.{eq_by_cmp}
use Rattle.std.specs.BTreeSet.{contains}
use Rattle.std.specs.FinMap.{get, insert, remove, keys, entries, len, get-insert, get-remove, len-insert, len-remove, len-entries}
use Rattle.std.specs.declared.sync.Arc.{Arc}
use Rattle.std.specs.declared.alloc.Global.{Global}
use Rattle.std.proofs.lemmas.List.{length-map}
use Rattle.std.proofs.lemmas.Bool.Decides.{nat_tests}
use Rattle.vtl_values.specs.declared.value.Value.{Value}
use Rattle.vtl_values.specs.Order.{key_cmp}
use Rattle.vtl_values.proofs.Values.{key_cmp-IsTotalOrder}
use Rattle.data_model.specs.Maps.{is_listed}
use Rattle.data_model.specs.declared.TheConstants.{POINT_LIMIT}
use Rattle.data_model.proofs.MapLemmas.{is_listed-keys}
use Rattle.point_sets.specs.declared.point.Point.{Point}
use Rattle.point_sets.specs.DataSets.{DataSet}
use Rattle.point_sets.specs.Changes.{values_of, with_change}
use Rattle.revision_judge.specs.declared.cause.Cause.{Cause}
use Rattle.revision_judge.specs.declared.cause.Cause.TheVariants.{KeyTwice, NoSuchPoint, SetFull}
use Rattle.revision_judge.specs.declared.stop.RowStop.{RowStop}
use Rattle.revision_judge.specs.declared.stop.RowStop.TheVariants.{Refused}
use Rattle.revision_judge.specs.declared.tally.Tally.{Tally}
use Rattle.revision_judge.specs.Rows.{Progress, Ask, Put, Remove, grown, granted}
use Rattle.revision_judge.specs.Tallies.{IsTally, AnswersRow, with_point}
use Rattle.revision_judge.proofs.TallyLemmas.{tally-grown}

-- ---- what is granted

module _ (p : Progress) (key : List Value) where
  put-full : (rest : List Value) → is_listed key_cmp p.keys key ≡ false → POINT_LIMIT < len (insert p.set key rest) → granted p (Put key rest) ≡ Err SetFull
  put-full rest e many = let test : nat_le (len (insert p.set key rest)) POINT_LIMIT ≡ false = grind (arith, nat_tests, many) in rw (e, test) refl

  put-fits : (rest : List Value) → is_listed key_cmp p.keys key ≡ false → len (insert p.set key rest) ≤ POINT_LIMIT → granted p (Put key rest) ≡ Ok (grown p key (insert p.set key rest))
  put-fits rest e few = let test : nat_le (len (insert p.set key rest)) POINT_LIMIT ≡ true = grind (arith, nat_tests, few) in rw (e, test) refl

  remove-none : is_listed key_cmp p.keys key ≡ false → is_some (get p.set key) ≡ false → granted p (Remove key) ≡ Err NoSuchPoint
  remove-none e none = rw (e, none) refl

  remove-some : is_listed key_cmp p.keys key ≡ false → is_some (get p.set key) ≡ true → granted p (Remove key) ≡ Ok (grown p key (remove p.set key))
  remove-some e some = rw (e, some) refl

-- a cause that is passed on
pub cause-passed : {A : Type 0} (before : DataSet) (u : Tally) (meaning : Result Progress Cause) (answer : Result A RowStop) (cause : Cause) → meaning ≡ Err cause → IsErrAnd answer (λ given. given ≡ Refused cause) → AnswersRow before u meaning answer
cause-passed before u meaning (Ok done) cause h is = absurd is
cause-passed {A} before u meaning (Err given) cause h is = subst (λ (s : RowStop). AnswersRow {A = A} before u meaning (Err s)) (sym is) h

-- ---- how many points there are

there : (old : Option (Arc Point Global)) → is_some (values_of old) ≡ is_some old
there None = refl
there (Some point) = refl

some_listed : {K : Type 0} (test : K → Bool) (ks : List K) → list_any test ks ≡ true → 0 < length ks
some_listed test [] h = cc
some_listed test (k ∷ ks) h = omega arith

some_points : (m : DataSet) (key : List Value) → is_some (get m key) ≡ true → 1 ≤ len m
some_points m key h =
    let listed : 0 < length (keys m) = some_listed (eq_by_cmp key_cmp key) (keys m) (is_listed-keys key_cmp-IsTotalOrder m key ∙ h) in
    let all = len-entries m in
    let same = length-map (entries m) (λ (e : List Value × List Value). e.0) in
    omega (arith, listed, all, same)

module _ (before : DataSet) (t : Tally) (p : Progress) (h : IsTally before t p) (key : List Value) (old : Option (Arc Point Global)) (absent : contains key_cmp t.keys key ≡ false) (is : values_of old ≡ get before key) where
  unlisted : is_listed key_cmp p.keys key ≡ false
  unlisted = sym (h.keys key) ∙ absent

  there-now : is_some (get p.set key) ≡ is_some old
  there-now = ap is_some (h.others key unlisted ∙ sym is) ∙ there old

  len-put : (rest : List Value) → len (insert p.set key rest) ≡ with_point (is_some old) t.points
  len-put rest = len-insert key_cmp-IsTotalOrder p.set key rest ∙ (λ i. cond (there-now i) (sym h.points i) (sym h.points i + 1))

  len-removed : is_some old ≡ true → t.points - 1 ≡ len (remove p.set key)
  len-removed some = sym (len-remove key_cmp-IsTotalOrder p.set key ∙ (λ i. cond ((there-now ∙ some) i) (len p.set - 1) (len p.set)) ∙ ap (λ n. n - 1) (sym h.points))

  pub counted : is_some old ≡ true → 1 ≤ t.points
  counted some = subst (λ n. 1 ≤ n) (sym h.points) (some_points p.set key (there-now ∙ some))

  pub remove-refused : is_some old ≡ false → granted p (Remove key) ≡ Err NoSuchPoint
  remove-refused none = remove-none p key unlisted (there-now ∙ none)

  pub put-refused : (rest : List Value) → POINT_LIMIT < with_point (is_some old) t.points → granted p (Put key rest) ≡ Err SetFull
  put-refused rest many = put-full p key rest unlisted (subst (λ n. POINT_LIMIT < n) (sym (len-put rest)) many)

  module _ (u : Tally) (added : (q : List Value) → contains key_cmp u.keys q ≡ cond (eq_by_cmp key_cmp key q) true (contains key_cmp t.keys q)) where
    pub put-granted : (rest : List Value) → u.points ≡ with_point (is_some old) t.points → u.points ≤ POINT_LIMIT → u.notes ≡ with_change t.notes key (values_of old) (Some rest) → IsOkAnd (granted p (Put key rest)) (IsTally before u)
    put-granted rest points few noted =
        let now : u.points ≡ len (insert p.set key rest) = points ∙ sym (len-put rest) in
        let within : len (insert p.set key rest) ≤ POINT_LIMIT = subst (λ n. n ≤ POINT_LIMIT) now few in
        subst (λ (r : Result Progress Cause). IsOkAnd r (IsTally before u)) (sym (put-fits p key rest unlisted within))
        (tally-grown before t u p h key (values_of old) (Some rest) (insert p.set key rest) absent added (sym is) noted (get-insert key_cmp-IsTotalOrder p.set key rest) now within)

    pub remove-granted : is_some old ≡ true → u.points ≡ t.points - 1 → u.notes ≡ with_change t.notes key (values_of old) None → IsOkAnd (granted p (Remove key)) (IsTally before u)
    remove-granted some points noted =
        let now : u.points ≡ len (remove p.set key) = points ∙ len-removed some in
        let was : t.points ≤ POINT_LIMIT = subst (λ n. n ≤ POINT_LIMIT) (sym h.points) h.few in
        let fewer : u.points ≤ POINT_LIMIT = omega (arith, points, was) in
        let within : len (remove p.set key) ≤ POINT_LIMIT = subst (λ n. n ≤ POINT_LIMIT) now fewer in
        subst (λ (r : Result Progress Cause). IsOkAnd r (IsTally before u)) (sym (remove-some p key unlisted (there-now ∙ some)))
        (tally-grown before t u p h key (values_of old) None (remove p.set key) absent added (sym is) noted (get-remove key_cmp-IsTotalOrder p.set key) now within)

-- ---- a row is counted once

module _ (p q : Progress) where
  by_tests : (listed fits : Bool) (why : Cause) (next : Progress) → next.rows ≡ p.rows + 1 → cond listed (let r : Result Progress Cause = Err KeyTwice in r) (cond fits (Ok next) (Err why)) ≡ Ok q → q.rows ≡ p.rows + 1
  by_tests true fits why next h e = let bad : true ≡ false = ap is_err e in cc
  by_tests false true why next h e = ap (λ (r : Result Progress Cause). (result_unwrap_or r next).rows) (sym e) ∙ h
  by_tests false false why next h e = let bad : true ≡ false = ap is_err e in cc

  -- a row that is granted is one row more
  pub rows-granted : (ask : Ask) → granted p ask ≡ Ok q → q.rows ≡ p.rows + 1
  rows-granted (Put key rest) e = by_tests (is_listed key_cmp p.keys key) (nat_le (len (insert p.set key rest)) POINT_LIMIT) SetFull (grown p key (insert p.set key rest)) refl e
  rows-granted (Remove key) e = by_tests (is_listed key_cmp p.keys key) (is_some (get p.set key)) NoSuchPoint (grown p key (remove p.set key)) refl e
