-- What was returned is what reading gives, from one equation.
use Rattle.std.proofs.Common.{◌≡◌, ℕ, Result, Ok, Err, refl, ap, subst}
use Rattle.vtl_grammar.specs.Marks.{Tokens}
use Rattle.vtl_grammar.specs.Reading.{Kind, Got, Read, halt, got, mapped}
use Rattle.vtl_cursor.specs.declared.stop.Stop.{Stop}
use Rattle.vtl_cursor.specs.declared.stop.Stop.TheVariants as stops
use Rattle.vtl_cursor.specs.Views.{Fails, Reads, kind_of, IsShown, IsShownDeep}

abbrev done : {A : Type 0} → Got A → Read A
done a = Ok a

ok_is : {A : Type 0} (a b : Got A) → done a ≡ done b → a ≡ b
ok_is a b e = cc

-- what reading gives, seen by `of`, is what was returned
pub shown : {V X : Type 0} (of : V → X) (rest : Tokens) (x : X) (r : Read V) → mapped of r ≡ got x 0 rest → IsShown of x rest r
shown of rest x (Ok a) e =
    let same = ok_is (record { value = of a.value; levels = a.levels; rest = a.rest }) (record { value = x; levels = 0; rest = rest }) e in
    let levels-is : a.levels ≡ 0 = ap (λ (g : Got _). g.levels) same in
    let rest-is : a.rest ≡ rest = ap (λ (g : Got _). g.rest) same in
    record { value = a.value; reads = rw (levels-is, rest-is) refl; shows = ap (λ (g : Got _). g.value) same }
shown of rest x (Err e) is = absurd cc

-- the same with levels
pub shown_deep : {V X : Type 0} (of : V → X) (rest : Tokens) (x : X) (h : ℕ) (r : Read V) → mapped of r ≡ got x h rest → IsShownDeep of x h rest r
shown_deep of rest x h (Ok a) e =
    let same = ok_is (record { value = of a.value; levels = a.levels; rest = a.rest }) (record { value = x; levels = h; rest = rest }) e in
    let levels-is : a.levels ≡ h = ap (λ (g : Got _). g.levels) same in
    let rest-is : a.rest ≡ rest = ap (λ (g : Got _). g.rest) same in
    record { value = a.value; reads = rw (levels-is, rest-is) refl; shows = ap (λ (g : Got _). g.value) same }
shown_deep of rest x h (Err e) is = absurd cc

-- a fault of a part is that of the whole
pub fails-too : {Y Z : Type 0} (e : Stop) (rest : Tokens) (r : Read Y) (q : Read Z) → ((k : Kind) → r ≡ halt k rest → q ≡ halt k rest) → Fails rest e r → Fails rest e q
fails-too stops.Memory rest r q step f = tt
fails-too (stops.At k) rest r q step f = step (kind_of k) f

-- what was returned is what reading gives, also where that is written in another way
pub reads-along : {X Y : Type 0} (view : X → Got Y) (rest : Tokens) (x : Result X Stop) (r q : Read Y) → r ≡ q → Reads view rest x r → Reads view rest x q
reads-along view rest x r q e h = subst (λ (z : Read _). Reads view rest x z) e h
