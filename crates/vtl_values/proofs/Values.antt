-- Values in their order, which is total, and in which only equal values tie.
use Rattle.std.proofs.Common.{◌≡◌, ℕ, ℤ, pos, List, [], ◌∷◌, Bool, true, false, map, if◌then◌else◌, ap, refl, arith}
use Rattle.std.proofs.lemmas.Bool.Decides.{nat_tests}
use Rattle.std.specs.declared.cmp.Ordering.{Ordering}
use Rattle.std.specs.declared.cmp.Ordering.TheVariants.{Less, Equal, Greater}
use Rattle.std.specs.Ordering.{nat_cmp, int_cmp, bool_cmp, ordering_then}
use Rattle.std.specs.Cmp.{IsTotalOrder, on_total, int_cmp_total}
use Rattle.std.specs.Cmp.Lexicographic.{slice_cmp, lists_total}
use Rattle.std.specs.FinMap.{IsAntisymmetric, int_cmp-IsAntisymmetric, slice_cmp-IsAntisymmetric}
use Rattle.vtl_values.specs.declared.value.Value.{Value}
use Rattle.vtl_values.specs.declared.value.Value.TheVariants.{Null, Truth, Integer, Number, Text}
use Rattle.vtl_values.specs.contracts.value.ValueOrd.TheImpl as derived
use Rattle.vtl_values.specs.Order.{ranked, value_cmp, key_cmp}

alone : (o : Ordering) → o ≡ ordering_then o Equal
alone Less = refl
alone Equal = refl
alone Greater = refl

truths : (x y : Bool) → bool_cmp x y ≡ ordering_then (int_cmp (if x then pos 1 else pos 0) (if y then pos 1 else pos 0)) Equal
truths true true = refl
truths true false = refl
truths false true = refl
truths false false = refl

chars : (c d : ℕ) → nat_cmp c d ≡ int_cmp (pos c) (pos d)
chars c d = grind (arith, nat_tests)

texts : (x y : List ℕ) → slice_cmp nat_cmp x y ≡ slice_cmp int_cmp (map pos x) (map pos y)
texts [] [] = refl
texts [] (d ∷ y) = refl
texts (c ∷ x) [] = refl
texts (c ∷ x) (d ∷ y) = λ i. ordering_then (chars c d i) (texts x y i)

-- the order that the derive writes is that of values
pub cmp-is : (a b : Value) → (derived.ghosts).cmp a b ≡ value_cmp a b
cmp-is Null Null = refl
cmp-is Null (Truth y) = refl
cmp-is Null (Integer y) = refl
cmp-is Null (Number y) = refl
cmp-is Null (Text y) = refl
cmp-is (Truth x) Null = refl
cmp-is (Truth x) (Truth y) = truths x y
cmp-is (Truth x) (Integer y) = refl
cmp-is (Truth x) (Number y) = refl
cmp-is (Truth x) (Text y) = refl
cmp-is (Integer x) Null = refl
cmp-is (Integer x) (Truth y) = refl
cmp-is (Integer x) (Integer y) = alone (int_cmp x y)
cmp-is (Integer x) (Number y) = refl
cmp-is (Integer x) (Text y) = refl
cmp-is (Number x) Null = refl
cmp-is (Number x) (Truth y) = refl
cmp-is (Number x) (Integer y) = refl
cmp-is (Number x) (Number y) = alone (int_cmp x y)
cmp-is (Number x) (Text y) = refl
cmp-is (Text x) Null = refl
cmp-is (Text x) (Truth y) = refl
cmp-is (Text x) (Integer y) = refl
cmp-is (Text x) (Number y) = refl
cmp-is (Text x) (Text y) = texts x y

pub value_cmp-IsTotalOrder : IsTotalOrder value_cmp
value_cmp-IsTotalOrder = on_total ranked (lists_total int_cmp_total)

pub key_cmp-IsTotalOrder : IsTotalOrder key_cmp
key_cmp-IsTotalOrder = lists_total value_cmp-IsTotalOrder

second_of : List ℤ → ℤ
second_of [] = pos 0
second_of (x ∷ []) = pos 0
second_of (x ∷ y ∷ zs) = y

tail_of : List ℤ → List ℤ
tail_of [] = []
tail_of (x ∷ xs) = xs

same_truth : (a b : Bool) → (if a then pos 1 else pos 0) ≡ (if b then pos 1 else pos 0) → a ≡ b
same_truth true true h = refl
same_truth false false h = refl
same_truth true false h = cc
same_truth false true h = cc

same_chars : (xs ys : List ℕ) → map pos xs ≡ map pos ys → xs ≡ ys
unfolding tail_of
same_chars [] [] h = refl
same_chars [] (y ∷ ys) h = cc
same_chars (x ∷ xs) [] h = cc
same_chars (x ∷ xs) (y ∷ ys) h =
    let head : x ≡ y = cc in
    let rest : xs ≡ ys = same_chars xs ys (ap tail_of h) in
    (λ i. head i ∷ rest i)

-- equal ranks and contents are those of one value
same_value : (a b : Value) → ranked a ≡ ranked b → a ≡ b
unfolding second_of tail_of
same_value Null Null h = refl
same_value Null (Truth y) h = cc
same_value Null (Integer y) h = cc
same_value Null (Number y) h = cc
same_value Null (Text y) h = cc
same_value (Truth x) Null h = cc
same_value (Truth x) (Truth y) h = ap Truth (same_truth x y (ap second_of h))
same_value (Truth x) (Integer y) h = cc
same_value (Truth x) (Number y) h = cc
same_value (Truth x) (Text y) h = cc
same_value (Integer x) Null h = cc
same_value (Integer x) (Truth y) h = cc
same_value (Integer x) (Integer y) h = ap Integer (ap second_of h)
same_value (Integer x) (Number y) h = cc
same_value (Integer x) (Text y) h = cc
same_value (Number x) Null h = cc
same_value (Number x) (Truth y) h = cc
same_value (Number x) (Integer y) h = cc
same_value (Number x) (Number y) h = ap Number (ap second_of h)
same_value (Number x) (Text y) h = cc
same_value (Text x) Null h = cc
same_value (Text x) (Truth y) h = cc
same_value (Text x) (Integer y) h = cc
same_value (Text x) (Number y) h = cc
same_value (Text x) (Text y) h = ap Text (same_chars x y (ap tail_of h))

pub value_cmp-IsAntisymmetric : IsAntisymmetric value_cmp
value_cmp-IsAntisymmetric a b e = same_value a b (slice_cmp-IsAntisymmetric int_cmp-IsAntisymmetric (ranked a) (ranked b) e)

pub key_cmp-IsAntisymmetric : IsAntisymmetric key_cmp
key_cmp-IsAntisymmetric = slice_cmp-IsAntisymmetric value_cmp-IsAntisymmetric
