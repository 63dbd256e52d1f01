-- Components in the order of their roles.
use Rattle.std.proofs.Common.{◌≡◌, refl, ℕ, ◌+◌, ◌≤◌, Bool, true, false, List, [], ◌∷◌, ◌++◌, length, get_or, ap, sym, subst, ◌∙◌, if◌then◌else◌, arith}
use Rattle.std.specs.List.{All, AllPairs, filter_map, slice_get}
use Rattle.std.proofs.lemmas.List.{length-append}
use Rattle.std.proofs.lemmas.List.Elements.{All-append, All-weaker, filter_map-append}
use Rattle.vtl_values.specs.declared.kind.Role.{Role}
use Rattle.vtl_values.specs.declared.kind.Role.TheVariants.{Identifier, Measure, Attribute, Viral}
use Rattle.vtl_values.specs.declared.structure.Component.{Component}
use Rattle.vtl_values.specs.Structures.{place_of}
use Rattle.data_set_trees.specs.declared.clauses.frame.Frame.{Frame}
use Rattle.data_set_trees.specs.clauses.Frames.{is_role, has_role, numbers_of, numbers_by_role, by_role}
use Rattle.data_set_trees.proofs.clauses.Parts.{left_from, picked_are, left_all}
use Rattle.data_set_trees.proofs.clauses.Ordered.{part, pairs_append, have_role}
use Rattle.data_set_parts.proofs.Fits.{all_across}

abbrev pub InOrder : Component → Component → Type 0
InOrder a b = place_of a.role ≤ place_of b.role

-- their roles stand at this place
abbrev pub At : ℕ → Component → Type 0
At n c = place_of c.role ≡ n

abbrev UpTo : ℕ → Component → Type 0
UpTo n c = place_of c.role ≤ n

-- in order, and up to this place
pub record IsOrdered (n : ℕ) (cs : List Component) : Type 0 where
  pub pairs : AllPairs InOrder cs
  pub up_to : All (UpTo n) cs

at_one : (n : ℕ) (cs : List Component) → All (At n) cs → AllPairs InOrder cs
at_one n cs all = λ i j d below within. let one : At n (get_or cs i d) = all i d (omega arith) in let other : At n (get_or cs j d) = all j d within in omega (arith, one, other)

up_to_more : (m n : ℕ) → m ≤ n → (cs : List Component) → All (UpTo m) cs → All (UpTo n) cs
up_to_more m n below cs all = All-weaker (UpTo m) (UpTo n) (λ c here. omega (arith, here)) cs all

-- those of one place are in order
pub ordered_at : (n : ℕ) (cs : List Component) → All (At n) cs → IsOrdered n cs
ordered_at n cs all = record { pairs = at_one n cs all; up_to = All-weaker (At n) (UpTo n) (λ c here. omega (arith, here)) cs all }

-- and those of a later place may follow
pub ordered_append : (m n : ℕ) → m ≤ n → (xs ys : List Component) → IsOrdered m xs → All (At n) ys → IsOrdered n (xs ++ ys)
ordered_append m n below xs ys first second = record {
  pairs = pairs_append InOrder xs ys first.pairs (at_one n ys second) (all_across InOrder (UpTo m) (At n) (λ x y one other. omega (arith, one, other)) xs ys first.up_to second);
  up_to = All-append (UpTo n) xs ys (up_to_more m n below xs first.up_to) (ordered_at n ys second).up_to;
}

-- ---- components by role

abbrev pub ordered : List Component → List Component
ordered cs = ((part Identifier cs ++ part Measure cs) ++ part Attribute cs) ++ part Viral cs

pub ordered_are : (frame : Frame) → (by_role frame).components ≡ ordered frame.components
ordered_are frame =
    let cs = frame.components in
    let at = filter_map (slice_get cs) in
    let i = numbers_of Identifier cs in
    let m = numbers_of Measure cs in
    let a = numbers_of Attribute cs in
    let v = numbers_of Viral cs in
    let is = λ (r : Role). picked_are (λ number. has_role r) [] cs in
    let two : at (i ++ m) ≡ part Identifier cs ++ part Measure cs = filter_map-append (slice_get cs) i m ∙ (λ q. is Identifier q ++ is Measure q) in
    let three : at ((i ++ m) ++ a) ≡ (part Identifier cs ++ part Measure cs) ++ part Attribute cs = filter_map-append (slice_get cs) (i ++ m) a ∙ (λ q. two q ++ is Attribute q) in
    filter_map-append (slice_get cs) ((i ++ m) ++ a) v ∙ (λ q. three q ++ is Viral q)

part_at : (r : Role) (cs : List Component) → All (At (place_of r)) (part r cs)
part_at r cs = All-weaker (λ c. r ≡ c.role) (At (place_of r)) (λ c is. ap place_of (sym is)) (part r cs) (have_role r 0 cs)

pub ordered_in_order : (cs : List Component) → AllPairs InOrder (ordered cs)
ordered_in_order cs =
    let i = part Identifier cs in
    let m = part Measure cs in
    let a = part Attribute cs in
    let two = ordered_append 0 1 (omega arith) i m (ordered_at 0 i (part_at Identifier cs)) (part_at Measure cs) in
    let three = ordered_append 1 2 (omega arith) (i ++ m) a two (part_at Attribute cs) in
    (ordered_append 2 3 (omega arith) ((i ++ m) ++ a) (part Viral cs) three (part_at Viral cs)).pairs

pub all_ordered : (P : Component → Type 0) (cs : List Component) → All P cs → All P (ordered cs)
all_ordered P cs all =
    let of = λ (r : Role). left_all P (λ number. has_role r) 0 cs all in
    let two = All-append P (part Identifier cs) (part Measure cs) (of Identifier) (of Measure) in
    All-append P ((part Identifier cs ++ part Measure cs) ++ part Attribute cs) (part Viral cs) (All-append P (part Identifier cs ++ part Measure cs) (part Attribute cs) two (of Attribute)) (of Viral)

-- ---- how many they are

abbrev count : Role → ℕ → List Component → ℕ
count r n cs = length (left_from (λ number. has_role r) n cs)

abbrev sum_of : ℕ → List Component → ℕ
sum_of n cs = ((count Identifier n cs + count Measure n cs) + count Attribute n cs) + count Viral n cs

-- each component has one role
counted : (n : ℕ) (cs : List Component) → sum_of n cs ≡ length cs
counted n [] = refl
counted n (c ∷ cs) =
    let i = left_from (λ number. has_role Identifier) (n + 1) cs in
    let m = left_from (λ number. has_role Measure) (n + 1) cs in
    let a = left_from (λ number. has_role Attribute) (n + 1) cs in
    let v = left_from (λ number. has_role Viral) (n + 1) cs in
    let rest : ((length i + length m) + length a) + length v ≡ length cs = counted (n + 1) cs in
    elim (c.role) as (λ (r : Role). ((length (if is_role Identifier r then c ∷ i else i) + length (if is_role Measure r then c ∷ m else m)) + length (if is_role Attribute r then c ∷ a else a)) + length (if is_role Viral r then c ∷ v else v) ≡ length (c ∷ cs)) [
      | Identifier ↦ omega (arith, rest)
      | Measure ↦ omega (arith, rest)
      | Attribute ↦ omega (arith, rest)
      | Viral ↦ omega (arith, rest)
    ]

pub length-ordered : (cs : List Component) → length (ordered cs) ≡ length cs
length-ordered cs =
    let i = part Identifier cs in
    let m = part Measure cs in
    let a = part Attribute cs in
    let v = part Viral cs in
    let rest = counted 0 cs in
    let one = length-append ((i ++ m) ++ a) v in
    let two = length-append (i ++ m) a in
    let three = length-append i m in
    omega (arith, rest, one, two, three)

-- ---- those that pass are no more

pub length-left : (passes : ℕ → Component → Bool) (n : ℕ) (cs : List Component) → length (left_from passes n cs) ≤ length cs
length-left passes n [] = omega arith
length-left passes n (c ∷ cs) =
    let rest = left_from passes (n + 1) cs in
    let more : length rest ≤ length cs = length-left passes (n + 1) cs in
    elim (passes n c) as (λ (b : Bool). length (if b then c ∷ rest else rest) ≤ length (c ∷ cs)) [
      | true ↦ omega (arith, more)
      | false ↦ omega (arith, more)
    ]
