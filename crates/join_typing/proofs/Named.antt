-- The structures of data sets in a join.
use Rattle.std.proofs.Common.{◌≡◌, ◌≢◌, refl, ℕ, zero, suc, ◌+◌, ◌<◌, ◌≤◌, Bool, true, false, List, [], ◌∷◌, map, length, ap, sym, subst, ◌∙◌, if◌then◌else◌, arith}
use Rattle.std.specs.Prelude.{encode_utf8}
use Rattle.std.specs.List.{All, AllPairs}
use Rattle.std.specs.Str.{chars, IsAscii}
use Rattle.std.proofs.lemmas.Str.{encode_ascii, chars-IsAscii}
use Rattle.std.proofs.lemmas.List.Elements.{All-nil, All-cons, All-head, All-tail, All-weaker}
use Rattle.std.proofs.lemmas.List.Kept.{AllPairs-cons}
use Rattle.vtl_values.specs.declared.kind.Role.TheVariants.{Viral}
use Rattle.vtl_values.specs.declared.structure.Codes.TheVariants.{Any}
use Rattle.vtl_values.specs.declared.structure.Component.{Component}
use Rattle.vtl_values.specs.Structures.{IsStructure}
use Rattle.data_set_trees.specs.declared.clauses.frame.Frame.{Frame}
use Rattle.data_set_trees.specs.clauses.Frames.{has_role}
use Rattle.expression_rules.specs.PointClauses.{after}
use Rattle.data_set_trees.proofs.clauses.Parts.{pairs_head, pairs_tail}
use Rattle.data_set_trees.specs.Components.{unlisted, names_differ}
use Rattle.data_set_trees.specs.Joins.{numbered}
use Rattle.expression_rules.specs.JoinClauses.{Placed}
use Rattle.data_set_parts.specs.Joins.{IsSound}
use Rattle.data_set_parts.proofs.Fits.{structure_is, names_apart, unlisted_is}
use Rattle.join_typing.specs.Inside.{FitInside, EachFits}
use Rattle.join_typing.proofs.Order.{InOrder}

abbrev called : List ℕ → Component → Component
called name c = record c { name = name }

all_numbered : (P : Component → Type 0) → ((c : Component) (name : List ℕ) → P c → P (called name c)) → (n : ℕ) (cs : List Component) → All P cs → All P (numbered n cs)
all_numbered P keeps n [] all = All-nil P
all_numbered P keeps n (c ∷ cs) all = All-cons P (called ((48 + n) ∷ []) c) (numbered (n + 1) cs) (keeps c ((48 + n) ∷ []) (All-head P c cs all)) (all_numbered P keeps (n + 1) cs (All-tail P c cs all))

order_numbered : (n : ℕ) (cs : List Component) → AllPairs InOrder cs → AllPairs InOrder (numbered n cs)
order_numbered n [] pairs = pairs
order_numbered n (c ∷ cs) pairs =
    AllPairs-cons InOrder (called ((48 + n) ∷ []) c) (numbered (n + 1) cs)
    (all_numbered (InOrder c) (λ d name h. h) (n + 1) cs (pairs_head InOrder c cs pairs))
    (order_numbered (n + 1) cs (pairs_tail InOrder c cs pairs))

digits_differ : (m n : ℕ) → m < n → (48 + m) ∷ [] ≢ (48 + n) ∷ []
digits_differ m n below same = let digit : 48 + m ≡ 48 + n = cc in omega (arith, below, digit)

-- a number below the first is that of none
later_differ : (m n : ℕ) (cs : List Component) → m < n → All (λ c. (48 + m) ∷ [] ≢ c.name) (numbered n cs)
later_differ m n [] below = All-nil (λ c. (48 + m) ∷ [] ≢ c.name)
later_differ m n (c ∷ cs) below = All-cons (λ d. (48 + m) ∷ [] ≢ d.name) (called ((48 + n) ∷ []) c) (numbered (n + 1) cs) (digits_differ m n below) (later_differ m (n + 1) cs (omega (arith, below)))

names_numbered : (n : ℕ) (cs : List Component) → AllPairs (λ a b. a.name ≢ b.name) (numbered n cs)
names_numbered n [] = λ i j d below within. absurd (omega (arith, within))
names_numbered n (c ∷ cs) = AllPairs-cons (λ a b. a.name ≢ b.name) (called ((48 + n) ∷ []) c) (numbered (n + 1) cs) (later_differ n (n + 1) cs (omega arith)) (names_numbered (n + 1) cs)

numbered_is : (cs : List Component) → FitInside cs → IsStructure (numbered 0 cs)
numbered_is cs fit = structure_is (numbered 0 cs) (order_numbered 0 cs fit.in_order) (names_numbered 0 cs) (all_numbered IsSound (λ c name own. record { viral_listed = own.viral_listed; codes_fit = own.codes_fit }) 0 cs fit.sound)

-- a name changes nothing of its code list
called_unlisted : (name : List ℕ) (c : Component) → unlisted (called name c) ≡ called name (unlisted c)
called_unlisted name c = elim (has_role Viral c) as (λ (b : Bool). (if b then called name c else record (called name c) { codes = Any }) ≡ called name (if b then c else record c { codes = Any })) [ true ↦ refl | false ↦ refl ]

pub numbered_unlisted : (n : ℕ) (cs : List Component) → numbered n (map unlisted cs) ≡ map unlisted (numbered n cs)
numbered_unlisted n [] = refl
numbered_unlisted n (c ∷ cs) = λ i. sym (called_unlisted ((48 + n) ∷ []) c) i ∷ numbered_unlisted (n + 1) cs i

-- before the end its components are called by their numbers
pub numbered_structure : (cs : List Component) → FitInside cs → IsStructure (numbered 0 (map unlisted cs))
numbered_structure cs fit = subst IsStructure (sym (numbered_unlisted 0 cs)) (unlisted_is (numbered 0 cs) (numbered_is cs fit))

-- at the end names differ
pub named_structure : (cs : List Component) → FitInside cs → names_differ cs ≡ true → IsStructure (map unlisted cs)
named_structure cs fit differ = unlisted_is cs (structure_is cs fit.in_order (names_apart cs differ) fit.sound)

-- what comes first fits
pub first_fits : (cs : List Placed) (frame : Frame) → EachFits cs frame → FitInside frame.components
first_fits [] frame fit = fit
first_fits (c ∷ cs) frame fit = fit.0

pub rest_fits : (c : Placed) (cs : List Placed) (frame : Frame) → EachFits (c ∷ cs) frame → EachFits cs (after c.clause frame)
rest_fits c cs frame fit = fit.1

-- ---- digits

pub digit_chars : (n : ℕ) → n < 128 → chars (encode_utf8 n) ≡ n ∷ []
digit_chars n small = ap chars (encode_ascii n small) ∙ chars-IsAscii (n ∷ []) ascii
  where
    ascii : IsAscii (n ∷ [])
    ascii zero = small
    ascii (suc i) = omega arith
