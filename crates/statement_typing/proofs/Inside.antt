-- The clauses inside a join, one after the other.
use Rattle.std.proofs.Common.{◌≡◌, refl, ℕ, List, [], ◌∷◌, ◌++◌, map, Option, Some, None, Result, Ok, Err, ap, sym, subst, ◌∙◌}
use Rattle.std.specs.Option.{option_to_list}
use Rattle.std.proofs.lemmas.List.{append_assoc, append-nil}
use Rattle.vtl_values.specs.declared.place.Place.{Place}
use Rattle.vtl_syntax.specs.declared.words.JoinFunction.{JoinFunction}
use Rattle.vtl_syntax.specs.declared.expr.Clause.{Clause}
use Rattle.scalar_trees.specs.declared.typing.stop.Refusal.{Refusal}
use Rattle.scalar_trees.specs.declared.typing.stop.TypeStop.{TypeStop}
use Rattle.scalar_trees.specs.declared.typing.stop.TypeStop.TheVariants.{Refused, Memory}
use Rattle.scalar_trees.specs.typing.Scalars.{place_of}
use Rattle.scalar_trees.specs.typing.Steps.{◌>>=◌, Refuses}
use Rattle.data_set_trees.specs.declared.clauses.frame.Frame.{Frame}
use Rattle.operator_typing.proofs.Steps.{goes_on, stops_same, stops_there, stops_after}
use Rattle.data_set_trees.specs.declared.operand.Operand.{Operand}
use Rattle.expression_rules.specs.JoinClauses as meant
use Rattle.data_set_trees.specs.Trees.{SetAnswer}
use Rattle.expression_rules.specs.declared.point_clause.PointClause.{PointClause}
use Rattle.expression_rules.specs.OnClauses.{point_checked}
use Rattle.expression_rules.specs.PointClauses.{after}
use Rattle.data_set_parts.proofs.Follows.{assoc, gave}
use Rattle.join_typing.specs.declared.joining.Placed.{Placed}
use Rattle.join_typing.specs.declared.joining.Joining.{Joining}
use Rattle.join_typing.specs.Joining.{placed, begun, finished}
use Rattle.join_typing.proofs.Steps.{joins_by_steps}
use Rattle.statement_typing.specs.declared.joins.Inside.{Inside}
use Rattle.statement_typing.specs.Joins.{clauses_in, put_clause, with_one, with_optional, with_each}

abbrev unplaced : meant.Placed → Placed
unplaced c = record { clause = c.clause; place = c.place }

placed_again : (cs : List meant.Placed) → map placed (map unplaced cs) ≡ cs
placed_again [] = refl
placed_again (c ∷ cs) = ap (λ (ds : List meant.Placed). c ∷ ds) (placed_again cs)

-- with these clauses after those so far
abbrev with_more : Inside → List meant.Placed → Inside
with_more s cs = record { clauses = s.clauses ++ map unplaced cs; frame = meant.after_all cs s.frame }

abbrev with_all : List Clause → Inside → Result Inside Refusal
with_all [] s = Ok s
with_all (c ∷ cs) s = with_one c s >>= with_all cs

more_put : (c : Clause) (s : Inside) (k : PointClause) (checked : List meant.Placed) → with_more (put_clause c s k) checked ≡ with_more s (record { clause = k; place = place_of c } ∷ checked)
more_put c s k checked =
    let own : Placed = record { clause = k; place = place_of c } in
    ap (λ (clauses : List Placed). record { clauses = clauses; frame = meant.after_all checked (after k s.frame) }) (append_assoc s.clauses (own ∷ []) (map unplaced checked))

all_are : (cs : List Clause) (s : Inside) → with_all cs s ≡ (meant.inside cs s.frame >>= (λ checked. Ok (with_more s checked)))
all_are [] s = ap (λ (clauses : List Placed). Ok (record { clauses = clauses; frame = s.frame })) (sym (append-nil s.clauses))
all_are (c ∷ cs) s =
    let found = point_checked c s.frame in
    let own : PointClause → meant.Placed = λ k. record { clause = k; place = place_of c } in
    let others = λ (k : PointClause). meant.inside cs (after k s.frame) in
    let told : Inside → Result Inside Refusal = λ i. Ok i in
    assoc found (λ k. Ok (put_clause c s k)) (with_all cs)
    ∙ (λ i. found >>= (λ k. all_are cs (put_clause c s k) i))
    ∙ (λ i. found >>= (λ k. others k >>= (λ checked. told (more_put c s k checked i))))
    ∙ (λ i. found >>= (λ k. sym (assoc (others k) (λ more. Ok (own k ∷ more)) (λ checked. Ok (with_more s checked))) i))
    ∙ sym (assoc found (λ k. others k >>= (λ more. Ok (own k ∷ more))) (λ checked. Ok (with_more s checked)))

-- ---- clauses that may be left out

optional_first : (o : Option Clause) (cs : List Clause) (s : Inside) → (with_optional o s >>= with_all cs) ≡ with_all (option_to_list o ++ cs) s
optional_first None cs s = refl
optional_first (Some c) cs s = refl

same_answer : (m : Result Inside Refusal) → m ≡ (m >>= (λ s. Ok s))
same_answer (Ok s) = refl
same_answer (Err refusal) = refl

optional_last : (o : Option Clause) (s : Inside) → with_optional o s ≡ with_all (option_to_list o) s
optional_last None s = refl
optional_last (Some c) s = same_answer (with_one c s)

each_are : (u v w x : Option Clause) (s : Inside) → with_each u v w x s ≡ with_all (clauses_in u v w x) s
each_are u v w x s =
    let a = option_to_list u in
    let b = option_to_list v in
    let c = option_to_list w in
    let d = option_to_list x in
    (λ i. with_optional u s >>= (λ p. with_optional v p >>= (λ q. with_optional w q >>= (λ r. optional_last x r i))))
    ∙ (λ i. with_optional u s >>= (λ p. with_optional v p >>= (λ q. optional_first w d q i)))
    ∙ (λ i. with_optional u s >>= (λ p. optional_first v (c ++ d) p i))
    ∙ optional_first u (b ++ (c ++ d)) s
    ∙ ap (λ (cs : List Clause). with_all cs s) (sym (append_assoc a b (c ++ d)) ∙ sym (append_assoc (a ++ b) c d))

same_given : {A : Type 0} (x y : A) → ◌≡◌ {A = Result A Refusal} (Ok x) (Ok y) → x ≡ y
same_given x y h = cc

abbrev pub start : Frame → Inside
start frame = record { clauses = []; frame = frame }

walked : (u v w x : Option Clause) (frame : Frame) → with_each u v w x (start frame) ≡ (meant.inside (clauses_in u v w x) frame >>= (λ checked. Ok (with_more (start frame) checked)))
walked u v w x frame = each_are u v w x (start frame) ∙ all_are (clauses_in u v w x) (start frame)

-- ---- what a walk over them tells

-- the clauses are those that the definition has, and the frame is what they leave
pub record Walked (cs : List Clause) (frame : Frame) (i : Inside) : Type 0 where
  pub checked : meant.inside cs frame ≡ Ok (map placed i.clauses)
  pub ends : i.frame ≡ meant.after_all (map placed i.clauses) frame

pub walk_gave : (u v w x : Option Clause) (frame : Frame) (i : Inside) → with_each u v w x (start frame) ≡ Ok i → Walked (clauses_in u v w x) frame i
walk_gave u v w x frame i is =
    let cs = clauses_in u v w x in
    let found = gave (meant.inside cs frame) (λ checked. Ok (with_more (start frame) checked)) i (sym (walked u v w x frame) ∙ is) in
    let same : with_more (start frame) found.0 ≡ i = same_given (with_more (start frame) found.0) i found.2 in
    let clauses : map placed i.clauses ≡ found.0 = ap (λ (j : Inside). map placed j.clauses) (sym same) ∙ placed_again found.0 in
    record {
      checked = found.1 ∙ ap Ok (sym clauses);
      ends = ap (λ (j : Inside). j.frame) (sym same) ∙ ap (λ (ps : List meant.Placed). meant.after_all ps frame) (sym clauses);
    }

refused_before : (m : Result (List meant.Placed) Refusal) (make : List meant.Placed → Inside) (stop : TypeStop) → Refuses (m >>= (λ x. Ok (make x))) stop → Refuses m stop
refused_before (Ok x) make (Refused refusal) h = cc
refused_before (Ok x) make Memory h = tt
refused_before (Err refusal) make (Refused other) h = let same : refusal ≡ other = cc in ap Err same
refused_before (Err refusal) make Memory h = tt

pub walk_refused : (u v w x : Option Clause) (frame : Frame) (stop : TypeStop) → Refuses (with_each u v w x (start frame)) stop → Refuses (meant.inside (clauses_in u v w x) frame) stop
walk_refused u v w x frame stop h = refused_before (meant.inside (clauses_in u v w x) frame) (with_more (start frame)) stop (subst (λ (m : Result Inside Refusal). Refuses m stop) (walked u v w x frame) h)

-- ---- a join

module _ (f : JoinFunction) (place : Place) (aliases : List (Option (List ℕ))) (cs : List Clause) (operands : List Operand) where
  abbrev ends : Joining → SetAnswer
  ends join = meant.inside cs join.frame >>= finished join

  abbrev whole : SetAnswer
  whole = meant.join_typed f place aliases cs operands

  -- where its operands may be joined, and its clauses have no fault
  pub join_is : (join : Joining) (checked : List meant.Placed) → begun f place aliases operands ≡ Ok join → meant.inside cs join.frame ≡ Ok checked → finished join checked ≡ whole
  join_is join checked first second =
      sym (joins_by_steps f place aliases cs operands ∙ goes_on (begun f place aliases operands) ends join first ∙ goes_on (meant.inside cs join.frame) (finished join) checked second)

  -- where they may not
  pub join_refused : (stop : TypeStop) → Refuses (begun f place aliases operands) stop → Refuses whole stop
  join_refused stop refuses = stops_same (begun f place aliases operands >>= ends) whole stop (sym (joins_by_steps f place aliases cs operands)) (stops_there (begun f place aliases operands) ends stop refuses)

  -- where a clause has a fault
  pub clause_refused : (join : Joining) (stop : TypeStop) → begun f place aliases operands ≡ Ok join → Refuses (meant.inside cs join.frame) stop → Refuses whole stop
  clause_refused join stop first refuses =
      stops_same (begun f place aliases operands >>= ends) whole stop (sym (joins_by_steps f place aliases cs operands))
      (stops_after (begun f place aliases operands) ends join stop first (stops_there (meant.inside cs join.frame) (finished join) stop refuses))
