-- A choice between words or signs is read by its table.
use Rattle.std.proofs.Common.{◌≡◌, List, [], ◌∷◌, Bool, true, false, cond, Option, Some, None, Ok, Err, inl, inr, refl, sym, ap, ◌∙◌, drop}
use Rattle.std.specs.Prelude.{nat_eq, find, is_some, option_map}
use Rattle.vtl_grammar.specs.Marks.{Mark, Tokens, of_mark, sort_of}
use Rattle.vtl_grammar.specs.Rules.{Of}
use Rattle.vtl_grammar.specs.Words.{Words, one_among, chosen_among, one_of, chosen}
use Rattle.vtl_grammar.specs.Reading.{Expected, Read, halt, got, mapped, some, maybe, starts, firsts, no_part}
use Rattle.vtl_grammar.proofs.RuleLaws.{mapped-halts}
use Rattle.vtl_cursor.specs.Choices.{standing}
use Rattle.vtl_cursor.specs.Limits.{limits}
use Rattle.vtl_cursor.specs.Plain.{read_plain}
use Rattle.vtl_cursor.specs.Views.{IsShown}
use Rattle.vtl_cursor.proofs.Shown.{shown}

-- what reading gives where that one stands there
abbrev read_as : {A : Type 0} → Tokens → Option A → Read A
read_as ts None = halt Expected ts
read_as ts (Some x) = got x 0 (drop 1 ts)

some-mapped : {V A : Type 0} (of : V → A) (r : Read V) → mapped (λ v. option_map of v) (mapped some r) ≡ mapped some (mapped of r)
some-mapped of (Ok a) = refl
some-mapped of (Err e) = refl

module _ {A : Type 0} (f : A → Mark) where
  abbrev found : Tokens → List A → Option A
  found ts xs = find (λ z. starts (of_mark (f z) ∷ []) ts) xs

  abbrev read_among : (x : A) (ys : List A) → Tokens → Read (Of (one_among f x ys))
  read_among x ys ts = read_plain limits no_part (one_among f x ys) ts

  other : (x y : A) (ys : List A) (r : Read (Of (one_among f y ys))) → mapped (chosen_among f x (y ∷ ys)) (mapped inr r) ≡ mapped (chosen_among f y ys) r
  other x y ys (Ok a) = refl
  other x y ys (Err e) = refl

  among-read : (x : A) (ys : List A) (ts : Tokens) → mapped (chosen_among f x ys) (read_among x ys ts) ≡ read_as ts (found ts (x ∷ ys))
  among-read x [] [] = refl
  among-read x [] (t ∷ ts) = by_mark (nat_eq (sort_of t.what) (of_mark (f x)))
    where
      by_mark : (b : Bool) → mapped (chosen_among f x []) (cond b (got t.place 0 ts) (halt Expected (t ∷ ts))) ≡ read_as (t ∷ ts) (cond (cond b true false) (Some x) None)
      by_mark true = refl
      by_mark false = refl
  among-read x (y ∷ ys) [] = other x y ys (read_among y ys []) ∙ among-read y ys []
  among-read x (y ∷ ys) (t ∷ ts) = by_mark (nat_eq (sort_of t.what) (of_mark (f x))) (other x y ys (read_among y ys (t ∷ ts)) ∙ among-read y ys (t ∷ ts))
    where
      by_mark : (b : Bool) → mapped (chosen_among f x (y ∷ ys)) (mapped inr (read_among y ys (t ∷ ts))) ≡ read_as (t ∷ ts) (found (t ∷ ts) (y ∷ ys)) → mapped (chosen_among f x (y ∷ ys)) (cond (cond b true false) (mapped inl (cond b (got t.place 0 ts) (halt Expected (t ∷ ts)))) (mapped inr (read_among y ys (t ∷ ts)))) ≡ read_as (t ∷ ts) (cond (cond b true false) (Some x) (found (t ∷ ts) (y ∷ ys)))
      by_mark true behind = refl
      by_mark false behind = behind

  among-starts : (x : A) (ys : List A) (ts : Tokens) → starts (firsts (one_among f x ys)) ts ≡ is_some (found ts (x ∷ ys))
  among-starts x [] [] = refl
  among-starts x [] (t ∷ ts) = by_mark (nat_eq (sort_of t.what) (of_mark (f x)))
    where
      by_mark : (b : Bool) → cond b true false ≡ is_some (cond (cond b true false) (Some x) None)
      by_mark true = refl
      by_mark false = refl
  among-starts x (y ∷ ys) [] = among-starts y ys []
  among-starts x (y ∷ ys) (t ∷ ts) = by_mark (nat_eq (sort_of t.what) (of_mark (f x))) (among-starts y ys (t ∷ ts))
    where
      by_mark : (b : Bool) → starts (firsts (one_among f y ys)) (t ∷ ts) ≡ is_some (found (t ∷ ts) (y ∷ ys)) → cond b true (starts (firsts (one_among f y ys)) (t ∷ ts)) ≡ is_some (cond (cond b true false) (Some x) (found (t ∷ ts) (y ∷ ys)))
      by_mark true behind = refl
      by_mark false behind = behind

module _ {A : Type 0} (w : Words A) (ts : Tokens) where
  abbrev read_one : Read (Of (one_of w))
  read_one = read_plain limits no_part (one_of w) ts

  reads-as : (s : Option A) → s ≡ standing w ts → mapped (chosen w) read_one ≡ read_as ts s
  reads-as s e = among-read w.marked w.first w.others ts ∙ ap (read_as ts) (sym e)

  starts-as : (s : Option A) → s ≡ standing w ts → starts (firsts (one_of w)) ts ≡ is_some s
  starts-as s e = among-starts w.marked w.first w.others ts ∙ ap (λ (z : Option A). is_some z) (sym e)

  -- it stands there
  pub some_read : (x : A) → Some x ≡ standing w ts → IsShown (chosen w) x (drop 1 ts) read_one
  some_read x e = shown (chosen w) (drop 1 ts) x read_one (reads-as (Some x) e)

  pub some_offered : (x : A) → Some x ≡ standing w ts → IsShown (λ v. option_map (chosen w) v) (Some x) (drop 1 ts) (maybe (firsts (one_of w)) (read_plain limits no_part (one_of w)) ts)
  some_offered x e = shown _ _ _ _ (rw (starts-as (Some x) e) (some-mapped (chosen w) read_one ∙ ap (mapped some) (reads-as (Some x) e)))

  -- none stands there
  pub none_read : None ≡ standing w ts → read_one ≡ halt Expected ts
  none_read e = mapped-halts (chosen w) read_one Expected ts (reads-as None e)

  pub none_offered : None ≡ standing w ts → IsShown (λ v. option_map (chosen w) v) None ts (maybe (firsts (one_of w)) (read_plain limits no_part (one_of w)) ts)
  none_offered e = shown _ _ _ _ (rw (starts-as None e) refl)
