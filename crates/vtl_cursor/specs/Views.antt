-- What a function returned, and what reading gives.
use Rattle.std.specs.Prelude.{◌≡◌, ℕ, max, List, [], ◌∷◌, ◌++◌, Option, None, Result, Ok, Err}
use Rattle.vtl_cursor.specs.declared.stop.Limit.{Limit}
use Rattle.vtl_cursor.specs.declared.stop.Limit.TheVariants as limit
use Rattle.vtl_cursor.specs.declared.stop.Kind.{Kind}
use Rattle.vtl_cursor.specs.declared.stop.Kind.TheVariants as stopped
use Rattle.vtl_cursor.specs.declared.stop.Stop.{Stop}
use Rattle.vtl_cursor.specs.declared.stop.Stop.TheVariants as stops
use Rattle.vtl_grammar.specs.Marks as marks
use Rattle.vtl_grammar.specs.Marks.{Tokens}
use Rattle.vtl_grammar.specs.Rules as counted
use Rattle.vtl_grammar.specs.Reading as kinds
use Rattle.vtl_grammar.specs.Reading.{Got, Read, halt, got, ◌>>=◌}

abbrev pub limit_of : Limit → counted.Limit
limit_of limit.Operands = counted.operands
limit_of limit.Rules = counted.rules
limit_of limit.Parameters = counted.parameters
limit_of limit.Statements = counted.statements
limit_of limit.Rulesets = counted.rulesets
limit_of limit.Operators = counted.operators
limit_of limit.Lists = counted.lists

abbrev pub kind_of : Kind → kinds.Kind
kind_of stopped.Expected = kinds.Expected
kind_of stopped.TooDeep = kinds.TooDeep
kind_of (stopped.TooMany l) = kinds.TooMany (limit_of l)

-- the mark with which the tokens begin
abbrev pub mark_at : Tokens → Option marks.Mark
mark_at [] = None
mark_at (t ∷ ts) = marks.mark_in t.what

-- reading stops there and for that reason, unless memory ran out
abbrev pub Fails : {Y : Type 0} → Tokens → Stop → Read Y → Type 0
Fails rest stops.Memory r = Unit {0}
Fails rest (stops.At k) r = r ≡ halt (kind_of k) rest

-- seen by view, what was returned is what reading gives, unless memory ran out
abbrev pub Reads : {X Y : Type 0} → (X → Got Y) → Tokens → Result X Stop → Read Y → Type 0
Reads view rest (Ok x) r = r ≡ Ok (view x)
Reads view rest (Err e) r = Fails rest e r

-- the same of something without levels
abbrev pub Gives : {X : Type 0} → Tokens → Result X Stop → Read X → Type 0
Gives rest result r = Reads (λ x. record { value = x; levels = 0; rest = rest }) rest result r

-- reading gives a value, of which x is what `of` shows
pub record IsShown {V X : Type 0} (of : V → X) (x : X) (rest : Tokens) (r : Read V) : Type 0 where
  pub value : V
  pub reads : r ≡ got value 0 rest
  pub shows : of value ≡ x

-- what was returned is what `of` shows of what reading gives, unless memory ran out
abbrev pub Shows : {V X : Type 0} → (V → X) → Tokens → Result X Stop → Read V → Type 0
Shows of rest (Ok x) r = IsShown of x rest r
Shows of rest (Err e) r = Fails rest e r

-- ---- the same of what has levels

-- what was returned, with its levels, is what reading gives, unless memory ran out
abbrev pub GivesDeep : {X : Type 0} → Tokens → Result (X × ℕ) Stop → Read X → Type 0
GivesDeep rest result r = Reads (λ x. record { value = x.0; levels = x.1; rest = rest }) rest result r

-- reading gives a value with so many levels, of which x is what `of` shows
pub record IsShownDeep {V X : Type 0} (of : V → X) (x : X) (h : ℕ) (rest : Tokens) (r : Read V) : Type 0 where
  pub value : V
  pub reads : r ≡ got value h rest
  pub shows : of value ≡ x

-- what was returned, with its levels, is what `of` shows of what reading gives, unless memory ran out
abbrev pub ShowsDeep : {V X : Type 0} → (V → X) → Tokens → Result (X × ℕ) Stop → Read V → Type 0
ShowsDeep of rest (Ok x) r = IsShownDeep of x.0 x.1 rest r
ShowsDeep of rest (Err e) r = Fails rest e r

-- ---- lists

-- what was read before with its levels, and what is still read
abbrev pub joined : {A : Type 0} → List A → ℕ → Read (List A) → Read (List A)
joined front h r = r >>= λ b. got (front ++ b.value) (max h b.levels) b.rest
