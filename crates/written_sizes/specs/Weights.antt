-- What an outline weighs once its calls are replaced, from one form for each operator.
use Rattle.std.specs.Prelude.{ℕ, zero, suc, ◌+◌, List, [], ◌∷◌, ◌++◌, Option, Some, None, map, fold, drop, length, position, slice_get, slice_index, ◌==◌, if◌then◌else◌}
use Rattle.vtl_syntax.specs.declared.words.Sort.{Sort}
use Rattle.vtl_syntax.specs.declared.operator.DefinedOperator.{DefinedOperator}
use Rattle.vtl_syntax.specs.declared.operator.Param.{Param}
use Rattle.operator_faults.specs.declared.outline.What.{What}
use Rattle.operator_faults.specs.declared.outline.What.TheVariants as what
use Rattle.operator_faults.specs.declared.outline.Outline.{Outline, fold-Outline, out-Outline}
use Rattle.operator_faults.specs.declared.outline.Outline.TheOpen.{Outline-F}
use Rattle.operator_faults.specs.Names.{same_word}
use Rattle.operator_faults.specs.Calls.{operator_of, is_dataset}
use Rattle.operator_faults.specs.Outlines.{outlined}
use Rattle.written_sizes.specs.declared.measure.Measure.{Measure}
use Rattle.written_sizes.specs.declared.measure.Measure.TheVariants as measure
use Rattle.written_sizes.specs.declared.form.Form.{Form}
use Rattle.written_sizes.specs.declared.form.Share.{Share}
use Rattle.written_sizes.specs.declared.form.Share.TheVariants as share
use Rattle.written_sizes.specs.Arithmetic.{Arithmetic, factor, alone}

-- ---- what stands above its parts, which weigh this; `unit` is the weight of a name, or 0 where only parts count

abbrev pub start : Arithmetic → Measure → ℕ → What → ℕ
start r m unit w = r.multiply (alone m w) unit

abbrev pub node : Arithmetic → Measure → ℕ → What → List ℕ → ℕ
node r m unit w ns = r.multiply (factor m w) (fold r.add (start r m unit w) ns)

abbrev pub typed : Arithmetic → Measure → ℕ → Sort → ℕ → ℕ
typed r m unit s n = if is_dataset s then n else node r m unit what.Plain (n ∷ [])

abbrev pub returned : Arithmetic → Measure → ℕ → Option Sort → ℕ → ℕ
returned r m unit None n = n
returned r m unit (Some s) n = typed r m unit s n

abbrev pub argument : Arithmetic → Measure → ℕ → Option Param → ℕ → ℕ
argument r m unit None n = n
argument r m unit (Some p) n = typed r m unit p.sort n

-- ---- a call of an operator, which has a form

-- the form of the first operator of that name
abbrev pub form_of : List DefinedOperator → List Form → List ℕ → Option Form
form_of [] forms w = None
form_of (o ∷ os) [] w = None
form_of (o ∷ os) (f ∷ fs) w = if same_word o.name w then Some f else form_of os fs w

-- a call that stays
abbrev pub staying : Measure → ℕ
staying measure.Expressions = 1
staying measure.Levels = 2

abbrev pub own_of : Measure → Option Form → ℕ
own_of m None = staying m
own_of m (Some f) = f.own

abbrev pub times_of : Measure → Option Form → ℕ → ℕ
times_of m None i = staying m
times_of m (Some f) i = slice_index f.times i

-- with one argument more, from that number of arguments on
abbrev pub with_arguments : Arithmetic → Measure → ℕ → List Param → Option Form → ℕ → ℕ → List ℕ → ℕ
with_arguments r m unit params form i n [] = n
with_arguments r m unit params form i n (a ∷ as') = with_arguments r m unit params form (i + 1) (r.add n (r.multiply (times_of m form i) (argument r m unit (slice_get params i) a))) as'

abbrev pub all_times : Option Form → List ℕ
all_times None = []
all_times (Some f) = f.times

-- a parameter without an argument stays a name
abbrev pub with_names : Arithmetic → ℕ → ℕ → List ℕ → ℕ
with_names r unit n ts = fold (λ k t. r.add k (r.multiply t unit)) n ts

abbrev pub params_of : Option DefinedOperator → List Param
params_of None = []
params_of (Some o) = o.params

abbrev pub returns_of : Option DefinedOperator → Option Sort
returns_of None = None
returns_of (Some o) = o.returns

abbrev pub applied : Arithmetic → Measure → ℕ → List Param → Option Form → List ℕ → ℕ
applied r m unit params form as' = with_names r unit (with_arguments r m unit params form 0 (r.multiply (own_of m form) unit) as') (drop (length as') (all_times form))

abbrev pub call_weight : Arithmetic → Measure → ℕ → List DefinedOperator → List Form → List ℕ → List ℕ → ℕ
call_weight r m unit operators forms w as' = returned r m unit (returns_of (operator_of operators w)) (applied r m unit (params_of (operator_of operators w)) (form_of operators forms w) as')

-- ---- an outline

abbrev pub weight_by : Arithmetic → Measure → ℕ → (List ℕ → ℕ) → (List ℕ → List ℕ → ℕ) → What → List ℕ → ℕ
weight_by r m unit names calls (what.Name s) ns = names s.name
weight_by r m unit names calls (what.Call c) ns = calls c.name ns
weight_by r m unit names calls what.Plain ns = node r m unit what.Plain ns
weight_by r m unit names calls what.Level ns = node r m unit what.Level ns
weight_by r m unit names calls what.Inside ns = node r m unit what.Inside ns
weight_by r m unit names calls what.InsideJoin ns = node r m unit what.InsideJoin ns

abbrev pub weigh_step : Arithmetic → Measure → ℕ → (List ℕ → ℕ) → (List ℕ → List ℕ → ℕ) → Outline-F ℕ → ℕ
weigh_step r m unit names calls o = weight_by r m unit names calls o.what o.parts

-- where names and calls weigh this
abbrev pub weighed : Arithmetic → Measure → ℕ → (List ℕ → ℕ) → (List ℕ → List ℕ → ℕ) → Outline → ℕ
weighed r m unit names calls = fold-Outline ℕ (weigh_step r m unit names calls)

-- ---- the share that one parameter has in it, or its own without parameters

abbrev pub unit_of : Share → ℕ
unit_of share.Own = 1
unit_of (share.Of i) = 0

abbrev pub name_at : Share → Option ℕ → ℕ
name_at share.Own None = 1
name_at share.Own (Some j) = 0
name_at (share.Of i) None = 0
name_at (share.Of i) (Some j) = if j == i then 1 else 0

abbrev pub number_in : List Param → List ℕ → Option ℕ
number_in params w = position (λ (p : Param). same_word p.name w) params

abbrev pub name_weight : List Param → Share → List ℕ → ℕ
name_weight params s w = name_at s (number_in params w)

abbrev pub weight : Arithmetic → Measure → List DefinedOperator → List Form → List Param → Share → Outline → ℕ
weight r m operators forms params s = weighed r m (unit_of s) (name_weight params s) (call_weight r m (unit_of s) operators forms)

-- what stands at the top, above its parts
abbrev pub node_weight : Arithmetic → Measure → List DefinedOperator → List Form → List Param → Share → Outline → ℕ
node_weight r m operators forms params s o = node r m (unit_of s) (out-Outline o).what (map (weight r m operators forms params s) (out-Outline o).parts)

-- ---- the forms of all operators, where so many calls stand inside each other

-- of each parameter, so many
abbrev pub shares : (ℕ → ℕ) → ℕ → List ℕ
shares f zero = []
shares f (suc n) = shares f n ++ f n ∷ []

abbrev pub form : Arithmetic → Measure → List DefinedOperator → List Form → List Param → Outline → Form
form r m operators forms params body = record { own = weight r m operators forms params share.Own body; times = shares (λ i. weight r m operators forms params (share.Of i) body) (length params) }

abbrev pub next_forms : Arithmetic → Measure → List DefinedOperator → List Form → List Form
next_forms r m operators forms = map (λ (o : DefinedOperator). form r m operators forms o.params (outlined o.body)) operators

abbrev pub forms : Arithmetic → Measure → List DefinedOperator → ℕ → List Form
forms r m operators zero = []
forms r m operators (suc n) = next_forms r m operators (forms r m operators n)
