-- What a further code and a further set mean, from what their parts gave.
use Rattle.std.proofs.Common.{◌≡◌, ℕ, ◌<◌, Bool, false, List, [], ◌∷◌, ◌++◌, length, Option, Some, None, Result, Ok, Err, codes, is_some, nat_le, if◌then◌else◌, Bor, sym, ap, subst, ◌∙◌, true≢false, arith}
use Rattle.std.proofs.lemmas.Bool.Decides.{nat_tests}
use Rattle.std.specs.Option.{option_copied}
use Rattle.serde_json.specs.Data.{Data}
use Rattle.vtl_values.specs.Structures.{NamedStructures, structure_of}
use Rattle.structure_files.specs.declared.stop.Fault.TheVariants.{MissingField, NameTwice, TooMany}
use Rattle.structure_files.specs.declared.stop.Field.TheVariants.{Name, Components}
use Rattle.structure_files.specs.declared.stop.Path.TheVariants.{Set, SetField}
use Rattle.structure_files.specs.declared.stop.Refusal.{Refusal}
use Rattle.structure_files.specs.declared.stop.StructureStop.{StructureStop}
use Rattle.structure_files.specs.declared.stop.StructureStop.TheVariants.{Refused, Memory}
use Rattle.structure_files.specs.Fields.{name_at}
use Rattle.structure_files.specs.Json.{list_in}
use Rattle.structure_files.specs.Reading.{components_of, next_set}
use Rattle.structure_files.specs.Refusals.{◌>>=◌, refused, or_refused, Refuses}
use Rattle.structure_files.proofs.Steps.{goes_on, ends}

-- a name that isn't found isn't there
pub is_some-copied : {X : Type 0} (found : Option (Bor X)) (meant : Option X) → option_copied found ≡ meant → false ≡ is_some found → is_some meant ≡ false
is_some-copied None meant same none = ap is_some (sym same)
is_some-copied (Some x) meant same none = absurd (true≢false (sym none))

-- a set whose components are refused, by what stands before them
set_refused_at : (before : NamedStructures) (value : Data) (name : List ℕ) (values : List Data) (refusal : Refusal) → length before < 64 → name_at (SetField (length before) Name) value ≡ Ok name → is_some (structure_of before name) ≡ false
    → Some values ≡ list_in (codes "components") value → components_of (length before) values ≡ Err refusal → next_set before value ≡ Err refusal
set_refused_at before value name values refusal few named new found refuses =
    let n : ℕ = length before in
    let last : List ℕ → List Data → Result NamedStructures Refusal = λ name' values'. components_of n values' >>= (λ components. Ok (before ++ (name', components) ∷ [])) in
    let sets : List ℕ → Result (List Data) Refusal = λ name'. if is_some (structure_of before name') then refused NameTwice (SetField n Name) else or_refused (list_in (codes "components") value) MissingField (SetField n Components) in
    let small : nat_le 64 n ≡ false = grind (arith, nat_tests) in
    let there : sets name ≡ Ok values = ap (λ (b : Bool). if b then refused NameTwice (SetField n Name) else or_refused (list_in (codes "components") value) MissingField (SetField n Components)) new ∙ ap (λ (o : Option (List Data)). or_refused o MissingField (SetField n Components)) (sym found) in
    ap (λ (b : Bool). if b then refused TooMany (Set n) else (name_at (SetField n Name) value >>= (λ name'. sets name' >>= last name'))) small
    ∙ goes_on (name_at (SetField n Name) value) (λ name'. sets name' >>= last name') name named
    ∙ goes_on (sets name) (last name) values there
    ∙ ends (components_of n values) (λ components. Ok (before ++ (name, components) ∷ [])) refusal refuses

set_stops_at : (before : NamedStructures) (value : Data) (name : List ℕ) (values : List Data) (stop : StructureStop) → length before < 64 → name_at (SetField (length before) Name) value ≡ Ok name → is_some (structure_of before name) ≡ false
    → Some values ≡ list_in (codes "components") value → Refuses (components_of (length before) values) stop → Refuses (next_set before value) stop
set_stops_at before value name values (Refused refusal) few named new found refuses = set_refused_at before value name values refusal few named new found refuses
set_stops_at before value name values Memory few named new found refuses = tt

pub set_stops : (before : NamedStructures) (n : ℕ) (value : Data) (name : List ℕ) (values : List Data) (stop : StructureStop) → n ≡ length before → n < 64 → name_at (SetField n Name) value ≡ Ok name → is_some (structure_of before name) ≡ false
    → Some values ≡ list_in (codes "components") value → Refuses (components_of n values) stop → Refuses (next_set before value) stop
set_stops before n value name values stop is few named new found refuses =
    set_stops_at before value name values stop (omega arith) (subst (λ (m : ℕ). name_at (SetField m Name) value ≡ Ok name) is named) new found (subst (λ (m : ℕ). Refuses (components_of m values) stop) is refuses)
