-- Where components take more values, so do structures.
use Rattle.std.proofs.Common.{◌≡◌, List, [], ◌∷◌, map, Bool, true, false, cond, Option, Some, None, sym, ap, subst}
use Rattle.std.specs.Option.{IfSome}
use Rattle.std.specs.Prelude.{filter, not}
use Rattle.std.specs.List.{AllZip}
use Rattle.std.specs.FinMap.{get}
use Rattle.vtl_values.specs.declared.structure.Component.{Component}
use Rattle.vtl_values.specs.declared.value.Value.{Value}
use Rattle.point_sets.specs.DataSets.{DataSet}
use Rattle.structured_sets.specs.Fitting.{is_identifier, identifiers, others, FitsComponent, FitsIdentifier, IsPointOf, IsBoundedSetOf}
use Rattle.data_set_trees.specs.checked.Operators.{unnamed, AreSameButNames}

-- the second takes each value that the first takes, and is an identifier where that is one
pub record IsOpener (c d : Component) : Type 0 where
  pub opens : (v : Value) → FitsComponent c v → FitsComponent d v
  pub same : is_identifier c ≡ is_identifier d

FitsIdentifier-opened : (c d : Component) (v : Value) → IsOpener c d → FitsIdentifier c v → FitsIdentifier d v
FitsIdentifier-opened c d v o h = record { fits = o.opens v h.fits; some = h.some }

AllZip-opened : (F : Component → Value → Type 0) → ((c d : Component) (v : Value) → IsOpener c d → F c v → F d v) → (cs ds : List Component) (vs : List Value) → AllZip IsOpener cs ds → AllZip F cs vs → AllZip F ds vs
AllZip-opened F fits [] [] vs o h = h
AllZip-opened F fits [] (d ∷ ds) vs o h = absurd o
AllZip-opened F fits (c ∷ cs) [] vs o h = absurd o
AllZip-opened F fits (c ∷ cs) (d ∷ ds) [] o h = absurd h
AllZip-opened F fits (c ∷ cs) (d ∷ ds) (v ∷ vs) o h = (fits c d v o.0 h.0, AllZip-opened F fits cs ds vs o.1 h.1)

-- of the components that pass a test that goes by whether one is an identifier
module _ (of : Bool → Bool) where
  abbrev passing : List Component → List Component
  passing = filter (λ c. of (is_identifier c))

  passing-opened : (cs ds : List Component) → AllZip IsOpener cs ds → AllZip IsOpener (passing cs) (passing ds)
  passing-opened [] [] o = o
  passing-opened [] (d ∷ ds) o = absurd o
  passing-opened (c ∷ cs) [] o = absurd o
  passing-opened (c ∷ cs) (d ∷ ds) o =
      let later : AllZip IsOpener (passing cs) (passing ds) = passing-opened cs ds o.1 in
      subst (λ b. AllZip IsOpener (passing (c ∷ cs)) (cond (of b) (d ∷ passing ds) (passing ds))) o.0.same
      (elim (of (is_identifier c)) as (λ b. AllZip IsOpener (cond b (c ∷ passing cs) (passing cs)) (cond b (d ∷ passing ds) (passing ds))) [ true ↦ (o.0, later) | false ↦ later ])

IsPointOf-opened : (cs ds : List Component) (key rest : List Value) → AllZip IsOpener cs ds → IsPointOf cs key rest → IsPointOf ds key rest
IsPointOf-opened cs ds key rest o h = record {
  key_fits = AllZip-opened FitsIdentifier FitsIdentifier-opened (identifiers cs) (identifiers ds) key (passing-opened (λ b. b) cs ds o) h.key_fits;
  rest_fits = AllZip-opened FitsComponent (λ c d v o. o.opens v) (others cs) (others ds) rest (passing-opened not cs ds o) h.rest_fits;
}

-- a data set of a structure is one of the structure of components that take more
pub IsBoundedSetOf-opened : (cs ds : List Component) (m : DataSet) → AllZip IsOpener cs ds → IsBoundedSetOf cs m → IsBoundedSetOf ds m
IsBoundedSetOf-opened cs ds m o h = record { fits = λ k. point (get m k) k (h.fits k); few = h.few }
  where
    point : (p : Option (List Value)) (k : List Value) → IfSome p (IsPointOf cs k) → IfSome p (IsPointOf ds k)
    point None k i = tt
    point (Some rest) k i = IsPointOf-opened cs ds k rest o i

-- a function makes components that take more
pub all-opened : (f : Component → Component) → ((c : Component) → IsOpener c (f c)) → (cs : List Component) → AllZip IsOpener cs (map f cs)
all-opened f opens [] = tt
all-opened f opens (c ∷ cs) = (opens c, all-opened f opens cs)

-- ---- names

renamed-opened : (c d : Component) → unnamed c ≡ unnamed d → IsOpener d c
renamed-opened c d e = record { opens = λ v h. named v (subst (λ (u : Component). FitsComponent u v) (sym e) (record { kind = h.kind; codes = h.codes })); same = ap is_identifier (sym e) }
  where
    named : (v : Value) → FitsComponent (unnamed c) v → FitsComponent c v
    named v h = record { kind = h.kind; codes = h.codes }

all-renamed : (cs ds : List Component) → AreSameButNames cs ds → AllZip IsOpener ds cs
all-renamed [] [] e = tt
all-renamed [] (d ∷ ds) e = cc
all-renamed (c ∷ cs) [] e = cc
all-renamed (c ∷ cs) (d ∷ ds) e = (renamed-opened c d cc, all-renamed cs ds cc)

-- whether a data set is of a structure doesn't go by the components' names
pub IsBoundedSetOf-renamed : (cs ds : List Component) (m : DataSet) → AreSameButNames cs ds → IsBoundedSetOf ds m → IsBoundedSetOf cs m
IsBoundedSetOf-renamed cs ds m e h = IsBoundedSetOf-opened ds cs m (all-renamed cs ds e) h
