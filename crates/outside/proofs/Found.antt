-- What a look-up found.
use Rattle.std.proofs.Common.{◌≡◌, Option, Some, None, sym, ap, IfSome, IsNone, ◌↔◌, refl, arith}
use Rattle.std.specs.Option.{option_copied, option_map}
use Rattle.std.specs.Borrow.{Bor}

-- where a reference is found, what it points to is what is there
pub if_copied : {X Y : Type 0} (f : X → Y) (found : Option (Bor X)) (there : Option X) → option_copied found ≡ there → IfSome found (λ v. option_map f there ≡ Some (f v.now))
if_copied f (Some v) there is = ap (option_map f) (sym is)
if_copied f None there is = tt

-- no reference is found exactly where nothing is there
pub none_copied : {X Y : Type 0} (f : X → Y) (found : Option (Bor X)) (there : Option X) → option_copied found ≡ there → IsNone found ↔ (option_map f there ≡ None)
none_copied f (Some v) there is = (λ no. grind arith, λ none. grind (arith, is))
none_copied f None there is = (λ none. ap (option_map f) (sym is), λ none. refl)
