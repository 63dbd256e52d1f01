-- How an operator's own pending is settled.
use Rattle.std.specs.Prelude.{◌≡◌, [], length, ⊤}
use Rattle.transform_nodes.specs.Trees.{Plain, Source, Operates}
use Rattle.transform_nodes.specs.declared.work.Settle.{Settle}
use Rattle.transform_nodes.specs.declared.work.Settle.TheVariants.{Apply, Forget}

-- the operator with what is pending of itself put in place, or without it
abbrev pub own_settled : Settle → Plain → Plain
own_settled settle (Source n) = Source n
own_settled Apply (Operates rule place ps held points pending pending_points) = Operates rule place ps pending pending_points [] 0
own_settled Forget (Operates rule place ps held points pending pending_points) = Operates rule place ps held points [] 0

-- it has a patch for each held set
abbrev pub CanSettleOwn : Settle → Plain → Type 0
CanSettleOwn settle (Source n) = ⊤
CanSettleOwn Apply (Operates rule place ps held points pending pending_points) = length pending ≡ length held
CanSettleOwn Forget (Operates rule place ps held points pending pending_points) = ⊤
