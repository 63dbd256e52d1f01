-- The laws of trees that are made anew.
use Rattle.std.specs.Prelude.{◌≡◌, ℕ, List, map}
use Rattle.vtl_values.specs.declared.place.Place.{Place}
use Rattle.vtl_syntax.specs.declared.expr.Expr.{Expr}
use Rattle.tree_copies.specs.Made.{Names, Calls, made, same_name, same_call}

-- making a tree from one that was made is making it at once
abbrev pub Fuses : Type 0
Fuses = (name name' name'' : Names) (call call' call'' : Calls)
    → ((w : List ℕ) (p : Place) → made name call (name' w p) ≡ name'' w p)
    → ((w : List ℕ) (as' : List Expr) (p : Place) → made name call (call' w as' p) ≡ call'' w (map (made name call) as') p)
    → (e : Expr) → made name call (made name' call' e) ≡ made name'' call'' e

-- where names and calls stay, so does the tree
abbrev pub Stays : Type 0
Stays = (e : Expr) → made same_name same_call e ≡ e
