-- What a writer makes of a tree.
use Rattle.std.specs.Prelude.{ℕ, zero, suc, ◌+◌, ◌*◌, Bool, List, [], ◌∷◌, map}
use Rattle.vtl_syntax.specs.declared.operator.DefinedOperator.{DefinedOperator}
use Rattle.vtl_syntax.specs.declared.operator.Param.{Param}
use Rattle.vtl_syntax.specs.declared.expr.Expr.{Expr, size-Expr}
use Rattle.defined_operators.specs.declared.writer.Writer.{Writer}
use Rattle.operator_faults.specs.Outlines.{outlined}
use Rattle.tree_copies.specs.Made.{Names, Calls, made}
use Rattle.replaced_calls.specs.Replacing.{bound}
use Rattle.defined_operators.specs.Uses.{stands_in, flags_of, uses_of}
use Rattle.defined_operators.specs.Callings.{level, called}

abbrev pub names : Writer → Names
names w = bound w.params.now w.arguments.now

abbrev pub calls : Writer → Calls
calls w = called w.calling w.operators.now

-- which arguments of a call are used
abbrev pub flags : Writer → List ℕ → List Bool
flags w name = flags_of w.operators.now (uses_of w.operators.now (level w.calling)) name

abbrev pub writes : Writer → Expr → Expr
writes w = made (names w) (calls w)

-- which parameters stand in an operator's body as it is written
abbrev pub used_by : Writer → DefinedOperator → List Bool
used_by w o = map (λ (p : Param). stands_in p.name (outlined (writes w o.body))) o.params

-- ---- how far a writer goes

-- more than five times the depth of each operator's body
abbrev pub weight : List DefinedOperator → ℕ
weight [] = 5
weight (o ∷ os) = 5 * size-Expr o.body + weight os

abbrev pub times : ℕ → ℕ → ℕ
times zero w = 0
times (suc n) w = times n w + w

abbrev pub far : Writer → ℕ
far w = times (level w.calling) (weight w.operators.now)

-- the operator with its body written
abbrev pub operator_with : (Expr → Expr) → DefinedOperator → DefinedOperator
operator_with f o = record o { body = f o.body }
