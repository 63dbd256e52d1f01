-- What a command comes to.
use Rattle.std.specs.Prelude.{ℕ, List}

-- how a command ends: its status, and all that it writes
pub record Answer : Type 0 where
  pub status : ℕ
  pub text : List ℕ
