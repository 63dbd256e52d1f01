-- Limits that a production takes.
use Rattle.std.specs.Prelude.{◌≤◌}
use Rattle.round_core.specs.declared.limits.Limits.{Limits}
use Rattle.round_core.specs.declared.limits.TheConstants.{ENTRY_LIMIT, FIELD_LIMIT, SCRIPT_LIMIT}

pub record AreAllowed (limits : Limits) : Type 0 where
  pub entries : limits.entries ≤ ENTRY_LIMIT
  pub fields : limits.fields ≤ FIELD_LIMIT
  pub some_script : 1 ≤ limits.scripts
  pub scripts : limits.scripts ≤ SCRIPT_LIMIT
