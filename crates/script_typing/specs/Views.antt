-- How far the code has come with the typing of a script.
use Rattle.statement_typing.specs.Names.{naming_of}
use Rattle.script_typing.specs.declared.typing.Typing.{Typing}
use Rattle.script_typing.specs.States.{SoFar}

abbrev pub so_far : Typing → SoFar
so_far t = record { naming = naming_of t.names; states = t.states }
