-- The stage of the structures: those that a file gives, or the line of its fault (docs/formats.md, "Structures").
use Rattle.std.specs.Prelude.{List, ℕ, ◌++◌, Result, Ok, Err, codes}
use Rattle.vtl_values.specs.Structures.{NamedStructures}
use Rattle.structure_files.specs.declared.stop.Fault.{Fault}
use Rattle.structure_files.specs.declared.stop.Fault.TheVariants.{NotJson, MissingField, BadRole, BadType, NameTwice, NoIdentifier, TooMany, BadName, BadCodes}
use Rattle.structure_files.specs.declared.stop.Refusal.{Refusal}
use Rattle.structure_files.specs.Paths.{path_text}
use Rattle.structure_files.specs.Reading.{structures_of}
use Rattle.round_runs.specs.Answers.{Answer}
use Rattle.commands.specs.Stages.{Stage}

-- a fault, as the end of its line
abbrev pub fault_end : Fault → List ℕ
fault_end NotJson = codes "NotJson\n"
fault_end MissingField = codes "MissingField\n"
fault_end BadRole = codes "BadRole\n"
fault_end BadType = codes "BadType\n"
fault_end NameTwice = codes "NameTwice\n"
fault_end NoIdentifier = codes "NoIdentifier\n"
fault_end TooMany = codes "TooMany\n"
fault_end BadName = codes "BadName\n"
fault_end BadCodes = codes "BadCodes\n"

-- a structure file that is refused, at the path of its fault
abbrev pub refused_structures : Refusal → Answer
refused_structures refusal = record { status = 3; text = codes "structures " ++ (path_text refusal.path ++ (codes " " ++ fault_end refusal.fault)) }

abbrev pub told_structures : Result NamedStructures Refusal → Stage NamedStructures
told_structures (Ok structures) = Ok structures
told_structures (Err refusal) = Err (refused_structures refusal)

-- the structures that the bytes of a file give
abbrev pub structures_in : List ℕ → Stage NamedStructures
structures_in bytes = told_structures (structures_of bytes)
