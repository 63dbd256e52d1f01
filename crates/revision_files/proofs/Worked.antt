-- Feeds that are worked out from the definition.
use Rattle.std.proofs.Common.{◌≡◌, ℕ, List, [], ◌∷◌, ◌++◌, Ok, Err, codes, refl}
use lib.Utf8.{encode}
use Rattle.std.specs.Str.{chars, is_utf8}
use Rattle.csv.specs.Machine.{next_record}
use Rattle.csv.specs.Reading.{records_from, strip_bom}
use Rattle.point_sets.specs.declared.revision.Action.{Action}
use Rattle.point_sets.specs.declared.revision.Action.TheVariants.{Put, Remove}
use Rattle.point_sets.specs.declared.revision.Part.{Part}
use Rattle.point_sets.specs.declared.revision.RawField.{RawField}
use Rattle.point_sets.specs.declared.revision.RawField.TheVariants.{Empty, Given}
use Rattle.point_sets.specs.declared.revision.RawRow.{RawRow}
use Rattle.point_sets.specs.declared.revision.Revision.{Revision}
use Rattle.vtl_values.specs.declared.kind.Kind.TheVariants.{Number, Text}
use Rattle.vtl_values.specs.declared.kind.Role.TheVariants.{Identifier, Measure}
use Rattle.vtl_values.specs.declared.structure.Codes.TheVariants.{Any}
use Rattle.vtl_values.specs.declared.structure.Component.{Component}
use Rattle.vtl_values.specs.Structures.{NamedStructures}
use Rattle.revision_files.specs.declared.stop.FeedFault.TheVariants.{BadAction, BadHeader, FieldCount, NotUtf8}
use Rattle.revision_files.specs.Feeds.{feed_of}

pub components : List Component
components = record { name = codes "Id"; role = Identifier; kind = Text; codes = Any } ∷ record { name = codes "Me"; role = Measure; kind = Number; codes = Any } ∷ []

-- the data sets A and B
pub named : NamedStructures
named = (codes "A", components) ∷ (codes "B", components) ∷ []

pub put_row : List ℕ → List ℕ → RawRow
put_row id me = record { action = Put; fields = Given id ∷ Given me ∷ [] }

pub part_of : List ℕ → List RawRow → Part
part_of set rows = record { set = set; rows = rows }

pub no_feed : feed_of named [] ≡ Ok []
unfolding named chars is_utf8 encode strip_bom
no_feed = refl

-- a block for each data set
pub two_blocks : feed_of named (codes "@A\n:action,Id,Me\nput,x,10\nput,y,5\n@B\n:action,Id,Me\nput,x,2.5\n")
    ≡ Ok (record { parts = part_of (codes "A") (put_row (codes "x") (codes "10") ∷ put_row (codes "y") (codes "5") ∷ []) ∷ [] } ∷ record { parts = part_of (codes "B") (put_row (codes "x") (codes "2.5") ∷ []) ∷ [] } ∷ [])
unfolding named components part_of put_row chars is_utf8 encode strip_bom next_record records_from
two_blocks = refl

-- one revision of two parts, with blank lines before it and a carriage return at each line's end
pub further_part : feed_of named (codes " \r\n@ A \r\n:action,Id,Me\r\nput,x,1\r\n@+B\r\n:action,Id,Me\r\nremove,x,")
    ≡ Ok (record { parts = part_of (codes "A") (put_row (codes "x") (codes "1") ∷ []) ∷ part_of (codes "B") (record { action = Remove; fields = Given (codes "x") ∷ Empty ∷ [] } ∷ []) ∷ [] } ∷ [])
unfolding named components part_of put_row chars is_utf8 encode strip_bom next_record records_from
further_part = refl

-- the columns of a header in any order, and a field in quotes
pub other_order : feed_of named (codes "@A\nMe,:action,Id\n2.5,put,\"a,b\"\n") ≡ Ok (record { parts = part_of (codes "A") (put_row (codes "a,b") (codes "2.5") ∷ []) ∷ [] } ∷ [])
unfolding named components part_of put_row chars is_utf8 encode strip_bom next_record records_from
other_order = refl

-- a data set that isn't known
pub not_known : feed_of named (codes "@C\nx,:action,x\n1,put,2\n") ≡ Ok (record { parts = part_of (codes "C") (put_row (codes "1") (codes "2") ∷ []) ∷ [] } ∷ [])
unfolding named components part_of put_row chars is_utf8 encode strip_bom next_record records_from
not_known = refl

-- the first fault
pub short_row : feed_of named (codes "@A\n:action,Id,Me\nput,x\nput,y,2,3\n") ≡ Err (FieldCount 1 1)
unfolding named components chars is_utf8 encode strip_bom next_record records_from
short_row = refl

pub no_action : feed_of named (codes "@A\n:action,Id,Me\nput,x,1\nPut,y,2\n") ≡ Err (BadAction 1 2)
unfolding named components chars is_utf8 encode strip_bom next_record records_from
no_action = refl

pub line_before : feed_of named (codes "x\n@A\n") ≡ Err (BadHeader 0)
unfolding named components chars is_utf8 encode strip_bom next_record records_from
line_before = refl

pub further_first : feed_of named (codes "@+A\n:action,Id,Me\n") ≡ Err (BadHeader 1)
unfolding named components chars is_utf8 encode strip_bom next_record records_from
further_first = refl

pub no_header : feed_of named (codes "@A\n:action,Id,Me\n@B\n\n") ≡ Err (BadHeader 2)
unfolding named components chars is_utf8 encode strip_bom next_record records_from
no_header = refl

pub name_twice : feed_of named (codes "@A\n:action,Id,Me,Id\n") ≡ Err (BadHeader 1)
unfolding named components chars is_utf8 encode strip_bom next_record records_from
name_twice = refl

pub not_utf8 : feed_of named (codes "x\n" ++ 255 ∷ []) ≡ Err NotUtf8
unfolding named components chars is_utf8 encode strip_bom next_record records_from
not_utf8 = refl
