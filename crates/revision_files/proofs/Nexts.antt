-- What comes of a further row and of a further block.
use Rattle.std.proofs.Common.{◌≡◌, ◌≢◌, ℕ, ◌+◌, ◌-◌, ◌<◌, ◌≤◌, Bool, true, false, List, [], ◌∷◌, ◌++◌, length, Option, Some, None, Result, Ok, Err, cond, nat_lt, refl, sym, ap, ◌∙◌, arith}
use Rattle.std.specs.Prelude.{◌==◌, ◌&&◌, ◌||◌, not}
use Rattle.std.proofs.lemmas.Bool.{eqb-true}
use Rattle.point_sets.specs.declared.revision.Action.{Action}
use Rattle.point_sets.specs.declared.revision.Part.{Part}
use Rattle.point_sets.specs.declared.revision.Revision.{Revision}
use Rattle.vtl_values.specs.Structures.{NamedStructures, structure_of}
use Rattle.revision_files.specs.declared.columns.Columns.{Columns}
use Rattle.revision_files.specs.declared.rows.BlockRows.{BlockRows}
use Rattle.revision_files.specs.declared.stop.FeedFault.{FeedFault}
use Rattle.revision_files.specs.declared.stop.FeedFault.TheVariants.{BadAction, BadHeader, FieldCount, TooMany}
use Rattle.revision_files.specs.declared.stop.FeedStop.{FeedStop}
use Rattle.revision_files.specs.declared.stop.FeedStop.TheVariants.{Refused, Memory}
use Rattle.revision_files.specs.Answers.{◌>>=◌, or_fault, Refuses}
use Rattle.revision_files.specs.Blocks.{after_line, is_further, set_of}
use Rattle.revision_files.specs.Feeds.{Feed, MOST_BLOCKS, join_last, next_block, rows_in, with_part}
use Rattle.revision_files.specs.Rows.{MOST_FIELDS, MOST_ROWS, action_of, fields_counted, next_row, row_with, text_in}
use Rattle.revision_files.proofs.Steps.{ends, goes_on, stops_there}

-- the parts of `next_row`
abbrev too_many : Columns → BlockRows → Bool
too_many columns before = nat_lt MOST_ROWS (length before.rows + 1) || nat_lt MOST_FIELDS (before.fields + fields_counted columns)

abbrev read_row : ℕ → Columns → BlockRows → List (List ℕ) → Option Action → Result BlockRows FeedFault
read_row block columns before texts action = or_fault (BadAction block (length before.rows + 1)) action
    >>= (λ action. Ok (record { rows = before.rows ++ row_with columns texts action ∷ []; fields = before.fields + fields_counted columns }))

abbrev fitting_row : ℕ → Columns → BlockRows → List (List ℕ) → Bool → Result BlockRows FeedFault
fitting_row block columns before texts other = cond other (Err (FieldCount block (length before.rows + 1))) (read_row block columns before texts (action_of (text_in texts columns.action)))

pub row_many : (block : ℕ) (columns : Columns) (before : BlockRows) (texts : List (List ℕ)) → too_many columns before ≡ true → next_row block columns before texts ≡ Err (TooMany block (length before.rows + 1))
row_many block columns before texts many = ap (λ b. cond b (Err (TooMany block (length before.rows + 1))) (fitting_row block columns before texts (not (length texts == columns.width)))) many

row_fits : (block : ℕ) (columns : Columns) (before : BlockRows) (texts : List (List ℕ)) (other : Bool) → too_many columns before ≡ false → not (length texts == columns.width) ≡ other → next_row block columns before texts ≡ fitting_row block columns before texts other
row_fits block columns before texts other few is =
    ap (λ b. cond b (Err (TooMany block (length before.rows + 1))) (fitting_row block columns before texts (not (length texts == columns.width)))) few
    ∙ ap (fitting_row block columns before texts) is

pub row_short : (block : ℕ) (columns : Columns) (before : BlockRows) (texts : List (List ℕ)) → too_many columns before ≡ false → (length texts == columns.width) ≡ false → next_row block columns before texts ≡ Err (FieldCount block (length before.rows + 1))
row_short block columns before texts few other = row_fits block columns before texts true few (ap not other)

pub row_idle : (block : ℕ) (columns : Columns) (before : BlockRows) (texts : List (List ℕ)) → too_many columns before ≡ false → (length texts == columns.width) ≡ true → action_of (text_in texts columns.action) ≡ None → next_row block columns before texts ≡ Err (BadAction block (length before.rows + 1))
row_idle block columns before texts few same none = row_fits block columns before texts false few (ap not same) ∙ ap (read_row block columns before texts) none

pub row_read : (block : ℕ) (columns : Columns) (before : BlockRows) (texts : List (List ℕ)) (action : Action) → too_many columns before ≡ false → (length texts == columns.width) ≡ true → action_of (text_in texts columns.action) ≡ Some action
    → next_row block columns before texts ≡ Ok (record { rows = before.rows ++ row_with columns texts action ∷ []; fields = before.fields + fields_counted columns })
row_read block columns before texts action few same some = row_fits block columns before texts false few (ap not same) ∙ ap (read_row block columns before texts) some

-- the parts of `next_block`
abbrev read_block : NamedStructures → Feed → List ℕ → Result Feed FeedFault
read_block structures before block = rows_in (structure_of structures (set_of block)) (before.blocks + 1) before.fields (after_line block)
    >>= (λ rows. Ok (record { revisions = with_part before.revisions (is_further block) (record { set = set_of block; rows = rows.rows }); blocks = before.blocks + 1; fields = rows.fields }))

abbrev placed_block : NamedStructures → Feed → List ℕ → Bool → Result Feed FeedFault
placed_block structures before block lone = cond lone (Err (BadHeader (before.blocks + 1))) (read_block structures before block)

pub block_many : (structures : NamedStructures) (before : Feed) (block : List ℕ) → nat_lt MOST_BLOCKS (before.blocks + 1) ≡ true → next_block structures before block ≡ Err (TooMany (before.blocks + 1) 0)
block_many structures before block many = ap (λ b. cond b (Err (TooMany (before.blocks + 1) 0)) (placed_block structures before block (is_further block && (before.blocks == 0)))) many

block_placed : (structures : NamedStructures) (before : Feed) (block : List ℕ) (lone : Bool) → nat_lt MOST_BLOCKS (before.blocks + 1) ≡ false → (is_further block && (before.blocks == 0)) ≡ lone → next_block structures before block ≡ placed_block structures before block lone
block_placed structures before block lone few is =
    ap (λ b. cond b (Err (TooMany (before.blocks + 1) 0)) (placed_block structures before block (is_further block && (before.blocks == 0)))) few
    ∙ ap (placed_block structures before block) is

pub block_lone : (structures : NamedStructures) (before : Feed) (block : List ℕ) → nat_lt MOST_BLOCKS (before.blocks + 1) ≡ false → (is_further block && (before.blocks == 0)) ≡ true → next_block structures before block ≡ Err (BadHeader (before.blocks + 1))
block_lone structures before block few lone = block_placed structures before block true few lone

block_refused : (structures : NamedStructures) (before : Feed) (block : List ℕ) (stop : FeedStop) → nat_lt MOST_BLOCKS (before.blocks + 1) ≡ false → (is_further block && (before.blocks == 0)) ≡ false → Refuses (read_block structures before block) stop → Refuses (next_block structures before block) stop
block_refused structures before block (Refused fault) few placed refuses = block_placed structures before block false few placed ∙ refuses
block_refused structures before block Memory few placed refuses = tt

pub block_stops : (structures : NamedStructures) (before : Feed) (block : List ℕ) (stop : FeedStop) → nat_lt MOST_BLOCKS (before.blocks + 1) ≡ false → (is_further block && (before.blocks == 0)) ≡ false
    → Refuses (rows_in (structure_of structures (set_of block)) (before.blocks + 1) before.fields (after_line block)) stop → Refuses (next_block structures before block) stop
block_stops structures before block stop few placed refuses = block_refused structures before block stop few placed (stops_there (rows_in (structure_of structures (set_of block)) (before.blocks + 1) before.fields (after_line block)) _ stop refuses)

pub block_read : (structures : NamedStructures) (before : Feed) (block : List ℕ) (rows : BlockRows) → nat_lt MOST_BLOCKS (before.blocks + 1) ≡ false → (is_further block && (before.blocks == 0)) ≡ false
    → rows_in (structure_of structures (set_of block)) (before.blocks + 1) before.fields (after_line block) ≡ Ok rows
    → next_block structures before block ≡ Ok (record { revisions = with_part before.revisions (is_further block) (record { set = set_of block; rows = rows.rows }); blocks = before.blocks + 1; fields = rows.fields })
block_read structures before block rows few placed is = block_placed structures before block false few placed ∙ goes_on (rows_in (structure_of structures (set_of block)) (before.blocks + 1) before.fields (after_line block)) _ rows is

-- a further part goes to the last of the revisions
pub join_last-push : (revisions : List Revision) (last : Revision) (part : Part) → join_last (revisions ++ last ∷ []) part ≡ revisions ++ (record { parts = last.parts ++ part ∷ [] }) ∷ []
join_last-push [] last part = refl
join_last-push (revision ∷ []) last part = refl
join_last-push (revision ∷ next ∷ revisions) last part = ap (λ rest. revision ∷ rest) (join_last-push (next ∷ revisions) last part)

-- a part that is further, and has a block before it
pub lone_not : (further : Bool) (blocks : ℕ) → blocks ≢ 0 → (further && (blocks == 0)) ≡ false
lone_not true blocks some = by (blocks == 0) refl
  where
    by : (t : Bool) → (blocks == 0) ≡ t → t ≡ false
    by true is = absurd (some (eqb-true blocks 0 is))
    by false is = refl
lone_not false blocks some = refl
