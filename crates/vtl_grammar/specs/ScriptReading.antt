-- Reading a script.
use Rattle.std.specs.Prelude.{ℕ, zero, suc, ◌+◌, ◌-◌, List, [], ◌∷◌, Bool, true, false, nat_lt, if◌then◌else◌}
use Rattle.vtl_tokens.specs.declared.keyword.Keyword.TheVariants as words
use Rattle.vtl_syntax.specs.declared.script.Script.{Script}
use Rattle.vtl_grammar.specs.Marks.{key, of_mark}
use Rattle.vtl_grammar.specs.Rules.{Counts, rulesets}
use Rattle.vtl_grammar.specs.Rulesets.{ruleset_rule}
use Rattle.vtl_grammar.specs.Operators.{operator_rule}
use Rattle.vtl_grammar.specs.Scripts.{PieceKind, a_statement, a_ruleset, an_operator, limit_of, piece_rule, piece_tree, Piece, script_of}
use Rattle.vtl_grammar.specs.Reading.{Expected, TooMany, Reader, halt, got, ◌>>=◌, mapped, both, choice, cons, firsts, read, part_at}

abbrev pub read_piece : Counts → ℕ → PieceKind → Reader Piece
read_piece L d k ts = mapped (λ v. (k, piece_tree k v)) (read L (part_at L d) (piece_rule k) ts)

-- ---- how many pieces may still come

abbrev pub Left : Type 0
Left = PieceKind → ℕ

abbrev pub same_kind : PieceKind → PieceKind → ℕ
same_kind a_statement a_statement = 1
same_kind a_ruleset a_ruleset = 1
same_kind an_operator an_operator = 1
same_kind _ _ = 0

-- one less of that kind
abbrev pub fewer : PieceKind → Left → Left
fewer k left j = left j - same_kind j k

abbrev pub total : Left → ℕ
total left = left a_statement + left a_ruleset + left an_operator

-- one of these kinds may still come
abbrev pub any_left : Left → List PieceKind → Bool
any_left left [] = false
any_left left (k ∷ ks) = if nat_lt 0 (left k) then true else any_left left ks

-- ---- the kind of the piece that begins

-- with what a statement begins, and with what a definition does
abbrev pub statement_firsts : List ℕ
statement_firsts = 0 ∷ []

abbrev pub definition_firsts : List ℕ
definition_firsts = of_mark (key words.Define) ∷ []

-- the kinds of definitions
abbrev pub definitions : List PieceKind
definitions = a_ruleset ∷ an_operator ∷ []

-- what may stand after `define` in a definition of that kind
abbrev pub kind_firsts : PieceKind → List ℕ
kind_firsts a_statement = []
kind_firsts a_ruleset = firsts ruleset_rule
kind_firsts an_operator = firsts operator_rule

-- that kind, where one more of it may come
abbrev pub counted : Left → PieceKind → Reader PieceKind
counted left k = λ ts. if nat_lt 0 (left k) then got k 0 ts else halt (TooMany (limit_of k)) ts

-- the one of these kinds that the word after `define` tells
abbrev pub told : Left → List PieceKind → Reader PieceKind
told left [] = halt Expected
told left (k ∷ ks) = choice (kind_firsts k) (counted left k) (told left ks)

-- the kind that begins here: a statement by its name, a definition by `define` and the next word
abbrev pub kind_at : Left → Reader PieceKind
kind_at left [] = halt Expected []
kind_at left (t ∷ ts) = choice statement_firsts (counted left a_statement)
    (choice definition_firsts (λ us. if any_left left definitions then told left definitions ts else halt (TooMany rulesets) us) (halt Expected)) (t ∷ ts)

-- ---- pieces

-- pieces up to the end, with at most so many of each kind, which are fewer than f
abbrev pub read_pieces : Counts → (d f : ℕ) → Left → Reader (List Piece)
read_pieces L d f left [] = got [] 0 []
read_pieces L d zero left (t ∷ ts) = halt Expected (t ∷ ts)
read_pieces L d (suc f) left (t ∷ ts) = kind_at left (t ∷ ts) >>= λ k. mapped cons (both (read_piece L d k.value) (read_pieces L d f (fewer k.value left)) (t ∷ ts))

abbrev pub limits_of : Counts → Left
limits_of L k = L (limit_of k)

abbrev pub read_script : Counts → ℕ → Reader Script
read_script L d ts = mapped script_of (read_pieces L d (suc (total (limits_of L))) (limits_of L) ts)
