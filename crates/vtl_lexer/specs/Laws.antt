-- What pieces and places are like.
use Rattle.std.specs.Prelude.{◌≡◌, ◌≤◌, ℕ, ◌+◌, List, ◌++◌, length, reverse, Ok}
use Rattle.std.specs.List.{count_by, position_or_len}
use Rattle.vtl_lexer.specs.Scans.{is_line_end}
use Rattle.vtl_lexer.specs.Pieces.{Piece, piece_of}
use Rattle.vtl_lexer.specs.Places.{place_at, place_after}

-- a piece is as long as possible: a front of the text that is one piece by itself is no longer
abbrev pub IsLongest : Type 0
IsLongest = (front rest : List ℕ) (piece alone : Piece) → piece_of (front ++ rest) ≡ Ok piece → piece_of front ≡ Ok alone → alone.1 ≡ length front → length front ≤ piece.1

-- the line is one more than the line ends before it, and the column one more than the bytes after the last of them
abbrev pub CountsPlaces : Type 0
CountsPlaces = (before : List ℕ) → place_after (place_at 1 1) before ≡ place_at (1 + count_by is_line_end before) (1 + position_or_len is_line_end (reverse before))
