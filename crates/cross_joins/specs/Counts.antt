-- How many combinations of points there are after the news.
use Rattle.std.specs.Prelude.{ℕ, ◌*◌, List, [], ◌∷◌, length, min}
use Rattle.data_model.specs.Deltas.{count_after}
use Rattle.data_model.specs.declared.TheConstants.{POINT_LIMIT}
use Rattle.point_sets.specs.Changes.{Changes}
use Rattle.held_index.specs.Holdings.{Holding, part_of}

-- how many points an operand has after its news, of which at most 200,000 are held
abbrev pub count_after_news : Holding → Changes → ℕ
count_after_news held news = count_after (min (length (part_of held.want [] held.content)) POINT_LIMIT) news

-- how many combinations of a point of each operand there are after the news
abbrev pub combinations_after : List Holding → List Changes → ℕ
combinations_after [] news = 1
combinations_after (h ∷ held) [] = 1
combinations_after (h ∷ held) (d ∷ news) = count_after_news h d * combinations_after held news
