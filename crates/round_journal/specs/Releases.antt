-- Releases (docs/formats.md, "Releases").
use Rattle.std.specs.Prelude.{◌≡◌, ℕ, ◌+◌, ◌-◌, List, [], ◌∷◌, ◌++◌, Option, Some, None, slice_get}
use Rattle.point_sets.specs.DataSets.{DataSet}
use Rattle.data_set_trees.specs.declared.checked.script.CheckedStatement.{CheckedStatement}
use Rattle.data_set_trees.specs.declared.tree.Source.TheVariants.{Result as ResultOf}
use Rattle.data_set_trees.specs.checked.Scripts.{Script}
use Rattle.release_text.specs.Releases.{Page}
use Rattle.release_text.specs.declared.release.Release.{Release}
use Rattle.transform_nodes.specs.Nodes.{operand_on, published}
use Rattle.round_journal.specs.Journals.{State, Named, number, inputs}

abbrev pub and_page : Option Page → List Page → List Page
and_page None pages = pages
and_page (Some page) pages = page ∷ pages

-- the pages of these statements, of which the first has the number i
abbrev pub pages_from : Script → List DataSet → ℕ → List CheckedStatement → List Page
pages_from c xs i [] = []
pages_from c xs i (statement ∷ rest) = and_page (published statement (operand_on c xs (ResultOf i))) (pages_from c xs (i + 1) rest)

-- the published data sets of the script's meaning on the inputs, in script order
abbrev pub pages_on : Script → List DataSet → List Page
pages_on c xs = pages_from c xs 0 c.statements

-- the release has this number, and names this prefix and this script: its pages are the script's meaning on the inputs after the prefix
pub record IsReleaseOf (s : State) (n : ℕ) (named : Named) (r : Release) : Type 0 where
  pub number_is : r.number ≡ n
  pub prefix_is : r.prefix ≡ named.prefix
  pub script_is : r.script ≡ named.script.number
  pub pages_are : r.pages ≡ pages_on named.script.script (inputs named.prefix s)

-- it is that of the last published round, or release 0
abbrev pub IsRelease : State → Release → Type 0
IsRelease s = IsReleaseOf s (number s) s.latest

-- all that were released, in the order of their numbers from 0
abbrev pub released : State → List Named
released s = s.earlier ++ s.latest ∷ []

-- it is the release with this number
pub record IsReleaseAt (s : State) (n : ℕ) (r : Release) : Type 0 where
  pub named : Named
  pub is_named : slice_get (released s) n ≡ Some named
  pub is_release : IsReleaseOf s n named r

-- the last 64 releases are kept: the number of the oldest of them
abbrev pub oldest_kept : State → ℕ
oldest_kept s = number s - 63
