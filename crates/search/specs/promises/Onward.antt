-- A search from a party on: what it needs, and what it finds.
use Rattle.std.specs.Prelude.{◌≡◌, ℕ, ◌+◌, ◌<◌, ◌≤◌, false, List}
use Rattle.std.proofs.Math.Option.{Option}
use Rattle.masks.specs.promises.Mask.{test_bit}
use Rattle.search.specs.promises.Search.{places_from, search_from}
use Rattle.search.specs.promises.Walk.{Covers}
use Rattle.search.specs.declared.search.Search.{Search}

-- the parties after u of the least path along the places from `at` on
abbrev pub search_on : Search → ℕ → ℕ → ℕ → Option (List ℕ)
search_on s at u visited = search_from s.graph.parties s.graph.table visited u s.target (places_from s.form.word.word s.form.fixed at)

-- what a search from party u needs: three places are left, and the target is not visited
pub record SearchQuery (s : Search) (at u visited : ℕ) : Type 0 where
  pub places : at + 3 ≤ s.form.word.word.len
  pub start : u < s.graph.parties
  pub unvisited : test_bit visited s.target ≡ false

-- a party that the mask lacks has no path along the places from `at` on, where the visited parties and maybe more were passed
abbrev pub CoversFrom : Search → ℕ → ℕ → ℕ → Type 0
CoversFrom s at visited mask =
    Covers s.graph.parties s.graph.table s.target (places_from s.form.word.word s.form.fixed at) visited mask s.graph.parties
