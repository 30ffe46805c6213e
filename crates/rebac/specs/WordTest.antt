-- 02, Ticket 4: the length that the test whether a pair has a word returns, in 02's words and as a function.
use Rattle.std.specs.Prelude.{◌≡◌, Bool, not, ℕ, ◌-◌, ◌≤◌, ◌<◌, length, drop, List, [], ◌∷◌}
use mathlib.Core.List.{Memᴰ}
use Rattle.lists.specs.Lists.{pick, any_of, member, range}
use Rattle.rebac.specs.Matter.{Pair, pair}
use Rattle.rebac.specs.Paths.{Graph, Path, HasPath, has, paths_of}

module _ {S : Type 0} where
  -- the word's last k symbols
  abbrev pub last_symbols : ℕ → List S → List S
  last_symbols k w = drop (length w - k) w

  -- 02: "some path to the second party, not touching the first, has" the word: from the party `start` through the parties of `via`
  pub record WayTo (g : Graph S) (p : Pair) (w : List S) : Type 0 where
    pub start : ℕ
    pub inside : start < g.parties
    pub via : List ℕ
    pub path : Path g (pair start p.second) w via
    pub untouched : Memᴰ p.first (start ∷ via) → ⊥

  -- 02: "on yes the word's; on no the greatest k below that for which some path to the second party, not touching the first, has the
  -- word's last k symbols, or 0 if there is none"
  pub record LengthIs (g : Graph S) (p : Pair) (w : List S) (k : ℕ) : Type 0 where
    pub yes : HasPath g p w → k ≡ length w
    pub no : (HasPath g p w → ⊥) → 1 ≤ k → (k < length w) × WayTo g p (last_symbols k w)
    pub greatest : (HasPath g p w → ⊥) → (j : ℕ) → 1 ≤ j → j < length w → WayTo g p (last_symbols j w) → j ≤ k

module _ {S : Type 0} (g : Graph S) where
  -- some path to the second party, not touching the first, has the word
  unfoldable pub has_way : Pair → List S → Bool
  has_way p w = any_of (λ c. any_of (λ l. not (member p.first l)) (paths_of g (pair c p.second) w)) (range g.parties)

  -- the length of the word's longest end, short of the word itself, that such a path has
  unfoldable pub way_length : Pair → List S → ℕ
  way_length p [] = 0
  way_length p (s ∷ w) = pick (has_way p w) (length w) (way_length p w)

  -- the length that the word test returns
  unfoldable pub test_length : Pair → List S → ℕ
  test_length p w = pick (has g p w) (length w) (way_length p w)
