-- One due pair in its turn: its outcome, and the pairs that the list permits then. What the verdict and mining do with each pair.
use Rattle.std.specs.Prelude.{ℕ, ◌+◌, ◌≤◌, ◌<◌, ◌/◌, ◌%◌, ◌≡◌, Bool, true, not, ◌&&◌, List, [], ◌∷◌, ◌++◌, length, Result, Ok, Err}
use Rattle.limits.specs.Limits.{most_parties, pair_numbers}
use Rattle.masks.specs.promises.Mask.{test_bit}
use Rattle.masks.specs.promises.Table.{mask_in}
use Rattle.masks.specs.declared.Row.{Row}
use Rattle.rebac.specs.Matter.{Pair, pair}
use Rattle.rebac.specs.Words.{Word}
use Rattle.rebac.specs.Rules.{RuleList, permits}
use Rattle.rebac.specs.Verdict.{Verdict}
use Rattle.rebac.specs.Mining.{term_of}
use Rattle.graph.specs.declared.archive.Archive.{Archive}
use Rattle.graph.specs.Legal.{is_pair}
use Rattle.mining.specs.promises.Pairs.{pair_at, is_pair_at}
use Rattle.mining.specs.promises.Building.{problem_in, term_bytes, OutcomeAs}
use Rattle.mining.specs.declared.build.Obstacle.{Obstacle}
use Rattle.mining.specs.declared.take.Taken.{Taken}

-- the row's bit (u, v) tells whether the list permits the pair; bits of no pair are clear
abbrev pub PairMarks : Archive → RuleList Word → Row → Type 0
PairMarks a r row = (u v : ℕ) → test_bit (mask_in row u) v ≡ (is_pair a.graph.parties u v && permits (problem_in a) r (pair u v))

-- the pair of this number is permitted, and no term so far permits it
unfoldable pub due : Archive → RuleList Word → ℕ → Bool
due a r k = is_pair_at a.graph.parties k && ((problem_in a).permitted (pair_at k) && not (permits (problem_in a) r (pair_at k)))

-- the same, told from the masks of the permit table and of the marks
unfoldable pub due_by : ℕ → Row → Row → ℕ → Bool
due_by n permits marks k =
    is_pair_at n k
    && (test_bit (mask_in permits (k / most_parties)) (k % most_parties)
    && not (test_bit (mask_in marks (k / most_parties)) (k % most_parties)))

-- the pair is due for some list with these marks, and there is room for its term
pub record DueQuery (a : Archive) (row : Row) (k at size : ℕ) : Type 0 where
  pub number : k < pair_numbers
  pub list : RuleList Word
  pub marks : PairMarks a list row
  pub due : due a list k ≡ true
  pub room : at + length (term_bytes a (pair_at k)) ≤ size

-- what comes of the pair in its turn: its outcome, and where it has its term, the marks of the list with it
abbrev pub TurnAs : Archive → RuleList Word → ℕ → ℕ → List ℕ → List ℕ → Verdict Pair → Result Taken Obstacle → Type 0
TurnAs a r k at old new v (Ok t) =
    OutcomeAs a (pair_at k) at old new v (Ok t.end) × PairMarks a (r ++ (term_of (problem_in a) (pair_at k) ∷ [])) t.marks
TurnAs a r k at old new v (Err e) = OutcomeAs a (pair_at k) at old new v (Err e)
