-- Invariant: `met` says whether the pair has the words read, and those ahead are the rest.
use Rattle.std.proofs.Common.{◌≡◌, List, ℕ}
use Rattle.rebac.specs.Paths.{has}
use Rattle.search.specs.promises.PairSearch.{graph_of, pair_of}
use Rattle.rule_bytes.specs.promises.Reading.{TermAt}
use Rattle.rules.proofs.MeetLaws.{TermSoFar}
use Rattle.rules.proofs.call.meets_term.Given as goal

abbrev pub invariant-loop-word : goal.invariant-loop-word
invariant-loop-word l = (l.words.list.now ≡ l.list)
    × ((t : List (List ℕ)) (s : List ℕ) → TermAt l.list l.at t s
    → TermSoFar (has (graph_of l.q.graph) (pair_of l.q)) l.words l.met t s)
