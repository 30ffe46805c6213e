-- Backwards from the word's end, where only the target has a path (WalkLaws); at last the parties are counted (RoomLaws).
-- Invariant: a party outside the mask has no path along the places from `at` on, nor has any where the parties of the masks so far are
-- too few (`Walked`).
use Rattle.search.proofs.RoomLaws.{Walked}
use Rattle.search.proofs.search.Search.walkable.Given as goal

abbrev pub invariant-loop-at : goal.invariant-loop-at
invariant-loop-at l =
    let s = l.self in
    Walked s.form.word.word s.form.fixed l.from s.graph.parties s.target l.visited s.graph.table l.mask l.all l.at
