-- A party is added where it has a step to one of the mask; any other is visited, the target, or has no path onward (WalkLaws).
-- Invariant: a party before v that `parties` lacks has no path along the places from `at` on.
use Rattle.search.specs.promises.Search.{places_from}
use Rattle.search.specs.promises.Walk.{Covers}
use Rattle.search.proofs.search.Search.parties_before.Given as goal

abbrev pub invariant-loop-v : goal.invariant-loop-v
invariant-loop-v l =
    Covers l.self.graph.parties l.self.graph.table l.self.target (places_from l.self.form.word.word l.self.form.fixed l.at) l.visited
    l.parties l.v
