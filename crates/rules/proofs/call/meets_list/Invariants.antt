-- Invariant: no term before `place` is met, and the terms from there on are the rest, all but those counted.
use Rattle.std.proofs.Common.{List, ℕ, ◌-◌}
use Rattle.rule_bytes.specs.promises.Reading.{IsList}
use Rattle.rules.specs.promises.Meets.{term_met}
use Rattle.rules.proofs.MeetLaws.{ListSoFar}
use Rattle.rules.proofs.call.meets_list.Given as goal

abbrev pub invariant-loop : goal.invariant-loop
invariant-loop l = (terms : List (List (List ℕ)))
    → IsList l.list terms → ListSoFar (term_met l.q) l.list l.place (l.number - l.counter) terms
