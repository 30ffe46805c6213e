-- Invariant: the text of the terms before `place` was written up to `end`, and the terms from there on are the rest, all but those counted.
use Rattle.std.proofs.Common.{◌≡◌, List, ℕ, ◌-◌, length}
use Rattle.rule_bytes.specs.promises.Reading.{IsList}
use Rattle.rule_text.proofs.TextLaws.{ListTextSoFar}
use Rattle.rule_text.proofs.text.list_text.Given as goal

abbrev pub invariant-loop : goal.invariant-loop
invariant-loop l = (length l.out ≡ length l.initial.out)
    × ((terms : List (List (List ℕ))) → IsList l.list terms
    → ListTextSoFar l.list l.place (l.number - l.counter) terms l.initial.out l.out l.end)
