-- Invariant: what so many checks give from the place reached, one fewer for each that was made, so many give from the start.
use Rattle.std.proofs.Common.{ℕ, ◌-◌, Option}
use Rattle.rule_bytes.specs.promises.Reading.{PassesMany}
use Rattle.rule_bytes.proofs.check.check_parts.Given as goal

abbrev pub invariant-loop : goal.invariant-loop
invariant-loop g l = goal.F-pre g l.check l.place
    × ((r : Option ℕ) → PassesMany (goal.F-post g l.check) (l.number - l.counter) l.place r
    → PassesMany (goal.F-post g l.check) l.number l.at r)
