-- Invariant: the candidates before v are counted (CountLaws).
use Rattle.std.proofs.Common.{◌-◌}
use Rattle.word_test.specs.promises.Last.{two_ways, two_far}
use Rattle.word_test.proofs.CountLaws.{Counted}
use Rattle.word_test.proofs.back.SearchBack.last_three.Given as goal

abbrev pub invariant-loop-v : goal.invariant-loop-v
invariant-loop-v l =
    let s = l.self in
    Counted (two_ways l.mask s.seconds l.visited s.starts) (two_far l.mask s.seconds l.visited s.starts) l.cap l.deep
    (s.word.word.len - 3) l.count l.depth l.v
