-- A party that the masks of walks lack has no way to a start and none that leads further (WayLaws).
use Rattle.std.proofs.Common.{arith}
use Rattle.word_test.proofs.WayLaws.{look_skips, look_both}
use Rattle.word_test.proofs.back.SearchBack.look.Goals as goal

pub returns-then-len-deep : goal.returns-then-len-deep
returns-then-len-deep c =
    let a = c.args in
    let p = c.requires in
    let near = c.walked-near in
    look_skips a.self.now a.at a.deep a.visited p.some p.place near.result near.ensures (omega (arith, c.if-len-deep.true))

pub returns : goal.returns
returns c =
    let a = c.args in
    let p = c.requires in
    let near = c.walked-near in
    look_both a.self.now a.at a.deep a.visited p.some p.place near.result c.walked.result near.ensures
    (omega (arith, c.if-len-deep.false)) (omega (arith, c.if-at-from.false)) c.walked.ensures
