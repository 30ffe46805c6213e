-- Invariant: the candidates before v are counted, the depth is the greatest of theirs while there is no way, and once walks were looked
-- at, one that `onward` lacks adds nothing.
-- Measure over the calls: the places left, where a party search stands one above its candidate search.
use Rattle.std.proofs.Common.{◌+◌, ◌*◌}
use Rattle.word_test.proofs.BackLaws.{Turn}
use Rattle.word_test.proofs.back.SearchBack.+candidate_back_party_back.Given as goal

abbrev pub decreases-candidate_back : goal.decreases-candidate_back
decreases-candidate_back l = l.p.at * 2

abbrev pub decreases-party_back : goal.decreases-party_back
decreases-party_back l = l.p.at * 2 + 1

abbrev pub invariant-candidate_back-loop-v : goal.invariant-candidate_back-loop-v
invariant-candidate_back-loop-v l = Turn l.self l.p l.onward l.count l.depth l.v
