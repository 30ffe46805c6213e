-- Invariant: the candidates before v lead nowhere, and once walks were looked at, a party that `onward` lacks has no path along the places
-- after this one.
-- Measure over the calls: the places left, where a party search stands one above its candidate search.
use Rattle.std.proofs.Common.{◌+◌, ◌-◌, ◌*◌}
use Rattle.search.proofs.TurnLaws.{Turn}
use Rattle.search.proofs.search.Search.+candidate_search_party_search.Given as goal

abbrev pub decreases-candidate_search : goal.decreases-candidate_search
decreases-candidate_search l = (31 - l.p.at) * 2

abbrev pub decreases-party_search : goal.decreases-party_search
decreases-party_search l = (31 - l.p.at) * 2 + 1

abbrev pub invariant-candidate_search-loop-v : goal.invariant-candidate_search-loop-v
invariant-candidate_search-loop-v l = Turn l.fn.self l.fn.p.at l.fn.p.u l.fn.p.visited l.onward l.v
