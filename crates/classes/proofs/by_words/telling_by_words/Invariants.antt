-- A word in hand that the second pair lacks is the first that tells; else the next of its length is taken (ByWordsLaws).
-- Invariant: no word of this length before the one in hand tells, and none at all where there is none. Measure: the words from it on.
use Rattle.search.specs.promises.PairSearch.{graph_of}
use Rattle.classes.specs.promises.Prefixes.{own_pair, other_pair}
use Rattle.classes.proofs.ByWordsLaws.{PassTurn, words_from}
use Rattle.classes.proofs.by_words.telling_by_words.Given as goal

abbrev pub invariant-loop-next : goal.invariant-loop-next
invariant-loop-next l = PassTurn (graph_of l.fn.q.graph) (own_pair l.fn.q) (other_pair l.fn.q) l.len l.next

abbrev pub decreases-loop-next : goal.decreases-loop-next
decreases-loop-next l = words_from l.len l.next
