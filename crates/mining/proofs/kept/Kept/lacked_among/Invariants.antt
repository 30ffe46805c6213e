-- Each kept word is the pair's next after the one before it (KeptLaws), so the first that is lacked is the first of all.
-- Invariant: the other pair has the kept words read, w is the last of them, and the others are ahead.
use Rattle.std.proofs.Common.{List}
use Rattle.rebac.specs.Words.{Word}
use Rattle.mining.specs.Values.{pair_in}
use Rattle.mining.specs.promises.Kept.{KeptAs}
use Rattle.mining.proofs.KeptLaws.{KeptTo}
use Rattle.mining.proofs.kept.Kept.lacked_among.Given as goal

abbrev pub invariant-loop-word : goal.invariant-loop-word
invariant-loop-word l = (words : List Word) → KeptAs l.fn.t.own.archive.now (pair_in l.fn.t.own.pair) words l.self
    → KeptTo l.fn.t words l.word-iterator l.w.word
