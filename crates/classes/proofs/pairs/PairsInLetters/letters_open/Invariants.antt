-- Invariant: of the letters before c, those that the mask lacks stand at the place in no word of the pair (OpenLaws, AfterLaws).
use Rattle.classes.specs.promises.Prefixes.{Opens}
use Rattle.classes.proofs.pairs.PairsInLetters.letters_open.Given as goal

abbrev pub invariant-loop-c : goal.invariant-loop-c
invariant-loop-c l = Opens l.fn.self.pairs l.fn.w.word l.fn.at l.fn.low l.c l.leads
