-- All letters at the first place, and at any other those that follow the letter before it (AfterLaws).
use Rattle.std.proofs.Common.{arith}
use Rattle.lists.proofs.Cases.{both}
use Rattle.masks.proofs.BitLaws.{ones_bit}
use Rattle.classes.proofs.AfterLaws.{after_row}
use Rattle.classes.proofs.pairs.PairsInLetters.letters_after.Goals as goal

pub returns-then-at-eq0 : goal.returns-then-at-eq0
returns-then-at-eq0 c = λ x follow fixed k places size d low high e. both (ones_bit 32 d high) e

pub returns : goal.returns
returns c = rw c.symbol.ensures (after_row c.args.self.now c.args.w.word c.args.at c.args.w.short (omega arith) c.requires)
