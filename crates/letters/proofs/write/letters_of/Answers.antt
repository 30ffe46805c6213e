-- What was written of symbols and classes is the graph in letters (WritingLaws).
use Rattle.std.proofs.Common.{refl}
use Rattle.letters.proofs.WritingLaws.{lettered}
use Rattle.letters.proofs.write.letters_of.Goals as goal

pub returns : goal.returns
returns c n h =
    let r = c.in_letters.ensures in
    rw r.base (lettered r _ c.in_ok-c.ensures refl refl n h _ c.of-l.ensures refl refl)
