-- What was written of the classes alone is the graph in classes (WritingLaws).
use Rattle.std.proofs.Common.{◌∙◌, sym, refl, arith}
use Rattle.letters.proofs.WritingLaws.{in_classes_lem}
use Rattle.letters.proofs.write.class_letters.Goals as goal

pub returns : goal.returns
returns c =
    let r = c.in_letters.ensures in
    record { alone = r.base ∙ sym r.end; in_classes = λ n h. in_classes_lem r _ c.in_ok-c.ensures refl (omega arith) n h refl }
