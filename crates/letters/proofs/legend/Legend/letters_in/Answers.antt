use Rattle.std.proofs.Common.{◌≡◌, sym, ◌∙◌, ap, rules}
use Rattle.std.proofs.lemmas.List.{get_or-map}
use Rattle.masks.specs.promises.Mask.{test_bit}
use Rattle.masks.proofs.MaskLaws.{filled_none, filled_with, filled_without}
use Rattle.letters.specs.promises.Letters.{numbers}
use Rattle.letters.specs.promises.Writing.{letter_on}
use Rattle.letters.proofs.WritingLaws.{letter_low, letter_high}
use Rattle.letters.proofs.legend.Legend.letters_in.Goals as goal
use Rattle.letters.proofs.legend.Legend.letters_in.Goals.{then-i-self, else-i-self, then-on, else-on}

pub loop-i-init : goal.loop-i-init
loop-i-init c = filled_none _

pub loop-i-preserved : goal.loop-i-preserved
loop-i-preserved c =
    let s = c.args.self.now in
    let l = c.loop-i in
    let on : letter_on (numbers s.symbols) s.span.base s.classes c.args.mask l.i ≡ c.if-i-self.on = elim c.if-i-self.branch [
      | then-i-self w ↦ letter_low _ _ _ _ _ w.if-i-self.true
          ∙ ap (test_bit c.args.mask) (get_or-map (λ x. x.number) s.symbols l.i _ 0 (search rules))
          ∙ sym w.is_in-on.ensures ∙ sym w.on-is
      | else-i-self w ↦ letter_high _ _ _ _ _ w.if-i-self.false ∙ sym w.on-is
    ] in
    elim c.if-on.branch [
      | then-on w ↦ rw (w.letters-is, w.with-letters.ensures) (filled_with _ l.i l.letters l.invariant (on ∙ w.if-on.true))
      | else-on w ↦ rw w.letters-is (filled_without _ l.i l.letters l.invariant (on ∙ w.if-on.false))
    ]
