use Rattle.std.proofs.Common.{◌^◌, ◌<◌, sym, ◌∙◌, arith}
use Rattle.masks.proofs.MaskLaws.{zero_bit}
use Rattle.search.proofs.WalkLaws.{first_least, first_on, first_within, rest_less, taken_more}
use Rattle.search.proofs.graph.Graph.first_step.Goals as goal

pub returns-then-self-c : goal.returns-then-self-c
returns-then-self-c c j h k e =
    let l = c.loop-left in
    let p = c.args.self.now.within in
    let fits : l.left < 2 ^ 32 = omega arith in
    l.invariant.none j (omega arith) e (first_least l.left c.loop-left-test.true fits j (omega (arith, c.if-self-c.true)))

pub returns-then-allows : goal.returns-then-allows
returns-then-allows c =
    let l = c.loop-left in
    let p = c.args.self.now.within in
    let some = c.loop-left-test.true in
    let fits : l.left < 2 ^ 32 = omega arith in
    record {
      within = omega (arith, c.if-self-c.false);
      before = λ j h k e. l.invariant.none j (omega arith) e (first_least l.left some fits j k);
      on = l.invariant.few _ (first_within l.left some fits) (first_on l.left some fits);
      step = sym c.allows.ensures ∙ c.if-allows.true;
    }

pub loop-left-smaller : goal.loop-left-smaller
loop-left-smaller c = rest_less c.loop-left.left c.loop-left-test.true (omega arith)

pub loop-left-preserved : goal.loop-left-preserved
loop-left-preserved c =
    let l = c.loop-left in
    taken_more l.left c.loop-left-test.true (omega arith) _ _ c.args.mask l.invariant (sym c.allows.ensures ∙ c.if-allows.false)

pub returns : goal.returns
returns c j h k e =
    let p = c.args.self.now.within in
    c.loop-left.invariant.none j (omega arith) e (rw c.loop-left-test.false (zero_bit j))
