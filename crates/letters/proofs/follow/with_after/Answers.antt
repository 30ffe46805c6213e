use Rattle.std.proofs.Common.{sym, ◌∙◌, rules}
use Rattle.letters.proofs.FollowLaws.{after_same, after_more}
use Rattle.letters.proofs.follow.with_after.Goals as goal
use Rattle.letters.proofs.follow.with_after.Goals.{then-has, else-has}

pub loop-b-preserved : goal.loop-b-preserved
loop-b-preserved c =
    let l = c.loop-b in
    elim c.if-has.branch [
      | then-has w ↦ rw w.more-is (after_more c.args.row c.args.mask c.args.after l.b l.more l.invariant (search rules))
      | else-has w ↦ rw w.more-is (after_same c.args.row c.args.mask c.args.after l.b l.more l.invariant
          (sym c.has.ensures ∙ w.if-has.false))
    ]
