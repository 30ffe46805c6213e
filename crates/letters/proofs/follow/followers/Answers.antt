use Rattle.std.proofs.Common.{sym, ◌∙◌}
use Rattle.letters.proofs.FollowLaws.{follows_same, follows_more}
use Rattle.letters.proofs.follow.followers.Goals as goal
use Rattle.letters.proofs.follow.followers.Goals.{then-mask-ne0, else-mask-ne0}

pub loop-k-preserved : goal.loop-k-preserved
loop-k-preserved c =
    let l = c.loop-k in
    elim c.if-mask-ne0.branch [
      | then-mask-ne0 w ↦ rw w.row-is (follows_more c.args.g.now l.k l.row l.invariant _ _ w.letters_past.ensures
          (rw c.mask_of_pair-mask.ensures at w.with_after-row.ensures))
      | else-mask-ne0 w ↦ rw w.row-is (follows_same c.args.g.now l.k l.row l.invariant
          (sym c.mask_of_pair-mask.ensures ∙ w.if-mask-ne0.false))
    ]
