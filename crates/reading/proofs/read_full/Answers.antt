-- After a turn what was read before stands as it was, and what this turn read stands behind it.
use Rattle.std.proofs.Common.{◌≡◌, ℕ, ◌+◌, ◌≤◌, List, ◌++◌, length, take, drop, rules, sym}
use Rattle.std.proofs.Common.{ap, ◌∙◌, subst, le_refl, drop_at, length-take-le, take-add}
use Rattle.std.proofs.lemmas.Slice.{take-put_mid_below}
use Rattle.std.specs.Io.KnownBytes.{Consumes}
use Rattle.std.proofs.KnownBytes.{Consumes-trans}
use borrow.Rule.Slice.PartMut.{put_mid, post_of}
use Rattle.std.proofs.Math.Seq.{take-append-le}
use Rattle.reading.proofs.read_full.Goals as goal

grown : (a k n : ℕ) (xs ys : List ℕ) → a ≤ length xs → n ≤ length ys → take (a + n) (put_mid a k xs ys) ≡ take a xs ++ take n ys
grown a k n xs ys within fits =
    let after = post_of a k xs in
    take-add a n (put_mid a k xs ys)
    ∙ ap (λ l. l ++ take n (drop a (put_mid a k xs ys))) (take-put_mid_below a k xs ys a (le_refl a) within)
    ∙ ap (λ l. take a xs ++ take n l) (drop_at (take a xs) (ys ++ after) a (length-take-le a xs within))
    ∙ ap (λ l. take a xs ++ l) (take-append-le n ys after fits)

pub loop-done-preserved : goal.loop-done-preserved
loop-done-preserved g c =
    let kept = c.loop-done.invariant in
    let part = grown c.loop-done.done _ c.in_ok-got.got c.loop-done.space c.read.new.buf kept.inside c.in_ok-got.ensures.bound.0 in
    record {
      inside = search rules;
      length = search rules;
      read = subst (Consumes _ _) (sym part) (Consumes-trans _ _ _ _ _ kept.read c.in_ok-got.ensures.bytes.0);
    }
