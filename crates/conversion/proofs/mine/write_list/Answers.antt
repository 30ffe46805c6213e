-- The list that was kept is copied; one that was not is built in the output, which has room for it.
use Rattle.std.proofs.Common.{sym, ap, ◌∙◌, List, ◌++◌, ℕ, length, drop, length-take-le}
use Rattle.fields.proofs.PutLaws.{put_first}
use Rattle.conversion.proofs.AnswerLaws.{list_inside, list_taken}
use Rattle.conversion.proofs.mine.write_list.Goals as goal

pub slice_bounds-put_bytes-end : goal.slice_bounds-put_bytes-end
slice_bounds-put_bytes-end c =
    let R = c.requires in
    sym (length-take-le _ c.args.list.now (list_inside _ R.verdict (R.kept c.if-judged-le-KEPT_LIST.true).1))

pub returns-then-judged-le-KEPT_LIST : goal.returns-then-judged-le-KEPT_LIST
returns-then-judged-le-KEPT_LIST c =
    let R = c.requires in
    let K = (R.kept c.if-judged-le-KEPT_LIST.true).1 in
    let out = c.args.out.now in
    record {
      bytes = c.put_bytes.ensures.bytes ∙ put_first out _ ∙ ap (λ (l : List ℕ). l ++ drop (length l) out) (list_taken _ R.verdict K);
      marks = K.marks;
    }
