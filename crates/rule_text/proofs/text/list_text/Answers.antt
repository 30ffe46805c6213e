-- The next term is the first of those ahead, and its text follows what was written.
use Rattle.std.proofs.Common.{rules}
use Rattle.rule_bytes.proofs.PlaceLaws.{next_term_at}
use Rattle.rule_text.proofs.TextLaws.{list_text_next}
use Rattle.rule_text.proofs.text.list_text.Goals as goal

pub put_term_text-r-requires : goal.put_term_text-r-requires
put_term_text-r-requires c =
    let w = c.requires.0 in
    let f = c.loop.invariant.1 w.0 w.1 in
    ((_, (_, next_term_at f.ahead c.loop-test.true)), f.room)

pub loop-preserved : goal.loop-preserved
loop-preserved c =
    let k = c.loop in
    let r = c.put_term_text-r in
    let taken = c.loop-test.true in (
      search rules,
      λ l h.
          let f = k.invariant.1 l h in
          let e = r.ensures _ _ (next_term_at f.ahead taken) in
          list_text_next f taken _ e.0 e.1.0 e.1.1,
    )
