use Rattle.rule_bytes.proofs.PlaceLaws.{term_ahead}
use Rattle.rule_bytes.proofs.words.Words.of_term.Goals as goal

pub returns-clause-ahead : goal.returns-clause-ahead
returns-clause-ahead c t s h = rw c.u16_at.ensures.0 (term_ahead c.args.list.now c.args.at t s h)

pub returns-clause-can : goal.returns-clause-can
returns-clause-can c =
    let w = c.requires in
    (w.0, (w.1.0, rw c.u16_at.ensures.0 (term_ahead c.args.list.now c.args.at w.0 w.1.0 w.1.1)))
