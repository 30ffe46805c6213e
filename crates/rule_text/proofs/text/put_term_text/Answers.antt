-- The next word is the first of those ahead, and its text follows what was written.
use Rattle.std.proofs.Common.{arith, rules}
use Rattle.rule_text.proofs.TextLaws.{term_text_start, entry_room, term_text_next, term_text_end}
use Rattle.rule_text.proofs.text.put_term_text.Goals as goal

pub loop-w-init : goal.loop-w-init
loop-w-init c =
    let words = c.of_term-words.ensures in
    record {
      size = search rules;
      list = words.list;
      text = λ t s h. term_text_start (words.ahead t s h) (rw (words.list, words.place) (omega (arith, c.requires.1)));
    }

pub put_entry_text-end-requires : goal.put_entry_text-end-requires
put_entry_text-end-requires c =
    let w = c.requires.0 in
    entry_room (c.loop-w.invariant.text w.0 w.1.0 w.1.1) c.in-Some.ensures.steps

pub loop-w-preserved : goal.loop-w-preserved
loop-w-preserved c =
    let n = c.in-Some.ensures.steps in
    let e = c.put_entry_text-end.ensures in
    record {
      size = search rules;
      list = search rules;
      text = λ t s h. term_text_next (c.loop-w.invariant.text t s h) n (omega (arith, c.requires.1)) e.bytes e.place;
    }

pub returns : goal.returns
returns c = λ t s h.
    let z = c.in_default.ensures.steps in
    let i = c.loop-w.invariant in
    let e = term_text_end (i.text t s h) z.0 in
    (e.0, (e.1.0, search (rules, e.1.1, i.list, z.1)))
