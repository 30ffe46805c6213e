-- First the words of the same length, then the longer ones.
use Rattle.std.proofs.Common.{rules, ◌-◌}
use Rattle.rebac.specs.promises.Forms.{search_next, first_longer}
use Rattle.search.proofs.SearchLaws.{symbols_length, short_fits}
use Rattle.words.specs.promises.Next.{WordBy}
use Rattle.words.proofs.NextLaws.{word_or, or_found}
use Rattle.words.proofs.next.next_word.Goals as goal

pub returns : goal.returns
unfolding search_next
returns c al A =
    let same = c.next_same_length in
    let len = c.args.w.word.len in
    word_or same.result c.or_else.result (same.ensures al A) c.or_else.ensures
    (λ h n.
    let longer : WordBy c.args.q.now (λ al G p. first_longer al G p len (c.args.d - len)) c.or_else.result = search rules in
    rw (n, symbols_length c.args.w.word (short_fits c.args.w.short)) (longer al A))
    (or_found _ _)
