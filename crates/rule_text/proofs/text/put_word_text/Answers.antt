-- One symbol's text more, with room for those left; after the last none is left.
use Rattle.std.proofs.Common.{eqb, drop_of_length-le, length, get_or, ◌≡◌, refl, ap, ◌∙◌, List, [], ◌++◌, ℕ, ◌+◌, ◌≤◌, arith}
use Rattle.lists.specs.Lists.{pick}
use Rattle.fields.proofs.PutLaws.{put_length}
use Rattle.rule_text.proofs.TextLaws.{symbols_text, word_step, text_start, text_next, text_end, joined_nil, piece_length}
use Rattle.rule_text.specs.Text.{symbol_text, dot, word_text}
use Rattle.rule_text.proofs.text.put_word_text.Goals as goal

pub loop-i-init : goal.loop-i-init
loop-i-init c = record { kept = refl; room = omega arith; text = text_start }

pub loop-i-preserved : goal.loop-i-preserved
loop-i-preserved c =
    let l = c.loop-i in
    let word : List ℕ = c.args.word.now in
    let r = c.put_symbol_text-end in
    let x : ℕ = get_or word l.i 0 in
    let piece : List ℕ = symbol_text x ++ pick (eqb (l.i + 1) (length word)) [] dot in
    let p : length piece ≤ 3 = piece_length x (eqb (l.i + 1) (length word)) in
    let k : length r.new.out ≡ length l.out = ap length r.ensures.bytes ∙ put_length l.out l.end piece (omega arith) in
    let step = word_step word l.i (omega arith) in
    record {
      kept = k ∙ l.invariant.kept;
      room = omega (arith, r.ensures.place);
      text = text_next l.invariant.text _ piece (omega arith) step r.ensures.bytes r.ensures.place;
    }

pub returns : goal.returns
unfolding word_text
returns c =
    let l = c.loop-i in
    let none_left = drop_of_length-le c.args.word.now {i = l.i} (omega arith) in
    let written = text_end l.invariant.text (ap symbols_text none_left ∙ joined_nil symbol_text dot []) in
    record { bytes = written.0; place = written.1 }
