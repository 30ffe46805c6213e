-- The word after the term's bytes, then the count anew.
use Rattle.std.proofs.Common.{◌≡◌, sym, ap, ◌∙◌, List, ℕ, ◌+◌, arith, rules, length, length-take-le}
use Rattle.search.specs.Word.{symbols_in}
use Rattle.fields.specs.Numbers.{u16_bytes}
use Rattle.rule_bytes.specs.ListBytes.{encode_word, encode_term}
use Rattle.fields.specs.promises.Writing.{put}
use Rattle.rule_bytes.proofs.RoundTrip.{word_size}
use Rattle.mining.proofs.TermLaws.{term_more}
use Rattle.mining.proofs.term.add_word.Goals as goal

pub returns : goal.returns
returns c =
    λ b t n e o l.
    let a = c.args in
    let f : length a.w.symbols ≡ 31 = search rules in
    let m : length (symbols_in a.w) ≡ a.w.len = length-take-le a.w.len a.w.symbols (omega arith) in
    let W = encode_word (symbols_in a.w) in
    let T = put b a.at (encode_term t) in
    let N = u16_bytes (a.number + 1) in
    let p = c.put_word.ensures in
    c.put_u16.ensures
    ∙ ap (λ (s : List ℕ). put s a.at N) (p ∙ ap (λ (s : List ℕ). put s a.end W) o)
    ∙ ap (λ (k : ℕ). put (put T k W) a.at N) e
    ∙ ap (λ (k : ℕ). put (put T (a.at + length (encode_term t)) W) a.at (u16_bytes (k + 1))) (sym n)
    ∙ term_more b a.at t (symbols_in a.w) (omega (arith, word_size (symbols_in a.w), m, e, l))
