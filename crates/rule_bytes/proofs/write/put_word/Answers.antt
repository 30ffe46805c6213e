-- The length byte, then the symbols.
use Rattle.std.proofs.Common.{◌≡◌, sym, ap, ◌∙◌, ℕ, ◌+◌, ◌-◌, List, [], ◌∷◌, length, arith, rules, set, length-take-le}
use Rattle.search.specs.Word.{symbols_in}
use Rattle.rule_bytes.specs.ListBytes.{encode_word}
use Rattle.fields.specs.promises.Writing.{put}
use Rattle.fields.proofs.PutLaws.{put_one, put_put}
use Rattle.rule_bytes.proofs.CopyLaws.{mid_put}
use Rattle.rule_bytes.proofs.write.put_word.Goals as goal

pub returns : goal.returns
unfolding encode_word
returns c =
    let a = c.args in
    let w = a.w in
    let hs : length w.symbols ≡ 31 = search rules in
    let n : length (symbols_in w) ≡ w.len = length-take-le w.len w.symbols (omega arith) in
    let copied = c.copy_from_slice.ensures.after in
    let k : length c.copy_from_slice.new.self ≡ a.at + 1 + w.len - (a.at + 1) = ap length copied ∙ omega (arith, n) in
    mid_put (set a.out.now a.at w.len) (a.at + 1) _ _ k
    ∙ ap (put (set a.out.now a.at w.len) (a.at + 1)) copied
    ∙ ap (λ (l : List ℕ). put l (a.at + 1) (symbols_in w)) (put_one a.out.now a.at w.len (omega arith))
    ∙ put_put a.out.now a.at (w.len ∷ []) (symbols_in w) (omega arith)
    ∙ ap (λ (k : ℕ). put a.out.now a.at (k ∷ symbols_in w)) (sym n)
