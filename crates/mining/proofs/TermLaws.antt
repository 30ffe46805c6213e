-- A term's bytes with one word more: the word after them, and the count written anew.
use Rattle.std.proofs.Common.{◌≡◌, sym, ap, ◌∙◌, List, [], ◌∷◌, ◌++◌, append_assoc, ℕ, ◌+◌, ◌≤◌, arith, length, length-append}
use Rattle.lists.specs.Lists.{flat_map}
use Rattle.fields.specs.Numbers.{u16_bytes}
use Rattle.rule_bytes.specs.ListBytes.{encode_word, encode_term}
use Rattle.fields.specs.promises.Writing.{put}
use Rattle.fields.proofs.NumberLaws.{u16_size}
use Rattle.rule_bytes.proofs.RoundTrip.{words_more}
use Rattle.fields.proofs.PutLaws.{put_put, put_recount}

pub term_more : (b : List ℕ) (at : ℕ) (t : List (List ℕ)) (w : List ℕ) → let end = at + length (encode_term t) in
    end + length (encode_word w) ≤ length b
    → put (put (put b at (encode_term t)) end (encode_word w)) at (u16_bytes (length t + 1)) ≡ put b at (encode_term (t ++ (w ∷ [])))
unfolding encode_term
term_more b at t w h =
    let C = u16_bytes (length t) in
    let N = u16_bytes (length t + 1) in
    let F = flat_map encode_word t in
    let n : length (t ++ (w ∷ [])) ≡ length t + 1 = length-append t (w ∷ []) in
    let s : length (C ++ F) ≡ length C + length F = length-append C F in
    let E = encode_word w in
    let r : length (F ++ E) ≡ length F + length E = length-append F E in
    ap (λ (l : List ℕ). put l at N) (put_put b at (C ++ F) E (omega arith) ∙ ap (put b at) (append_assoc C F E))
    ∙ put_recount b at C N (F ++ E) (u16_size (length t) ∙ sym (u16_size (length t + 1))) (omega (arith, s, r))
    ∙ ap (λ (l : List ℕ). put b at (N ++ l)) (sym (words_more t w))
    ∙ ap (λ (k : ℕ). put b at (u16_bytes k ++ flat_map encode_word (t ++ (w ∷ [])))) (sym n)
