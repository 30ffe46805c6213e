-- Called again and again, next-word hands out the words of the pair: each call is the definition's next word after the word given,
-- and the words left grow fewer.
use Rattle.std.proofs.Common.{◌≡◌, refl, ap, ◌∙◌, true, List, [], ◌++◌, ℕ, zero, suc, ◌≤◌, ◌<◌, arith}
use Rattle.std.proofs.Common.{leb, length, drop, length-append, length-drop, le-leb, None, Ok}
use mathlib.Core.List.Memᴰ
use Rattle.std.proofs.Math.Option.{some}
use Rattle.std.proofs.Math.Seq.{take-append_seam}
use Rattle.lists.proofs.Cases.{by_found, and_both}
use Rattle.lists.proofs.ListLaws.{all_of_lem}
use Rattle.lists.proofs.Pointwise.{filter_length}
use Rattle.rebac.specs.Matter.{Matter, pair}
use Rattle.rebac.specs.Words.{Over, before}
use Rattle.rebac.specs.Symbols.{alphabet}
use Rattle.rebac.specs.NextWord.{pair_words, next_word}
use Rattle.rebac.proofs.NextWords.{words_left, handed_out}
use Rattle.rebac.proofs.SymbolsLaws.{listed_language}
use Rattle.rebac.proofs.Conversion.{word_in, word_out, pair_words_ascending, pair_words_distinct}
use Rattle.rebac.proofs.NextWordLaws.{next_finds, next_hands_out, words_left_fall}
use Rattle.house_file.specs.Check.{check_of}
use Rattle.graph.specs.FileMatter.{matter_of}
use Rattle.graph.specs.Legal.{is_pair, legal_symbol}
use Rattle.graph.proofs.LoadLaws.{accepted_limits}
use Rattle.graph.proofs.LegalLaws.{legal_symbol_lem}
use Rattle.search.specs.Word.{Carries}
use Rattle.search.specs.declared.word.Word.{Word}
use Rattle.paths.specs.Calls.{writes, nothing, found, legal_given_word, next_call}
use Rattle.paths.specs.HandOut.{HandedOut, hand_out, HandsOut}
use Rattle.paths.proofs.CallLaws.{next_answer}

-- a word value of at most D symbols of the language is legal
pub value_legal :
    (M : Matter) (v : List ℕ) → Over (alphabet M.language M.labels) v → length v ≤ M.longest
    → (w : Word) → Carries w v → legal_given_word M w ≡ true
unfolding legal_given_word
value_legal M v o h w c =
    and_both {b = leb w.len M.longest} (rw c.len (le-leb (length v) M.longest h))
    (rw c.symbols (all_of_lem (legal_symbol M.labels M.language) v (λ s m. legal_symbol_lem M s ∙ listed_language M s (o s m))))

module _ (f : List ℕ) (e : check_of f ≡ Ok tt) (a b : ℕ) (p : is_pair (matter_of f).parties a b ≡ true)
    (value : List ℕ → Word) (carries : (v : List ℕ) → length v ≤ 31 → Carries (value v) v) where
  -- the file's matter
  abbrev M : Matter
  M = matter_of f

  -- what next-word may be given
  record Given (v : List ℕ) : Type 0 where
    over : Over (alphabet M.language M.labels) v
    short : length v ≤ M.longest

  next_given : (v w : List ℕ) → next_word M (pair a b) v ≡ some w → Given w
  next_given v w n = let r = ((next_finds M (pair a b) v).found w n).fits in record { over = r.over; short = r.short }

  bounded : (v : List ℕ) → Given v → length v ≤ 31
  bounded v g = omega (arith, g.short, (accepted_limits f e).longest.1)

  next_called : (v : List ℕ) → Given v → (size : ℕ) → 31 ≤ size → next_call f a b (value v) size ≡ found (next_word M (pair a b) v)
  unfolding next_call
  next_called v g size h =
      let c = carries v (bounded v g) in
      rw e
      (next_answer M a b (value v) size p (value_legal M v g.over g.short (value v) c) h
      ∙ ap (λ (x : List ℕ). found (next_word M (pair a b) x)) c.symbols)

  ended : List (List ℕ) → HandedOut
  ended l = record { words = l; last = Ok None }

  hands_out :
      (k : ℕ) (v output : List ℕ) → Given v → 31 ≤ length output → words_left M (pair a b) v < k
      → hand_out value f a b k v output ≡ ended (handed_out (next_word M (pair a b)) k v)
  unfolding hand_out handed_out ended
  hands_out zero v output g h l = absurd (omega arith)
  hands_out (suc k) v output g h l =
      by_found (next_word M (pair a b) v)
      (λ n.
      let q : next_call f a b (value v) (length output) ≡ nothing = next_called v g (length output) h ∙ ap found n in
      rw (q, n, handed_out) refl)
      (λ w n.
      let q : next_call f a b (value v) (length output) ≡ writes w = next_called v g (length output) h ∙ ap found n in
      let g' = next_given v w n in
      let kept = drop (length w) output in
      let s : length (w ++ kept) ≡ length output =
      omega (arith, length-append w kept, length-drop (length w) output, bounded w g') in
      let fewer = words_left_fall M (pair a b) v w n in
      let r = hands_out k w (w ++ kept) g' (omega arith) (omega (arith, fewer)) in
      rw (q, n, handed_out, take-append_seam w kept, r) refl)

  -- begun with the empty word it hands out the words of the pair, and ends
  pub next_handed :
      (output : List ℕ) → 31 ≤ length output → (k : ℕ) → length (pair_words M (pair a b)) < k
      → hand_out value f a b k [] output ≡ record { words = pair_words M (pair a b); last = Ok None }
  unfolding ended words_left
  next_handed output h k l =
      let all_left = filter_length (before []) (pair_words M (pair a b)) in
      hands_out k [] output (record { over = λ s m. absurd (Memᴰ.not-nil m); short = omega arith }) h (omega (arith, all_left))
      ∙ ap ended (next_hands_out M (pair a b) k (omega arith))

  -- Demand 2 over the call: for calls enough, each word of the pair once, in order, never refused, and then that there is none
  pub next_exact :
      (output : List ℕ) → 31 ≤ length output → (k : ℕ) → length (pair_words M (pair a b)) < k
      → HandsOut M (pair a b) (hand_out value f a b k [] output)
  next_exact output h k l = rw (next_handed output h k l) (record {
    words = λ w. (word_out M (pair a b) w, word_in M (pair a b) w);
    once = pair_words_distinct M (pair a b);
    order = pair_words_ascending M (pair a b);
    end = refl;
  })
