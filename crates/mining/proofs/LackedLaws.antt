-- An archive's words of a pair are its matter's, so rebac's laws of next word tell how a caller goes through them.
use Rattle.std.proofs.Common.{◌≡◌, refl, sym, ap, ◌∙◌, Bool, true, false, not, List, [], ℕ, suc, ◌≤◌, ◌<◌, arith, length, None, Some}
use Rattle.std.specs.Prelude.{Option as Maybe}
use Rattle.std.proofs.Math.Option.{none, some}
use Rattle.lists.specs.Lists.{filter_by}
use Rattle.rebac.specs.Matter.{Matter, Pair}
use Rattle.rebac.specs.Paths.{has}
use Rattle.rebac.specs.Symbols.{alphabet, enlarged, cap_of}
use Rattle.rebac.specs.Words.{before, words_up_to}
use Rattle.rebac.specs.Verdict.{words_of}
use Rattle.rebac.specs.Mining.{lacks}
use Rattle.rebac.specs.Existence.{problem_of, problem_over, matter_words}
use Rattle.rebac.specs.NextWord.{pair_words, next_word}
use Rattle.rebac.specs.promises.Forms.{search_next}
use Rattle.rebac.proofs.NextWords.{words_left}
use Rattle.rebac.proofs.PlainLaws.{lacks_plain}
use Rattle.rebac.proofs.NextWordLaws.{next_finds, first_after_start, first_after_none, first_after_here, first_after_next, words_left_fall}
use Rattle.graph.specs.declared.archive.Archive.{Archive}
use Rattle.graph.specs.promises.Archive.{Shows}
use Rattle.graph.proofs.ShownLaws.{shown_by}
use Rattle.search.specs.declared.word.ShortWord.{ShortWord}
use Rattle.search.specs.Word.{symbols_in}
use Rattle.search.specs.promises.PairSearch.{graph_of}
use Rattle.search.proofs.SearchLaws.{symbols_length, short_fits}
use Rattle.words.specs.promises.Next.{Alphabet, WordAs}
use Rattle.paths.proofs.CallLaws.{shown_graph, next_shown}
use Rattle.mining.specs.Values.{pair_in}
use Rattle.mining.specs.declared.pairs.TwoPairs.{TwoPairs}
use Rattle.mining.specs.promises.Kept.{first_lacked, HadTo, FirstLackedAs, HadQuery}

-- how many words of the pair stand after a word, told from the archive
unfoldable pub words_left_in : Archive → Pair → List ℕ → ℕ
words_left_in a p w =
    let words = words_up_to (alphabet a.words.language a.words.labels) a.words.longest in
    let S = problem_over (graph_of a.graph) (cap_of a.words.language) words (λ q. false) in
    length (filter_by (before w) (words_of S p))

-- a word in hand and the words after it
abbrev pub left_in : Archive → Pair → Maybe ShortWord → ℕ
left_in a p None = 0
left_in a p (Some w) = suc (words_left_in a p (symbols_in w.word))

-- what next_word ensures of the word after w
abbrev pub NextOf : Archive → Pair → ShortWord → Maybe ShortWord → Type 0
NextOf a p w r = (al : List ℕ) → Alphabet al a.graph.parties a.graph.table
    → WordAs (search_next al (graph_of a.graph) p a.words.longest (symbols_in w.word)) r

-- c is the pair's next word after one up to which the other pair has all
pub record Passed (M : Matter) (p q : Pair) (c : Maybe ShortWord) : Type 0 where
  pub from : List ℕ
  pub next : WordAs (next_word M p from) c
  pub same : HadTo M p q from

-- the word in hand is one of the pair's
pub record InHand (M : Matter) (p : Pair) (w : List ℕ) : Type 0 where
  pub some : 1 ≤ length w
  pub short : length w ≤ M.longest
  pub held : has (enlarged M) p w ≡ true

pub passed_end : {M : Matter} {p q : Pair} → Passed M p q None → first_lacked M p q ≡ none
passed_end {M} {p} {q} h = h.same ∙ first_after_none M p (lacks (problem_of M) p q) h.from h.next

module _ {M : Matter} {p q : Pair} {w : ShortWord} (h : Passed M p q (Some w)) where
  pub in_hand : InHand M p (symbols_in w.word)
  in_hand = let k = (next_finds M p h.from).found _ h.next in record { some = k.fits.some; short = k.fits.short; held = k.held }

  module _ (a : Archive) (S : Shows M a) where
    lacks_it : {b : Bool} → has (graph_of a.graph) q (symbols_in w.word) ≡ b
        → lacks (problem_of M) p q (symbols_in w.word) ≡ not b
    lacks_it n = lacks_plain M refl p q (symbols_in w.word) in_hand.held ∙ ap not (rw (shown_graph M a S) at n)

    pub passed_here : has (graph_of a.graph) q (symbols_in w.word) ≡ false
        → first_lacked M p q ≡ some (symbols_in w.word)
    passed_here n = h.same ∙ first_after_here M p (lacks (problem_of M) p q) h.from _ h.next (lacks_it n)

    -- the other pair has it: then it has all up to it
    pub passed_had : has (graph_of a.graph) q (symbols_in w.word) ≡ true → HadTo M p q (symbols_in w.word)
    passed_had n = h.same ∙ first_after_next M p (lacks (problem_of M) p q) h.from _ h.next (lacks_it n)

-- it has all up to the empty word, which stands before all
pub had_none : (M : Matter) (p q : Pair) → HadTo M p q []
had_none M p q = sym (first_after_start M p (lacks (problem_of M) p q))

module _ (a : Archive) {M : Matter} (S : Shows M a) where
  pub words_left_in_lem : (p : Pair) (w : List ℕ) → words_left_in a p w ≡ words_left M p w
  unfolding words_left_in words_left pair_words words_of problem_of problem_over matter_words
  words_left_in_lem p w = rw (shown_graph M a S, S.language, S.labels, S.longest) refl

  pub left_falls : (p : Pair) (w : ShortWord) (r : Maybe ShortWord) → WordAs (next_word M p (symbols_in w.word)) r
      → left_in a p r < left_in a p (Some w)
  left_falls p w None x = omega arith
  left_falls p w (Some v) x =
      let k = words_left_fall M p (symbols_in w.word) (symbols_in v.word) x in
      rw (words_left_in_lem p (symbols_in w.word), words_left_in_lem p (symbols_in v.word)) (omega (arith, k))

pub in_hand_short : (a : Archive) {M : Matter} → Shows M a → {p : Pair} (w : ShortWord) → InHand M p (symbols_in w.word)
    → w.word.len ≤ a.words.longest
in_hand_short a S w h = omega (arith, symbols_length w.word (short_fits w.short), h.short, S.longest)

pub longest_in : (a : Archive) → a.words.longest ≤ 31
longest_in a = let S = (shown_by a).1 in omega (arith, S.longest, S.limits.longest.1)

pub in_hand_some : {M : Matter} {p : Pair} (w : ShortWord) → InHand M p (symbols_in w.word) → 1 ≤ w.word.len
in_hand_some w h = omega (arith, symbols_length w.word (short_fits w.short), h.some)

-- two pairs, a word up to which the other has every word of the one, and the one's next word after it
module _ (t : TwoPairs) (w : ShortWord) (q : HadQuery t w.word) where
  abbrev a : Archive
  a = t.own.archive.now

  abbrev p : Pair
  p = pair_in t.own.pair

  pub next_in : (r : Maybe ShortWord) → NextOf a p w r → (M : Matter) → Shows M a → WordAs (next_word M p (symbols_in w.word)) r
  next_in r n M S = next_shown M a S p w.word w.short q.within r n

  passed : (r : Maybe ShortWord) → NextOf a p w r → (M : Matter) → Shows M a → Passed M p (pair_in t.other) r
  passed r n M S = record { from = symbols_in w.word; next = next_in r n M S; same = q.had M S }

  -- there is none
  pub next_none : NextOf a p w None → FirstLackedAs t None
  next_none n M S = passed_end (passed None n M S)

  -- the other pair lacks it, or has it
  module _ (v : ShortWord) (n : NextOf a p w (Some v)) where
    pub next_lacked : has (graph_of a.graph) (pair_in t.other) (symbols_in v.word) ≡ false → FirstLackedAs t (Some v)
    next_lacked h M S = passed_here (passed (Some v) n M S) a S h

    held : InHand (shown_by a).0 p (symbols_in v.word)
    held = in_hand (passed (Some v) n _ (shown_by a).1)

    pub next_had : has (graph_of a.graph) (pair_in t.other) (symbols_in v.word) ≡ true → HadQuery t v.word
    next_had h = record {
      within = in_hand_short a (shown_by a).1 v held;
      had = λ M S. passed_had (passed (Some v) n M S) a S h;
    }

    pub next_some : 1 ≤ v.word.len
    next_some = in_hand_some v held
