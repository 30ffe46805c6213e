-- The words kept are the pair's first words in order: reading them is going through its words, and the next after the last is kept next.
use Rattle.std.proofs.Common.{◌≡◌, refl, sym, ap, ◌∙◌, true, false, List, [], ◌∷◌, ◌++◌, ℕ, ◌+◌}
use Rattle.std.proofs.Common.{◌≤◌, ◌<◌, arith, length, drop, replicate, length-append, Some}
use Rattle.std.proofs.lemmas.List.{length-replicate}
use mathlib.Core.List.Memᴰ
use mathlib.Core.List.{Memᴰ}
use Rattle.std.proofs.Math.Option.{some}
use Rattle.lists.proofs.Cases.{by_mem}
use Rattle.rebac.specs.Matter.{Matter, Pair}
use Rattle.rebac.specs.Words.{Word}
use Rattle.rebac.specs.Paths.{has}
use Rattle.rebac.specs.NextWord.{next_word}
use Rattle.rebac.proofs.NextWordLaws.{next_finds}
use Rattle.fields.specs.Numbers.{u16_bytes}
use Rattle.fields.specs.promises.Writing.{put}
use Rattle.fields.proofs.NumberLaws.{u16_size}
use Rattle.fields.proofs.PutLaws.{put_length, put_over, put_first}
use Rattle.graph.specs.declared.archive.Archive.{Archive}
use Rattle.graph.specs.promises.Archive.{Shows}
use Rattle.graph.specs.FileMatter.{Limits}
use Rattle.graph.proofs.ShownLaws.{shown_by}
use Rattle.search.specs.Word.{symbols_in}
use Rattle.search.specs.promises.PairSearch.{graph_of}
use Rattle.search.specs.promises.WordValues.{Short}
use Rattle.search.specs.declared.word.Word.{Word as WordValue}
use Rattle.search.proofs.SearchLaws.{symbols_length, short_fits}
use Rattle.rule_bytes.specs.ListBytes.{encode_term}
use Rattle.rule_bytes.specs.promises.Reading.{FitWord, TermAt}
use Rattle.rule_bytes.specs.promises.Words.{AreAhead, NextWord}
use Rattle.rule_bytes.specs.declared.words.Words.{Words}
use Rattle.rule_bytes.proofs.PlaceLaws.{word_legal_fits}
use Rattle.rule_bytes.proofs.WordsLaws.{ReadWord, word_given}
use Rattle.search.specs.declared.word.ShortWord.{ShortWord}
use Rattle.rules.proofs.MatterLists.{legal_words}
use Rattle.mining.specs.promises.Building.{WordRoom}
use Rattle.mining.specs.promises.Kept.{Follow, last_of, KeptAs, NextKept, first_lacked, HadQuery}
use Rattle.mining.specs.Values.{pair_in}
use Rattle.mining.specs.declared.pairs.TwoPairs.{TwoPairs}
use Rattle.mining.specs.declared.kept.Kept.{Kept}
use Rattle.mining.proofs.LackedLaws.{Passed, in_hand, in_hand_short, passed_here, passed_had, had_none}
use Rattle.mining.proofs.FirstLaws.{no_words}
use Rattle.mining.proofs.BuildLaws.{put_drop, words_size_more, words_size_least}

-- one word more
follow_more : (M : Matter) (p : Pair) (from : Word) (ws : List Word) (w : Word) → Follow M p from ws
    → next_word M p (last_of from ws) ≡ some w → Follow M p from (ws ++ (w ∷ []))
follow_more M p from [] w f e = (e, tt)
follow_more M p from (v ∷ ws) w f e = (f.0, follow_more M p v ws w f.1 e)

pub last_more : (from : Word) (ws : List Word) (w : Word) → last_of from (ws ++ (w ∷ [])) ≡ w
last_more from [] w = refl
last_more from (v ∷ ws) w = last_more v ws w

module _ {M : Matter} (h : Limits M) (p : Pair) where
  next_fits : (from w : Word) → next_word M p from ≡ some w → FitWord w
  next_fits from w e =
      let k = (next_finds M p from).found w e in
      word_legal_fits M.labels M.language M.longest h.labels.1 h.longest.1 w ((legal_words M w).1 k.fits)

  follow_fits : (from : Word) (ws : List Word) → Follow M p from ws → (w : Word) → Memᴰ w ws → FitWord w
  follow_fits from [] f w m = absurd (Memᴰ.not-nil m)
  follow_fits from (v ∷ ws) f w m = by_mem m (λ q. rw q (next_fits from v f.0)) (λ n. follow_fits v ws f.1 w n)

-- no word is kept in zeros
pub kept_none : (a : Archive) (p : Pair) → KeptAs a p [] (record { list = replicate 2050 0; number = 0; end = 2 })
unfolding u16_bytes
kept_none a p = record {
  stands = rw (← no_words) (put_first (replicate 2050 0) (u16_bytes 0));
  number = refl;
  ends = rw (← no_words) (sym (u16_size 0));
  few = omega arith;
  small = omega arith;
  size = length-replicate {A = ℕ} 2050 0;
  order = λ M S. tt;
}

-- the kept words of which some were read, w the last of them: the other pair has those
pub record KeptTo (t : TwoPairs) (words : List Word) (left : Words) (w : WordValue) : Type 0 where
  pub rest : List Word
  pub after : List ℕ
  pub ahead : AreAhead left rest after
  pub query : HadQuery t w
  pub last : last_of [] words ≡ last_of (symbols_in w) rest
  pub follow : (M : Matter) → Shows M t.own.archive.now → Follow M (pair_in t.own.pair) (symbols_in w) rest

module _ {a : Archive} {p : Pair} {words : List Word} {k : Kept} (K : KeptAs a p words k) where
  pub kept_term : TermAt k.list 0 words (drop (0 + length (encode_term words)) k.list)
  kept_term =
      let S = (shown_by a).1 in
      record {
        bytes = ap (drop 0) (sym K.stands) ∙ put_drop k.list 0 (encode_term words) (omega arith);
        fits = record { number = omega (arith, K.number, K.few); words = follow_fits S.limits p [] words (K.order _ S) };
      }

  -- a word more, the next after the last, has room and is kept
  module _ (w : WordValue) (short : Short w) (more : k.number < 64) where
    abbrev longer : List Word
    longer = words ++ (symbols_in w ∷ [])

    kept_size_lem : length (encode_term longer) ≡ k.end + 1 + w.len
    kept_size_lem = words_size_more words (symbols_in w) ∙ omega (arith, K.ends, symbols_length w (short_fits short))

    pub kept_room : WordRoom w 0 k.end k.number (length k.list)
    kept_room = record {
      short = short.len;
      count = omega arith;
      start = omega (arith, words_size_least words, K.ends);
      room = omega (arith, K.small, K.size, short.len);
    }

    pub kept_more : {new : List ℕ} → new ≡ put k.list 0 (encode_term longer) → NextKept a p words w
        → KeptAs a p longer (record { list = new; number = k.number + 1; end = k.end + 1 + w.len })
    kept_more e next =
        let fits : 0 + length (encode_term longer) ≤ length k.list = omega (arith, kept_size_lem, kept_room.room) in
        record {
          stands = rw e (put_over k.list 0 (encode_term longer) (encode_term longer) (omega arith) (omega arith));
          number = omega (arith, K.number, length-append words (symbols_in w ∷ []));
          ends = sym kept_size_lem;
          few = omega arith;
          small = omega (arith, K.small, short.len);
          size = ap length e ∙ put_length k.list 0 (encode_term longer) fits ∙ K.size;
          order = λ M S. follow_more M p [] words (symbols_in w) (K.order M S) (next M S);
        }

-- nothing was read
pub kept_start : (t : TwoPairs) {words : List Word} {k : Kept} (K : KeptAs t.own.archive.now (pair_in t.own.pair) words k) {left : Words}
    → AreAhead left words (drop (0 + length (encode_term words)) k.list) → {w : WordValue} → w.len ≡ 0 → symbols_in w ≡ []
    → KeptTo t words left w
kept_start t {words} {k} K h len none =
    record {
      rest = words;
      after = drop (0 + length (encode_term words)) k.list;
      ahead = h;
      query = record { within = omega (arith, len); had = λ M S. rw none (had_none M (pair_in t.own.pair) (pair_in t.other)) };
      last = rw none refl;
      follow = rw none K.order;
    }

module _ {t : TwoPairs} {words : List Word} {left : Words} {w : WordValue} (f : KeptTo t words left w) where
  abbrev a : Archive
  a = t.own.archive.now

  abbrev p : Pair
  p = pair_in t.own.pair

  abbrev q : Pair
  q = pair_in t.other

  -- the word x is read
  module _ {x : ShortWord} {new : Words} (n : NextWord left x new) where
    read : ReadWord left x new f.rest f.after
    read = word_given f.ahead n

    read_next : (M : Matter) → Shows M a → Follow M p (symbols_in w) (symbols_in x.word ∷ read.rest)
    read_next M S = rw read.split at (f.follow M S)

    -- it is one of the pair's next words
    read_passed : (M : Matter) → Shows M a → Passed M p q (Some x)
    read_passed M S = record { from = symbols_in w; next = (read_next M S).0; same = f.query.had M S }

    read_within : x.word.len ≤ a.words.longest
    read_within = let S = (shown_by a).1 in in_hand_short a S x (in_hand (read_passed _ S))

    -- the other pair lacks it, or has it
    pub read_lacked : has (graph_of a.graph) q (symbols_in x.word) ≡ false
        → (M : Matter) → Shows M a → first_lacked M p q ≡ some (symbols_in x.word)
    read_lacked l M S = passed_here (read_passed M S) a S l

    pub read_had : has (graph_of a.graph) q (symbols_in x.word) ≡ true → KeptTo t words new x.word
    read_had l =
        record {
          rest = read.rest;
          after = f.after;
          ahead = read.ahead;
          query = record { within = read_within; had = λ M S. passed_had (read_passed M S) a S l };
          last = f.last ∙ ap (last_of (symbols_in w)) read.split;
          follow = λ M S. (read_next M S).1;
        }
