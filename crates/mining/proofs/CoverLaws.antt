-- Rows that cover a term: the pairs that each of its words' rows has in common. What a row lacks, some word's row lacks.
use Rattle.std.proofs.Common.{◌≡◌, refl, sym, ap, ◌∙◌, Bool, true, false, ◌&&◌, List, [], ◌∷◌, ◌++◌, append_assoc, ℕ, ◌<◌, arith}
use Rattle.lists.specs.Lists.{all_of}
use Rattle.lists.proofs.Cases.{by_test, both, and_false}
use Rattle.lists.proofs.ListLaws.{all_append, all_one}
use Rattle.masks.specs.promises.Mask.{test_bit}
use Rattle.masks.specs.promises.Table.{mask_in}
use Rattle.masks.specs.declared.Row.{Row}
use Rattle.rebac.specs.Matter.{pair}
use Rattle.rebac.specs.Words.{Word}
use Rattle.rebac.specs.Paths.{has}
use Rattle.graph.specs.declared.archive.Archive.{Archive}
use Rattle.graph.specs.Legal.{is_pair}
use Rattle.graph.proofs.LegalLaws.{pair_of}
use Rattle.search.specs.promises.PairSearch.{graph_of}
use Rattle.search.specs.promises.WalkPairs.{CoversPairs}
use Rattle.search.specs.Word.{symbols_in}
use Rattle.search.specs.declared.word.ShortWord.{ShortWord}
use Rattle.rule_bytes.specs.promises.Words.{AreAhead, NextWord}
use Rattle.rule_bytes.specs.declared.words.Words.{Words}
use Rattle.rule_bytes.proofs.WordsLaws.{word_given}
use Rattle.rules.specs.promises.Meets.{meets_term}
use Rattle.mining.specs.promises.Building.{CoversTerm}

module _ (a : Archive) where
  -- a full row covers no words, a word's row the word alone
  pub covers_none : (row : Row) → ((u v : ℕ) → u < 32 → v < 32 → test_bit (mask_in row u) v ≡ true) → CoversTerm a [] row
  covers_none row f u v i e = both (f u v (omega (arith, i.first, a.graph.within)) (omega (arith, i.second, a.graph.within))) e

  pub covers_one : (w : Word) (row : Row) → CoversPairs a.graph.parties a.graph.table w row → CoversTerm a (w ∷ []) row
  unfolding meets_term
  covers_one w row h u v i e = all_one (has (graph_of a.graph) (pair u v)) w ∙ h u v i.first e

  -- one word more
  pub covers_more : (t : List Word) (w : Word) (row walked common : Row) → CoversTerm a t row
      → CoversPairs a.graph.parties a.graph.table w walked
      → ((u v : ℕ) → test_bit (mask_in common u) v ≡ (test_bit (mask_in row u) v && test_bit (mask_in walked u) v))
      → CoversTerm a (t ++ (w ∷ [])) common
  unfolding meets_term
  covers_more t w row walked common h k c u v i e =
      let p : Word → Bool = has (graph_of a.graph) (pair u v) in
      all_append p t (w ∷ [])
      ∙ by_test (test_bit (mask_in row u) v)
      (λ y.
      let z : test_bit (mask_in walked u) v ≡ false = sym (c u v ∙ rw y refl) ∙ e in
      and_false (all_of p t) (all_one p w ∙ k u v i.first z))
      (λ n. rw (h u v i n) refl)

  -- so a pair that the row lacks is none or does not meet the term
  pub covers_not : (t : List Word) (row : Row) → CoversTerm a t row → (u v : ℕ) → test_bit (mask_in row u) v ≡ false
      → (is_pair a.graph.parties u v && meets_term a.graph.parties a.graph.table u v t) ≡ false
  covers_not t row h u v e =
      by_test (is_pair a.graph.parties u v) (λ i. rw i (h u v (pair_of a.graph.parties u v i) e)) (λ n. rw n refl)

-- a term of which some words were read: the row covers those
pub record WalkedTo (a : Archive) (words : Words) (row : Row) (t : List Word) (s : List ℕ) : Type 0 where
  pub read : List Word
  pub rest : List Word
  pub split : t ≡ read ++ rest
  pub ahead : AreAhead words rest s
  pub covers : CoversTerm a read row

module _ {a : Archive} {t : List Word} {s : List ℕ} {words : Words} {row : Row} where
  pub walked_start : AreAhead words t s → CoversTerm a [] row → WalkedTo a words row t s
  walked_start h c = record { read = []; rest = t; split = refl; ahead = h; covers = c }

  module _ (f : WalkedTo a words row t s) where
    pub walked_next : {w : ShortWord} {new : Words} (walked common : Row) → NextWord words w new
        → CoversPairs a.graph.parties a.graph.table (symbols_in w.word) walked
        → ((u v : ℕ) → test_bit (mask_in common u) v ≡ (test_bit (mask_in row u) v && test_bit (mask_in walked u) v))
        → WalkedTo a new common t s
    walked_next {w} {new} walked common n k c =
        let g = word_given f.ahead n in
        record {
          read = f.read ++ (symbols_in w.word ∷ []);
          rest = g.rest;
          split = f.split ∙ ap (λ (l : List Word). f.read ++ l) g.split ∙ sym (append_assoc f.read (symbols_in w.word ∷ []) g.rest);
          ahead = g.ahead;
          covers = covers_more a f.read (symbols_in w.word) row walked common f.covers k c;
        }
