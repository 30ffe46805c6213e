-- A pair's term built in a lent slice, and what stops it: no word, or a rival.
use Rattle.std.specs.Prelude.{ℕ, ◌+◌, ◌≤◌, ◌<◌, ◌≡◌, false, List, [], ◌∷◌, length, Result, Ok, Err}
use Rattle.limits.specs.Limits.{word_capacity}
use Rattle.masks.specs.promises.Mask.{test_bit}
use Rattle.masks.specs.promises.Table.{mask_in}
use Rattle.masks.specs.declared.Row.{Row}
use Rattle.rebac.specs.Matter.{Pair, IsPair, pair}
use Rattle.rebac.specs.Words.{Word, words_up_to}
use Rattle.rebac.specs.Symbols.{alphabet, cap_of}
use Rattle.rebac.specs.Rules.{Problem, Term}
use Rattle.rebac.specs.Verdict.{Verdict, convertible, no_word, rivalled, words_of}
use Rattle.rebac.specs.Mining.{begin, term_of}
use Rattle.rebac.specs.Existence.{problem_over, plain_term}
use Rattle.fields.specs.promises.Writing.{put}
use Rattle.graph.specs.declared.archive.Archive.{Archive}
use Rattle.search.specs.promises.PairSearch.{graph_of}
use Rattle.search.specs.Word.{symbols_in}
use Rattle.search.specs.declared.word.ShortWord.{ShortWord}
use Rattle.search.specs.declared.word.Word.{Word as WordValue}
use Rattle.rule_bytes.specs.ListBytes.{encode_term}
use Rattle.rules.specs.promises.Meets.{meets_term}
use Rattle.mining.specs.declared.build.Obstacle.{Obstacle}
use Rattle.mining.specs.declared.build.Obstacle.TheVariants.{NoWord, Rival}
use Rattle.mining.specs.Values.{pair_value}

-- the conversion of an archive; it is its matter's (proofs/ArchiveLaws)
unfoldable pub problem_in : Archive → Problem Pair Word
problem_in a =
    problem_over
    (graph_of a.graph)
    (cap_of a.words.language)
    (words_up_to (alphabet a.words.language a.words.labels) a.words.longest)
    (λ p. test_bit (mask_in a.permits p.first) p.second)

-- the bytes of a term
abbrev pub encoded_term : Term Word → List ℕ
encoded_term t = encode_term (plain_term t)

-- the bytes of a pair's first word alone, and of its whole term
unfoldable pub first_bytes : Archive → Pair → List ℕ
first_bytes a p = encoded_term (begin (problem_in a) p (words_of (problem_in a) p))

unfoldable pub term_bytes : Archive → Pair → List ℕ
term_bytes a p = encoded_term (term_of (problem_in a) p)

-- what comes of a pair, by its verdict: its term from place `at` on, and where that ends; or what is in the way
abbrev pub OutcomeAs : Archive → Pair → ℕ → List ℕ → List ℕ → Verdict Pair → Result ℕ Obstacle → Type 0
OutcomeAs a p at old new convertible r = (r ≡ Ok (at + length (term_bytes a p))) × (new ≡ put old at (term_bytes a p))
OutcomeAs a p at old new (no_word x) r = r ≡ Err NoWord
OutcomeAs a p at old new (rivalled x q) r = r ≡ Err (Rival (pair_value q))

-- what building a term needs: a pair of the archive, and room for its term from `at` on in an output of this size
pub record TermRoom (a : Archive) (p : Pair) (at size : ℕ) : Type 0 where
  pub is_pair : IsPair a.graph.parties p
  pub room : at + length (term_bytes a p) ≤ size

-- a pair that the row lacks does not meet the term
abbrev pub CoversTerm : Archive → List Word → Row → Type 0
CoversTerm a t row =
    (u v : ℕ) → IsPair a.graph.parties (pair u v) → test_bit (mask_in row u) v ≡ false
    → meets_term a.graph.parties a.graph.table u v t ≡ false

-- the words of the term that a pair's first word alone is
abbrev pub first_term : Archive → Pair → List Word
first_term a p = plain_term (begin (problem_in a) p (words_of (problem_in a) p))

-- what extending a term needs: the same room, this is the pair's first word, and it stands as a term of its own from `at` on
pub record TermBegun (a : Archive) (p : Pair) (w : ShortWord) (at : ℕ) (out : List ℕ) : Type 0 where
  pub worded : length (words_of (problem_in a) p) ≡ 0 → ⊥
  pub first : first_term a p ≡ symbols_in w.word ∷ []
  pub room : at + length (term_bytes a p) ≤ length out
  pub stands : put out at (first_bytes a p) ≡ out

-- what adding a word needs: a term of `number` words from `at` to `end`, a count that two bytes hold, and room for the word
pub record WordRoom (w : WordValue) (at end number size : ℕ) : Type 0 where
  pub short : w.len ≤ word_capacity
  pub count : number + 1 < 65536
  pub start : at + 2 ≤ end
  pub room : end + 1 + w.len ≤ size
