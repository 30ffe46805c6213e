-- A pair that cannot walk a word of the term, is not unpermitted or misses a word is passed; one that has all of them is a rival, or
-- brings the first word of the pair's that it lacks.
-- Invariant of the pairs: in the slice stands the term built against the pairs before number k, `alive` covers it, and the pair's first
-- words are kept.
-- Invariant of the words: the pair in turn is unpermitted, it has the words read, and the others are ahead.
use Rattle.std.proofs.Common.{◌≡◌, true, List, ℕ}
use Rattle.masks.specs.declared.Row.{Row}
use Rattle.rebac.specs.Matter.{Pair}
use Rattle.graph.specs.declared.archive.Archive.{Archive}
use Rattle.search.specs.declared.word.ShortWord.{ShortWord}
use Rattle.rule_bytes.specs.declared.words.Words.{Words}
use Rattle.rules.proofs.MeetLaws.{TermSoFar}
use Rattle.mining.specs.Values.{pair_in}
use Rattle.mining.specs.promises.Pairs.{pair_at}
use Rattle.mining.specs.promises.Kept.{SomeKept}
use Rattle.mining.specs.declared.kept.Kept.{Kept}
use Rattle.mining.proofs.BuildLaws.{has_in, Building, Turn, words_at, after_at}
use Rattle.mining.proofs.build.extend_term.Given as goal

-- the pair in turn is unpermitted, and has the words read
pub record Testing (a : Archive) (p : Pair) (first : ShortWord) (at : ℕ) (old : List ℕ) (k number end : ℕ) (row : Row) (out : List ℕ)
    (words : Words) : Type 0 where
  pub turn : Turn a p first at old k number end row out
  pub met : TermSoFar (has_in a (pair_at k)) words true (words_at turn) (after_at turn)

abbrev pub invariant-loop-word : goal.invariant-loop-word
invariant-loop-word l =
    (l.k ≡ l.initial.k)
    × Testing l.a (pair_in l.own.pair) l.fn.first l.at l.fn.out l.initial.k l.number l.end l.alive
    l.initial.word-iterator.list.now l.word-iterator

-- the term built so far, and the pair's first words kept
pub record Extending (a : Archive) (p : Pair) (at : ℕ) (old : List ℕ) (k number end : ℕ) (row : Row) (out : List ℕ) (kept : Kept)
    : Type 0 where
  pub built : Building a p at old k number end row out
  pub known : SomeKept a p kept

abbrev pub invariant-pairs : goal.invariant-pairs
invariant-pairs l = Extending l.a (pair_in l.own.pair) l.at l.fn.out l.k l.number l.end l.alive l.out l.kept
