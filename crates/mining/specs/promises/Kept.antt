-- The first words of a pair, kept as the bytes of a term; and what seeking the first word that another pair lacks promises.
use Rattle.std.proofs.Math.Option.{Option, some}
use Rattle.std.specs.Prelude.{ℕ, ◌+◌, ◌*◌, ◌≤◌, ◌<◌, ◌≡◌, ◌&&◌, List, [], ◌∷◌, length, Some, Result, Ok, Err, Option as Maybe}
use Rattle.lists.specs.Lists.{first_by}
use Rattle.rebac.specs.Matter.{Matter, Pair}
use Rattle.rebac.specs.Words.{Word, before}
use Rattle.rebac.specs.Existence.{problem_of}
use Rattle.rebac.specs.Mining.{lacks}
use Rattle.rebac.specs.NextWord.{pair_words, next_word}
use Rattle.fields.specs.promises.Writing.{put}
use Rattle.graph.specs.declared.archive.Archive.{Archive}
use Rattle.graph.specs.promises.Archive.{Shows}
use Rattle.search.specs.Word.{symbols_in}
use Rattle.search.specs.declared.word.Word.{Word as WordValue}
use Rattle.search.specs.declared.word.ShortWord.{ShortWord}
use Rattle.words.specs.promises.Next.{WordAs}
use Rattle.rule_bytes.specs.ListBytes.{encode_term}
use Rattle.mining.specs.Values.{pair_in}
use Rattle.mining.specs.declared.kept.Kept.{Kept}
use Rattle.mining.specs.declared.pairs.TwoPairs.{TwoPairs}

-- so many words are kept at most, and their bytes: a count, and a length byte and 31 symbols for each word
abbrev pub most_kept : ℕ
most_kept = 64

abbrev pub kept_size : ℕ
kept_size = 2050

-- each word is the pair's next after the one before it, and the first is the next after `from`
abbrev pub Follow : Matter → Pair → Word → List Word → Type 0
Follow M p from [] = Unit {0}
Follow M p from (w ∷ ws) = (next_word M p from ≡ some w) × Follow M p w ws

-- the last of the words; `from` where there is none
abbrev pub last_of : Word → List Word → Word
last_of from [] = from
last_of from (w ∷ ws) = last_of w ws

-- these first words of the pair are kept
pub record KeptAs (a : Archive) (p : Pair) (words : List Word) (k : Kept) : Type 0 where
  pub stands : put k.list 0 (encode_term words) ≡ k.list
  pub number : k.number ≡ length words
  pub ends : k.end ≡ length (encode_term words)
  pub few : k.number ≤ most_kept
  pub small : k.end ≤ 2 + 32 * k.number
  pub size : length k.list ≡ kept_size
  pub order : (M : Matter) → Shows M a → Follow M p [] words

abbrev pub SomeKept : Archive → Pair → Kept → Type 0
SomeKept a p k = (words : List Word) × KeptAs a p words k

-- a word is the pair's next after the last of the words
abbrev pub NextKept : Archive → Pair → List Word → WordValue → Type 0
NextKept a p words w = (M : Matter) → Shows M a → next_word M p (last_of [] words) ≡ some (symbols_in w)

-- what keeping a word needs: room for it
pub record KeepQuery (k : Kept) : Type 0 where
  pub more : k.number < most_kept
  pub kept : (a : Archive) × ((p : Pair) × SomeKept a p k)

-- the first word of p's that q lacks
abbrev pub first_lacked : Matter → Pair → Pair → Option Word
first_lacked M p q = first_by (lacks (problem_of M) p q) (pair_words M p)

-- it stands after w: q has every word of p's up to w
abbrev pub HadTo : Matter → Pair → Pair → Word → Type 0
HadTo M p q w = first_lacked M p q ≡ first_by (λ v. before w v && lacks (problem_of M) p q v) (pair_words M p)

-- the first word of the one pair's that the other lacks
abbrev pub FirstLackedAs : TwoPairs → Maybe ShortWord → Type 0
FirstLackedAs t r = (M : Matter) → Shows M t.own.archive.now → WordAs (first_lacked M (pair_in t.own.pair) (pair_in t.other)) r

-- what seeking on after a word needs: the other pair has every word of the one up to it
pub record HadQuery (t : TwoPairs) (w : WordValue) : Type 0 where
  pub within : w.len ≤ t.own.archive.now.words.longest
  pub had : (M : Matter) → Shows M t.own.archive.now → HadTo M (pair_in t.own.pair) (pair_in t.other) (symbols_in w)

-- what seeking among the kept words promises: a kept word that the other pair lacks is the first that it lacks;
-- where it has all, the last one is handed out, or the empty word where none is kept
pub record AllKept (t : TwoPairs) (words : List Word) (w : WordValue) : Type 0 where
  pub query : HadQuery t w
  pub last : symbols_in w ≡ last_of [] words

abbrev pub AmongKept : TwoPairs → List Word → Result ShortWord ShortWord → Type 0
AmongKept t words (Ok w) = FirstLackedAs t (Some w)
AmongKept t words (Err w) = AllKept t words w.word

-- what seeking on from the last kept word needs: the other pair has it and all before it
pub record OnwardQuery (t : TwoPairs) (k : Kept) (w : WordValue) : Type 0 where
  pub query : HadQuery t w
  pub words : List Word
  pub kept : KeptAs t.own.archive.now (pair_in t.own.pair) words k
  pub last : symbols_in w ≡ last_of [] words

-- what seeking a first lacked word promises: the word, where there is one, and the words kept then
pub record LackedAs (t : TwoPairs) (r : Maybe ShortWord) (k : Kept) : Type 0 where
  pub next : FirstLackedAs t r
  pub kept : SomeKept t.own.archive.now (pair_in t.own.pair) k
