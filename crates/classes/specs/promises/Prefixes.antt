-- The first telling word of a length over a graph in letters, by prefixes: what the functions need, and what they promise each other.
use Rattle.std.specs.Prelude.{ℕ, ◌+◌, ◌-◌, ◌≤◌, ◌<◌, ◌≡◌, false, List, ◌∷◌, ◌++◌, map, length, replicate}
use Rattle.std.specs.Prelude.{MatchOption, None, Some, Option as Maybe}
use Rattle.std.proofs.Math.Option.{Option}
use Rattle.lists.specs.Lists.{first_by, up_from}
use Rattle.limits.specs.Limits.{longest_word, symbol_count}
use Rattle.masks.specs.promises.Mask.{test_bit}
use Rattle.rebac.specs.Matter.{Pair, pair}
use Rattle.rebac.specs.Words.{words_of_length}
use Rattle.rebac.specs.Paths.{Graph, has}
use Rattle.rebac.specs.promises.Telling.{tells}
use Rattle.search.specs.Word.{symbols_in}
use Rattle.search.specs.promises.PairSearch.{graph_of}
use Rattle.search.specs.declared.pair.TwoPairsIn.{TwoPairsIn}
use Rattle.search.specs.declared.word.ShortWord.{ShortWord}
use Rattle.search.specs.declared.word.Word.{Word}
use Rattle.words.specs.promises.Next.{Alphabet, Places, WordAs}
use Rattle.letters.specs.promises.Letters.{Classed}
use Rattle.letters.specs.declared.written.Letters.{Letters}
use Rattle.classes.specs.declared.pairs.PairsInLetters.{PairsInLetters}

-- the pair whose words are sought, and the one that lacks them
abbrev pub own_pair : TwoPairsIn → Pair
own_pair q = pair q.first q.second

abbrev pub other_pair : TwoPairsIn → Pair
other_pair q = pair q.u q.v

-- the letters from `low` to below `high`
abbrev pub letters_from : ℕ → ℕ → List ℕ
letters_from low high = up_from low (high - low)

-- the first telling word that begins with these letters and goes on with k of the alphabet
unfoldable pub first_onward : Graph ℕ → Pair → Pair → List ℕ → List ℕ → ℕ → Option (List ℕ)
first_onward g p q al fixed k = first_by (tells g p q) (map (λ w. fixed ++ w) (words_of_length al k))

-- no word of the pair begins with these letters and c and has k more
abbrev pub Closed : Graph ℕ → Pair → List ℕ → ℕ → ℕ → Type 0
Closed g p fixed k c = (rest : List ℕ) → length rest ≡ k → has g p (fixed ++ (c ∷ rest)) ≡ false

-- what is needed: to seek along letters below `high`, for which those from there on are the classes, if there are any,
pub record SeekQuery (s : PairsInLetters) (w : Word) (at high : ℕ) : Type 0 where
  pub place : at ≤ w.len
  pub order : high ≤ s.span.end
  pub classed : high < s.span.end → Classed (graph_of s.pairs.graph) high s.span.end

-- for the first telling word of so many symbols, by the pair's words one after another,
pub record WordsQuery (q : TwoPairsIn) (len : ℕ) : Type 0 where
  pub some : 1 ≤ len
  pub long : len ≤ longest_word
  pub alphabet : (al : List ℕ) × Alphabet al q.graph.parties q.graph.table

-- and for the first telling word of more symbols
pub record TellingQuery (q : TwoPairsIn) (d : ℕ) : Type 0 where
  pub long : d ≤ longest_word
  pub alphabet : (al : List ℕ) × Alphabet al q.graph.parties q.graph.table

-- what is promised: the pairs in the letters' graph,
pub record Over (q : TwoPairsIn) (l : Letters) (r : PairsInLetters) : Type 0 where
  pub parties : r.pairs.graph.parties ≡ q.graph.parties
  pub table : r.pairs.graph.table ≡ l.graph
  pub first : r.pairs.first ≡ q.first
  pub second : r.pairs.second ≡ q.second
  pub u : r.pairs.u ≡ q.u
  pub v : r.pairs.v ≡ q.v
  pub base : r.span.base ≡ l.span.base
  pub end : r.span.end ≡ l.span.end

-- a mask outside of which no letter from `low` to below `high` may stand at place `at`,
abbrev pub Opens : TwoPairsIn → Word → ℕ → ℕ → ℕ → ℕ → Type 0
Opens q w at low high mask =
    (fixed : List ℕ) (k : ℕ) → Places w fixed 0 k → length fixed ≡ at
    → (c : ℕ) → low ≤ c → c < high → test_bit mask c ≡ false → Closed (graph_of q.graph) (own_pair q) fixed k c

-- the same by the letters that may follow each other, for any pairs and graph in which these may,
abbrev pub After : PairsInLetters → Word → ℕ → ℕ → Type 0
After s w at mask = (x : PairsInLetters) → x.follow ≡ s.follow → Opens x.pairs w at 0 symbol_count mask

-- the first telling word with the places before `at` as they stand and letters from `low` to below `high` after, where there is one,
abbrev pub Sought : TwoPairsIn → Word → ℕ → ℕ → ℕ → Maybe ShortWord → Type 0
Sought q w at low high r = (fixed : List ℕ) (k : ℕ) → symbols_in w ≡ fixed ++ replicate k 0 → length fixed ≡ at
    → WordAs (first_onward (graph_of q.graph) (own_pair q) (other_pair q) (letters_from low high) fixed k) r

-- no word is found of a length above `from` and up to k, below n,
abbrev pub NoneUpTo : (ℕ → Maybe ShortWord → Type 0) → ℕ → ℕ → ℕ → Type 0
NoneUpTo Told n from k = (j : ℕ) → from < j → j ≤ k → j < n → (r : Maybe ShortWord) × Told j r × (r ≡ None)

-- and the word found for the first length above `from` and up to d, below n, where there is one
abbrev pub FirstLength : (ℕ → Maybe ShortWord → Type 0) → ℕ → ℕ → ℕ → Maybe ShortWord → Type 0
FirstLength Told n from d r =
    MatchOption r (NoneUpTo Told n from d)
    (λ w. (k : ℕ) × (from ≤ k) × (k < d) × Told (k + 1) (Some w) × NoneUpTo Told n from k)
