-- What the words of a term, read one after another, promise.
use Rattle.std.specs.Prelude.{ℕ, ◌+◌, ◌≡◌, Option, Some, None}
use mathlib.Core.List.{List}
use Rattle.rule_bytes.specs.ListBytes.{encode_word}
use Rattle.rule_bytes.specs.promises.Reading.{word_at, FitWord, Ahead}
use Rattle.search.specs.declared.word.ShortWord.{ShortWord}
use Rattle.rule_bytes.specs.declared.words.Words.{Words}

-- the words t are ahead, and s follows them
abbrev pub AreAhead : Words → List (List ℕ) → List ℕ → Type 0
AreAhead w t s = Ahead encode_word FitWord w.list.now w.place w.left t s

-- so many words are ahead as are left
abbrev pub WordsAhead : Words → Type 0
WordsAhead w = (t : List (List ℕ)) × ((s : List ℕ) × AreAhead w t s)

-- one word fewer is left, and the next stands behind the one that was read
pub record NextWord (old : Words) (r : ShortWord) (new : Words) : Type 0 where
  pub list : new.list ≡ old.list
  pub left : new.left + 1 ≡ old.left
  pub read : record { word = r.word; next = new.place } ≡ word_at old.list.now old.place

-- the word at the place, or none where none is left
abbrev pub GivesWord : Words → Option ShortWord → Words → Type 0
GivesWord old (Some r) new = NextWord old r new
GivesWord old None new = (old.left ≡ 0) × (new ≡ old)
