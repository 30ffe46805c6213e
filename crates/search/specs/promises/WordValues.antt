-- Words as values that code can hold: full arrays, and words short enough for them.
use Rattle.std.specs.Prelude.{◌≡◌, ℕ, ◌-◌, ◌<◌, ◌≤◌, List, ◌++◌, length, replicate, slice_index}
use Rattle.limits.specs.Limits.{word_capacity, symbol_count}
use Rattle.search.specs.declared.word.Word.{Word}

-- the word value of these symbols: zeros stand after them
abbrev pub word_of : List ℕ → Word
word_of l = record { len = length l; symbols = l ++ replicate (word_capacity - length l) 0 }

-- a value as code can hold it: 31 symbols, each a byte
pub record IsValue (w : Word) : Type 0 where
  pub full : length w.symbols ≡ word_capacity
  pub bytes : (i : ℕ) → slice_index w.symbols i < 256

-- a word that fits its array and whose symbols can be tested by shift
pub record Short (w : Word) : Type 0 where
  pub len : w.len ≤ word_capacity
  pub full : length w.symbols ≡ word_capacity
  pub symbols : (i : ℕ) → i < w.len → slice_index w.symbols i < symbol_count
