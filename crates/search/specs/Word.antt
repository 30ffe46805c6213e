-- A word as one value: a length and 31 symbols, of which those past the length mean nothing.
use Rattle.std.specs.Prelude.{◌≡◌, ℕ, List, length, take}
use Rattle.search.specs.declared.word.Word.{Word}

-- the word's symbols
abbrev pub symbols_in : Word → List ℕ
symbols_in w = take w.len w.symbols

-- a word value of these symbols; what stands past its length may be anything
pub record Carries (w : Word) (v : List ℕ) : Type 0 where
  pub len : w.len ≡ length v
  pub symbols : symbols_in w ≡ v
