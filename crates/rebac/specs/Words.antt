-- Words (000: path labels) and their order. A word is the list of its symbols.
use Rattle.std.specs.Prelude.{Bool, true, false, ◌&&◌, ◌||◌, ℕ, zero, suc, ◌≤◌, ltb, eqb, length, List, [], ◌∷◌, ◌++◌, map}
use mathlib.Core.List.{Memᴰ}
use Rattle.lists.specs.Lists.{flat_map}

abbrev pub Word : Type 0
Word = List ℕ

-- the first difference decides, lower first
unfoldable pub lex_less : List ℕ → List ℕ → Bool
lex_less [] [] = false
lex_less [] (y ∷ ys) = true
lex_less (x ∷ xs) [] = false
lex_less (x ∷ xs) (y ∷ ys) = ltb x y || (eqb x y && lex_less xs ys)

-- 01: "Word order: shorter first, then by the first differing symbol, lower first."
unfoldable pub before : Word → Word → Bool
before v w = ltb (length v) (length w) || (eqb (length v) (length w) && lex_less v w)

-- every word of k symbols of the alphabet, in word order
unfoldable pub words_of_length : List ℕ → ℕ → List Word
words_of_length al zero = [] ∷ []
words_of_length al (suc k) = flat_map (λ s. map (λ w. s ∷ w) (words_of_length al k)) al

-- every word of 1 to d symbols of the alphabet, in word order
unfoldable pub words_up_to : List ℕ → ℕ → List Word
words_up_to al zero = []
words_up_to al (suc k) = words_up_to al k ++ words_of_length al (suc k)

-- each symbol of the word is of the alphabet
abbrev pub Over : List ℕ → Word → Type 0
Over al w = (s : ℕ) → Memᴰ s w → Memᴰ s al

-- the same words as a statement: 1 to d symbols, each of the alphabet
pub record IsWord (al : List ℕ) (d : ℕ) (w : Word) : Type 0 where
  pub over : Over al w
  pub some : 1 ≤ length w
  pub short : length w ≤ d
