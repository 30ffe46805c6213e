-- A rule list as permitconv prints it (01, "Threadings tried").
use Rattle.std.specs.Prelude.{ℕ, ◌+◌, ◌/◌, ◌%◌, List, [], ◌∷◌, ◌++◌, ltb}
use Rattle.lists.specs.Lists.{flat_map, pick}

-- an upper-case hexadecimal digit: 0 to 9 from 30, A to F from 41
unfoldable pub hex_digit : ℕ → ℕ
hex_digit d = pick (ltb d 10) (48 + d) (55 + d)

-- "symbols as two upper-case hexadecimal digits"
unfoldable pub symbol_text : ℕ → List ℕ
symbol_text s = hex_digit (s / 16) ∷ hex_digit (s % 16) ∷ []

-- what follows an entry: `last` after the last one, `between` after any other
abbrev pub after : {A : Type 0} → List ℕ → List ℕ → List A → List ℕ
after between last [] = last
after between last (x ∷ l) = between

-- the texts of the entries, joined
unfoldable pub joined : {A : Type 0} → (A → List ℕ) → List ℕ → List ℕ → List A → List ℕ
joined f between last [] = []
joined f between last (x ∷ l) = f x ++ (after between last l ++ joined f between last l)

abbrev pub dot : List ℕ
dot = 46 ∷ []

abbrev pub ampersand : List ℕ
ampersand = 32 ∷ 38 ∷ 32 ∷ []

abbrev pub line_end : List ℕ
line_end = 10 ∷ []

-- "joined by "."", and "words joined by " & "", "each line ends in 0A"
unfoldable pub word_text : List ℕ → List ℕ
word_text w = joined symbol_text dot [] w

unfoldable pub term_text : List (List ℕ) → List ℕ
term_text t = joined word_text ampersand line_end t

-- "a line for each term"
unfoldable pub list_text : List (List (List ℕ)) → List ℕ
list_text l = flat_map term_text l
