-- The numbers that 01 sets and that more than one layer needs, each meaning with one name.
use Rattle.std.specs.Prelude.{ℕ}

-- n at most: "1 to 32"
abbrev pub most_parties : ℕ
most_parties = 32

-- L at most: "1 to 8"
abbrev pub most_labels : ℕ
most_labels = 8

-- the languages are 0 to 3
abbrev pub last_language : ℕ
last_language = 3

-- D at most: "1 to 31"
abbrev pub longest_word : ℕ
longest_word = 31

-- the symbols that a word as a value has room for, and the bytes that next-word may need
abbrev pub word_capacity : ℕ
word_capacity = longest_word

-- "A symbol is 4 × label + kind": so many symbols there are, and the last of them
abbrev pub symbol_count : ℕ
symbol_count = 32

abbrev pub last_symbol : ℕ
last_symbol = 31

-- R at most: each pair with each label, known or unknown, and with a permit
abbrev pub most_records : ℕ
most_records = 8928

-- the pair (a, b) has number 32a + b; so many numbers there are
abbrev pub pair_numbers : ℕ
pair_numbers = 1024

-- the bytes of scratch that mining needs: one for each number of a pair
abbrev pub scratch_size : ℕ
scratch_size = pair_numbers

-- a mask has so many places
abbrev pub mask_places : ℕ
mask_places = 32
