-- Which pairs and symbols a call may be given.
use Rattle.std.specs.Prelude.{ℕ, ◌/◌, ◌%◌, Bool, not, ◌&&◌, eqb, ltb}
use Rattle.lists.specs.Lists.{member}
use Rattle.rebac.specs.Symbols.{kinds}

-- not 10: "a pair with a party of n or more, or the same party twice"
unfoldable pub is_pair : ℕ → ℕ → ℕ → Bool
is_pair n a b = ltb a n && (ltb b n && not (eqb a b))

-- a symbol of the language whose label is below L (rebac's inLanguage, by the two numbers)
unfoldable pub legal_symbol : ℕ → ℕ → ℕ → Bool
legal_symbol labels language s = ltb (s / 4) labels && member (s % 4) (kinds language)
