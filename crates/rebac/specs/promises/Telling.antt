-- The words that tell one pair from another, where words are not counted: the first has them and the other lacks them.
use Rattle.std.specs.Prelude.{Bool, not, ◌&&◌, List, ℕ, zero, suc}
use Rattle.std.proofs.Math.Option.{Option, none}
use Rattle.lists.specs.Lists.{first_by}
use Rattle.rebac.specs.Matter.{Pair}
use Rattle.rebac.specs.Words.{Word, words_of_length}
use Rattle.rebac.specs.Paths.{Graph, has}
use Rattle.rebac.specs.promises.Options.{or_else}

module _ (g : Graph ℕ) (p q : Pair) where
  -- p has the word and q lacks it
  unfoldable pub tells : Word → Bool
  tells w = has g p w && not (has g q w)

  -- the first such word of k symbols of the alphabet
  unfoldable pub first_telling : List ℕ → ℕ → Option Word
  first_telling al k = first_by tells (words_of_length al k)

  -- the first such word of k + 1 symbols, or else of k + 2, and so on for j lengths
  unfoldable pub first_telling_longer : List ℕ → ℕ → ℕ → Option Word
  first_telling_longer al k zero = none
  first_telling_longer al k (suc j) = or_else (first_telling al (suc k)) (first_telling_longer al (suc k) j)
