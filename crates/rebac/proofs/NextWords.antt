-- What the laws of the next word speak of: later words, how many are left, and searches that find the least.
use Rattle.std.proofs.Common.{◌≡◌, ◌⊎◌, Bool, true, ◌&&◌, List, [], ◌∷◌, ℕ, zero, suc, length}
use Rattle.std.proofs.Math.Option.{Option, none, some}
use Rattle.lists.specs.Lists.{filter_by, first_by}
use Rattle.rebac.specs.Matter.{Matter, Pair}
use Rattle.rebac.specs.Words.{Word, before}
use Rattle.rebac.specs.Paths.{has}
use Rattle.rebac.specs.Symbols.{enlarged}
use Rattle.rebac.specs.Existence.{MatterWord}
use Rattle.rebac.specs.NextWord.{pair_words}

-- the pair's first word after w that passes a test
abbrev pub first_after : Matter → Pair → (Word → Bool) → Word → Option Word
first_after M p f w = first_by (λ v. before w v && f v) (pair_words M p)

-- how many words of the pair come after w
unfoldable pub words_left : Matter → Pair → Word → ℕ
words_left M p w = length (filter_by (before w) (pair_words M p))

-- the words handed out by up to k calls of a next-word, the first given w and each other the word before
unfoldable pub handed_out : (Word → Option Word) → ℕ → Word → List Word
handed_out next zero w = []
handed_out next (suc k) w = elim (next w) [ none ↦ [] | some v ↦ v ∷ handed_out next k v ]

-- a search that gives the least word with a property, or none where no word has it
pub record Finds (R : Word → Word → Bool) (A : Word → Type 0) (o : Option Word) : Type 0 where
  pub missing : o ≡ none → (w : Word) → A w → ⊥
  pub found : (v : Word) → o ≡ some v → A v
  pub least : (v : Word) → o ≡ some v → (w : Word) → A w → (v ≡ w) ⊎ (R v w ≡ true)

-- the word asked for: a word of the matter that the pair has, after w
pub record Later (M : Matter) (p : Pair) (w v : Word) : Type 0 where
  pub fits : MatterWord M v
  pub held : has (enlarged M) p v ≡ true
  pub after : before w v ≡ true
