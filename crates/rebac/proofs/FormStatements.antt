-- What the searches by form look for, as statements.
use Rattle.std.proofs.Common.{◌≡◌, true, List, [], ◌∷◌, ◌++◌, ℕ, ◌+◌, ◌≤◌, ◌<◌, length}
use Rattle.rebac.specs.Matter.{Pair}
use Rattle.rebac.specs.Words.{Word, lex_less, before}
use Rattle.rebac.specs.Paths.{Graph, has}
use Rattle.rebac.specs.promises.Forms.{Place, allows}

-- the word has the form: as many symbols as places, each allowed at its place
abbrev pub Fits : List Place → Word → Type 0
Fits [] [] = Unit {0}
Fits [] (s ∷ w) = ⊥
Fits (x ∷ xs) [] = ⊥
Fits (x ∷ xs) (s ∷ w) = (allows x s ≡ true) × Fits xs w

-- words of a pair, over any graph
module _ (g : Graph ℕ) (p : Pair) where
  -- a word that has the form
  pub record Formed (xs : List Place) (w : Word) : Type 0 where
    pub fits : Fits xs w
    pub held : has g p w ≡ true

  -- fixed symbols, then k others
  pub record Extends (fixed : Word) (k : ℕ) (w : Word) : Type 0 where
    pub rest : Word
    pub split : w ≡ fixed ++ rest
    pub size : length rest ≡ k
    pub held : has g p w ≡ true

  -- fixed symbols, then one that is at least the floor, then k others
  pub record HasForm (fixed : Word) (floor k : ℕ) (w : Word) : Type 0 where
    pub symbol : ℕ
    pub rest : Word
    pub split : w ≡ fixed ++ (symbol ∷ rest)
    pub least : floor ≤ symbol
    pub size : length rest ≡ k
    pub held : has g p w ≡ true

  -- fixed symbols, then as many as w has, and after w
  pub record SameLength (fixed w v : Word) : Type 0 where
    pub rest : Word
    pub split : v ≡ fixed ++ rest
    pub size : length rest ≡ length w
    pub after : lex_less w rest ≡ true
    pub held : has g p v ≡ true

  -- more than k symbols, and k + j at most
  pub record Longer (k j : ℕ) (v : Word) : Type 0 where
    pub more : k < length v
    pub at_most : length v ≤ k + j
    pub held : has g p v ≡ true

  -- after w, and d symbols at most
  pub record NextUpTo (d : ℕ) (w v : Word) : Type 0 where
    pub after : before w v ≡ true
    pub at_most : length v ≤ d
    pub held : has g p v ≡ true
