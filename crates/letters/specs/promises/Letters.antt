-- A graph written in other letters. The letters below `base` stand for symbols, the least of those that hold for the same pairs;
-- those from `base` to below `end` are classes: a class is one of the graph's masks, and holds for a pair whose mask has all its symbols.
use Rattle.std.specs.Prelude.{ℕ, ◌≤◌, ◌<◌, ◌≡◌, true, List, map, get_or}
use Rattle.limits.specs.Limits.{symbol_count}
use Rattle.rebac.specs.Paths.{Graph}
use Rattle.search.specs.declared.symbol.Symbol.{Symbol}

-- letter j is a class that holds from u to v: where it holds, all letters below `base` hold that do from u to v
pub record Class (g : Graph ℕ) (base end u v j : ℕ) : Type 0 where
  pub low : base ≤ j
  pub high : j < end
  pub here : g.edge u v j ≡ true
  pub all : (x y i : ℕ) → x < g.parties → y < g.parties → i < base
      → g.edge x y j ≡ true → g.edge u v i ≡ true → g.edge x y i ≡ true

-- two parties with some letter below `base` have a class
abbrev pub Classed : Graph ℕ → ℕ → ℕ → Type 0
Classed g base end =
    (u v i : ℕ) → u < g.parties → v < g.parties → i < base → g.edge u v i ≡ true → (j : ℕ) × Class g base end u v j

-- the symbols' numbers
abbrev pub numbers : List Symbol → List ℕ
numbers symbols = map (λ s. s.number) symbols

-- a letter below `base` as the symbol it stands for, and a word of such letters
abbrev pub letter_symbol : List ℕ → ℕ → ℕ
letter_symbol symbols i = get_or symbols i 0

abbrev pub in_symbols : List ℕ → List ℕ → List ℕ
in_symbols symbols v = map (letter_symbol symbols) v

-- letter i stands for a symbol no greater than s that holds for the same pairs as s
pub record LeastLetter (g : Graph ℕ) (symbols : List ℕ) (base s i : ℕ) : Type 0 where
  pub low : i < base
  pub least : get_or symbols i 0 ≤ s
  pub same : (x y : ℕ) → x < g.parties → y < g.parties → g.edge x y (get_or symbols i 0) ≡ g.edge x y s

-- the second graph is the first in letters
pub record Lettered (g t : Graph ℕ) (symbols : List ℕ) (base end : ℕ) : Type 0 where
  pub parties : g.parties ≡ t.parties
  pub order : base ≤ end
  pub few : end ≤ symbol_count
  pub below : (i : ℕ) → i < base → get_or symbols i 0 < symbol_count
  pub ascending : (i j : ℕ) → i < j → j < base → get_or symbols i 0 < get_or symbols j 0
  pub plain : (u v i : ℕ) → u < g.parties → v < g.parties → i < base → t.edge u v i ≡ g.edge u v (get_or symbols i 0)
  pub stands : (u v s : ℕ) → u < g.parties → v < g.parties → g.edge u v s ≡ true → (i : ℕ) × LeastLetter g symbols base s i
  pub classed : Classed t base end

-- letter j of the second graph is the class of the first's mask from u to v: where it holds, all symbols hold that do from u to v
pub record MaskClass (g t : Graph ℕ) (base end u v j : ℕ) : Type 0 where
  pub low : base ≤ j
  pub high : j < end
  pub here : t.edge u v j ≡ true
  pub all : (x y s : ℕ) → x < g.parties → y < g.parties → t.edge x y j ≡ true → g.edge u v s ≡ true → g.edge x y s ≡ true

-- the second graph is the first in classes alone
pub record InClasses (g t : Graph ℕ) (end : ℕ) : Type 0 where
  pub parties : g.parties ≡ t.parties
  pub few : end ≤ symbol_count
  pub classed : (u v s : ℕ) → u < g.parties → v < g.parties → g.edge u v s ≡ true → (j : ℕ) × MaskClass g t 0 end u v j
