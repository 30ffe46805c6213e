-- What the functions that write a graph in letters ask of and promise each other. The pair (u, v) has number 32u + v.
use Rattle.std.specs.Prelude.{ℕ, ◌-◌, ◌/◌, ◌%◌, ◌≤◌, ◌<◌, ◌≡◌, Bool, true, ◌&&◌, List, eqb, ltb, get_or, length}
use Rattle.std.specs.Int.Bits.{bit_or}
use Rattle.lists.specs.Lists.{pick}
use Rattle.limits.specs.Limits.{most_parties, symbol_count, pair_numbers}
use Rattle.masks.specs.promises.Mask.{test_bit}
use Rattle.masks.specs.promises.Table.{no_row, mask_in, mask_at}
use Rattle.masks.specs.declared.Row.{Row}
use Rattle.masks.specs.declared.Table.{Table}
use Rattle.search.specs.promises.PairSearch.{table_graph}
use Rattle.letters.specs.promises.Letters.{numbers, Lettered, InClasses}
use Rattle.letters.specs.declared.least.Least.{Least}
use Rattle.letters.specs.declared.different.Classes.{Classes}
use Rattle.letters.specs.declared.legend.Legend.{Legend}
use Rattle.letters.specs.declared.written.Letters.{Letters}

-- the mask of the pair with number k
abbrev pub pair_mask : Table → ℕ → ℕ
pair_mask g k = mask_at g (k / most_parties) (k % most_parties)

-- two symbols hold for the same of the pairs with a number below k
abbrev pub SameBelow : Table → ℕ → ℕ → ℕ → Type 0
SameBelow g s r k = (i : ℕ) → i < k → test_bit (pair_mask g i) s ≡ test_bit (pair_mask g i) r

-- the mask has every symbol that holds for a pair with a number below k
abbrev pub UsedBelow : Table → ℕ → ℕ → Type 0
UsedBelow g k mask = (i s : ℕ) → i < k → test_bit (pair_mask g i) s ≡ true → test_bit mask s ≡ true

-- the symbol at place i stands for s: it is no greater, and holds for the same pairs
pub record StandsFor (g : Table) (symbols : List ℕ) (count s i : ℕ) : Type 0 where
  pub low : i < count
  pub least : get_or symbols i 0 ≤ s
  pub same : SameBelow g (get_or symbols i 0) s pair_numbers

-- of the symbols below s that hold for some pair, the least of those that hold for the same
pub record LeastOf (g : Table) (s : ℕ) (l : Least) : Type 0 where
  pub full : length l.symbols ≡ symbol_count
  pub fits : l.count ≤ s
  pub below : (i : ℕ) → i < l.count → get_or (numbers l.symbols) i 0 < s
  pub ascending : (i j : ℕ) → i < j → j < l.count → get_or (numbers l.symbols) i 0 < get_or (numbers l.symbols) j 0
  pub stands : (k x : ℕ) → k < pair_numbers → x < s → test_bit (pair_mask g k) x ≡ true
      → (i : ℕ) × StandsFor g (numbers l.symbols) l.count x i

-- the same of all symbols, which are below 32
pub record AllLeast (g : Table) (l : Least) : Type 0 where
  pub least : LeastOf g symbol_count l
  pub below : (k x : ℕ) → k < pair_numbers → test_bit (pair_mask g k) x ≡ true → x < symbol_count

-- the mask is a class
pub record Listed (c : Classes) (mask : ℕ) : Type 0 where
  pub place : ℕ
  pub low : place < c.count
  pub here : get_or c.masks place 0 ≡ mask

-- the mask is empty or a class
abbrev pub Known : Classes → ℕ → Type 0
Known c mask = (mask ≡ 0 → ⊥) → Listed c mask

-- the classes with one mask more
pub record ClassAdded (c : Classes) (mask : ℕ) (r : Classes) : Type 0 where
  pub before : (m : ℕ) → Listed c m → Listed r m
  pub known : Known r mask

-- the masks of the pairs with a number below k are classes
abbrev pub ClassesOf : Table → ℕ → Classes → Type 0
ClassesOf g k c = (i : ℕ) → i < k → Known c (pair_mask g i)

-- whether letter i holds for a pair with this mask: a letter below `base` by its symbol, any other by its class
unfoldable pub letter_on : List ℕ → ℕ → List ℕ → ℕ → ℕ → Bool
letter_on symbols base classes mask i =
    pick (ltb i base) (test_bit mask (get_or symbols i 0)) (eqb (bit_or mask (get_or classes (i - base) 0)) mask)

-- the letters of the legend that hold for a pair with this mask
abbrev pub LettersIn : Legend → ℕ → ℕ → Type 0
LettersIn l mask r = (i : ℕ) → test_bit r i ≡ (ltb i l.span.end && letter_on (numbers l.symbols) l.span.base l.classes mask i)

-- the first k masks of a row are written in letters
abbrev pub RowWritten : Legend → Row → ℕ → Row → Type 0
RowWritten l row k r = (v : ℕ) → v < k → LettersIn l (mask_in row v) (mask_in r v)

-- the first k rows of a graph are written in letters
abbrev pub Written : Legend → Table → ℕ → Table → Type 0
Written l g k r = (u : ℕ) → u < k → RowWritten l (get_or g.rows u no_row) most_parties (get_or r.rows u no_row)

-- the graph in the legend's letters, of which words have those below b
pub record InLetters (g : Table) (l : Legend) (b : ℕ) (r : Letters) : Type 0 where
  pub base : r.span.base ≡ b
  pub end : r.span.end ≡ l.span.end
  pub symbols : r.symbols ≡ l.symbols
  pub written : Written l g most_parties r.graph

-- the graph in letters for symbols, and classes
abbrev pub LettersMade : Table → Letters → Type 0
LettersMade g r = (n : ℕ) → n ≤ most_parties → Lettered (table_graph n g) (table_graph n r.graph) (numbers r.symbols) r.span.base r.span.end

-- the graph in classes alone
pub record ClassesMade (g : Table) (r : Letters) : Type 0 where
  pub alone : r.span.base ≡ r.span.end
  pub in_classes : (n : ℕ) → n ≤ most_parties → InClasses (table_graph n g) (table_graph n r.graph) r.span.end
