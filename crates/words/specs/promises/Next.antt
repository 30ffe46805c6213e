-- What the functions that seek the next word need, and what they promise each other.
use Rattle.std.specs.Prelude.{ℕ, zero, suc, ◌<◌, ◌≡◌, true, false, ltb, List, [], ◌∷◌, ◌++◌, length, replicate, MatchOption, IfSome}
use Rattle.std.specs.Prelude.{Option as Maybe}
use mathlib.Core.List.{Memᴰ}
use Rattle.std.proofs.Math.Option.{Option, none, some}
use Rattle.lists.specs.Order.{Ascending}
use Rattle.limits.specs.Limits.{symbol_count}
use Rattle.masks.specs.promises.Mask.{test_bit}
use Rattle.masks.specs.promises.Table.{mask_at}
use Rattle.masks.specs.declared.Table.{Table}
use Rattle.rebac.specs.Matter.{Pair}
use Rattle.rebac.specs.Paths.{Graph}
use Rattle.rebac.specs.promises.Forms.{complete, find_form, fixed_then_free, least_symbol}
use Rattle.search.specs.Word.{symbols_in}
use Rattle.search.specs.promises.PairSearch.{graph_of, pair_of}
use Rattle.search.specs.declared.pair.PairIn.{PairIn}
use Rattle.search.specs.declared.word.ShortWord.{ShortWord}
use Rattle.search.specs.declared.word.Word.{Word}

-- the symbols of a table, ascending, each below 32
pub record Alphabet (al : List ℕ) (n : ℕ) (t : Table) : Type 0 where
  pub listed : (u v s : ℕ) → test_bit (mask_at t u v) s ≡ true → Memᴰ s al
  pub ascending : Ascending ltb al
  pub below : (s : ℕ) → Memᴰ s al → s < symbol_count

-- fixed symbols, then a floor, then k zeros
abbrev pub Places : Word → List ℕ → ℕ → ℕ → Type 0
Places w fixed floor k = symbols_in w ≡ fixed ++ (floor ∷ replicate k 0)

-- a word, where there is one
abbrev pub WordAs : Option (List ℕ) → Maybe ShortWord → Type 0
WordAs o r = MatchOption r (o ≡ none) (λ w. o ≡ some (symbols_in w.word))

-- the word whose first symbols are done and whose m others are each at the least symbol that leads on
unfoldable pub complete_zeros : List ℕ → Graph ℕ → Pair → List ℕ → ℕ → Option (List ℕ)
complete_zeros al g p done zero = some done
complete_zeros al g p done (suc k) = complete al g p done 0 k

-- what is promised: the word with the symbol at the place, if a path still exists with it,
abbrev pub SymbolTried : PairIn → Word → ℕ → ℕ → Maybe ShortWord → Type 0
SymbolTried q w at s r = IfSome r (λ t. t.word.len ≡ w.len) × ((al fixed : List ℕ) (floor k : ℕ) → Alphabet al q.graph.parties q.graph.table
    → Places w fixed floor k → length fixed ≡ at
    → MatchOption r (find_form al (graph_of q.graph) (pair_of q) (fixed_then_free (fixed ++ (s ∷ [])) k) ≡ false)
    (λ t. Places t.word fixed s k × (find_form al (graph_of q.graph) (pair_of q) (fixed_then_free (fixed ++ (s ∷ [])) k) ≡ true)))

-- the word with its least symbol at the place, from the floor that stands there on,
pub record LeastPut (q : PairIn) (w : Word) (at : ℕ) (r : Word) : Type 0 where
  pub len : r.len ≡ w.len
  pub least : (al fixed : List ℕ) (floor k s : ℕ) → Alphabet al q.graph.parties q.graph.table → Places w fixed floor k
      → length fixed ≡ at → least_symbol al (graph_of q.graph) (pair_of q) fixed floor k ≡ some s → Places r fixed s k

-- the word whose zeros from `from` on are each at the least symbol that leads on, where one does,
abbrev pub ZerosFilled : PairIn → Word → ℕ → Word → Type 0
ZerosFilled q w from r = (al done : List ℕ) (m : ℕ) → Alphabet al q.graph.parties q.graph.table
    → symbols_in w ≡ done ++ replicate m 0 → length done ≡ from
    → find_form al (graph_of q.graph) (pair_of q) (fixed_then_free done m) ≡ true
    → complete_zeros al (graph_of q.graph) (pair_of q) done m ≡ some (symbols_in r)

-- the least word with the places before `at` as they stand and at `at` a symbol from `low floor` on, where there is one,
abbrev pub CompletedTo : PairIn → Word → ℕ → (ℕ → ℕ) → Maybe ShortWord → Type 0
CompletedTo q w at low r =
    (al fixed : List ℕ) (floor k : ℕ) → Alphabet al q.graph.parties q.graph.table → Places w fixed floor k → length fixed ≡ at
    → WordAs (complete al (graph_of q.graph) (pair_of q) fixed (low floor) k) r

-- and the word, where there is one, that a definition gives for the alphabet, the pair's graph and the pair
abbrev pub WordBy : PairIn → (List ℕ → Graph ℕ → Pair → Option (List ℕ)) → Maybe ShortWord → Type 0
WordBy q next r = (al : List ℕ) → Alphabet al q.graph.parties q.graph.table → WordAs (next al (graph_of q.graph) (pair_of q)) r
