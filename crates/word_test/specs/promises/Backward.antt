-- The search back over the enlarged graph as masks.
use Rattle.std.specs.Prelude.{◌≡◌, ℕ, zero, suc, ◌+◌, ◌-◌, ◌<◌, ◌≤◌, min, max, Bool, not, ◌&&◌, List, [], ◌∷◌, nat_lt, slice_index}
use Rattle.masks.specs.promises.Mask.{test_bit, with_bit}
use Rattle.masks.specs.promises.Table.{mask_in, mask_at}
use Rattle.masks.specs.declared.Row.{Row}
use Rattle.masks.specs.declared.Table.{Table}
use Rattle.rebac.specs.promises.Backward.{count_back, way_back, depth_back}
use Rattle.search.specs.promises.PairSearch.{table_graph}
use Rattle.search.specs.declared.word.Word.{Word}
use Rattle.word_test.specs.declared.back.Back.{Back}
use Rattle.word_test.specs.declared.back.Position.{Position}
use Rattle.word_test.specs.declared.back.SearchBack.{SearchBack}

-- k symbols of the word from place `from` on, the last one first
unfoldable pub symbols_back : Word → ℕ → ℕ → List ℕ
symbols_back w from zero = []
symbols_back w from (suc k) = slice_index w.symbols (from + k) ∷ symbols_back w from k

-- past no visited party: whether a way leads back from u along the symbols to a start,
abbrev pub way_from : ℕ → Table → ℕ → ℕ → ℕ → List ℕ → Bool
way_from n t starts visited u r = way_back (table_graph n t) (λ c v. test_bit v c) (λ c v. with_bit v c) (test_bit starts) visited u r

-- how many do,
abbrev pub ways_from : ℕ → Table → ℕ → ℕ → ℕ → List ℕ → ℕ
ways_from n t starts visited u r = count_back (table_graph n t) (λ c v. test_bit v c) (λ c v. with_bit v c) (test_bit starts) visited u r

-- and along how many of the symbols some way leads
abbrev pub depth_from : ℕ → Table → ℕ → ℕ → List ℕ → ℕ
depth_from n t visited u r = depth_back (table_graph n t) (λ c v. test_bit v c) (λ c v. with_bit v c) visited u r

-- what a search back found: the number of ways, cut at the cap, and where there is none the greater of two depths, which is never passed
pub record BackAs (cap ways deep far : ℕ) (r : Back) : Type 0 where
  pub count : r.count ≡ min cap ways
  pub depth : r.count ≡ 0 → r.depth ≡ max deep far
  pub known : deep ≤ r.depth
  pub most : r.depth ≤ max deep far

-- for each party the parties from which the second symbol leads to it: the starts, and where a greater length is sought all others too
pub record Seconds (n : ℕ) (t : Table) (w : Word) (starts deep : ℕ) (row : Row) : Type 0 where
  pub starting : (v c : ℕ) → v < n → (test_bit (mask_in row v) c && test_bit starts c)
      ≡ (nat_lt c n && (test_bit (mask_at t c v) (slice_index w.symbols 1) && test_bit starts c))
  pub all : deep + 1 < w.len → (v c : ℕ) → v < n
      → test_bit (mask_in row v) c ≡ (nat_lt c n && test_bit (mask_at t c v) (slice_index w.symbols 1))

-- c may stand before u: it is not visited, and the symbol at place `at` leads from it to u
abbrev pub may_stand : Table → Word → ℕ → ℕ → ℕ → ℕ → Bool
may_stand t w visited u at c = not (test_bit visited c) && test_bit (mask_at t c u) (slice_index w.symbols at)

-- what a search back from a position on needs: its mask has the candidates before its party
pub record CandidateQuery (s : SearchBack) (p : Position) : Type 0 where
  pub some : 1 ≤ p.cap
  pub three : 3 ≤ p.at
  pub place : p.at < s.word.word.len
  pub candidates : (c : ℕ) → test_bit p.mask c ≡ (nat_lt c s.graph.parties && may_stand s.graph.table s.word.word p.visited p.u p.at c)
  pub seconds : Seconds s.graph.parties s.graph.table s.word.word s.starts p.deep s.seconds

-- what it found
abbrev pub FoundBack : SearchBack → ℕ → ℕ → ℕ → ℕ → ℕ → Back → Type 0
FoundBack s cap at u visited deep r =
    BackAs cap (ways_from s.graph.parties s.graph.table s.starts visited u (symbols_back s.word.word 1 at)) deep
    (s.word.word.len - (at + 1) + depth_from s.graph.parties s.graph.table visited u (symbols_back s.word.word 1 at)) r
