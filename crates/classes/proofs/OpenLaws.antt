-- A search that finds no path with fixed letters and any after them shows that no word begins with these letters.
-- By induction on the letters. Assumes nothing.
use Rattle.std.proofs.Common.{◌≡◌, sym, ◌∙◌, true, false, List, [], ◌∷◌, ◌++◌, ℕ, suc, ◌+◌, ◌/◌, ◌^◌}
use Rattle.std.proofs.Common.{◌≤◌, arith, add-one, length, replicate, ne_eqb, Result, is_ok}
use Rattle.std.proofs.Math.Logic.{by_cases}
use Rattle.std.proofs.Math.Decide.{ℕ_discrete}
use Rattle.lists.proofs.Cases.{by_test, both}
use Rattle.masks.specs.promises.Mask.{test_bit, bit_at, with_bit}
use Rattle.masks.specs.promises.Table.{mask_at}
use Rattle.masks.specs.declared.Table.{Table}
use Rattle.masks.proofs.BitLaws.{none_from, test_with_same, test_with_other}
use Rattle.rebac.specs.Matter.{pair}
use Rattle.rebac.specs.Paths.{Walk, has}
use Rattle.rebac.specs.promises.Forms.{from}
use Rattle.rebac.proofs.Reach.{has_walk, walk_has}
use Rattle.search.specs.Word.{symbols_in}
use Rattle.search.specs.promises.Search.{place_on, mask_graph, form_of, FoundAs}
use Rattle.search.specs.promises.PairSearch.{table_graph, graph_of, pair_of, search_form}
use Rattle.search.specs.declared.pair.PairIn.{PairIn}
use Rattle.search.specs.declared.pair.TwoPairsIn.{TwoPairsIn}
use Rattle.search.specs.declared.path.NoPath.{NoPath}
use Rattle.search.specs.declared.path.Path.{Path}
use Rattle.search.specs.declared.word.Form.{Form}
use Rattle.search.specs.declared.word.Word.{Word}
use Rattle.search.proofs.SearchLaws.{path_is}
use Rattle.search.proofs.PairSearchLaws.{search_has}
use Rattle.words.specs.promises.Next.{Places}
use Rattle.classes.specs.promises.Prefixes.{own_pair, Closed, Opens}

-- a mask with a place from f on may stand where any from f on may
bit_from : (m f s : ℕ) → f ≤ s → test_bit m s ≡ true → place_on (from f) m ≡ true
unfolding test_bit
bit_from m f s h e =
    by_cases (ℕ_discrete (m / 2 ^ f) 0)
    (λ z. both e (ne_eqb (bit_at m s) 1 (λ o. omega (arith, none_from m f s z h))))
    (λ z. rw (ne_eqb (m / 2 ^ f) 0 z))

module _ (t : Table) (n : ℕ) where
  -- a walk along a word is one along its first letters and then any
  zeros_walk : (rest via : List ℕ) (a b : ℕ) → Walk (table_graph n t) a via rest b
      → Walk (mask_graph n t) a via (form_of 0 (replicate (length rest) 0)) b
  unfolding form_of
  zeros_walk [] [] a b k = k
  zeros_walk [] (c ∷ via) a b k = absurd k
  zeros_walk (s ∷ rest) [] a b k = absurd k
  zeros_walk (s ∷ rest) (c ∷ via) a b k = (
    k.0,
    bit_from (mask_at t a c) 0 s (omega arith) (k.1),
    zeros_walk rest via c b k.2,
  )

  form_walk : (fixed rest via : List ℕ) (s a b : ℕ) → Walk (table_graph n t) a via (fixed ++ (s ∷ rest)) b
      → Walk (mask_graph n t) a via (form_of (suc (length fixed)) (fixed ++ (s ∷ replicate (length rest) 0))) b
  unfolding form_of
  form_walk [] rest [] s a b k = absurd k
  form_walk [] rest (c ∷ via) s a b k = (k.0, k.1, zeros_walk rest via c b k.2)
  form_walk (r ∷ fixed) rest [] s a b k = absurd k
  form_walk (r ∷ fixed) rest (c ∷ via) s a b k =
      (k.0, k.1, form_walk fixed rest via s c b k.2)

pub search_closed : (q : PairIn) (f : Form) (fixed : List ℕ) (s k : ℕ) {at : ℕ} → f.fixed ≡ at + 1 → Places f.word.word fixed s k
    → length fixed ≡ at → (r : Result Path NoPath) → FoundAs 0 (with_bit 0 q.first) (search_form q f) r → is_ok r ≡ false
    → Closed (graph_of q.graph) (pair_of q) fixed k s
search_closed q f fixed s k {at} d p l r h failed rest size =
    let n : ℕ = q.graph.parties in
    let t : Table = q.graph.table in
    by_test (has (table_graph n t) (pair q.first q.second) (fixed ++ (s ∷ rest)))
    (λ e.
    let x = has_walk (table_graph n t) (pair q.first q.second) (fixed ++ (s ∷ rest)) e in
    let z = form_walk t n fixed rest x.0 s q.first q.second x.1.walk in
    let places = form_of (suc (length fixed)) (fixed ++ (s ∷ replicate (length rest) 0)) in
    let had = walk_has (mask_graph n t) (pair q.first q.second) places x.0 (record { walk = z; simple = x.1.simple }) in
    let wanted = form_of f.fixed (symbols_in f.word.word) in
    let same : places ≡ wanted = rw (l, size, p, d, add-one) in
    both (path_is 0 (with_bit 0 q.first) (search_form q f) r h ∙ search_has n t q.first q.second wanted ∙ rw same at had) failed)
    (λ e. e)

-- the letters up to c are tried: c is set in the mask, or no word has it there
module _ (q : TwoPairsIn) (w : Word) (at low c mask : ℕ) (h : Opens q w at low c mask) where
  pub opens_with : Opens q w at low (c + 1) (with_bit mask c)
  opens_with fixed k p l x a b e =
      by_cases (ℕ_discrete x c)
      (λ y. both (test_with_same mask c) (rw y at e))
      (λ y. h fixed k p l x a (omega (arith, y)) (sym (test_with_other mask c x y) ∙ e))

  pub opens_without : ((fixed : List ℕ) (k : ℕ) → Places w fixed 0 k → length fixed ≡ at
      → Closed (graph_of q.graph) (own_pair q) fixed k c) → Opens q w at low (c + 1) mask
  opens_without f fixed k p l x a b e =
      by_cases (ℕ_discrete x c) (λ y. rw y (f fixed k p l)) (λ y. h fixed k p l x a (omega (arith, y)) e)
