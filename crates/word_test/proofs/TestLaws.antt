-- The search back of a pair is the word test: the places after the first, read back, are the rest of the word, and the ways to a party
-- that the first symbol leads to are the pair's paths. Assumes nothing.
use Rattle.std.proofs.Common.{◌≡◌, ℕ, zero, suc, ◌+◌, ◌-◌, ◌<◌, ◌≤◌, min, max, Bool, true, false}
use Rattle.std.proofs.Common.{◌||◌, eqb, leb, List, [], ◌∷◌, reverse, length, get_or, take, sym, refl}
use Rattle.std.proofs.Common.{ap, ◌∙◌, arith, take-suc, lt-ltb, le-leb, leb-false}
use Rattle.std.specs.Int.{from_bool}
use Rattle.std.proofs.lemmas.List.{reverse-append}
use Rattle.lists.specs.Lists.{any_of}
use Rattle.lists.specs.Order.{only_if}
use Rattle.lists.proofs.Cases.{by_test}
use Rattle.masks.specs.promises.Mask.{test_bit, with_bit}
use Rattle.masks.specs.promises.Table.{no_row, mask_at}
use Rattle.masks.specs.declared.Table.{Table}
use Rattle.masks.proofs.MaskLaws.{zero_bit}
use Rattle.rebac.specs.Matter.{pair}
use Rattle.rebac.specs.Paths.{has, paths_of, path_count}
use Rattle.rebac.specs.WordTest.{way_length, test_length}
use Rattle.rebac.specs.promises.Backward.{count_back, depth_back}
use Rattle.rebac.specs.promises.Marked.{PartyMarks}
use Rattle.rebac.proofs.Reach.{paths_has, count_has}
use Rattle.rebac.proofs.SearchLaws.{no_empty_word, long_word}
use Rattle.rebac.proofs.BackwardLaws.{count_start}
use Rattle.rebac.proofs.ReversedLaws.{back_count, back_length}
use Rattle.search.specs.Word.{symbols_in}
use Rattle.search.specs.declared.pair.PairIn.{PairIn}
use Rattle.search.specs.declared.word.ShortWord.{ShortWord}
use Rattle.search.specs.declared.word.Word.{Word}
use Rattle.search.specs.promises.PairSearch.{table_graph}
use Rattle.search.proofs.SearchLaws.{mark_law, symbols_length}
use Rattle.word_test.specs.promises.Steps.{StepsFrom}
use Rattle.word_test.specs.promises.Backward.{symbols_back, ways_from, depth_from, BackAs}
use Rattle.word_test.specs.declared.back.Back.{Back}

-- the symbols after the first, read back
read_back : (w : Word) (x : ℕ) (xs : List ℕ) → w.symbols ≡ x ∷ xs → (k : ℕ) → k ≤ length xs → symbols_back w 1 k ≡ reverse (take k xs)
unfolding symbols_back
read_back w x xs e zero h = refl
read_back w x xs e (suc k) h =
    let i : 1 + k ≡ suc k = omega arith in
    ap (λ (s : ℕ). s ∷ symbols_back w 1 k) (ap (λ (l : List ℕ). get_or l (1 + k) 0) e ∙ ap (λ (j : ℕ). get_or (x ∷ xs) j 0) i)
    ∙ ap (λ (r : List ℕ). get_or xs k 0 ∷ r) (read_back w x xs e k (omega arith))
    ∙ sym (ap reverse (take-suc xs k 0 (omega arith)) ∙ reverse-append (take k xs) (get_or xs k 0 ∷ []))

-- a word of one symbol or more: its first symbol, the rest, and the rest read back
record Parts (w : Word) : Type 0 where
  rest : List ℕ
  whole : symbols_in w ≡ get_or w.symbols 0 0 ∷ rest
  back : symbols_back w 1 (w.len - 1) ≡ reverse rest

parts : (w : Word) → 1 ≤ w.len → w.len ≤ length w.symbols → Parts w
parts w h b = go w.symbols refl
  where
    go : (l : List ℕ) → w.symbols ≡ l → Parts w
    go [] e = absurd (omega (arith, ap length e))
    go (x ∷ xs) e = record {
      rest = take (w.len - 1) xs;
      whole = ap (take w.len) e ∙ first w.len h ∙ ap (λ (s : ℕ). s ∷ take (w.len - 1) xs) (sym (ap (λ (l : List ℕ). get_or l 0 0) e));
      back = read_back w x xs e (w.len - 1) (omega (arith, ap length e));
    }
      where
        first : (k : ℕ) → 1 ≤ k → take k (x ∷ xs) ≡ x ∷ take (k - 1) xs
        first zero l = absurd (omega arith)
        first (suc k) l = let e : suc k - 1 ≡ k = omega arith in rw e

module _ (q : PairIn) (x : ShortWord) where
  abbrev n : ℕ
  n = q.graph.parties

  abbrev t : Table
  t = q.graph.table

  abbrev first : ℕ
  first = q.first

  abbrev second : ℕ
  second = q.second

  abbrev w : Word
  w = x.word

  fits : w.len ≤ length w.symbols
  fits = omega (arith, x.short.len, x.short.full)

  -- the two parties of the pair are visited
  marks : PartyMarks n (λ c v. test_bit v c) (with_bit (with_bit 0 first) second) (second ∷ first ∷ [])
  unfolding any_of
  marks c h =
      mark_law c second (with_bit 0 first)
      ∙ ap (λ (b : Bool). eqb c second || b) (mark_law c first 0 ∙ ap (λ (b : Bool). eqb c first || b) (zero_bit c))

  -- the ways back to a party that the first symbol leads to are the pair's paths
  pub ways_paths : 1 ≤ w.len → (starts : ℕ) → StepsFrom n (get_or t.rows first no_row) (get_or w.symbols 0 0) starts
      → ways_from n t starts (with_bit (with_bit 0 first) second) second (symbols_back w 1 (w.len - 1))
      ≡ length (paths_of (table_graph n t) (pair first second) (symbols_in w))
  ways_paths h starts f =
      let r = parts w h fits in
      let s : ℕ = get_or w.symbols 0 0 in
      count_start (table_graph n t) (λ c v. test_bit v c) (λ c v. with_bit v c) (test_bit starts) (λ c. test_bit (mask_at t first c) s)
      (λ c l. f c ∙ rw (lt-ltb c n l)) (symbols_back w 1 (w.len - 1)) (with_bit (with_bit 0 first) second) second q.is_pair.second
      ∙ ap (count_back (table_graph n t) (λ c v. test_bit v c) (λ c v. with_bit v c) (λ c. test_bit (mask_at t first c) s)
      (with_bit (with_bit 0 first) second) second) r.back
      ∙ back_count (table_graph n t) (λ c v. test_bit v c) (λ c v. with_bit v c) (λ c d v l k. mark_law c d v) (pair first second) q.is_pair
      (with_bit (with_bit 0 first) second) marks s r.rest
      ∙ ap (λ (l : List ℕ). length (paths_of (table_graph n t) (pair first second) l)) (sym r.whole)

  -- and the furthest is the length of the longest way to the second party
  pub depth_length : 1 ≤ w.len
      → depth_from n t (with_bit (with_bit 0 first) second) second (symbols_back w 1 (w.len - 1))
      ≡ way_length (table_graph n t) (pair first second) (symbols_in w)
  depth_length h =
      let r = parts w h fits in
      ap (depth_back (table_graph n t) (λ c v. test_bit v c) (λ c v. with_bit v c) (with_bit (with_bit 0 first) second) second) r.back
      ∙ back_length (table_graph n t) (λ c v. test_bit v c) (λ c v. with_bit v c) (λ c d v l k. mark_law c d v)
      (pair first second) q.is_pair
      (with_bit (with_bit 0 first) second) marks (get_or w.symbols 0 0) r.rest
      ∙ ap (way_length (table_graph n t) (pair first second)) (sym r.whole)

  -- no symbol
  pub empty_word_lem : w.len ≡ 0 → symbols_in w ≡ []
  empty_word_lem e = ap (λ (k : ℕ). take k w.symbols) e

  pub count_empty : w.len ≡ 0 → (cap : ℕ) → path_count (table_graph n t) cap (pair first second) (symbols_in w) ≡ 0
  unfolding path_count
  count_empty e cap =
      let none = paths_has (table_graph n t) (pair first second) [] ∙ no_empty_word (table_graph n t) (pair first second)
      q.is_pair.different in
      let k : length (paths_of (table_graph n t) (pair first second) []) < 1 = leb-false 1 _ none in
      rw (empty_word_lem e) (omega (arith, k))

  pub length_empty : w.len ≡ 0 → way_length (table_graph n t) (pair first second) (symbols_in w) ≡ 0
  unfolding way_length
  length_empty e = rw (empty_word_lem e)

  -- one symbol: the pair has the word where it leads from the first party to the second
  pub count_one : w.len ≡ 1 → (cap : ℕ) → 1 ≤ cap → (starts : ℕ) → StepsFrom n (get_or t.rows first no_row) (get_or w.symbols 0 0) starts
      → from_bool (test_bit starts second) ≡ path_count (table_graph n t) cap (pair first second) (symbols_in w)
  unfolding path_count count_back symbols_back
  count_one e cap h starts f =
      let z : w.len - 1 ≡ 0 = omega (arith, e) in
      let p : only_if (test_bit starts second) 1 ≡ length (paths_of (table_graph n t) (pair first second) (symbols_in w)) =
      rw z at (ways_paths (omega (arith, e)) starts f) in
      by_test (test_bit starts second) (λ b. rw b (omega (arith, rw b at p, h))) (λ b. rw b (omega (arith, rw b at p, h)))

  pub length_one : w.len ≡ 1 → way_length (table_graph n t) (pair first second) (symbols_in w) ≡ 0
  unfolding depth_back symbols_back
  length_one e = let z : w.len - 1 ≡ 0 = omega (arith, e) in sym (depth_length (omega (arith, e))) ∙ rw z

  -- two symbols or more: what the search along the places found
  pub found_count : 1 ≤ w.len → (starts : ℕ) → StepsFrom n (get_or t.rows first no_row) (get_or w.symbols 0 0) starts
      → {cap deep : ℕ} {r : Back}
      → BackAs cap (ways_from n t starts (with_bit (with_bit 0 first) second) second (symbols_back w 1 (w.len - 1))) deep
      (depth_from n t (with_bit (with_bit 0 first) second) second (symbols_back w 1 (w.len - 1))) r
      → r.count ≡ path_count (table_graph n t) cap (pair first second) (symbols_in w)
  unfolding path_count
  found_count h starts f {cap} g = g.count ∙ ap (min cap) (ways_paths h starts f)

  pub found_depth : 1 ≤ w.len → (starts : ℕ) {cap deep : ℕ} {r : Back}
      → BackAs cap (ways_from n t starts (with_bit (with_bit 0 first) second) second (symbols_back w 1 (w.len - 1))) deep
      (depth_from n t (with_bit (with_bit 0 first) second) second (symbols_back w 1 (w.len - 1))) r
      → r.count ≡ 0 → r.depth ≡ max deep (way_length (table_graph n t) (pair first second) (symbols_in w))
  found_depth h starts {cap} {deep} g z = g.depth z ∙ ap (max deep) (depth_length h)

  -- the word test, out of a count with cap 1
  counted : leb 1 (path_count (table_graph n t) 1 (pair first second) (symbols_in w)) ≡ has (table_graph n t) (pair first second)
      (symbols_in w)
  counted = count_has (table_graph n t) 1 (omega arith) (pair first second) (symbols_in w)

  pub test_no : {k : ℕ} → k ≡ path_count (table_graph n t) 1 (pair first second) (symbols_in w) → k ≡ 0
      → has (table_graph n t) (pair first second) (symbols_in w) ≡ false
  test_no e z = sym counted ∙ rw (← e, z)

  pub test_yes : {k : ℕ} → k ≡ path_count (table_graph n t) 1 (pair first second) (symbols_in w) → (k ≡ 0 → ⊥)
      → has (table_graph n t) (pair first second) (symbols_in w) ≡ true
  test_yes {k} e z = sym counted ∙ rw (← e) (le-leb 1 k (omega (arith, z)))

  pub length_no : has (table_graph n t) (pair first second) (symbols_in w) ≡ false
      → test_length (table_graph n t) (pair first second) (symbols_in w) ≡ way_length (table_graph n t) (pair first second) (symbols_in w)
  unfolding test_length
  length_no e = rw e

  pub length_yes : has (table_graph n t) (pair first second) (symbols_in w) ≡ true
      → test_length (table_graph n t) (pair first second) (symbols_in w) ≡ w.len
  unfolding test_length
  length_yes e = rw e (symbols_length w fits)

  pub test_long : n ≤ w.len → has (table_graph n t) (pair first second) (symbols_in w) ≡ false
  test_long l = long_word (table_graph n t) (pair first second) (symbols_in w) q.is_pair.first (omega (arith, l, symbols_length w fits))
