-- Onwards over the places: a party to which no symbol leads from one with a way back has none. A way has another party at each place: where
-- fewer parties are left than it needs there is none. Assumes nothing.
use Rattle.std.proofs.Common.{◌≡◌, ℕ, zero, suc, ◌+◌, ◌-◌, ◌<◌, ◌≤◌, true, false, not, ◌&&◌, leb, [], ◌∷◌, length}
use Rattle.std.proofs.Common.{get_or, take, sym, refl, ap, ◌∙◌, arith, leb-false, leb-true, bit_or}
use Rattle.std.specs.Int.Count.{ones}
use Rattle.std.proofs.lemmas.Bool.{not-true}
use Rattle.lists.specs.Lists.{range}
use Rattle.lists.proofs.Cases.{by_test, both, and_left, and_right, or_left, or_right}
use Rattle.lists.proofs.ListLaws.{any_none, range_out}
use Rattle.masks.specs.promises.Mask.{test_bit, with_bit}
use Rattle.masks.specs.promises.Table.{mask_at}
use Rattle.masks.specs.declared.Table.{Table}
use Rattle.masks.proofs.BitLaws.{test_or, ones_bit}
use Rattle.masks.proofs.MaskLaws.{zero_bit}
use Rattle.rebac.specs.promises.Backward.{way_back}
use Rattle.rebac.proofs.BackwardLaws.{count_none, depth_most, depth_way, way_start}
use Rattle.search.specs.promises.Walk.{Within}
use Rattle.search.specs.promises.PairSearch.{table_graph}
use Rattle.search.specs.declared.word.Word.{Word}
use Rattle.search.specs.promises.Last.{without}
use Rattle.search.proofs.LastLaws.{test_without}
use Rattle.search.proofs.WalkLaws.{within_with}
use Rattle.search.proofs.RoomLaws.{count, count_ones, fewer}
use Rattle.word_test.specs.promises.Backward.{symbols_back, way_from, ways_from, depth_from}
use Rattle.word_test.specs.promises.Walk.{Onward, Covers, Look}
use Rattle.word_test.specs.declared.back.SearchBack.{SearchBack}

-- the symbols of a word read back: how many, and the first of them
pub back_length : (w : Word) (from k : ℕ) → length (symbols_back w from k) ≡ k
unfolding symbols_back
back_length w from zero = refl
back_length w from (suc k) = ap suc (back_length w from k)

back_none : (w : Word) (from : ℕ) → symbols_back w from 0 ≡ []
unfolding symbols_back
back_none w from = refl

back_one : (w : Word) (from k : ℕ) → symbols_back w from (suc k) ≡ get_or w.symbols (from + k) 0 ∷ symbols_back w from k
unfolding symbols_back
back_one w from k = refl

pub back_take : (w : Word) (k m : ℕ) → k ≤ m → take k (symbols_back w 1 m) ≡ symbols_back w (1 + m - k) k
back_take w zero m h = sym (back_none w (1 + m - 0))
back_take w (suc k) zero h = absurd (omega arith)
back_take w (suc k) (suc m) h =
    let e : 1 + suc m - suc k ≡ 1 + m - k = omega arith in
    let i : 1 + m - k + k ≡ 1 + m = omega arith in
    rw (e, back_one w 1 m, back_one w (1 + m - k) k, i, back_take w k m (omega arith))

module _ (n : ℕ) (t : Table) (w : Word) (starts from visited : ℕ) where
  -- no party before a party v that was passed has a way back: then v has none
  none_before : (k v more : ℕ)
      → ((c : ℕ) → c < n → test_bit (with_bit more v) c ≡ false → test_bit (mask_at t c v) (get_or w.symbols (from + k) 0) ≡ true
      → way_from n t starts (with_bit (with_bit more v) c) c (symbols_back w from k) ≡ false)
      → way_from n t starts (with_bit more v) v (symbols_back w from (suc k)) ≡ false
  unfolding way_back symbols_back
  none_before k v more f =
      any_none _ (range n) (λ c m e.
      let s : ℕ = get_or w.symbols (from + k) 0 in
      let p = and_left (not (test_bit (with_bit more v) c) && test_bit (mask_at t c v) s) _ e in
      let off = not-true (test_bit (with_bit more v) c) (and_left (not (test_bit (with_bit more v) c)) _ p) in
      both (and_right (not (test_bit (with_bit more v) c) && test_bit (mask_at t c v) s) _ e)
      (f c (range_out n m) off (and_right (not (test_bit (with_bit more v) c)) _ p)))

  -- what is not passed is not visited
  unvisited : (v more : ℕ) → Within visited more → test_bit more v ≡ false → test_bit visited v ≡ false
  unvisited v more p o = by_test (test_bit visited v) (λ e. both (p v e) o) (λ e. e)

  pub covers_start : Covers n t w starts from 0 visited (without starts visited)
  unfolding way_back symbols_back
  covers_start v h e more p o =
      by_test (test_bit starts v)
      (λ q. both (test_without starts visited v ∙ rw (q, unvisited v more p o)) e)
      (λ q. q)

  pub covers_step : (k mask parties : ℕ) → Covers n t w starts from k visited mask
      → Onward n t (get_or w.symbols (from + k) 0) mask visited n parties → Covers n t w starts from (suc k) visited parties
  covers_step k mask parties cover on v h e more p o =
      none_before k v more (λ c l off edge.
      by_test (test_bit mask c)
      (λ q. both (on c v l h q edge (unvisited v more p o)) e)
      (λ q. cover c l q (with_bit more v) (within_with visited more v p) off))

  -- where the mask has no more parties that are not passed than there are symbols there is no way
  abbrev pub Crowded : ℕ → ℕ → Type 0
  Crowded k all =
      (v : ℕ) → v < n → (more : ℕ) → Within visited more → test_bit more v ≡ false → count n all more ≤ k
      → way_from n t starts (with_bit more v) v (symbols_back w from k) ≡ false

  pub crowded_start : Crowded 0 (without starts visited)
  unfolding way_back symbols_back
  crowded_start v h more p o l =
      by_test (test_bit starts v)
      (λ q. absurd (omega (
        arith,
        l,
        fewer n 0 more (without starts visited) v (λ c z. both z (zero_bit c)) h
            (test_without starts visited v ∙ rw (q, unvisited v more p o)) o,
      )))
      (λ q. q)

  pub crowded_step : (k parties all union : ℕ) → Within all union → Within parties union
      → Covers n t w starts from (suc k) visited parties → Crowded k all → Crowded (suc k) union
  crowded_step k parties all union a b cover crowded v h more p o l =
      by_test (test_bit parties v)
      (λ e. none_before k v more (λ c i off edge. crowded c i (with_bit more v) (within_with visited more v p) off
      (omega (arith, l, fewer n all more union v a h (b v e) o))))
      (λ e. cover v h e more p o)

  pub crowded_none : (k all : ℕ) → ones all ≤ k → Crowded k all → Covers n t w starts from k visited 0
  crowded_none k all l crowded v h e more p o = crowded v h more p o (omega (arith, count_ones n all more))

-- where walks stand before place `at`
pub record Walked (n : ℕ) (t : Table) (w : Word) (starts from visited parties all at : ℕ) : Type 0 where
  pub covers : Covers n t w starts from (at - from) visited parties
  pub crowded : Crowded n t w starts from visited (at - from) all

-- A look at walks: what a party that is not visited lacks where a mask lacks it.
module _ (s : SearchBack) (at deep visited : ℕ) (some : 1 ≤ at) (place : at < s.word.word.len) where
  abbrev n : ℕ
  n = s.graph.parties

  abbrev t : Table
  t = s.graph.table

  abbrev w : Word
  w = s.word.word

  abbrev starts : ℕ
  starts = s.starts

  -- outside of the walks from the starts it has no way to one
  look_lost : (mask : ℕ) → Covers n t w starts 1 (at - 1) visited mask → (v : ℕ) → v < n → test_bit mask v ≡ false
      → test_bit visited v ≡ false → ways_from n t starts (with_bit visited v) v (symbols_back w 1 (at - 1)) ≡ 0
  look_lost mask cover v h e o =
      count_none (table_graph n t) (λ c x. test_bit x c) (λ c x. with_bit x c) (test_bit starts) (symbols_back w 1 (at - 1))
      (with_bit visited v) v
      (cover v h e visited (λ c z. z) o)

  -- outside of the walks from any party before the place that is next, none leads further
  look_near : (mask : ℕ) → deep + 1 < w.len → w.len - deep - 1 ≤ at
      → Covers n t w 4294967295 (w.len - deep - 1) (at - (w.len - deep - 1)) visited mask
      → (v : ℕ) → v < n → test_bit mask v ≡ false → test_bit visited v ≡ false
      → w.len - at + depth_from n t (with_bit visited v) v (symbols_back w 1 (at - 1)) ≤ deep
  look_near mask more l cover v h e o =
      let from : ℕ = w.len - deep - 1 in
      let k : ℕ = at - from in
      let far : ℕ = depth_from n t (with_bit visited v) v (symbols_back w 1 (at - 1)) in
      by_test (leb k far)
      (λ y.
      let i : 1 + (at - 1) - k ≡ from = omega arith in
      let on : way_back (table_graph n t) (λ c x. test_bit x c) (λ c x. with_bit x c) (λ c. true) (with_bit visited v) v
      (take k (symbols_back w 1 (at - 1))) ≡ true =
      depth_way (table_graph n t) (λ c x. test_bit x c) (λ c x. with_bit x c) k (symbols_back w 1 (at - 1)) (with_bit visited v) v
      (leb-true k far y) in
      let off = cover v h e visited (λ c z. z) o in
      let same = way_start (table_graph n t) (λ c x. test_bit x c) (λ c x. with_bit x c) (test_bit 4294967295) (λ c. true)
      (λ c z. ones_bit 32 c (omega (arith, s.graph.within, z))) (symbols_back w from k) (with_bit visited v) v h in
      both (same ∙ rw (back_take w k (at - 1) (omega arith), i) at on) off)
      (λ y. omega (arith, leb-false k far y))

  pub look_skips : (mask : ℕ) → Covers n t w starts 1 (at - 1) visited mask → w.len ≤ deep + 1
      → Look n t w at visited starts deep mask
  look_skips mask cover l v h e o = record {
    lost = look_lost mask cover v h e o;
    near = omega (
      arith,
      depth_most (table_graph n t) (λ c x. test_bit x c) (λ c x. with_bit x c) (symbols_back w 1 (at - 1)) (with_bit visited v) v,
      back_length w 1 (at - 1),
    );
  }

  pub look_both : (near far : ℕ) → Covers n t w starts 1 (at - 1) visited near → deep + 1 < w.len → w.len - deep - 1 ≤ at
      → Covers n t w 4294967295 (w.len - deep - 1) (at - (w.len - deep - 1)) visited far
      → Look n t w at visited starts deep (bit_or near far)
  look_both near far cover more l other v h e o =
      let z = sym (test_or near far v) ∙ e in record {
        lost = look_lost near cover v h (or_left (test_bit near v) (test_bit far v) z) o;
        near = look_near far more l other v h (or_right (test_bit near v) (test_bit far v) z) o;
      }
