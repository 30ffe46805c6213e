-- Ways back from a party: how many there are, whether there is one, and how far they lead hang together. By induction on the symbols.
use Rattle.std.proofs.Common.{◌≡◌, refl, sym, ap, ◌∙◌, Bool, true, false, List, [], ◌∷◌, ℕ}
use Rattle.std.proofs.Common.{zero, suc, ◌≤◌, ◌<◌, arith, leb, length, take, leb-false}
use Rattle.lists.specs.Lists.{range}
use Rattle.lists.specs.Order.{only_if}
use Rattle.lists.proofs.Cases.{by_test, both, and_left, and_right, and_both}
use Rattle.lists.proofs.ListLaws.{any_in, any_out, any_none, any_same, range_out}
use Rattle.lists.proofs.OrderLaws.{sum_any, sum_same, greatest_least, greatest_at, greatest_most}
use Rattle.rebac.specs.Paths.{Graph}
use Rattle.rebac.specs.promises.Backward.{may_precede, count_back, way_back, depth_back}

module _ {S K : Type 0} (g : Graph S) (seen : ℕ → K → Bool) (mark : ℕ → K → K) where
  -- there is a way exactly where their number is not 0
  pub count_way : (start : ℕ → Bool) (r : List S) (v : K) (b : ℕ)
      → leb 1 (count_back g seen mark start v b r) ≡ way_back g seen mark start v b r
  unfolding count_back way_back
  count_way start [] v b = by_test (start b) (λ e. rw e) (λ e. rw e)
  count_way start (s ∷ r) v b =
      sum_any _ _ (range g.parties)
      (λ c. by_test (may_precede g seen mark v b s c) (λ e. rw e (count_way start r (mark c v) c)) (λ e. rw e))

  pub count_none : (start : ℕ → Bool) (r : List S) (v : K) (b : ℕ)
      → way_back g seen mark start v b r ≡ false → count_back g seen mark start v b r ≡ 0
  count_none start r v b e =
      by_test (leb 1 (count_back g seen mark start v b r))
      (λ q. both (sym (count_way start r v b) ∙ q) e)
      (λ q. omega (arith, leb-false 1 (count_back g seen mark start v b r) q))

  -- ways lead no further than the symbols
  pub depth_most : (r : List S) (v : K) (b : ℕ) → depth_back g seen mark v b r ≤ length r
  unfolding depth_back
  depth_most [] v b = omega arith
  depth_most (s ∷ r) v b =
      greatest_most _ (range g.parties) (suc (length r))
      (λ c m. by_test (may_precede g seen mark v b s c) (λ e. rw e (omega (arith, depth_most r (mark c v) c))) (λ e. rw e (omega arith)))

  -- and along k symbols exactly where there is a way of the first k, wherever it starts
  pub depth_way : (k : ℕ) (r : List S) (v : K) (b : ℕ)
      → k ≤ depth_back g seen mark v b r → way_back g seen mark (λ c. true) v b (take k r) ≡ true
  unfolding depth_back way_back
  depth_way zero r v b h = refl
  depth_way (suc k) [] v b h = absurd (omega arith)
  depth_way (suc k) (s ∷ r) v b h =
      let x = greatest_at _ (range g.parties) (suc k) (omega arith) h in
      let c : ℕ = x.0 in
      by_test (may_precede g seen mark v b s c)
      (λ e. any_in _ (range g.parties) x.1
      (and_both e (depth_way k r (mark c v) c (let y = rw e at x.2 in omega (arith, y)))))
      (λ e. absurd (let y = rw e at x.2 in omega (arith, y)))

  pub way_depth : (k : ℕ) (r : List S) (v : K) (b : ℕ)
      → k ≤ length r → way_back g seen mark (λ c. true) v b (take k r) ≡ true → k ≤ depth_back g seen mark v b r
  unfolding depth_back way_back
  way_depth zero r v b l h = omega arith
  way_depth (suc k) [] v b l h = absurd (omega arith)
  way_depth (suc k) (s ∷ r) v b l h =
      let x = any_out _ (range g.parties) h in
      let c : ℕ = x.0 in
      let e = and_left (may_precede g seen mark v b s c) _ x.2 in
      let d : k ≤ depth_back g seen mark (mark c v) c r =
      way_depth k r (mark c v) c (omega arith) (and_right (may_precede g seen mark v b s c) _ x.2) in
      let y : only_if (may_precede g seen mark v b s c) (suc (depth_back g seen mark (mark c v) c r)) ≤ depth_back g seen mark v b (s ∷ r) =
      greatest_least (λ c. only_if (may_precede g seen mark v b s c) (suc (depth_back g seen mark (mark c v) c r))) (range g.parties)
      x.1 in
      let z : suc (depth_back g seen mark (mark c v) c r) ≤ depth_back g seen mark v b (s ∷ r) = rw e at y in
      omega (arith, z, d)

  -- what a start is counts for the parties of the graph alone
  module _ (start other : ℕ → Bool) (same : (c : ℕ) → c < g.parties → start c ≡ other c) where
    pub way_start : (r : List S) (v : K) (b : ℕ) → b < g.parties → way_back g seen mark start v b r ≡ way_back g seen mark other v b r
    unfolding way_back
    way_start [] v b h = same b h
    way_start (s ∷ r) v b h = any_same _ _ (range g.parties) (λ c m. rw (way_start r (mark c v) c (range_out g.parties m)))

    pub count_start : (r : List S) (v : K) (b : ℕ) → b < g.parties → count_back g seen mark start v b r ≡ count_back g seen mark other v b r
    unfolding count_back
    count_start [] v b h = ap (λ (x : Bool). only_if x 1) (same b h)
    count_start (s ∷ r) v b h = sum_same _ _ (range g.parties) (λ c m. rw (count_start r (mark c v) c (range_out g.parties m)))

  -- with no start there is no way
  pub way_none : (start : ℕ → Bool) → ((c : ℕ) → start c ≡ false) → (r : List S) (v : K) (b : ℕ) → way_back g seen mark start v b r ≡ false
  unfolding way_back
  way_none start f [] v b = f b
  way_none start f (s ∷ r) v b =
      any_none _ (range g.parties)
      (λ c m e. both (and_right (may_precede g seen mark v b s c) _ e) (way_none start f r (mark c v) c))
