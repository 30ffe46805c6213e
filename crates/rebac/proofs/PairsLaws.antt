-- The pairs of n parties: each once, in pair order, n (n - 1) of them; by induction on the range.
use Rattle.std.proofs.Common.{◌≡◌, refl, ap, ◌∙◌, ⊎_elim, true, not, List, [], ◌∷◌, map, ℕ, zero, suc, ◌+◌, ◌*◌, ◌-◌}
use Rattle.std.proofs.Common.{◌≤◌, ◌<◌, arith, suc-mul, eqb, ltb, length, eqb-true, ne_eqb, ltb-true, lt-ltb}
use Rattle.std.proofs.lemmas.Bool.{eqb-false, not-true}
use mathlib.Core.List.{Memᴰ}
use Rattle.lists.specs.Lists.{filter_by, up_from, range}
use Rattle.lists.specs.Order.{Ascending, sum_of}
use Rattle.lists.proofs.Cases.{by_test}
use Rattle.lists.proofs.ListLaws.{filter_in, filter_out, flat_in, flat_out, map_in, map_out, range_in, range_out, up_length}
use Rattle.lists.proofs.OrderLaws.{ascending_filter, range_ascending, rows_ascending, length_map, length_flat}
use Rattle.rebac.specs.Matter.{Pair, pair, IsPair, pair_before, pairs_of}
use Rattle.rebac.proofs.LexOrder.{by_first, first_lower, first_same}

pub pairs_in : (n : ℕ) (p : Pair) → IsPair n p → Memᴰ p (pairs_of n)
unfolding pairs_of
pairs_in n p h =
    flat_in (λ a. map (pair a) (filter_by (λ b. not (eqb a b)) (range n))) (range n) (range_in n p.first h.first)
    (map_in (pair p.first) (filter_by (λ b. not (eqb p.first b)) (range n))
    (filter_in (λ b. not (eqb p.first b)) (range n) (range_in n p.second h.second)
    (rw (ne_eqb p.first p.second h.different))))

pub pairs_out : (n : ℕ) {p : Pair} → Memᴰ p (pairs_of n) → IsPair n p
unfolding pairs_of
pairs_out n m =
    let r = flat_out (λ a. map (pair a) (filter_by (λ b. not (eqb a b)) (range n))) (range n) m in
    let t = map_out (pair r.0) (filter_by (λ b. not (eqb r.0 b)) (range n)) r.2 in
    let f = filter_out (λ b. not (eqb r.0 b)) (range n) t.1 in
    rw t.2 (record {
      first = range_out n r.1;
      second = range_out n f.0;
      different = eqb-false r.0 t.0 (not-true (eqb r.0 t.0) f.1);
    })

pub pairs_ascending : (n : ℕ) → Ascending pair_before (pairs_of n)
unfolding pairs_of
pairs_ascending n =
    rows_ascending pair_before pair (λ a b x y h. first_lower a b (ltb x y) h) (λ a x y h. first_same a a (ltb x y) refl (lt-ltb x y h))
    (λ a. filter_by (λ b. not (eqb a b)) (range n))
    (λ a. ascending_filter ltb (λ b. not (eqb a b)) (range n) (range_ascending n)) (range n) (range_ascending n)

-- of two pairs at most one is before the other
pub pair_one_way : (p q : Pair) → pair_before p q ≡ true → pair_before q p ≡ true → ⊥
pair_one_way p q h k =
    ⊎_elim
    (λ (a : p.first < q.first). ⊎_elim
    (λ (b : q.first < p.first). omega (arith, a, b))
    (λ (b : (q.first ≡ p.first) × (ltb q.second p.second ≡ true)). omega (arith, a, b.0))
    (by_first q.first p.first (ltb q.second p.second) k))
    (λ (a : (p.first ≡ q.first) × (ltb p.second q.second ≡ true)). ⊎_elim
    (λ (b : q.first < p.first). omega (arith, a.0, b))
    (λ (b : (q.first ≡ p.first) × (ltb q.second p.second ≡ true)).
    omega (arith, ltb-true p.second q.second a.1, ltb-true q.second p.second b.1))
    (by_first q.first p.first (ltb q.second p.second) k))
    (by_first p.first q.first (ltb p.second q.second) h)

-- a row leaves out one party of the range
above : (a s k : ℕ) → a < s → length (filter_by (λ b. not (eqb a b)) (up_from s k)) ≡ k
unfolding up_from filter_by
above a s zero h = refl
above a s (suc k) h = rw (ne_eqb a s (λ e. omega arith), filter_by) (ap suc (above a (suc s) k (omega arith)))

row_length : (a s k : ℕ) → s ≤ a → a < s + k → suc (length (filter_by (λ b. not (eqb a b)) (up_from s k))) ≡ k
unfolding up_from filter_by
row_length a s zero l u = absurd (omega arith)
row_length a s (suc k) l u =
    by_test (eqb a s)
    (λ e. let q : a ≡ s = eqb-true a s e in rw (e, filter_by) (ap suc (above a (suc s) k (omega arith))))
    (λ e. let q : a ≡ s → ⊥ = eqb-false a s e in rw (e, filter_by) (ap suc (row_length a (suc s) k (omega (arith, q)) (omega arith))))

sum_const : {A : Type 0} (f : A → ℕ) (c : ℕ) (l : List A) → ((x : A) → Memᴰ x l → f x ≡ c) → sum_of f l ≡ length l * c
unfolding sum_of
sum_const f c [] h = omega arith
sum_const f c (x ∷ l) h =
    rw (h x (Memᴰ.head refl), sum_const f c l (λ y m. h y (Memᴰ.tail m))) (omega (arith, suc-mul (length l) c))

pub pairs_length : (n : ℕ) → length (pairs_of n) ≡ n * (n - 1)
unfolding pairs_of range
pairs_length n =
    length_flat (λ a. map (pair a) (filter_by (λ b. not (eqb a b)) (range n))) (range n)
    ∙ sum_const (λ a. length (map (pair a) (filter_by (λ b. not (eqb a b)) (range n)))) (n - 1) (range n)
    (λ a m.
    length_map (pair a) (filter_by (λ b. not (eqb a b)) (range n))
    ∙ omega (arith, row_length a 0 n (omega arith) (omega (arith, range_out n m))))
    ∙ ap (λ k. k * (n - 1)) (up_length 0 n)
