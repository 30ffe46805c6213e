-- The pairs by number are the pairs in order: both lists ascend and have the same members.
use Rattle.std.proofs.Common.{◌≡◌, refl, true, false, [], ◌∷◌, ℕ, suc, ◌+◌, ◌*◌, ◌-◌, ◌/◌}
use Rattle.std.proofs.Common.{◌%◌, ◌≤◌, ◌<◌, arith, ltb, lt-ltb, le-ltb, ltb-true}
use Rattle.std.proofs.Math.Logic.{by_cases}
use mathlib.Core.List.{Memᴰ}
use Rattle.std.proofs.Math.Decide.{dec_lt}
use Rattle.lists.specs.Lists.{filter_by, up_from}
use Rattle.lists.specs.Order.{Ascending}
use Rattle.lists.proofs.ListLaws.{filter_in, filter_out, map_in, map_out, up_in, up_out}
use Rattle.lists.proofs.OrderLaws.{ascending_filter, ascending_map, ascending_equal, up_ascending}
use Rattle.lists.proofs.Pointwise.{filter_none}
use Rattle.rebac.specs.Matter.{Pair, pair_before, pairs_of}
use Rattle.rebac.proofs.PairsLaws.{pairs_in, pairs_out, pairs_ascending, pair_one_way}
use Rattle.rebac.proofs.LexOrder.{first_lower, first_same}
use Rattle.graph.specs.Legal.{is_pair}
use Rattle.graph.proofs.LegalLaws.{pair_of, pair_is}
use Rattle.mining.specs.promises.Pairs.{pair_at, is_pair_at, pairs_from}

-- a greater number is a later pair
later : (i j : ℕ) → ltb i j ≡ true → pair_before (pair_at i) (pair_at j) ≡ true
later i j h =
    let l : i < j = ltb-true i j h in
    by_cases (dec_lt (i / 32) (j / 32))
    (λ k. first_lower (i / 32) (j / 32) (ltb (i % 32) (j % 32)) k)
    (λ k.
    let e : i / 32 ≡ j / 32 = omega (arith, l, k) in
    let m : i % 32 < j % 32 = omega (arith, l, e) in
    first_same (i / 32) (j / 32) (ltb (i % 32) (j % 32)) e (lt-ltb (i % 32) (j % 32) m))

module _ (n : ℕ) (bounded : n ≤ 32) where
  number_in : (p : Pair) → Memᴰ p (pairs_of n) → Memᴰ p (pairs_from n 0)
  unfolding pairs_from
  number_in p m =
      let i = pairs_out n m in
      let u = i.first in
      let v = i.second in
      let k = 32 * p.first + p.second in
      let d : k / 32 ≡ p.first = omega (arith, bounded, u, v) in
      let r : k % 32 ≡ p.second = omega (arith, bounded, u, v) in
      let e : pair_at k ≡ p = rw (d, r) refl in
      let t : is_pair_at n k ≡ true = rw (d, r) (pair_is n p.first p.second i) in
      let w = up_in 0 1024 k (omega arith) (omega (arith, bounded, u, v)) in
      rw (← e) (map_in pair_at (filter_by (is_pair_at n) (up_from 0 1024)) (filter_in (is_pair_at n) (up_from 0 1024) w t))

  number_out : (p : Pair) → Memᴰ p (pairs_from n 0) → Memᴰ p (pairs_of n)
  unfolding pairs_from
  number_out p m =
      let s = map_out pair_at (filter_by (is_pair_at n) (up_from 0 1024)) m in
      let f = filter_out (is_pair_at n) (up_from 0 1024) s.1 in
      let i = pair_of n (s.0 / 32) (s.0 % 32) f.1 in
      rw s.2 (pairs_in n (pair_at s.0) i)

  numbered_ascending : Ascending pair_before (pairs_from n 0)
  unfolding pairs_from
  numbered_ascending =
      ascending_map ltb pair_before pair_at later (filter_by (is_pair_at n) (up_from 0 1024))
      (ascending_filter ltb (is_pair_at n) (up_from 0 1024) (up_ascending 0 1024))

  pub pairs_numbered : pairs_from n 0 ≡ pairs_of n
  pairs_numbered =
      ascending_equal pair_before pair_one_way (pairs_from n 0) (pairs_of n) numbered_ascending (pairs_ascending n) number_out number_in

-- from one number to the next
module _ (n k : ℕ) (h : k < 1024) where
  from_next : up_from k (1024 - k) ≡ k ∷ up_from (k + 1) (1024 - (k + 1))
  unfolding up_from
  from_next =
      let a : 1024 - k ≡ suc (1024 - (k + 1)) = omega (arith, h) in
      let b : k + 1 ≡ suc k = omega arith in
      rw (a, b) refl

  pub pairs_skip : is_pair_at n k ≡ false → pairs_from n k ≡ pairs_from n (k + 1)
  unfolding pairs_from filter_by
  pairs_skip e = rw (from_next, e, filter_by) refl

  pub pairs_take : is_pair_at n k ≡ true → pairs_from n k ≡ pair_at k ∷ pairs_from n (k + 1)
  unfolding pairs_from filter_by
  pairs_take e = rw (from_next, e, filter_by) refl

-- past the last party's numbers there is no pair
pub pairs_end : (n k : ℕ) → 32 * n ≤ k → pairs_from n k ≡ []
unfolding pairs_from is_pair
pairs_end n k h =
    rw (filter_none (is_pair_at n) (up_from k (1024 - k)) (λ i m.
    let r = up_out k (1024 - k) m in
    rw (le-ltb (i / 32) n (omega (arith, r.0, h))) refl)) refl
