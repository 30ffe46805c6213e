-- A map of parties that is one-to-one on the parties of a graph and carries every edge takes each path of a pair to a path of the pair's
-- image, and different paths to different ones. So the image has at least as many paths with each word, and every word of the pair.
use Rattle.std.proofs.Common.{◌≡◌, sym, ap, ◌∙◌, true, List, [], ◌∷◌, map, ℕ, ◌≤◌, ◌<◌, arith, length, le-leb, leb-true}
use mathlib.Core.List.{Memᴰ}
use Rattle.lists.specs.Order.{Distinct}
use Rattle.lists.proofs.Cases.{by_mem}
use Rattle.lists.proofs.ListLaws.{map_out}
use Rattle.lists.proofs.OrderLaws.{length_map}
use Rattle.lists.proofs.Distinct.{distinct_map, distinct_most, map_one_to_one}
use Rattle.rebac.specs.Matter.{Pair, pair}
use Rattle.rebac.specs.Paths.{Graph, Walk, has, paths_of, path_count}
use Rattle.rebac.proofs.Reach.{walks_in, walks_out, paths_distinct, paths_has}
use Rattle.rebac.proofs.Triples.{walk_inside}

module _ {S : Type 0} (g : Graph S) (f : ℕ → ℕ)
    (inside : (u : ℕ) → u < g.parties → f u < g.parties)
    (one : (u v : ℕ) → u < g.parties → v < g.parties → f u ≡ f v → u ≡ v)
    (carry : (u v : ℕ) (s : S) → u < g.parties → v < g.parties → g.edge u v s ≡ true → g.edge (f u) (f v) s ≡ true) where
  carry_walk : (a b : ℕ) (via : List ℕ) (w : List S) → a < g.parties → Walk g a via w b → Walk g (f a) (map f via) w (f b)
  carry_walk a b [] [] h k = ap f k
  carry_walk a b [] (s ∷ w) h k = absurd k
  carry_walk a b (c ∷ via) [] h k = absurd k
  carry_walk a b (c ∷ via) (s ∷ w) h k = (inside c k.0, carry a c s h k.0 k.1, carry_walk c b via w k.0 k.2)

  -- for a pair whose first party is one of the graph's
  module _ (p : Pair) (w : List S) (h : p.first < g.parties) where
    abbrev image : Pair
    image = pair (f p.first) (f p.second)

    path_inside : (l : List ℕ) → Memᴰ l (paths_of g p w) → (x : ℕ) → Memᴰ x l → x < g.parties
    path_inside l m x n =
        let r = walks_out g p w m in
        by_mem (rw r.1 at n) (λ e. rw e h) (λ k. walk_inside g p.first p.second r.0 w r.2.walk x k)

    path_carried : (l : List ℕ) → Memᴰ l (paths_of g p w) → Memᴰ (map f l) (paths_of g image w)
    path_carried l m =
        let r = walks_out g p w m in
        let apart : Distinct (map f (p.first ∷ r.0)) =
        distinct_map f (p.first ∷ r.0) r.2.simple
        (λ x y a b. one x y (path_inside l m x (rw r.1 a)) (path_inside l m y (rw r.1 b))) in
        rw r.1
        (walks_in g image w (map f r.0)
        (record { walk = carry_walk p.first p.second r.0 w h r.2.walk; simple = apart }))

    -- no fewer paths
    paths_carried : length (paths_of g p w) ≤ length (paths_of g image w)
    paths_carried =
        let l : List (List ℕ) = paths_of g p w in
        let apart : Distinct (map (map f) l) =
        distinct_map (map f) l (paths_distinct g p w)
        (λ x y a b. map_one_to_one f x y (λ u v c d. one u v (path_inside x a u c) (path_inside y b v d))) in
        let among : (y : List ℕ) → Memᴰ y (map (map f) l) → Memᴰ y (paths_of g image w) =
        λ y m. let r = map_out (map f) l m in rw r.2 (path_carried r.0 r.1) in
        omega (arith, distinct_most (map (map f) l) (paths_of g image w) apart among, length_map (map f) l)

    -- so the score does not fall, at any cap
    pub count_carried : (cap : ℕ) → path_count g cap p w ≤ path_count g cap (pair (f p.first) (f p.second)) w
    unfolding path_count
    count_carried cap = omega (arith, paths_carried)

    -- and the image has the word where the pair does
    pub has_carried : has g p w ≡ true → has g (pair (f p.first) (f p.second)) w ≡ true
    has_carried e =
        let k : 1 ≤ length (paths_of g p w) = leb-true _ _ (paths_has g p w ∙ e) in
        sym (paths_has g image w) ∙ le-leb 1 (length (paths_of g image w)) (omega (arith, k, paths_carried))
