-- Laws for callers of the search: what it depends on, how long a word can be, that
-- more edges give no fewer paths. By induction on the word.
use Rattle.std.proofs.Common.{◌≡◌, refl, sym, ap, ◌∙◌, Bool, true, false, not, ◌&&◌, List, [], ◌∷◌, map}
use Rattle.std.proofs.Common.{ℕ, suc, ◌≤◌, ◌<◌, min, arith, eqb, leb, length, ne_eqb, eqb-true, eq-eqb}
use mathlib.Core.List.{Memᴰ}
use Rattle.std.proofs.Math.Option.{some}
use Rattle.lists.specs.Lists.{any_of, flat_map, member, range}
use Rattle.lists.specs.Order.{first_element, only_if, sum_of}
use Rattle.lists.proofs.Cases.{by_test, by_mem, both, and_left, and_right, and_both, and_false}
use Rattle.lists.proofs.ListLaws.{any_in, any_none, any_same, filter_out, range_in, range_out}
use Rattle.lists.proofs.OrderLaws.{sum_mono, length_map}
use Rattle.lists.proofs.Pointwise.{filter_same, filter_range, flat_same, distinct_short}
use Rattle.rebac.specs.Matter.{Pair}
use Rattle.rebac.specs.Paths.{Graph, Path, has, candidates, routes, paths_of, least_path, path_count}
use Rattle.rebac.proofs.Reach.{reach, has_reach, routes_count, reach_out, has_walk, least_is_walk}
use Rattle.rebac.proofs.Triples.{walk_length, walk_inside, walk_end}

module _ {S : Type 0} (g h : Graph S) where
  -- the two graphs agree on the symbols of the word: inside the first one's parties, and the second has no edge out of them
  pub record Agree (w : List S) : Type 0 where
    pub parties : g.parties ≤ h.parties
    pub inside : (u v : ℕ) (s : S) → u < g.parties → v < g.parties → Memᴰ s w → g.edge u v s ≡ h.edge u v s
    pub outside : (u v : ℕ) (s : S) → u < g.parties → g.parties ≤ v → v < h.parties → Memᴰ s w → h.edge u v s ≡ false

  agree_tail : (s : S) (w : List S) → Agree (s ∷ w) → Agree w
  agree_tail s w a = record {
    parties = a.parties;
    inside = λ u v t x y m. a.inside u v t x y (Memᴰ.tail m);
    outside = λ u v t x y z m. a.outside u v t x y z (Memᴰ.tail m);
  }

  agree_candidates : (s : S) (w : List S) → Agree (s ∷ w)
      → (seen : List ℕ) (a : ℕ) → a < g.parties → candidates g seen a s ≡ candidates h seen a s
  unfolding candidates
  agree_candidates s w k seen a l =
      filter_same (λ c. not (member c seen) && g.edge a c s) (λ c. not (member c seen) && h.edge a c s) (range g.parties)
      (λ c m. rw (k.inside a c s l (range_out g.parties m) (Memᴰ.head refl)))
      ∙ sym (filter_range (λ c. not (member c seen) && h.edge a c s) g.parties h.parties k.parties
      (λ c x y. and_false (not (member c seen)) (k.outside a c s l x y (Memᴰ.head refl))))

  candidate_inside : (seen : List ℕ) (a : ℕ) (s : S) {c : ℕ} → Memᴰ c (candidates g seen a s) → c < g.parties
  unfolding candidates
  candidate_inside seen a s m = range_out g.parties (filter_out (λ c. not (member c seen) && g.edge a c s) (range g.parties) m).0

  pub routes_agree : (w : List S) → Agree w → (seen : List ℕ) (a b : ℕ) → a < g.parties → routes g seen a b w ≡ routes h seen a b w
  unfolding routes
  routes_agree [] k seen a b l = refl
  routes_agree (s ∷ w) k seen a b l =
      flat_same (λ c. map (λ v. c ∷ v) (routes g (c ∷ seen) c b w)) _ (candidates g seen a s)
      (λ c m. ap (map (λ v. c ∷ v)) (routes_agree w (agree_tail s w k) (c ∷ seen) c b (candidate_inside seen a s m)))
      ∙ ap (flat_map (λ c. map (λ v. c ∷ v) (routes h (c ∷ seen) c b w))) (agree_candidates s w k seen a l)

  -- so a pair of the first graph has the same words, paths, least path and counts in both
  module _ (p : Pair) (w : List S) (k : Agree w) (l : p.first < g.parties) where
    pub paths_agree : paths_of g p w ≡ paths_of h p w
    unfolding paths_of
    paths_agree = ap (map (λ v. p.first ∷ v)) (routes_agree w k (p.first ∷ []) p.first p.second l)

    pub has_agree : has g p w ≡ has h p w
    unfolding has
    has_agree = ap (λ r. leb 1 (length r)) paths_agree

    pub least_agree : least_path g p w ≡ least_path h p w
    unfolding least_path
    least_agree = ap first_element paths_agree

    pub count_agree : (cap : ℕ) → path_count g cap p w ≡ path_count h cap p w
    unfolding path_count
    count_agree cap = ap (λ r. min cap (length r)) paths_agree

  -- more edges: no fewer paths
  module _ (same : g.parties ≡ h.parties) (more : (u v : ℕ) (s : S) → g.edge u v s ≡ true → h.edge u v s ≡ true) where
    step_more : (seen : List ℕ) (a c : ℕ) (s : S) (j k : ℕ) → j ≤ k
        → only_if (not (member c seen) && g.edge a c s) j ≤ only_if (not (member c seen) && h.edge a c s) k
    step_more seen a c s j k l =
        by_test (g.edge a c s)
        (λ e. by_test (member c seen) (λ m. rw m (omega arith)) (λ m. rw (e, more a c s e, m) l))
        (λ e. rw (e, and_false (not (member c seen)) {c = false} refl) (omega arith))

    pub routes_more : (w : List S) (seen : List ℕ) (a b : ℕ) → length (routes g seen a b w) ≤ length (routes h seen a b w)
    unfolding routes
    routes_more [] seen a b = omega arith
    routes_more (s ∷ w) seen a b =
        let F : ℕ → ℕ = λ c. only_if (not (member c seen) && g.edge a c s) (length (routes g (c ∷ seen) c b w)) in
        let H : ℕ → ℕ = λ c. only_if (not (member c seen) && h.edge a c s) (length (routes h (c ∷ seen) c b w)) in
        let m : sum_of F (range g.parties) ≤ sum_of H (range g.parties) =
        sum_mono F H (range g.parties) (λ c n. step_more seen a c s _ _ (routes_more w (c ∷ seen) c b)) in
        omega (arith, routes_count g seen a b s w, routes_count h seen a b s w, ap (λ n. sum_of H (range n)) same, m)

    pub count_more : (cap : ℕ) (p : Pair) (w : List S) → path_count g cap p w ≤ path_count h cap p w
    unfolding path_count paths_of
    count_more cap p w =
        let onward : Graph S → List (List ℕ) = λ k. routes k (p.first ∷ []) p.first p.second w in
        rw (length_map (λ l. p.first ∷ l) (onward g), length_map (λ l. p.first ∷ l) (onward h))
        (omega (arith, routes_more w (p.first ∷ []) p.first p.second))

module _ {S : Type 0} (g : Graph S) where
  pub count_at_most : (cap : ℕ) (p : Pair) (w : List S) → path_count g cap p w ≤ cap
  unfolding path_count
  count_at_most cap p w = omega arith

  -- 01: "The parties on a path number exactly its symbols plus one."
  pub path_size : (p : Pair) (w : List S) (via : List ℕ) → Path g p w via → length (p.first ∷ via) ≡ suc (length w)
  path_size p w via r = ap suc (walk_length g p.first p.second via w r.walk)

  pub least_size : (p : Pair) (w : List S) {l : List ℕ} → least_path g p w ≡ some l → length l ≡ suc (length w)
  least_size p w e = let r = least_is_walk g p w e in ap length r.1 ∙ ap suc (walk_length g p.first p.second r.0 w r.2.walk)

  -- two different parties do not have the empty word
  pub no_empty_word : (p : Pair) → (p.first ≡ p.second → ⊥) → has g p [] ≡ false
  unfolding reach
  no_empty_word p d = has_reach g p [] ∙ ne_eqb p.first p.second d

  -- a path has at most as many parties as there are, so a word of n symbols or more is had by none
  pub path_short : (p : Pair) (w : List S) → p.first < g.parties → has g p w ≡ true → length w < g.parties
  path_short p w l e =
      let r = has_walk g p w e in
      let inside : (x : ℕ) → Memᴰ x (p.first ∷ r.0) → x < g.parties =
      λ x m. by_mem m (λ z. rw z l) (λ n. walk_inside g p.first p.second r.0 w r.1.walk x n) in
      let q : length (p.first ∷ r.0) ≤ g.parties = distinct_short g.parties (p.first ∷ r.0) r.1.simple inside in
      omega (arith, walk_length g p.first p.second r.0 w r.1.walk, q)

  pub long_word : (p : Pair) (w : List S) → p.first < g.parties → g.parties ≤ length w → has g p w ≡ false
  long_word p w l h = by_test (has g p w) (λ e. absurd (omega (arith, path_short p w l e))) (λ e. e)

  -- the last step goes to the second party itself
  pub reach_last : (seen : List ℕ) (a b : ℕ) (s : S) → b < g.parties → reach g seen a b (s ∷ []) ≡ (not (member b seen) && g.edge a b s)
  unfolding reach
  reach_last seen a b s l =
      let last : ℕ → Bool = λ c. not (member c seen) && (g.edge a c s && eqb c b) in
      by_test (not (member b seen) && g.edge a b s)
      (λ e.
      let here : (g.edge a b s && eqb b b) ≡ true = and_both (and_right (not (member b seen)) _ e) (eq-eqb b b refl) in
      any_in last (range g.parties) (range_in g.parties b l) (and_both (and_left (not (member b seen)) _ e) here) ∙ sym e)
      (λ e. any_none last (range g.parties) (λ c m x.
      let y = and_right (not (member c seen)) _ x in
      let q : c ≡ b = eqb-true c b (and_right (g.edge a c s) _ y) in
      both (rw q at (and_both (and_left (not (member c seen)) _ x) (and_left (g.edge a c s) _ y))) e) ∙ sym e)

  -- the second party may be left out of the candidates while symbols remain: once seen, it is not reached again
  pub reach_seen : (seen : List ℕ) (a b : ℕ) (s : S) (w : List S) → Memᴰ b seen → reach g seen a b (s ∷ w) ≡ false
  reach_seen seen a b s w m =
      by_test (reach g seen a b (s ∷ w))
      (λ e.
      let r = reach_out g seen a b (s ∷ w) e in
      absurd (r.1.unseen b (walk_end g a b r.0 s w r.1.walk) m))
      (λ e. e)

  -- the search depends only on which parties were seen
  pub reach_same_seen : (w : List S) (seen past : List ℕ) (a b : ℕ)
      → ((c : ℕ) → member c seen ≡ member c past) → reach g seen a b w ≡ reach g past a b w
  unfolding reach
  reach_same_seen [] seen past a b f = refl
  reach_same_seen (s ∷ w) seen past a b f =
      any_same _ _ (range g.parties) (λ c m. rw (f c, reach_same_seen w (c ∷ seen) (c ∷ past) c b (more c)))
    where
      more : (c x : ℕ) → member x (c ∷ seen) ≡ member x (c ∷ past)
      more c x = unfold any_of in rw (f x)
