-- The search finds a path exactly where one exists: by induction on the word, with the parties seen so far.
use Rattle.std.proofs.Common.{◌≡◌, refl, sym, ap, ◌∙◌, ◌⊎◌, ◌↔◌, Bool, true, false, not, ◌&&◌, List, [], ◌∷◌, map, ℕ, suc}
use Rattle.std.proofs.Common.{◌≤◌, ◌<◌, min, arith, eqb, leb, ltb, length, eqb-true, eq-eqb, le-leb, leb-true, leb-false}
use Rattle.std.proofs.lemmas.Bool.{not-true, lt-leb}
use mathlib.Core.List.Memᴰ
use mathlib.Core.List.{Memᴰ}
use Rattle.std.proofs.Math.Option.{none, some}
use Rattle.lists.specs.Lists.{any_of, filter_by, member, range}
use Rattle.lists.specs.Order.{Ascending, Distinct, only_if, sum_of}
use Rattle.lists.proofs.Cases.{by_test, by_mem, clash, both, and_left, and_right}
use Rattle.lists.proofs.ListLaws.{filter_in, filter_out, flat_in, flat_out, map_in, map_out, member_in, member_not, range_in, range_out}
use Rattle.lists.proofs.OrderLaws.{ascending_filter, ascending_distinct, range_ascending, head_least, head_in}
use Rattle.lists.proofs.OrderLaws.{head_none, sum_any, sum_filter, length_map, length_flat}
use Rattle.rebac.specs.Matter.{Pair}
use Rattle.rebac.specs.Words.{lex_less}
use Rattle.rebac.proofs.LexOrder.{lex_irreflexive, cons_ascending, flat_ascending}
use Rattle.rebac.specs.Paths.{Graph, Walk, Path, HasPath, has, candidates, routes, paths_of, least_path, path_count}

min_one : (cap : ℕ) → 1 ≤ cap → (k : ℕ) → leb 1 (min cap k) ≡ leb 1 k
min_one cap h k =
    by_test (leb 1 k)
    (λ e. let a : 1 ≤ k = leb-true 1 k e in rw e (le-leb 1 (min cap k) (omega arith)))
    (λ e. let a : k < 1 = leb-false 1 k e in rw e (lt-leb 1 (min cap k) (omega arith)))

module _ {S : Type 0} (g : Graph S) where
  -- the search: from a along the word to b, past no party of `seen`
  unfoldable pub reach : List ℕ → ℕ → ℕ → List S → Bool
  reach seen a b [] = eqb a b
  reach seen a b (s ∷ w) = any_of (λ c. not (member c seen) && (g.edge a c s && reach (c ∷ seen) c b w)) (range g.parties)

  -- whether c may come next after a along s
  abbrev may_follow : List ℕ → ℕ → S → ℕ → Bool
  may_follow seen a s c = not (member c seen) && g.edge a c s

  -- the continuations that go to c first
  abbrev routes_by : List ℕ → ℕ → List S → ℕ → List (List ℕ)
  routes_by seen b w c = map (λ l. c ∷ l) (routes g (c ∷ seen) c b w)

  -- a walk onward from a that passes no party seen
  pub record Onward (seen : List ℕ) (a b : ℕ) (w : List S) (via : List ℕ) : Type 0 where
    pub walk : Walk g a via w b
    pub simple : Distinct via
    pub unseen : (x : ℕ) → Memᴰ x via → Memᴰ x seen → ⊥

  -- a path but for the number of its symbols: from a party to itself also the walk that goes nowhere
  pub record SimpleWalk (p : Pair) (w : List S) (via : List ℕ) : Type 0 where
    pub walk : Walk g p.first via w p.second
    pub simple : Distinct (p.first ∷ via)

  pub path_walk : (p : Pair) (w : List S) (via : List ℕ) → Path g p w via → SimpleWalk p w via
  path_walk p w via r = record { walk = r.walk; simple = r.simple }

  pub walk_path : (p : Pair) (w : List S) (via : List ℕ) → 1 ≤ length w → SimpleWalk p w via → Path g p w via
  walk_path p w via h r = record { some = h; walk = r.walk; simple = r.simple }

  pub onward_walk : (p : Pair) (w : List S) (via : List ℕ) → Onward (p.first ∷ []) p.first p.second w via → SimpleWalk p w via
  onward_walk p w via o = record { walk = o.walk; simple = (λ m. o.unseen p.first m (Memᴰ.head refl), o.simple) }

  pub walk_onward : (p : Pair) (w : List S) (via : List ℕ) → SimpleWalk p w via → Onward (p.first ∷ []) p.first p.second w via
  walk_onward p w via r = record {
    walk = r.walk;
    simple = r.simple.1;
    unseen = λ x m n. by_mem n (λ q. r.simple.0 (rw q at m)) (λ k. Memᴰ.not-nil k);
  }

  -- one step onward
  onward_cons : (seen : List ℕ) (a b : ℕ) (s : S) (w : List S) (c : ℕ) (l : List ℕ) → (c < g.parties)
      → g.edge a c s ≡ true → member c seen ≡ false → Onward (c ∷ seen) c b w l → Onward seen a b (s ∷ w) (c ∷ l)
  onward_cons seen a b s w c l h e f o =
      record {
        walk = (h, e, o.walk);
        simple = (λ m. o.unseen c m (Memᴰ.head refl), o.simple);
        unseen = λ x m n. by_mem m (λ q. both (member_in c seen (rw q at n)) f) (λ k. o.unseen x k (Memᴰ.tail n));
      }

  record Step (seen : List ℕ) (a b : ℕ) (s : S) (w : List S) (c : ℕ) (l : List ℕ) : Type 0 where
    inside : c < g.parties
    joined : g.edge a c s ≡ true
    fresh : member c seen ≡ false
    rest : Onward (c ∷ seen) c b w l

  onward_step : (seen : List ℕ) (a b : ℕ) (s : S) (w : List S) (c : ℕ) (l : List ℕ)
      → Onward seen a b (s ∷ w) (c ∷ l) → Step seen a b s w c l
  onward_step seen a b s w c l o =
      record {
        inside = o.walk.0;
        joined = o.walk.1;
        fresh = member_not c seen (o.unseen c (Memᴰ.head refl));
        rest = record {
          walk = o.walk.2;
          simple = o.simple.1;
          unseen = λ x m n. by_mem n (λ q. o.simple.0 (rw q at m)) (λ k. o.unseen x (Memᴰ.tail m) k);
        };
      }

  -- every continuation listed is one, and every one is listed
  pub routes_out : (seen : List ℕ) (a b : ℕ) (w : List S) {l : List ℕ} → Memᴰ l (routes g seen a b w) → Onward seen a b w l
  unfolding routes candidates
  routes_out seen a b [] m =
      by_test (eqb a b)
      (λ e. by_mem (rw (e, routes) at m)
      (λ q. rw q (record { walk = eqb-true a b e; simple = tt; unseen = λ x k n. Memᴰ.not-nil k }))
      (λ n. absurd (Memᴰ.not-nil n)))
      (λ e. absurd (Memᴰ.not-nil (rw (e, routes) at m)))
  routes_out seen a b (s ∷ w) m =
      let r = flat_out (routes_by seen b w) (filter_by (may_follow seen a s) (range g.parties)) m in
      let c : ℕ = r.0 in
      let t = map_out (λ l. c ∷ l) (routes g (c ∷ seen) c b w) r.2 in
      let f = filter_out (may_follow seen a s) (range g.parties) r.1 in
      let joined : g.edge a c s ≡ true = and_right (not (member c seen)) (g.edge a c s) f.1 in
      let fresh : member c seen ≡ false = not-true (member c seen) (and_left (not (member c seen)) (g.edge a c s) f.1) in
      rw t.2 (onward_cons seen a b s w c t.0 (range_out g.parties f.0) joined fresh (routes_out (c ∷ seen) c b w t.1))

  pub routes_in : (seen : List ℕ) (a b : ℕ) (w : List S) (l : List ℕ) → Onward seen a b w l → Memᴰ l (routes g seen a b w)
  unfolding routes candidates
  routes_in seen a b [] [] o = rw (eq-eqb a b o.walk, routes) (Memᴰ.head refl)
  routes_in seen a b [] (c ∷ l) o = absurd o.walk
  routes_in seen a b (s ∷ w) [] o = absurd o.walk
  routes_in seen a b (s ∷ w) (c ∷ l) o =
      let k = onward_step seen a b s w c l o in
      flat_in (routes_by seen b w) (filter_by (may_follow seen a s) (range g.parties))
      (filter_in (may_follow seen a s) (range g.parties) (range_in g.parties c k.inside) (rw (k.fresh, k.joined)))
      (map_in (λ l. c ∷ l) (routes g (c ∷ seen) c b w) (routes_in (c ∷ seen) c b w l k.rest))

  -- how many continuations there are: the sum over the candidates
  pub routes_count : (seen : List ℕ) (a b : ℕ) (s : S) (w : List S) → length (routes g seen a b (s ∷ w))
      ≡ sum_of (λ c. only_if (not (member c seen) && g.edge a c s) (length (routes g (c ∷ seen) c b w))) (range g.parties)
  unfolding routes candidates
  routes_count seen a b s w =
      length_flat (routes_by seen b w) (filter_by (may_follow seen a s) (range g.parties))
      ∙ sum_filter (λ c. length (routes_by seen b w c)) (may_follow seen a s) (range g.parties)
      ∙ simp length_map

  pub routes_reach : (seen : List ℕ) (a b : ℕ) (w : List S) → leb 1 (length (routes g seen a b w)) ≡ reach seen a b w
  unfolding routes reach
  routes_reach seen a b [] = by_test (eqb a b) (λ e. rw (e, routes)) (λ e. rw (e, routes))
  routes_reach seen a b (s ∷ w) =
      ap (leb 1) (routes_count seen a b s w)
      ∙ sum_any _ _ (range g.parties) (λ c. by_test (member c seen)
      (λ e. rw e)
      (λ e. by_test (g.edge a c s) (λ k. rw (e, k) (routes_reach (c ∷ seen) c b w)) (λ k. rw (e, k))))

  some_one : {A : Type 0} (l : List A) → leb 1 (length l) ≡ true → (x : A) × Memᴰ x l
  some_one [] e = clash (sym e)
  some_one (x ∷ l) e = (x, Memᴰ.head refl)

  one_some : {A : Type 0} (l : List A) {x : A} → Memᴰ x l → leb 1 (length l) ≡ true
  one_some [] m = absurd (Memᴰ.not-nil m)
  one_some (y ∷ l) m = le-leb 1 (suc (length l)) (omega arith)

  pub reach_out : (seen : List ℕ) (a b : ℕ) (w : List S) → reach seen a b w ≡ true → (via : List ℕ) × Onward seen a b w via
  reach_out seen a b w e = let r = some_one (routes g seen a b w) (routes_reach seen a b w ∙ e) in (r.0, routes_out seen a b w r.1)

  pub reach_in : (seen : List ℕ) (a b : ℕ) (w : List S) (via : List ℕ) → Onward seen a b w via → reach seen a b w ≡ true
  reach_in seen a b w via o = sym (routes_reach seen a b w) ∙ one_some (routes g seen a b w) (routes_in seen a b w via o)

  -- the test by the list of all paths is the search
  pub has_reach : (p : Pair) (w : List S) → has g p w ≡ reach (p.first ∷ []) p.first p.second w
  unfolding has paths_of
  has_reach p w =
      ap (leb 1) (length_map (λ l. p.first ∷ l) (routes g (p.first ∷ []) p.first p.second w))
      ∙ routes_reach (p.first ∷ []) p.first p.second w

  -- the test is true exactly where a walk exists in which no party occurs twice
  pub has_walk : (p : Pair) (w : List S) → has g p w ≡ true → (via : List ℕ) × SimpleWalk p w via
  has_walk p w e =
      let r = reach_out (p.first ∷ []) p.first p.second w (sym (has_reach p w) ∙ e) in
      (r.0, onward_walk p w r.0 r.1)

  pub walk_has : (p : Pair) (w : List S) (via : List ℕ) → SimpleWalk p w via → has g p w ≡ true
  walk_has p w via r = has_reach p w ∙ reach_in (p.first ∷ []) p.first p.second w via (walk_onward p w via r)

  -- for a word of one symbol or more that is a path
  pub has_out : (p : Pair) (w : List S) → 1 ≤ length w → has g p w ≡ true → HasPath g p w
  has_out p w h e = let r = has_walk p w e in (r.0, walk_path p w r.0 h r.1)

  pub has_in : (p : Pair) (w : List S) (via : List ℕ) → Path g p w via → has g p w ≡ true
  has_in p w via r = walk_has p w via (path_walk p w via r)

  -- two different parties have no word but of one symbol or more
  pub has_some : (p : Pair) → (p.first ≡ p.second → ⊥) → (w : List S) → has g p w ≡ true → 1 ≤ length w
  unfolding reach
  has_some p d [] e = absurd (d (eqb-true p.first p.second (sym (has_reach p []) ∙ e)))
  has_some p d (s ∷ w) e = omega arith

  -- so for a pair of two different parties the test is true exactly where a path exists
  pub has_iff : (p : Pair) → (p.first ≡ p.second → ⊥) → (w : List S) → (has g p w ≡ true) ↔ HasPath g p w
  has_iff p d w = (λ e. has_out p w (has_some p d w e) e, λ r. has_in p w r.0 r.1)

  -- the paths listed are the paths
  pub walks_in : (p : Pair) (w : List S) (via : List ℕ) → SimpleWalk p w via → Memᴰ (p.first ∷ via) (paths_of g p w)
  unfolding paths_of
  walks_in p w via r =
      map_in (λ l. p.first ∷ l) (routes g (p.first ∷ []) p.first p.second w)
      (routes_in (p.first ∷ []) p.first p.second w via (walk_onward p w via r))

  pub paths_in : (p : Pair) (w : List S) (via : List ℕ) → Path g p w via → Memᴰ (p.first ∷ via) (paths_of g p w)
  paths_in p w via r = walks_in p w via (path_walk p w via r)

  pub walks_out : (p : Pair) (w : List S) {l : List ℕ} → Memᴰ l (paths_of g p w)
      → (via : List ℕ) × (l ≡ p.first ∷ via) × SimpleWalk p w via
  unfolding paths_of
  walks_out p w m =
      let r = map_out (λ l. p.first ∷ l) (routes g (p.first ∷ []) p.first p.second w) m in
      (r.0, r.2, onward_walk p w r.0 (routes_out (p.first ∷ []) p.first p.second w r.1))

  pub paths_out : (p : Pair) (w : List S) → 1 ≤ length w → {l : List ℕ} → Memᴰ l (paths_of g p w)
      → (via : List ℕ) × (l ≡ p.first ∷ via) × Path g p w via
  paths_out p w h m = let r = walks_out p w m in (r.0, r.1, walk_path p w r.0 h r.2)

  -- and there is one exactly where the pair has the word
  pub paths_has : (p : Pair) (w : List S) → leb 1 (length (paths_of g p w)) ≡ has g p w
  unfolding has
  paths_has p w = refl

  -- and they stand in order, the lower party first at the first difference, each once
  routes_ascending : (seen : List ℕ) (a b : ℕ) (w : List S) → Ascending lex_less (routes g seen a b w)
  unfolding routes candidates
  routes_ascending seen a b [] = by_test (eqb a b) (λ e. rw (e, routes) (λ y n. absurd (Memᴰ.not-nil n), tt)) (λ e. rw (e, routes) tt)
  routes_ascending seen a b (s ∷ w) =
      flat_ascending (λ c. routes g (c ∷ seen) c b w) _
      (ascending_filter ltb (may_follow seen a s) (range g.parties) (range_ascending g.parties))
      (λ c. routes_ascending (c ∷ seen) c b w)

  pub paths_ascending : (p : Pair) (w : List S) → Ascending lex_less (paths_of g p w)
  unfolding paths_of
  paths_ascending p w =
      cons_ascending p.first (routes g (p.first ∷ []) p.first p.second w)
      (routes_ascending (p.first ∷ []) p.first p.second w)

  pub paths_distinct : (p : Pair) (w : List S) → Distinct (paths_of g p w)
  paths_distinct p w = ascending_distinct lex_less lex_irreflexive (paths_of g p w) (paths_ascending p w)

  -- the count cut at a cap is 1 or more exactly where the pair has the word
  pub count_has : (cap : ℕ) → 1 ≤ cap → (p : Pair) (w : List S) → leb 1 (path_count g cap p w) ≡ has g p w
  unfolding path_count
  count_has cap h p w = min_one cap h (length (paths_of g p w)) ∙ paths_has p w

  -- with cap 1 the count is 1 where the pair has the word, else 0
  pub count_one : (p : Pair) (w : List S) → path_count g 1 p w ≡ only_if (has g p w) 1
  unfolding path_count
  count_one p w =
      let e : leb 1 (min 1 (length (paths_of g p w))) ≡ has g p w = unfold path_count in count_has 1 (omega arith) p w in
      by_test (has g p w)
      (λ q. let k : 1 ≤ min 1 (length (paths_of g p w)) = leb-true _ _ (e ∙ q) in rw q (omega arith))
      (λ q. let k : min 1 (length (paths_of g p w)) < 1 = leb-false _ _ (e ∙ q) in rw q (omega arith))

  -- the least path is a path, no other stands before it, and there is none exactly where the pair lacks the word
  pub least_is_walk : (p : Pair) (w : List S) {l : List ℕ} → least_path g p w ≡ some l
      → (via : List ℕ) × (l ≡ p.first ∷ via) × SimpleWalk p w via
  unfolding least_path
  least_is_walk p w e = walks_out p w (head_in (paths_of g p w) e)

  pub least_is_path : (p : Pair) (w : List S) → 1 ≤ length w → {l : List ℕ} → least_path g p w ≡ some l
      → (via : List ℕ) × (l ≡ p.first ∷ via) × Path g p w via
  unfolding least_path
  least_is_path p w h e = paths_out p w h (head_in (paths_of g p w) e)

  pub least_is_least : (p : Pair) (w : List S) {l : List ℕ} → least_path g p w ≡ some l
      → (via : List ℕ) → Path g p w via → (l ≡ p.first ∷ via) ⊎ (lex_less l (p.first ∷ via) ≡ true)
  unfolding least_path
  least_is_least p w e via r = head_least lex_less (paths_of g p w) (paths_ascending p w) e (paths_in p w via r)

  pub least_none : (p : Pair) (w : List S) → (least_path g p w ≡ none) ↔ (has g p w ≡ false)
  unfolding least_path
  least_none p w = rw (← paths_has p w) (head_none (paths_of g p w))
