-- A path read from its end is a path of the graph with its edges turned round;
-- so a search back from the second party counts the pair's paths. By induction on the walk and on the symbols.
use Rattle.std.proofs.Common.{◌≡◌, refl, sym, ap, ◌∙◌, Bool, true, false, not, ◌&&◌, ◌||◌, List, [], ◌∷◌}
use Rattle.std.proofs.Common.{◌++◌, map, reverse, ℕ, ◌-◌, ◌≤◌, ◌<◌, arith, eqb, length, take, drop, length-drop}
use Rattle.std.proofs.Common.{take-append-drop, take_at, eqb-true, eq-eqb, ne_eqb, leb-false}
use Rattle.std.proofs.lemmas.Bool.{eqb-false}
use Rattle.std.proofs.lemmas.List.{reverse-append, reverse-reverse}
use mathlib.Core.List.{reverse-cons}
use mathlib.Core.List.Memᴰ
use mathlib.Core.List.{Memᴰ}
use Rattle.std.proofs.Math.ListN.{length-reverse}
use Rattle.lists.specs.Lists.{any_of, member, range}
use Rattle.lists.specs.Order.{Distinct, only_if}
use Rattle.lists.proofs.Cases.{by_test, by_mem, by_last, and_left, and_right, and_both}
use Rattle.lists.proofs.ListLaws.{any_in, any_out, map_out, range_in, range_out}
use Rattle.lists.proofs.OrderLaws.{sum_same, sum_only, up_distinct, length_map}
use Rattle.lists.proofs.Distinct.{distinct_append, distinct_map, distinct_most}
use Rattle.rebac.specs.Matter.{Pair, IsPair, pair}
use Rattle.rebac.specs.Paths.{Graph, Walk, routes, paths_of}
use Rattle.rebac.specs.WordTest.{last_symbols, WayTo, way_length}
use Rattle.rebac.specs.promises.Backward.{may_precede, count_back, way_back, depth_back}
use Rattle.rebac.specs.promises.Marked.{PartyMarks}
use Rattle.rebac.proofs.Reach.{reach, SimpleWalk, Onward, path_walk, walk_path, routes_count, routes_reach, reach_in, reach_out}
use Rattle.rebac.proofs.Reach.{walks_in, walks_out, paths_distinct}
use Rattle.rebac.proofs.SearchLaws.{reach_seen}
use Rattle.rebac.proofs.MarkedLaws.{marks_more}
use Rattle.rebac.proofs.BackwardLaws.{depth_most, depth_way, way_depth}
use Rattle.rebac.proofs.WordTestLaws.{from_one, last_cons, length_way, way_length_lem}

module _ {A : Type 0} where
  reverse_out : (l : List A) {x : A} → Memᴰ x (reverse l) → Memᴰ x l
  reverse_out [] m = absurd (Memᴰ.not-nil m)
  reverse_out (y ∷ l) m =
      by_last (reverse l) (rw (reverse-cons y l) at m) (λ n. Memᴰ.tail (reverse_out l n)) (λ e. Memᴰ.head e)

  -- the first symbols of the list read from its end are its last ones
  take_reverse : (k : ℕ) (l : List A) → k ≤ length l → take k (reverse l) ≡ reverse (last_symbols k l)
  take_reverse k l h =
      let i : ℕ = length l - k in
      let e : reverse l ≡ reverse (drop i l) ++ reverse (take i l) =
      ap reverse (sym (take-append-drop i l)) ∙ reverse-append (take i l) (drop i l) in
      let z : length (reverse (drop i l)) ≡ k = omega (arith, length-reverse (drop i l), length-drop i l) in
      ap (take k) e ∙ take_at (reverse (drop i l)) (reverse (take i l)) k z

  reverse_distinct : (l : List A) → Distinct l → Distinct (reverse l)
  reverse_distinct [] d = tt
  reverse_distinct (x ∷ l) d =
      rw (reverse-cons x l)
      (distinct_append (reverse l) (x ∷ []) (reverse_distinct l d.1) (λ n. Memᴰ.not-nil n, tt)
      (λ y m n. by_mem n (λ e. d.0 (rw (← e) (reverse_out l m))) (λ k. Memᴰ.not-nil k)))

-- the graph with its edges turned round
abbrev pub turned : {S : Type 0} → Graph S → Graph S
turned g = record { parties = g.parties; edge = λ u v s. g.edge v u s }

module _ {S : Type 0} (g : Graph S) where
  -- one step more at the end of a walk
  walk_more : (a b c : ℕ) (via : List ℕ) (s : S) (w : List S) → Walk g a via w b → c < g.parties → g.edge b c s ≡ true
      → Walk g a (via ++ (c ∷ [])) (w ++ (s ∷ [])) c
  walk_more a b c [] s [] k h e = (h, rw k e, refl)
  walk_more a b c [] s (t ∷ w) k h e = absurd k
  walk_more a b c (d ∷ via) s [] k h e = absurd k
  walk_more a b c (d ∷ via) s (t ∷ w) k h e = (k.0, k.1, walk_more d b c via s w k.2 h e)

module _ {S : Type 0} (g : Graph S) where
  -- the walk from its end, and the parties that it then passes
  walk_turned : (a b : ℕ) (via : List ℕ) (w : List S) → a < g.parties → Walk g a via w b
      → (back : List ℕ) × (reverse (a ∷ via) ≡ b ∷ back) × Walk (turned g) b back (reverse w) a
  walk_turned a b [] [] h k = ([], ap (λ x. x ∷ []) k, sym k)
  walk_turned a b [] (s ∷ w) h k = absurd k
  walk_turned a b (c ∷ via) [] h k = absurd k
  walk_turned a b (c ∷ via) (s ∷ w) h k =
      let r = walk_turned c b via w k.0 k.2 in (
        r.0 ++ (a ∷ []),
        reverse-cons a (c ∷ via) ∙ ap (λ (l : List ℕ). l ++ (a ∷ [])) r.1,
        rw (reverse-cons s w) (walk_more (turned g) b c a r.0 s (reverse w) r.2 h k.1),
      )

  -- and it passes no party twice if the walk does not
  simple_turned : (p : Pair) (w : List S) (via : List ℕ) → p.first < g.parties → SimpleWalk g p w via
      → (back : List ℕ) × (reverse (p.first ∷ via) ≡ p.second ∷ back)
      × SimpleWalk (turned g) (pair p.second p.first) (reverse w) back
  simple_turned p w via h r =
      let k = walk_turned p.first p.second via w h r.walk in
      (k.0, k.1, record { walk = k.2; simple = rw k.1 at (reverse_distinct (p.first ∷ via) r.simple) })

  no_fewer_turned : (p : Pair) (w : List S) → p.first < g.parties
      → length (paths_of g p w) ≤ length (paths_of (turned g) (pair p.second p.first) (reverse w))
  no_fewer_turned p w h =
      let l : List (List ℕ) = paths_of g p w in
      let m : List (List ℕ) = paths_of (turned g) (pair p.second p.first) (reverse w) in
      let apart : Distinct (map reverse l) =
      distinct_map reverse l (paths_distinct g p w) (λ x y a b e. sym (reverse-reverse x) ∙ ap reverse e ∙ reverse-reverse y) in
      let among : (y : List ℕ) → Memᴰ y (map reverse l) → Memᴰ y m =
      λ y n.
      let r = map_out reverse l n in
      let k = walks_out g p w r.1 in
      let t = simple_turned p w k.0 h k.2 in
      rw (r.2 ∙ ap reverse k.1 ∙ t.1) (walks_in (turned g) (pair p.second p.first) (reverse w) t.0 t.2) in
      omega (arith, distinct_most (map reverse l) m apart among, length_map {B = List ℕ} reverse l)

module _ {S : Type 0} (g : Graph S) where
  -- as many paths of the turned pair with the word read from its end
  pub paths_turned : (p : Pair) (w : List S) → p.first < g.parties → p.second < g.parties
      → length (paths_of g p w) ≡ length (paths_of (turned g) (pair p.second p.first) (reverse w))
  paths_turned p w a b =
      let back : length (paths_of (turned g) (pair p.second p.first) (reverse w)) ≤ length (paths_of g p w) =
      rw (reverse-reverse w) at (no_fewer_turned (turned g) (pair p.second p.first) (reverse w) b) in
      omega (arith, no_fewer_turned g p w a, back)

or_swap : (a b c : Bool) → (a || (b || c)) ≡ (b || (a || c))
or_swap true true c = refl
or_swap true false c = refl
or_swap false b c = refl

only_none : (b : Bool) → only_if b 0 ≡ 0
only_none true = refl
only_none false = refl

module _ {S : Type 0} (g : Graph S) where
  -- a party that is passed already is not reached again
  routes_seen : (past : List ℕ) (a b : ℕ) (w : List S) (s : S) → Memᴰ b past → length (routes g past a b (w ++ (s ∷ []))) ≡ 0
  routes_seen past a b w s m = go w
    where
      none : (t : S) (w : List S) → length (routes g past a b (t ∷ w)) ≡ 0
      none t w =
          omega (arith, leb-false 1 (length (routes g past a b (t ∷ w))) (routes_reach g past a b (t ∷ w) ∙ reach_seen g past a b t w m))

      go : (w : List S) → length (routes g past a b (w ++ (s ∷ []))) ≡ 0
      go [] = none s []
      go (t ∷ w) = none t (w ++ (s ∷ []))

  routes_last : (past : List ℕ) (a b : ℕ) (s : S) → b < g.parties → member b past ≡ false
      → length (routes g past a b (s ∷ [])) ≡ only_if (g.edge a b s) 1
  unfolding routes range
  routes_last past a b s h f =
      routes_count g past a b s []
      ∙ sum_only (λ c. only_if (not (member c past) && g.edge a c s) (length (routes g (c ∷ past) c b []))) (range g.parties) b
      (up_distinct 0 g.parties) (range_in g.parties b h)
      (λ c d. by_test (not (member c past) && g.edge a c s) (λ e. rw (e, ne_eqb c b d, routes)) (λ e. rw e))
      ∙ rw (f, eq-eqb b b refl, routes)

module _ {S K : Type 0} (g : Graph S) (seen : ℕ → K → Bool) (mark : ℕ → K → K)
    (marks : (c d : ℕ) (v : K) → c < g.parties → d < g.parties → seen c (mark d v) ≡ (eqb c d || seen c v)) where
  marks_swap : (v : K) (past : List ℕ) (x y : ℕ)
      → PartyMarks g.parties seen v (x ∷ y ∷ past) → PartyMarks g.parties seen v (y ∷ x ∷ past)
  unfolding any_of
  marks_swap v past x y m c k = m c k ∙ or_swap (eqb c x) (eqb c y) (member c past)

  -- the parties passed are marked, and the first party a is too, though it is passed only at the end
  module _ (a : ℕ) (inside : a < g.parties) (s : S) where
    still_fresh : (past : List ℕ) (c : ℕ) → eqb c a ≡ false → member a past ≡ false → member a (c ∷ past) ≡ false
    unfolding any_of
    still_fresh past c e f = rw (ne_eqb a c (λ q. eqb-false c a e (sym q))) f

    -- it is left out as a candidate, and no way would lead on from it
    candidate_same : (v : K) (past : List ℕ) (b c j k : ℕ) (t : S) → PartyMarks g.parties seen v (a ∷ past) → c < g.parties
        → (eqb c a ≡ true → k ≡ 0) → (eqb c a ≡ false → j ≡ k)
        → only_if (may_precede g seen mark v b t c) j ≡ only_if (not (member c past) && g.edge c b t) k
    unfolding any_of
    candidate_same v past b c j k t m l none same =
        by_test (eqb c a)
        (λ e. let z : seen c v ≡ true = m c l ∙ rw e in rw (z, none e) (sym (only_none (not (member c past) && g.edge c b t))))
        (λ e. let z : seen c v ≡ member c past = m c l ∙ rw e in rw (z, same e))

    count_routes : (r : List S) (v : K) (past : List ℕ) (b : ℕ) → member a past ≡ false → PartyMarks g.parties seen v (a ∷ past)
        → count_back g seen mark (λ c. g.edge a c s) v b r ≡ length (routes (turned g) past b a (r ++ (s ∷ [])))
    unfolding count_back
    count_routes [] v past b f m = sym (routes_last (turned g) past b a s inside f)
    count_routes (t ∷ r) v past b f m =
        sum_same _ _ (range g.parties) (λ c n.
        let l = range_out g.parties n in
        candidate_same v past b c _ _ t m l
        (λ e. routes_seen (turned g) (c ∷ past) c a r s (Memᴰ.head (sym (eqb-true c a e))))
        (λ e. count_routes r (mark c v) (c ∷ past) c (still_fresh past c e f)
        (marks_swap (mark c v) past c a (marks_more g seen mark marks v (a ∷ past) c l m))))
        ∙ sym (routes_count (turned g) past b a t (r ++ (s ∷ [])))

  -- with the two parties marked, the ways back to a party that the word's first symbol leads to from the first party are the paths
  pub back_count : (p : Pair) → IsPair g.parties p → (v : K) → PartyMarks g.parties seen v (p.second ∷ p.first ∷ [])
      → (s : S) (w : List S)
      → count_back g seen mark (λ c. g.edge p.first c s) v p.second (reverse w) ≡ length (paths_of g p (s ∷ w))
  unfolding any_of paths_of
  back_count p i v m s w =
      let onward : List S → List (List ℕ) = routes (turned g) (p.second ∷ []) p.second p.first in
      let fresh : member p.first (p.second ∷ []) ≡ false = rw (ne_eqb p.first p.second i.different) in
      count_routes p.first i.first s (reverse w) v (p.second ∷ []) p.second fresh
      (marks_swap v [] p.second p.first m)
      ∙ ap (λ (r : List S). length (onward r)) (sym (reverse-cons s w))
      ∙ sym (length_map (λ (l : List ℕ). p.second ∷ l) (onward (reverse (s ∷ w))))
      ∙ sym (paths_turned g p (s ∷ w) i.first i.second)

  -- a way back wherever it starts is a search in the turned graph for some party
  way_reach : (r : List S) (v : K) (past : List ℕ) (b : ℕ) → b < g.parties → PartyMarks g.parties seen v past
      → way_back g seen mark (λ c. true) v b r ≡ true → (a : ℕ) × (a < g.parties) × (reach (turned g) past b a r ≡ true)
  unfolding way_back reach
  way_reach [] v past b h m e = (b, h, eq-eqb b b refl)
  way_reach (s ∷ r) v past b h m e =
      let x = any_out _ (range g.parties) e in
      let c : ℕ = x.0 in
      let l : c < g.parties = range_out g.parties x.1 in
      let may : (not (seen c v) && g.edge c b s) ≡ true = and_left (may_precede g seen mark v b s c) _ x.2 in
      let fresh : not (member c past) ≡ true = ap not (sym (m c l)) ∙ and_left (not (seen c v)) _ may in
      let k = way_reach r (mark c v) (c ∷ past) c l (marks_more g seen mark marks v past c l m)
      (and_right (may_precede g seen mark v b s c) _ x.2) in
      (k.0, k.1, any_in _ (range g.parties) x.1 (and_both fresh (and_both (and_right (not (seen c v)) _ may) k.2)))

  reach_way : (r : List S) (v : K) (past : List ℕ) (b a : ℕ) → PartyMarks g.parties seen v past
      → reach (turned g) past b a r ≡ true → way_back g seen mark (λ c. true) v b r ≡ true
  unfolding way_back reach
  reach_way [] v past b a m e = refl
  reach_way (s ∷ r) v past b a m e =
      let x = any_out _ (range g.parties) e in
      let c : ℕ = x.0 in
      let l : c < g.parties = range_out g.parties x.1 in
      let fresh : not (seen c v) ≡ true = ap not (m c l) ∙ and_left (not (member c past)) _ x.2 in
      let on = and_right (not (member c past)) _ x.2 in
      any_in _ (range g.parties) x.1
      (and_both (and_both fresh (and_left (g.edge c b s) _ on))
      (reach_way r (mark c v) (c ∷ past) c a (marks_more g seen mark marks v past c l m) (and_right (g.edge c b s) _ on)))

  module _ (p : Pair) (i : IsPair g.parties p) (v : K) (m : PartyMarks g.parties seen v (p.second ∷ p.first ∷ [])) where
    -- so it is a path to the second party that does not touch the first
    back_way : (w : List S) → 1 ≤ length w → way_back g seen mark (λ c. true) v p.second (reverse w) ≡ true → WayTo g p w
    back_way w h e =
        let past : List ℕ = p.second ∷ p.first ∷ [] in
        let r = way_reach (reverse w) v past p.second i.second m e in
        let a : ℕ = r.0 in
        let o = reach_out (turned g) past p.second a (reverse w) r.2 in
        let k : SimpleWalk (turned g) (pair p.second a) (reverse w) o.0 =
        record { walk = o.1.walk; simple = (λ n. o.1.unseen p.second n (Memᴰ.head refl), o.1.simple) } in
        let t = simple_turned (turned g) (pair p.second a) (reverse w) o.0 i.second k in
        let u : SimpleWalk g (pair a p.second) w t.0 = rw (reverse-reverse w) at t.2 in
        record {
          start = a;
          inside = r.1;
          via = t.0;
          path = walk_path g (pair a p.second) w t.0 h u;
          untouched = λ n. by_mem (reverse_out (p.second ∷ o.0) (rw t.1 n))
              (λ q. i.different q)
              (λ j. o.1.unseen p.first j (Memᴰ.tail (Memᴰ.head refl)));
        }

    way_back_lem : (w : List S) → WayTo g p w → way_back g seen mark (λ c. true) v p.second (reverse w) ≡ true
    way_back_lem w x =
        let past : List ℕ = p.second ∷ p.first ∷ [] in
        let q : Pair = pair x.start p.second in
        let t = simple_turned g q w x.via x.inside (path_walk g q w x.via x.path) in
        let free : Memᴰ p.first t.0 → ⊥ = λ n. x.untouched (reverse_out (x.start ∷ x.via) (rw t.1 (Memᴰ.tail n))) in
        let o : Onward (turned g) past p.second x.start (reverse w) t.0 =
        record {
          walk = t.2.walk;
          simple = t.2.simple.1;
          unseen = λ y n k. by_mem k (λ e. t.2.simple.0 (rw e at n))
              (λ j. by_mem j (λ e. free (rw e at n)) (λ z. Memᴰ.not-nil z));
        } in
        reach_way (reverse w) v past p.second x.start m (reach_in (turned g) past p.second x.start (reverse w) t.0 o)

  -- and the furthest way back is the length of the word's longest end that a path has which does not touch the first party
  pub back_length : (p : Pair) → IsPair g.parties p → (v : K) → PartyMarks g.parties seen v (p.second ∷ p.first ∷ [])
      → (s : S) (w : List S) → depth_back g seen mark v p.second (reverse w) ≡ way_length g p (s ∷ w)
  back_length p i v m s w =
      let deep : ℕ = depth_back g seen mark v p.second (reverse w) in
      let long : ℕ = way_length g p (s ∷ w) in
      let most : deep ≤ length w = omega (arith, depth_most g seen mark (reverse w) v p.second, length-reverse w) in
      let up : deep ≤ long = from_one deep long (λ h.
      let e = rw (take_reverse deep w most) at (depth_way g seen mark deep (reverse w) v p.second (omega arith)) in
      let l : length (last_symbols deep w) ≡ length w - (length w - deep) = length-drop (length w - deep) w in
      let x = back_way p i v m (last_symbols deep w) (omega arith) e in
      way_length_lem g p (s ∷ w) deep h (omega arith) (rw (last_cons deep s w most) x)) in
      let down : long ≤ deep = from_one long deep (λ h.
      let x = length_way g p (s ∷ w) h in
      let y : long ≤ length w = omega (arith, x.0) in
      let e = way_back_lem p i v m (last_symbols long w) (rw (last_cons long s w y) at x.1) in
      way_depth g seen mark long (reverse w) v p.second (omega (arith, length-reverse w)) (rw (take_reverse long w y) e)) in
      omega arith
