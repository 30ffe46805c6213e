-- The search back turn by turn: the candidates in ascending order add up, and the last two steps are counted by a mask. Assumes nothing.
use Rattle.std.proofs.Common.{◌≡◌, ℕ, zero, suc, ◌+◌, ◌-◌, ◌/◌, ◌%◌, ◌^◌, ◌<◌, ◌≤◌, min, max, Bool, true}
use Rattle.std.proofs.Common.{false, not, ◌&&◌, eqb, ltb, [], ◌∷◌, get_or, sym, refl, ap, ◌∙◌, ⊎_elim, div-one}
use Rattle.std.proofs.Common.{arith, shr-shr, ltb-true, le-ltb, lt-ltb, eq-eqb, ne_eqb, bit_and, Option, Some, None, MatchOption, IfSome}
use mathlib.Core.List.{Memᴰ}
use Rattle.std.proofs.Math.Logic.{by_cases}
use Rattle.std.proofs.Math.Decide.{dec_lt, ℕ_discrete}
use Rattle.std.specs.Int.Count.{ones, ones_step}
use Rattle.std.proofs.lemmas.Bool.{not-true}
use Rattle.std.proofs.lemmas.Option.{IfSome_then}
use Rattle.lists.specs.Lists.{range, up_from}
use Rattle.lists.specs.Order.{only_if, sum_of, greatest_of}
use Rattle.lists.proofs.Cases.{by_test, both, and_left, and_right}
use Rattle.lists.proofs.ListLaws.{range_in, range_out}
use Rattle.lists.proofs.OrderLaws.{sum_none, sum_same, greatest_least, greatest_most, greatest_same}
use Rattle.masks.specs.promises.Mask.{test_bit, with_bit}
use Rattle.masks.specs.promises.Table.{mask_in, mask_at}
use Rattle.masks.specs.declared.Row.{Row}
use Rattle.masks.specs.declared.Table.{Table}
use Rattle.masks.proofs.BitLaws.{bit_cases, some_from, test_and}
use Rattle.masks.proofs.MaskLaws.{zero_bit}
use Rattle.rebac.specs.promises.Backward.{count_back, depth_back}
use Rattle.rebac.proofs.BackwardLaws.{depth_most}
use Rattle.search.specs.promises.PairSearch.{table_graph}
use Rattle.search.specs.declared.word.Word.{Word}
use Rattle.search.proofs.LastLaws.{test_without}
use Rattle.word_test.specs.promises.Backward.{symbols_back, ways_from, depth_from, may_stand, BackAs, CandidateQuery, FoundBack, Seconds}
use Rattle.search.specs.promises.Last.{without}
use Rattle.word_test.specs.promises.Last.{some_of, LastTwo, two_ways, two_far, LastThree}
use Rattle.word_test.specs.promises.Walk.{Skipped, Look}
use Rattle.word_test.specs.declared.back.Back.{Back}
use Rattle.word_test.specs.declared.back.Position.{Position}
use Rattle.word_test.specs.declared.back.SearchBack.{SearchBack}
use Rattle.word_test.proofs.WayLaws.{back_length}
use Rattle.word_test.proofs.CountLaws.{Counted, count_start, count_past, count_on, count_full, count_end}

ones_zero : ones 0 ≡ 0
unfolding ones
ones_zero = refl

-- a mask's ones are its places, where it has none from n on
ones_from : (m k a : ℕ) → ((c : ℕ) → a + k ≤ c → test_bit m c ≡ false)
    → ones (m / 2 ^ a) ≡ sum_of (λ c. only_if (test_bit m c) 1) (up_from a k)
unfolding sum_of up_from test_bit
ones_from m zero a f =
    by_cases (ℕ_discrete (m / 2 ^ a) 0)
    (λ e. rw e ones_zero)
    (λ e. let r = some_from m a e in both (rw r.1.1) (f r.0 (omega (arith, r.1.0))))
ones_from m (suc k) a f =
    let d : m / 2 ^ suc a ≡ m / 2 ^ a / 2 = ap (λ (j : ℕ). m / 2 ^ j) (omega arith) ∙ sym (shr-shr m a 1) in
    let i : ones (m / 2 ^ a / 2) ≡ sum_of (λ c. only_if (test_bit m c) 1) (up_from (suc a) k) =
    ap ones (sym d) ∙ ones_from m k (suc a) (λ c h. f c (omega arith)) in
    let s : ones (m / 2 ^ a) ≡ m / 2 ^ a % 2 + ones (m / 2 ^ a / 2) = ones_step (m / 2 ^ a) in
    ⊎_elim (λ z. rw z (omega (arith, s, i, z))) (λ z. rw z (omega (arith, s, i, z))) (bit_cases m a)

ones_sum : (n m : ℕ) → ((c : ℕ) → n ≤ c → test_bit m c ≡ false) → ones m ≡ sum_of (λ c. only_if (test_bit m c) 1) (range n)
unfolding range
ones_sum n m f = ap ones (sym (div-one m)) ∙ ones_from m n 0 (λ c h. f c (omega arith))

some_place : (m : ℕ) → (m ≡ 0 → ⊥) → (c : ℕ) × (test_bit m c ≡ true)
unfolding test_bit
some_place m z = let r = some_from m 0 (λ e. z (sym (div-one m) ∙ e)) in (r.0, rw r.1.1)

-- the same depth, written otherwise
pub back_far : {cap ways deep far same : ℕ} {r : Back} → far ≡ same → BackAs cap ways deep far r → BackAs cap ways deep same r
back_far e f = rw e at f

pub back_cons : (w : Word) (at : ℕ) → 1 ≤ at → symbols_back w 1 at ≡ get_or w.symbols at 0 ∷ symbols_back w 1 (at - 1)
unfolding symbols_back
back_cons w zero h = absurd (omega arith)
back_cons w (suc k) h = let e : 1 + k ≡ suc k = omega arith in let z : suc k - 1 ≡ k = omega arith in rw (e, z)

-- the candidates before party u, by the symbol at place `at`: what one of them adds to the number of ways, and how far it leads
module _ (n : ℕ) (t : Table) (w : Word) (starts visited u at : ℕ) where
  abbrev pub ways_by : ℕ → ℕ
  ways_by c = only_if (may_stand t w visited u at c) (ways_from n t starts (with_bit visited c) c (symbols_back w 1 (at - 1)))

  abbrev pub far_by : ℕ → ℕ
  far_by c = only_if (may_stand t w visited u at c) (suc (depth_from n t (with_bit visited c) c (symbols_back w 1 (at - 1))))

  ways_sum : 1 ≤ at → ways_from n t starts visited u (symbols_back w 1 at) ≡ sum_of ways_by (range n)
  unfolding count_back
  ways_sum h = rw (back_cons w at h)

  far_greatest : 1 ≤ at → depth_from n t visited u (symbols_back w 1 at) ≡ greatest_of far_by (range n)
  unfolding depth_back
  far_greatest h = rw (back_cons w at h)

  -- all of them together
  pub all_candidates : 1 ≤ at → (passed : ℕ) {cap deep : ℕ} {r : Back}
      → BackAs cap (sum_of ways_by (range n)) deep (passed + greatest_of far_by (range n)) r
      → BackAs cap (ways_from n t starts visited u (symbols_back w 1 at)) deep (passed + depth_from n t visited u (symbols_back w 1 at)) r
  all_candidates h passed f = rw (ways_sum h, far_greatest h) f

  -- none of them
  pub no_candidate : 1 ≤ at → (mask : ℕ) → ((c : ℕ) → test_bit mask c ≡ (ltb c n && may_stand t w visited u at c)) → mask ≡ 0
      → (passed : ℕ) {cap deep : ℕ} {r : Back} → r.count ≡ 0 → r.depth ≡ max deep passed
      → BackAs cap (ways_from n t starts visited u (symbols_back w 1 at)) deep (passed + depth_from n t visited u (symbols_back w 1 at)) r
  no_candidate h mask f e passed k d =
      let barred : (c : ℕ) → c < n → may_stand t w visited u at c ≡ false =
      λ c b. sym (f c ∙ rw (lt-ltb c n b)) ∙ ap (λ (m : ℕ). test_bit m c) e ∙ zero_bit c in
      let none = sum_none ways_by (range n) (λ c m. rw (barred c (range_out n m))) in
      let near = greatest_most far_by (range n) 0 (λ c m. rw (barred c (range_out n m)) (omega arith)) in
      all_candidates h passed (record {
        count = omega (arith, k, none);
        depth = λ z. omega (arith, d, near);
        known = omega (arith, d);
        most = omega (arith, d);
      })

-- a greater depth skips no fewer
pub look_deeper : {w : Word} (at n : ℕ) (t : Table) (visited starts : ℕ) {deep more : ℕ} → deep ≤ more → (mask : ℕ)
    → Look n t w at visited starts deep mask → Look n t w at visited starts more mask
look_deeper at n t visited starts l mask h v b e o =
    let r = h v b e o in record { lost = r.lost; near = omega (arith, r.near, l) }

-- where the loop over the candidates stands: those before v are counted, and once walks were looked at, one that `onward` lacks
-- may be skipped
pub record Turn (s : SearchBack) (p : Position) (onward : Option ℕ) (count depth v : ℕ) : Type 0 where
  pub skips : IfSome onward (Look s.graph.parties s.graph.table s.word.word p.at p.visited s.starts depth)
  pub sums : Counted (ways_by s.graph.parties s.graph.table s.word.word s.starts p.visited p.u p.at)
      (far_by s.graph.parties s.graph.table s.word.word s.starts p.visited p.u p.at)
      p.cap p.deep (s.word.word.len - (p.at + 1)) count depth v

module _ {s : SearchBack} {p : Position} (q : CandidateQuery s p) where
  abbrev n : ℕ
  n = s.graph.parties

  abbrev t : Table
  t = s.graph.table

  abbrev w : Word
  w = s.word.word

  -- the candidates of the position, and what was found of them all
  abbrev standing : ℕ → Bool
  standing = may_stand t w p.visited p.u p.at

  abbrev ways : ℕ → ℕ
  ways = ways_by n t w s.starts p.visited p.u p.at

  abbrev far : ℕ → ℕ
  far = far_by n t w s.starts p.visited p.u p.at

  abbrev Found : Back → Type 0
  Found = FoundBack s p.cap p.at p.u p.visited p.deep

  found_all : {r : Back} → BackAs p.cap (sum_of ways (range n)) p.deep (w.len - (p.at + 1) + greatest_of far (range n)) r → Found r
  found_all = all_candidates n t w s.starts p.visited p.u p.at (omega (arith, q.three)) (w.len - (p.at + 1))

  -- before the first candidate
  pub turn_start : {depth : ℕ} → depth ≡ max p.deep (w.len - (p.at + 1)) → Turn s p None 0 depth 0
  turn_start e = record { skips = tt; sums = count_start _ _ q.some e }

  module _ {onward : Option ℕ} {count depth v : ℕ} (h : Turn s p onward count depth v) (l : v < n) where
    -- a candidate that the mask lacks
    pub turn_barred : test_bit p.mask v ≡ false → Turn s p onward count depth (v + 1)
    turn_barred e =
        let z : standing v ≡ false = sym (q.candidates v ∙ rw (lt-ltb v n l)) ∙ e in
        record {
          skips = h.skips;
          sums = count_past h.sums (rw z) (rw z (omega (arith, h.sums.start)));
        }

    stands : test_bit p.mask v ≡ true → standing v ≡ true
    stands e = sym (q.candidates v ∙ rw (lt-ltb v n l)) ∙ e

    -- one that is not visited
    unvisited : test_bit p.mask v ≡ true → test_bit p.visited v ≡ false
    unvisited e = not-true (test_bit p.visited v) (and_left (not (test_bit p.visited v)) _ (stands e))

    -- one that may be skipped
    pub turn_skip : {b : Bool} → test_bit p.mask v ≡ true → MatchOption onward (b ≡ false) (λ mask. b ≡ not (test_bit mask v)) → b ≡ true
        → Turn s p onward count depth (v + 1)
    turn_skip {b} e f y =
        let r = skipped onward h.skips f in
        record {
          skips = h.skips;
          sums = count_past h.sums (rw (stands e) r.lost) (rw (stands e) (omega (arith, r.near, q.place)));
        }
      where
        skipped : (o : Option ℕ) → IfSome o (Look n t w p.at p.visited s.starts depth)
            → MatchOption o (b ≡ false) (λ mask. b ≡ not (test_bit mask v)) → Skipped n t w p.at p.visited s.starts depth v
        skipped None g z = both y z
        skipped (Some mask) g z = g v l (not-true (test_bit mask v) (sym z ∙ y)) (unvisited e)

    -- one that was tried
    module _ (e : test_bit p.mask v ≡ true) {r : Back}
        (f : FoundBack s (p.cap - count) (p.at - 1) v (with_bit p.visited v) depth r) where
      tried : BackAs (p.cap - count) (ways v) depth (w.len - (p.at + 1) + far v) r
      tried = rw (stands e) (back_far (omega (arith, q.three, q.place)) f)

      pub tried_on : count + r.count < p.cap → (more : Option ℕ) → IfSome more (Look n t w p.at p.visited s.starts r.depth)
          → Turn s p more (count + r.count) r.depth (v + 1)
      tried_on z more k = record { skips = k; sums = count_on h.sums tried z }

      pub tried_skips : IfSome onward (Look n t w p.at p.visited s.starts r.depth)
      tried_skips = IfSome_then onward h.skips (look_deeper p.at n t p.visited s.starts f.known)

      pub tried_full : p.cap ≤ count + r.count → (entered : ℕ)
          → Found (record { count = count + r.count; depth = depth; tried = entered })
      tried_full z entered = found_all (count_full h.sums tried l q.some z entered)

  -- after the last candidate
  pub turn_end : {onward : Option ℕ} {count depth v : ℕ} → Turn s p onward count depth v → v ≡ n → (entered : ℕ)
      → Found (record { count = count; depth = depth; tried = entered })
  turn_end h l entered = found_all (count_end h.sums l entered)

-- a mask of the parties from which the last two steps lead: those not passed to which the first symbol leads among the starts, and where a
-- greater length is sought all of them
pub record Leaf (n : ℕ) (t : Table) (w : Word) (starts more v deep mask : ℕ) : Type 0 where
  pub starting : (c : ℕ) → (test_bit mask c && test_bit starts c) ≡ (ltb c n && (may_stand t w more v 1 c && test_bit starts c))
  pub all : deep + 1 < w.len → (c : ℕ) → test_bit mask c ≡ (ltb c n && may_stand t w more v 1 c)

some_one : (m : ℕ) → some_of m ≤ 1
some_one m = by_test (not (eqb m 0)) (λ e. rw e (omega arith)) (λ e. rw e (omega arith))

-- the last two steps are counted by the mask
module _ {n : ℕ} {t : Table} {w : Word} {starts more v deep mask : ℕ}
    (h : Leaf n t w starts more v deep mask) where
  abbrev leaf : ℕ → Bool
  leaf c = may_stand t w more v 1 c

  leaf_ways : ones (bit_and mask starts) ≡ ways_from n t starts more v (symbols_back w 1 1)
  unfolding count_back symbols_back
  leaf_ways =
      let bit : (c : ℕ) → test_bit (bit_and mask starts) c ≡ (ltb c n && (leaf c && test_bit starts c)) =
      λ c. test_and mask starts c ∙ h.starting c in
      ones_sum n (bit_and mask starts) (λ c l. bit c ∙ rw (le-ltb c n l))
      ∙ sum_same _ _ (range n) (λ c m. rw (bit c, lt-ltb c n (range_out n m)) (by_test (leaf c) (λ e. rw e) (λ e. rw e)))

  far_one : depth_from n t more v (symbols_back w 1 1) ≤ 1
  far_one = omega (
    arith,
    depth_most (table_graph n t) (λ c x. test_bit x c) (λ c x. with_bit x c)
        (symbols_back w 1 1) more v,
    back_length w 1 1,
  )

  leaf_far : deep + 1 < w.len → some_of mask ≡ depth_from n t more v (symbols_back w 1 1)
  unfolding depth_back symbols_back
  leaf_far l =
      by_cases (ℕ_discrete mask 0)
      (λ e.
      let none : (c : ℕ) → c < n → leaf c ≡ false =
      λ c b. by_test (leaf c) (λ q. both (h.all l c ∙ rw (lt-ltb c n b, q)) (ap (λ (m : ℕ). test_bit m c) e ∙ zero_bit c)) (λ q. q) in
      let k : depth_from n t more v (symbols_back w 1 1) ≤ 0 =
      greatest_most _ (range n) 0 (λ c m. rw (none c (range_out n m)) (omega arith)) in
      rw (eq-eqb mask 0 e) (omega (arith, k)))
      (λ e.
      let x = some_place mask e in
      let c : ℕ = x.0 in
      let k = sym (h.all l c) ∙ x.1 in
      let b : c < n = ltb-true c n (and_left (ltb c n) _ k) in
      let on : leaf c ≡ true = and_right (ltb c n) _ k in
      let g : only_if (leaf c) 1 ≤ depth_from n t more v (symbols_back w 1 1) =
      greatest_least (λ c. only_if (leaf c) (suc (depth_from n t (with_bit more c) c []))) (range n) (range_in n c b) in
      let i : 1 ≤ depth_from n t more v (symbols_back w 1 1) = rw on at g in
      rw (ne_eqb mask 0 e) (omega (arith, far_one, i)))

  -- a search that has two steps left
  pub two_back : 2 ≤ w.len → {cap : ℕ} {r : Back} → LastTwo mask starts cap w.len deep r
      → BackAs cap (ways_from n t starts more v (symbols_back w 1 1)) deep (w.len - 2 + depth_from n t more v (symbols_back w 1 1)) r
  two_back l {cap} f = record {
    count = f.count ∙ ap (min cap) leaf_ways;
    depth = λ z. by_cases (dec_lt (deep + 1) w.len)
        (λ k. f.depth z ∙ ap (λ (x : ℕ). max deep (w.len - 2 + x)) (leaf_far k))
        (λ k. omega (arith, f.depth z, some_one mask, far_one, l));
    known = f.known;
    most = by_cases (dec_lt (deep + 1) w.len)
        (λ k. rw (← leaf_far k) f.most)
        (λ k. omega (arith, f.most, some_one mask, l));
  }

-- a candidate of the last three steps, beyond which the last two were counted
pub three_tried : (mask : ℕ) (row : Row) (visited starts v : ℕ) {cap len deep more : ℕ} {r : Back} → 3 ≤ len → test_bit mask v ≡ true
    → more ≡ with_bit visited v → LastTwo (without (mask_in row v) more) starts cap len deep r
    → BackAs cap (two_ways mask row visited starts v) deep (len - 3 + two_far mask row visited starts v) r
three_tried mask row visited starts v l e m f = rw (e, ← m) (back_far (omega (arith, l)) f)

-- the mask of a candidate's last two steps, out of those gathered for every party
without_starts : (m o s l e : Bool) → (m && s) ≡ (l && (e && s)) → ((m && not o) && s) ≡ (l && ((not o && e) && s))
without_starts true true s true e h = refl
without_starts true true s false e h = refl
without_starts false true s true e h = refl
without_starts false true s false e h = refl
without_starts true false s l e h = h
without_starts false false s l e h = h

without_all : (m o l e : Bool) → m ≡ (l && e) → (m && not o) ≡ (l && (not o && e))
without_all true true true e h = refl
without_all true true false e h = refl
without_all false true true e h = refl
without_all false true false e h = refl
without_all true false l e h = h
without_all false false l e h = h

module _ {n : ℕ} {t : Table} {w : Word} {starts deep : ℕ} {row : Row} (h : Seconds n t w starts deep row) where
  seconds_leaf : (more v : ℕ) → v < n → Leaf n t w starts more v deep (without (mask_in row v) more)
  seconds_leaf more v b = record {
    starting = λ c. ap (λ (x : Bool). x && test_bit starts c) (test_without (mask_in row v) more c)
        ∙ without_starts (test_bit (mask_in row v) c) (test_bit more c) (test_bit starts c) (ltb c n)
        (test_bit (mask_at t c v) (get_or w.symbols 1 0)) (h.starting v c b);
    all = λ k c. test_without (mask_in row v) more c
        ∙ without_all (test_bit (mask_in row v) c) (test_bit more c) (ltb c n) (test_bit (mask_at t c v) (get_or w.symbols 1 0))
        (h.all k v c b);
  }

  -- a greater depth is known: nothing more is asked of what was gathered
  pub seconds_deeper : {depth : ℕ} → deep ≤ depth → Seconds n t w starts depth row
  seconds_deeper l = record { starting = h.starting; all = λ k. h.all (omega arith) }

  -- a search that has three steps left, with its candidates as a mask
  module _ (mask visited u : ℕ) (f : (c : ℕ) → test_bit mask c ≡ (ltb c n && may_stand t w visited u 2 c)) where
    stand : (c : ℕ) → c < n → test_bit mask c ≡ may_stand t w visited u 2 c
    stand c l = f c ∙ rw (lt-ltb c n l)

    three_ways : (c : ℕ) → c < n → two_ways mask row visited starts c ≡ ways_by n t w starts visited u 2 c
    three_ways c l = rw (stand c l, leaf_ways (seconds_leaf (with_bit visited c) c l))

    three_far : deep + 1 < w.len → (c : ℕ) → c < n → two_far mask row visited starts c ≡ far_by n t w starts visited u 2 c
    three_far k c l = rw (stand c l, leaf_far (seconds_leaf (with_bit visited c) c l) k)

    pub three_back : 3 ≤ w.len → {cap : ℕ} {r : Back} → LastThree mask row visited starts cap n w.len deep r
        → BackAs cap (ways_from n t starts visited u (symbols_back w 1 2)) deep
        (w.len - 3 + depth_from n t visited u (symbols_back w 1 2)) r
    three_back l {cap} g =
        all_candidates n t w starts visited u 2 (omega arith) (w.len - 3) (record {
          count = g.count ∙ ap (min cap) (sum_same _ _ (range n) (λ c m. three_ways c (range_out n m)));
          depth = λ z. by_cases (dec_lt (deep + 1) w.len)
              (λ k. g.depth z ∙ ap (λ (x : ℕ). max deep (w.len - 3 + x)) (greatest_same _ _ (range n) (λ c m. three_far k c
              (range_out n m))))
              (λ k. omega (
                arith,
                g.depth z,
                l,
                greatest_most (two_far mask row visited starts) (range n) 2 most,
                greatest_most (far_by n t w starts visited u 2) (range n) 2 most_by,
              ));
          known = g.known;
          most = by_cases (dec_lt (deep + 1) w.len)
              (λ k. rw (← greatest_same _ _ (range n) (λ c m. three_far k c (range_out n m))) g.most)
              (λ k. omega (arith, g.most, l, greatest_most (two_far mask row visited starts) (range n) 2 most));
        })
      where
        most : (c : ℕ) → Memᴰ c (range n) → two_far mask row visited starts c ≤ 2
        most c m =
            by_test (test_bit mask c)
            (λ e. rw e (omega (arith, some_one (without (mask_in row c) (with_bit visited c)))))
            (λ e. rw e (omega arith))

        most_by : (c : ℕ) → Memᴰ c (range n) → far_by n t w starts visited u 2 c ≤ 2
        most_by c m =
            by_test (may_stand t w visited u 2 c)
            (λ e. rw e (omega (arith, far_one (seconds_leaf (with_bit visited c) c (range_out n m)))))
            (λ e. rw e (omega arith))

-- the same at place 2
pub three_at : (s : SearchBack) (u visited : ℕ) {at deep : ℕ}
    → Seconds s.graph.parties s.graph.table s.word.word s.starts deep s.seconds → at < s.word.word.len → at ≡ 2 → (mask : ℕ)
    → ((c : ℕ) → test_bit mask c ≡ (ltb c s.graph.parties && may_stand s.graph.table s.word.word visited u at c))
    → {cap : ℕ} {r : Back} → LastThree mask s.seconds visited s.starts cap s.graph.parties s.word.word.len deep r
    → FoundBack s cap at u visited deep r
three_at s u visited h l e mask f g = rw e (three_back h mask visited u (λ c. f c ∙ rw e) (omega (arith, e, l)) g)
