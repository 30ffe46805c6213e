-- The length that the word test returns is 02's: by induction on the word, and a path without its first step is a path.
use Rattle.std.proofs.Common.{◌≡◌, refl, ap, ◌∙◌, ◌↔◌, true, false, List, [], ◌∷◌, ℕ, zero, suc, ◌+◌, ◌-◌}
use Rattle.std.proofs.Common.{◌≤◌, ◌<◌, arith, eqb, length, drop, length-drop, drop-drop, eqb-true}
use Rattle.std.proofs.lemmas.Bool.{eqb-false, not-true}
use mathlib.Core.List.{Memᴰ}
use Rattle.lists.specs.Lists.{member, range}
use Rattle.lists.proofs.Cases.{by_test, both}
use Rattle.lists.proofs.ListLaws.{any_in, any_out, member_in, member_not, range_in, range_out}
use Rattle.rebac.specs.Matter.{Pair, pair}
use Rattle.rebac.specs.Paths.{Graph, Path, HasPath, has, paths_of}
use Rattle.rebac.specs.WordTest.{last_symbols, WayTo, LengthIs, has_way, way_length, test_length}
use Rattle.rebac.proofs.Reach.{paths_in, paths_out, has_iff}

-- to compare a number that may be 0
pub from_one : (k m : ℕ) → (1 ≤ k → k ≤ m) → k ≤ m
from_one zero m f = omega arith
from_one (suc k) m f = f (omega arith)

module _ {S : Type 0} where
  -- one symbol in front changes no end of the word
  pub last_cons : (k : ℕ) (s : S) (w : List S) → k ≤ length w → last_symbols k (s ∷ w) ≡ last_symbols k w
  last_cons k s w h = let e : suc (length w) - k ≡ suc (length w - k) = omega arith in rw e

  last_all : (w : List S) → last_symbols (length w) w ≡ w
  last_all w = let e : length w - length w ≡ 0 = omega arith in rw e

module _ {S : Type 0} (g : Graph S) (p : Pair) where
  -- some path is listed that does not touch the first party exactly where there is one (for a word of one symbol or more)
  pub way_iff : (w : List S) → 1 ≤ length w → (has_way g p w ≡ true) ↔ WayTo g p w
  unfolding has_way
  way_iff w h = (out, into)
    where
      out : has_way g p w ≡ true → WayTo g p w
      out e =
          let r = any_out _ (range g.parties) e in
          let t = any_out _ (paths_of g (pair r.0 p.second) w) r.2 in
          let k = paths_out g (pair r.0 p.second) w h t.1 in
          let free : member p.first t.0 ≡ false = not-true (member p.first t.0) t.2 in
          record {
            start = r.0;
            inside = range_out g.parties r.1;
            via = k.0;
            path = k.2;
            untouched = λ m. both (member_in p.first t.0 (rw k.1 m)) free;
          }

      into : WayTo g p w → has_way g p w ≡ true
      into x =
          any_in _ (range g.parties) (range_in g.parties x.start x.inside)
          (any_in _ (paths_of g (pair x.start p.second) w) (paths_in g (pair x.start p.second) w x.via x.path)
          (rw (member_not p.first (x.start ∷ x.via) x.untouched) refl))

  -- a way without its first step
  way_tail : (s : S) (w : List S) → 1 ≤ length w → WayTo g p (s ∷ w) → WayTo g p w
  way_tail s w h x = go x.via x.path x.untouched
    where
      go : (via : List ℕ) → Path g (pair x.start p.second) (s ∷ w) via → (Memᴰ p.first (x.start ∷ via) → ⊥) → WayTo g p w
      go [] r u = absurd r.walk
      go (c ∷ via) r u =
          record {
            start = c;
            inside = r.walk.0;
            via = via;
            path = record { some = h; walk = r.walk.2; simple = r.simple.1 };
            untouched = λ m. u (Memᴰ.tail m);
          }

  way_drop : (i : ℕ) (w : List S) → 1 ≤ length (drop i w) → WayTo g p w → WayTo g p (drop i w)
  way_drop zero w h x = x
  way_drop (suc i) [] h x = x
  way_drop (suc i) (s ∷ w) h x = way_drop i w h (way_tail s w (omega (arith, h, length-drop i w)) x)

  -- a path's tail is a path: the lengths are closed downwards
  pub way_shorter : (w : List S) (j k : ℕ) → 1 ≤ j → j ≤ k → k ≤ length w → WayTo g p (last_symbols k w) → WayTo g p (last_symbols j w)
  way_shorter w j k a b c x =
      let z : (length w - k) + (k - j) ≡ length w - j = omega arith in
      let e : drop (k - j) (last_symbols k w) ≡ last_symbols j w = drop-drop (k - j) (length w - k) w ∙ ap (λ (i : ℕ). drop i w) z in
      let l : length (last_symbols j w) ≡ length w - (length w - j) = length-drop (length w - j) w in
      rw e at (way_drop (k - j) (last_symbols k w) (rw e (omega arith)) x)

  -- the longest end short of the word that has a way: it is an end with a way, and no longer one has
  pub length_way : (w : List S) → 1 ≤ way_length g p w → (way_length g p w < length w) × WayTo g p (last_symbols (way_length g p w) w)
  unfolding way_length
  length_way [] h = absurd (omega arith)
  length_way (s ∷ w) h =
      by_test (has_way g p w)
      (λ e. rw e (omega arith, rw (last_cons (length w) s w (omega arith), last_all w) ((way_iff w (rw e at h)).0 e)))
      (λ e. let r = length_way w (rw e at h) in
      rw e (omega (arith, r.0), rw (last_cons (way_length g p w) s w (omega (arith, r.0))) r.1))

  pub way_length_lem : (w : List S) (j : ℕ) → 1 ≤ j → j < length w → WayTo g p (last_symbols j w) → j ≤ way_length g p w
  unfolding way_length
  way_length_lem [] j a b x = absurd (omega arith)
  way_length_lem (s ∷ w) j a b x =
      let y : WayTo g p (last_symbols j w) = rw (last_cons j s w (omega arith)) at x in
      by_test (has_way g p w)
      (λ e. rw e (omega arith))
      (λ e. by_test (eqb j (length w))
      (λ q. both ((way_iff w (omega (arith, eqb-true j (length w) q))).1 (rw (eqb-true j (length w) q, last_all w) at y)) e)
      (λ q. let n : j ≡ length w → ⊥ = eqb-false j (length w) q in rw e (way_length_lem w j a (omega (arith, n)) y)))

  -- the function gives 02's length, and no other number is it
  pub length_iff : (p.first ≡ p.second → ⊥) → (w : List S) (k : ℕ) → LengthIs g p w k ↔ (k ≡ test_length g p w)
  unfolding test_length
  length_iff d w k = (same, of)
    where
      same : LengthIs g p w k → k ≡ test_length g p w
      same r =
          by_test (has g p w)
          (λ e. rw e (r.yes ((has_iff g p d w).0 e)))
          (λ e.
          let lacks : HasPath g p w → ⊥ = λ x. both ((has_iff g p d w).1 x) e in
          let up : k ≤ way_length g p w = from_one k (way_length g p w) (λ h. let x = r.no lacks h in way_length_lem w k h x.0 x.1) in
          let down : way_length g p w ≤ k =
          from_one (way_length g p w) k (λ h. let x = length_way w h in r.greatest lacks (way_length g p w) h x.0 x.1) in
          rw e (omega arith))

      of : k ≡ test_length g p w → LengthIs g p w k
      of q =
          by_test (has g p w)
          (λ e.
          let had : HasPath g p w = (has_iff g p d w).0 e in
          record { yes = λ x. q ∙ rw e; no = λ l. absurd (l had); greatest = λ l. absurd (l had) })
          (λ e.
          let z : k ≡ way_length g p w = q ∙ rw e in
          record {
            yes = λ x. both ((has_iff g p d w).1 x) e;
            no = λ l h. rw z (length_way w (rw z at h));
            greatest = λ l j a b x. rw z (way_length_lem w j a b x);
          })
