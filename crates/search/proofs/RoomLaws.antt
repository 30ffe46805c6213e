-- A path has another party at each place: where fewer parties are left than places it has none. By induction over the places, since each
-- step takes one of the parties left. Assumes nothing.
use Rattle.std.proofs.Common.{◌≡◌, ℕ, zero, suc, ◌+◌, ◌-◌, ◌/◌, ◌%◌, ◌^◌, ◌<◌, ◌≤◌, Bool, true, false, not, ◌&&◌, List, [], ◌∷◌}
use Rattle.std.proofs.Common.{length, drop, sym, refl, ap, ◌∙◌, div-one, arith, length-drop, shr-shr, eqb-true, bit_or}
use Rattle.std.proofs.Math.Logic.{by_cases}
use Rattle.std.proofs.Math.Option.{none}
use Rattle.std.proofs.Math.Decide.{ℕ_discrete}
use Rattle.std.specs.Int.Count.{ones, ones_step}
use Rattle.lists.specs.Lists.{filter_by, range, up_from}
use Rattle.lists.proofs.Cases.{by_test, both, and_false, and_both, and_left, and_right}
use Rattle.lists.proofs.ListLaws.{range_in}
use Rattle.lists.proofs.Pointwise.{filter_fewer, filter_strictly}
use Rattle.masks.specs.promises.Mask.{test_bit, with_bit}
use Rattle.masks.specs.declared.Table.{Table}
use Rattle.masks.proofs.BitLaws.{test_with_same, test_with_other, test_or_left, test_or_right}
use Rattle.rebac.specs.promises.Forms.{Place}
use Rattle.search.specs.Word.{symbols_in}
use Rattle.search.specs.promises.WordValues.{Short}
use Rattle.search.specs.promises.Search.{places_from, search_from}
use Rattle.search.specs.promises.Walk.{Within, Covers}
use Rattle.search.specs.declared.word.Word.{Word}
use Rattle.search.proofs.SearchLaws.{search_none, through_visited, through_lost, symbols_length, short_fits}
use Rattle.search.proofs.PairSearchLaws.{form_length}
use Rattle.search.proofs.WalkLaws.{within_with}

-- a mask joined with another has the places of both
pub within_or : (a b : ℕ) → Within a (bit_or a b) × Within b (bit_or a b)
within_or a b = (test_or_left a b, test_or_right a b)

-- the parties of the mask that are not passed
free : ℕ → ℕ → ℕ → Bool
free all more c = test_bit all c && not (test_bit more c)

pub count : ℕ → ℕ → ℕ → ℕ
count n all more = length (filter_by (free all more) (range n))

-- they are no more than the mask's ones
marked_ones : (mask k a : ℕ) → length (filter_by (test_bit mask) (up_from a k)) ≤ ones (mask / 2 ^ a)
unfolding filter_by up_from test_bit
marked_ones mask zero a = omega arith
marked_ones mask (suc k) a =
    let ih : length (filter_by (test_bit mask) (up_from (suc a) k)) ≤ ones (mask / 2 ^ suc a) = marked_ones mask k (suc a) in
    let d : mask / 2 ^ suc a ≡ mask / 2 ^ a / 2 = ap (λ (j : ℕ). mask / 2 ^ j) (omega arith) ∙ sym (shr-shr mask a 1) in
    let s : ones (mask / 2 ^ a) ≡ mask / 2 ^ a % 2 + ones (mask / 2 ^ a / 2) = ones_step (mask / 2 ^ a) in
    let i : length (filter_by (test_bit mask) (up_from (suc a) k)) ≤ ones (mask / 2 ^ a / 2) = rw d at ih in
    by_test (test_bit mask a)
    (λ e. rw (e, filter_by) (omega (arith, eqb-true (mask / 2 ^ a % 2) 1 e)))
    (λ e. rw (e, filter_by) (omega arith))

pub count_ones : (n all more : ℕ) → count n all more ≤ ones all
unfolding count free range
count_ones n all more =
    let m : length (filter_by (test_bit all) (up_from 0 n)) ≤ ones (all / 2 ^ 0) = marked_ones all n 0 in
    let o : ones (all / 2 ^ 0) ≡ ones all = ap ones (div-one all) in
    omega (arith, filter_fewer (free all more) (test_bit all) (up_from 0 n) (λ x k e. and_left (test_bit all x) _ e))

-- one place more: a party there is one of the mask, and is passed
pub fewer : (n all more union v : ℕ) → Within all union → v < n → test_bit union v ≡ true → test_bit more v ≡ false
    → count n all (with_bit more v) < count n union more
unfolding count free
fewer n all more union v a h e o =
    filter_strictly (free all (with_bit more v)) (free union more) (range n)
    (λ c m f. and_both (a c (and_left (test_bit all c) _ f)) (ap not (unpassed c (and_right (test_bit all c) _ f))))
    (range_in n v h) (rw (test_with_same more v) (and_false (test_bit all v) refl)) (and_both e (ap not o))
  where
    unpassed : (c : ℕ) → not (test_bit (with_bit more v) c) ≡ true → test_bit more c ≡ false
    unpassed c f =
        by_test (test_bit more c)
        (λ g. by_cases (ℕ_discrete c v)
        (λ q. both g (rw q o))
        (λ q. both f (ap not (test_with_other more v c q ∙ g))))
        (λ g. g)

-- where the mask has fewer parties that are not passed than there are places there is no path
abbrev pub Crowded : ℕ → Table → ℕ → List Place → ℕ → ℕ → Type 0
Crowded n t target xs visited all =
    (v : ℕ) → v < n → (more : ℕ) → Within visited more → test_bit more v ≡ false → count n all more < length xs
    → search_from n t (with_bit more v) v target xs ≡ none

module _ (n : ℕ) (t : Table) (target visited : ℕ) where
  pub crowded_end : (all : ℕ) → Crowded n t target [] visited all
  crowded_end all v h more p o k = absurd (omega arith)

  pub crowded_step : (x : Place) (xs : List Place) (mask all union : ℕ) → Within all union → Within mask union
      → Covers n t target (x ∷ xs) visited mask n → Crowded n t target xs visited all → Crowded n t target (x ∷ xs) visited union
  crowded_step x xs mask all union a m cover crowded v h more p o k =
      by_test (test_bit mask v)
      (λ e. search_none n t (with_bit more v) v target x xs
      (λ c b. by_test (test_bit (with_bit more v) c)
      (λ q. through_visited n t (with_bit more v) v target x xs c q)
      (λ q. through_lost n t (with_bit more v) v target x xs c
      (crowded c b (with_bit more v) (within_with visited more v p) q (omega (arith, k, fewer n all more union v a h (m v e) o))))))
      (λ e. cover v h e more p o)

  pub crowded_none : (xs : List Place) (all : ℕ) → ones all < length xs → Crowded n t target xs visited all
      → Covers n t target xs visited 0 n
  crowded_none xs all l crowded v h e more p o = crowded v h more p o (omega (arith, count_ones n all more))

-- where the walk backwards stands: no party outside the mask has a path from here, nor any where those of the masks so far are too few
pub record Walked (w : Word) (fixed from n target visited : ℕ) (t : Table) (mask all at : ℕ) : Type 0 where
  pub after : from ≤ at
  pub covers : Covers n t target (places_from w fixed at) visited mask n
  pub crowded : Crowded n t target (places_from w fixed at) visited all

-- back at the first place: fewer ones than places
pub walked_short : {w : Word} {fixed from n target visited : ℕ} {t : Table} {mask all at : ℕ}
    → Walked w fixed from n target visited t mask all at → Short w → at ≡ from → ones all < w.len - from
    → Covers n t target (places_from w fixed from) visited 0 n
walked_short {w} {fixed} {from} {n} {target} {visited} {t} {mask} {all} {at} h s e l =
    let k : length (places_from w fixed from) ≡ w.len - from =
    form_length (fixed - from) (drop from (symbols_in w)) ∙ length-drop from (symbols_in w)
    ∙ ap (λ (x : ℕ). x - from) (symbols_length w (short_fits s)) in
    crowded_none n t target visited (places_from w fixed from) all (omega (arith, k, l)) (rw e at h.crowded)
