-- Backwards over the places: a party whose candidates each fail the place's test, or have no path onward, has no path. Assumes nothing.
use Rattle.std.proofs.Common.{◌≡◌, ◌≢◌, ℕ, ◌+◌, ◌*◌, ◌%◌, ◌^◌, ◌<◌, ◌≤◌, true, false, eqb, List, [], ◌∷◌, get_or, sym}
use Rattle.std.proofs.Common.{refl, ap, ◌∙◌, arith, ne_eqb, eq-eqb, bit_and, w32, Option, Some, None, is_some}
use Rattle.std.proofs.Math.Logic.{by_cases}
use Rattle.std.proofs.Math.Option.{none}
use Rattle.std.proofs.Math.Decide.{ℕ_discrete}
use Rattle.std.specs.Int.Count.{count_trailing_zeros}
use Rattle.std.specs.Int.{bit_not}
use Rattle.std.proofs.lemmas.Nat.{and_le_l}
use Rattle.std.proofs.lemmas.Nat.Bits.{bit_at-trailing_zeros, bit_at_clear_same, bit_at_clear_other}
use Rattle.lists.proofs.Cases.{by_test, both}
use Rattle.masks.specs.promises.Mask.{bit_at, test_bit, with_bit}
use Rattle.masks.specs.promises.Table.{no_row, mask_in}
use Rattle.masks.specs.declared.Row.{Row}
use Rattle.masks.specs.declared.Table.{Table}
use Rattle.masks.proofs.BitLaws.{test_with_same, test_with_other}
use Rattle.rebac.specs.promises.Forms.{Place}
use Rattle.rebac.specs.promises.Marked.{least_marked}
use Rattle.search.specs.promises.Search.{place_on, search_from}
use Rattle.search.specs.promises.Walk.{NoStep, FirstStep, Within, Covers}
use Rattle.search.proofs.SearchLaws.{search_passed, search_none}
use Rattle.search.proofs.SearchLaws.{through_visited, through_not, through_lost}

-- where no first candidate was found none may follow
pub never_steps : (x : Place) (row : Row) (mask n : ℕ) (r : Option ℕ) → FirstStep x row mask n r → is_some r ≡ false
    → NoStep x row mask n n
never_steps x row mask n None h e = h
never_steps x row mask n (Some c) h e = both refl e

-- one party more is passed
pub within_with : (visited more k : ℕ) → Within visited more → Within visited (with_bit more k)
within_with visited more k h c e =
    by_cases (ℕ_discrete c k) (λ q. rw q (test_with_same more k)) (λ q. test_with_other more k c q ∙ h c e)

module _ (n : ℕ) (t : Table) (target : ℕ) (xs : List Place) (visited : ℕ) where
  pub no_step : (mask u : ℕ) (x : Place) → Covers n t target xs visited mask n → NoStep x (get_or t.rows u no_row) mask n n
      → (more : ℕ) → Within visited more → search_from n t more u target (x ∷ xs) ≡ none
  no_step mask u x h s more p =
      search_none n t more u target x xs
      (λ c b. by_test (test_bit more c)
      (λ o. through_visited n t more u target x xs c o)
      (λ o. by_test (test_bit mask c)
      (λ e. through_not n t more u target x xs c (s c b b e))
      (λ e. through_lost n t more u target x xs c (h c b e more p o))))

  -- one party more, in the mask or with no path onward
  pub covers_with : (mask k : ℕ) → Covers n t target xs visited mask k → Covers n t target xs visited (with_bit mask k) (k + 1)
  covers_with mask k h v l e =
      by_cases (ℕ_discrete v k)
      (λ q. both (test_with_same mask k) (rw q at e))
      (λ q. h v (omega (arith, q)) (sym (test_with_other mask k v q) ∙ e))

  pub covers_without : (mask k : ℕ) → Covers n t target xs visited mask k
      → ((more : ℕ) → Within visited more → test_bit more k ≡ false → search_from n t (with_bit more k) k target xs ≡ none)
      → Covers n t target xs visited mask (k + 1)
  covers_without mask k h s v l e more p o =
      by_cases (ℕ_discrete v k) (λ q. rw q (s more p (rw q at o))) (λ q. h v (omega (arith, q)) e more p o)

-- with no place left only the target has a path
pub covers_end : (n : ℕ) (t : Table) (target visited : ℕ) → Covers n t target [] visited (with_bit 0 target) n
unfolding search_from least_marked
covers_end n t target visited v l e more p o =
    by_cases (ℕ_discrete v target) (λ q. both (test_with_same 0 target) (rw q at e)) (λ q. rw (ne_eqb v target q))

-- the target has none while places are left
pub target_lost : (n : ℕ) (t : Table) (target : ℕ) (x : Place) (xs : List Place) → target < n → (visited : ℕ)
    → search_from n t (with_bit visited target) target target (x ∷ xs) ≡ none
target_lost n t target x xs h visited =
    search_passed n t (with_bit visited target) target target h (test_with_same visited target) x xs

-- the candidates of the mask that are left, and those taken, none of which may follow at the place
pub record Taken (x : Place) (row : Row) (mask left : ℕ) : Type 0 where
  pub few : (c : ℕ) → c < 32 → test_bit left c ≡ true → test_bit mask c ≡ true
  pub none : (c : ℕ) → c < 32 → test_bit mask c ≡ true → test_bit left c ≡ false → place_on x (mask_in row c) ≡ false

-- the first of those left
module _ (left : ℕ) (h : left ≢ 0) (l : left < 2 ^ 32) where
  abbrev first : ℕ
  first = count_trailing_zeros 32 left

  low : (first < 32) × (bit_at left first ≡ 1) × ((i : ℕ) → i < first → bit_at left i ≡ 0)
  low = bit_at-trailing_zeros w32 left (omega arith) l

  pub first_within : first < 32
  first_within = low.0

  pub first_on : test_bit left first ≡ true
  unfolding test_bit
  first_on = eq-eqb _ 1 low.1

  pub first_least : (i : ℕ) → i < first → test_bit left i ≡ false
  unfolding test_bit
  first_least i k = rw (low.2 i k)

  abbrev rest : ℕ
  rest = bit_and left (bit_not w32 (1 * 2 ^ first % 2 ^ 32))

  rest_other : (i : ℕ) → i < 32 → (i ≡ first → ⊥) → test_bit rest i ≡ test_bit left i
  unfolding test_bit
  rest_other i k ne = ap (λ (x : ℕ). eqb x 1) (bit_at_clear_other w32 left first first_within i k ne)

  pub rest_less : rest < left
  rest_less =
      let le : rest ≤ left = and_le_l left _ in
      let ne : rest ≢ left = λ e. omega (arith, low.1, ap (λ (x : ℕ). bit_at x first) e, bit_at_clear_same w32 left first first_within) in
      omega arith

  -- the first one may not follow at the place, and is taken
  pub taken_more : (x : Place) (row : Row) (mask : ℕ) → Taken x row mask left → place_on x (mask_in row first) ≡ false
      → Taken x row mask rest
  taken_more x row mask t e = record {
    few = λ c k o.
        by_cases (ℕ_discrete c first) (λ q. rw q (t.few first first_within first_on)) (λ q. t.few c k (sym (rest_other c k q) ∙ o));
    none = λ c k m o. by_cases (ℕ_discrete c first) (λ q. rw q e) (λ q. t.none c k m (sym (rest_other c k q) ∙ o));
  }
