-- The letters that follow each other are gathered pair by pair: each pair adds, to the letters of its mask, those that lead on from it.
-- Assumes nothing.
use Rattle.std.proofs.Common.{◌≡◌, ◌∙◌, false, ℕ, ◌+◌, ◌/◌, ◌%◌, ◌<◌, arith, bit_or, set, length-set, get_or-set_same, get_or-set_other}
use Rattle.std.proofs.Math.Logic.{by_cases}
use Rattle.std.proofs.Math.Decide.{ℕ_discrete}
use Rattle.lists.proofs.Cases.{both}
use Rattle.limits.specs.Limits.{most_parties, symbol_count}
use Rattle.masks.specs.promises.Mask.{test_bit}
use Rattle.masks.specs.promises.Table.{mask_in, mask_at}
use Rattle.masks.specs.declared.Row.{Row}
use Rattle.masks.specs.declared.Table.{Table}
use Rattle.masks.proofs.BitLaws.{test_or_left, test_or_right}
use Rattle.masks.proofs.MaskLaws.{zero_bit}
use Rattle.letters.specs.promises.Following.{LeadsPast, AfterAdded, FollowsBelow}

-- one party more: it is x, or the letters to it are added
module _ (g : Table) (x y z letters : ℕ) (h : LeadsPast g x y z letters) where
  pub past_same : z ≡ x → LeadsPast g x y (z + 1) letters
  past_same e i c l n t = by_cases (ℕ_discrete i z) (λ q. absurd (n (q ∙ e))) (λ q. h i c (omega (arith, q)) n t)

  pub past_more : LeadsPast g x y (z + 1) (bit_or letters (mask_at g y z))
  past_more i c l n t =
      by_cases (ℕ_discrete i z)
      (λ q. test_or_right letters (mask_at g y z) c (rw q at t))
      (λ q. test_or_left letters (mask_at g y z) c (h i c (omega (arith, q)) n t))

-- one letter more: the mask lacks it, or the letters after it are added
module _ (row : Row) (mask after b : ℕ) (r : Row) (h : AfterAdded row mask after b r) where
  pub after_same : test_bit mask b ≡ false → AfterAdded row mask after (b + 1) r
  after_same e = record {
    full = h.full;
    kept = h.kept;
    added = λ i c l m a. by_cases (ℕ_discrete i b) (λ q. both (rw q at m) e) (λ q. h.added i c (omega (arith, q)) m a);
  }

  abbrev with_letters : Row
  with_letters = record { masks = set r.masks b (bit_or (mask_in r b) after) }

  module _ (inside : b < symbol_count) where
    here : mask_in with_letters b ≡ bit_or (mask_in r b) after
    here = get_or-set_same r.masks b (bit_or (mask_in r b) after) 0 (omega (arith, h.full))

    there : (i : ℕ) → (i ≡ b → ⊥) → mask_in with_letters i ≡ mask_in r i
    there i n = get_or-set_other r.masks b i (bit_or (mask_in r b) after) 0 n

    pub after_more : AfterAdded row mask after (b + 1) with_letters
    after_more = record {
      full = length-set r.masks b (bit_or (mask_in r b) after) ∙ h.full;
      kept = λ i c t. by_cases (ℕ_discrete i b)
          (λ q. rw (q, here) (test_or_left (mask_in r b) after c (rw q at (h.kept i c t))))
          (λ q. rw (there i q) (h.kept i c t));
      added = λ i c l m a. by_cases (ℕ_discrete i b)
          (λ q. rw (q, here) (test_or_right (mask_in r b) after c a))
          (λ q. rw (there i q) (h.added i c (omega (arith, q)) m a));
    }

-- one pair more: its mask is empty, or what leads on from it is added to its letters
module _ (g : Table) (k : ℕ) (row : Row) (h : FollowsBelow g k row) where
  abbrev mask : ℕ
  mask = mask_at g (k / most_parties) (k % most_parties)

  pub follows_same : mask ≡ 0 → FollowsBelow g (k + 1) row
  follows_same e i z b c l s n small t u =
      by_cases (ℕ_discrete i k)
      (λ q. both (rw (q, e) at t) (zero_bit b))
      (λ q. h i z b c (omega (arith, q)) s n small t u)

  pub follows_more : (after : ℕ) (r : Row) → LeadsPast g (k / most_parties) (k % most_parties) most_parties after
      → AfterAdded row mask after most_parties r → FollowsBelow g (k + 1) r
  follows_more after r past a i z b c l s n small t u =
      by_cases (ℕ_discrete i k)
      (λ q. a.added b c small (rw q at t) (past z c s (λ e. n (rw q e)) (rw q at u)))
      (λ q. a.kept b c (h i z b c (omega (arith, q)) s n small t u))
