-- Masks and rows of masks filled party by party: where the loop stands, and what one party more adds. Assumes nothing.
use Rattle.std.proofs.lemmas.Nat.Bits.{bit_at_not}
use Rattle.std.proofs.Common.{◌≡◌, ℕ, ◌+◌, ◌-◌, ◌^◌, ◌<◌, ◌≤◌, Bool, true, false, not, ◌&&◌, ◌||◌, eqb, ltb}
use Rattle.std.proofs.Common.{length, get_or, set, sym, refl, ap, ◌∙◌, ⊎_elim, w32, ltb-true, arith, length-set}
use Rattle.std.proofs.Common.{get_or-set_other, get_or-set_same, le-ltb, lt-ltb, eq-eqb, ne_eqb, bit_or}
use Rattle.std.proofs.Math.Logic.{by_cases}
use Rattle.std.proofs.Math.Decide.{dec_lt, ℕ_discrete}
use Rattle.limits.specs.Limits.{most_parties}
use Rattle.lists.proofs.Cases.{by_test, both, and_false, or_false}
use Rattle.masks.specs.promises.Mask.{test_bit, with_bit}
use Rattle.masks.specs.promises.Table.{no_row, mask_in, mask_at}
use Rattle.masks.specs.declared.Row.{Row}
use Rattle.masks.specs.declared.Table.{Table}
use Rattle.masks.proofs.BitLaws.{bit_cases, test_with_same, test_with_other, test_or_left, test_or_right}
use Rattle.masks.proofs.MaskLaws.{Filled, filled_without}
use Rattle.search.specs.promises.Last.{without}
use Rattle.search.proofs.LastLaws.{test_without}
use Rattle.search.specs.declared.word.Word.{Word}
use Rattle.word_test.specs.promises.Backward.{may_stand}
use Rattle.word_test.specs.promises.Steps.{StepsFrom, StepsTo, Joined}
use Rattle.word_test.specs.promises.Walk.{Onward}

-- the masks before k have c where the symbol leads to them by the row `from`, and those from k on are the row's
pub record JoinedTo (row from : Row) (s c : ℕ) (r : Row) (k : ℕ) : Type 0 where
  pub full : length r.masks ≡ most_parties
  pub before : (v d : ℕ) → v < k → test_bit (mask_in r v) d ≡ ((eqb d c && test_bit (mask_in from v) s) || test_bit (mask_in row v) d)
  pub after : (v : ℕ) → k ≤ v → mask_in r v ≡ mask_in row v

module _ {row from : Row} {s c : ℕ} {r : Row} {k : ℕ} (h : JoinedTo row from s c r k) where
  pub joined_without : test_bit (mask_in from k) s ≡ false → JoinedTo row from s c r (k + 1)
  joined_without e = record {
    full = h.full;
    before = λ v d l. by_cases (ℕ_discrete v k)
        (λ q. rw (q, e, and_false (eqb d c) {c = false} refl, h.after k (omega arith)))
        (λ q. h.before v d (omega (arith, q)));
    after = λ v l. h.after v (omega arith);
  }

  pub joined_with : k < most_parties → test_bit (mask_in from k) s ≡ true → {m : ℕ} → m ≡ with_bit (mask_in r k) c
      → JoinedTo row from s c (record { masks = set r.masks k m }) (k + 1)
  joined_with b e {m} q = record {
    full = length-set r.masks k m ∙ h.full;
    before = λ v d l. by_cases (ℕ_discrete v k)
        (λ z. rw (z, e, get_or-set_same r.masks k m 0 (omega (arith, h.full)), q)
        (by_cases (ℕ_discrete d c)
        (λ y. rw (y, eq-eqb c c refl) (test_with_same (mask_in r k) c))
        (λ y. rw (ne_eqb d c y) (test_with_other (mask_in r k) c d y ∙ rw (h.after k (omega arith))))))
        (λ z. rw (get_or-set_other r.masks k v m 0 z) (h.before v d (omega (arith, z))));
    after = λ v l. get_or-set_other r.masks k v m 0 (λ z. omega arith) ∙ h.after v (omega arith);
  }

-- the places that a mask lacks, in the code's words `!n`
pub test_not : (n k : ℕ) → n < 2 ^ 32 → k < 32 → test_bit (4294967295 - n) k ≡ not (test_bit n k)
unfolding test_bit
test_not n k l h = rw (bit_at_not w32 n k l h) (⊎_elim (λ e. rw e) (λ e. rw e) (bit_cases n k))

-- the parties that are not visited from which the symbol leads to u
pub stands_to : (n : ℕ) (t : Table) (w : Word) (visited u at mask : ℕ) → n ≤ most_parties → visited < 2 ^ 32
    → StepsTo n t (get_or w.symbols at 0) u (4294967295 - visited) mask
    → (c : ℕ) → test_bit mask c ≡ (ltb c n && may_stand t w visited u at c)
stands_to n t w visited u at mask l b h c =
    h c ∙ by_test (ltb c n) (λ e. rw (e, test_not visited c b (omega (arith, l, ltb-true c n e)))) (λ e. rw e)

-- for each party below n exactly those of the mask below k from which the symbol leads to it
pub record IntoTo (n : ℕ) (t : Table) (s mask : ℕ) (r : Row) (k : ℕ) : Type 0 where
  pub masks : (v : ℕ) → v < n → Filled (λ c. test_bit mask c && test_bit (mask_at t c v) s) k (mask_in r v)

module _ {n : ℕ} {t : Table} {s mask : ℕ} {r : Row} {k : ℕ} (h : IntoTo n t s mask r k) where
  pub into_without : test_bit mask k ≡ false → IntoTo n t s mask r (k + 1)
  into_without e = record { masks = λ v l. filled_without _ k (mask_in r v) (h.masks v l) (rw e) }

  pub into_with : test_bit mask k ≡ true → {more : Row} → Joined n r (get_or t.rows k no_row) s k more → IntoTo n t s mask more (k + 1)
  into_with e j = record {
    masks = λ v l d. j.masks v d l
        ∙ by_cases (ℕ_discrete d k)
        (λ q. rw (q, eq-eqb k k refl, h.masks v l k, le-ltb k k (omega arith), lt-ltb k (k + 1) (omega arith), e)
        (or_false (test_bit (mask_at t k v) s)))
        (λ q. rw (ne_eqb d k q, h.masks v l d) (ap (λ (b : Bool). b && (test_bit mask d && test_bit (mask_at t d v) s)) (below d q)));
  }
    where
      below : (x : ℕ) → (x ≡ k → ⊥) → ltb x k ≡ ltb x (k + 1)
      below x ne =
          by_cases (dec_lt x k)
          (λ i. lt-ltb x k i ∙ sym (lt-ltb x (k + 1) (omega arith)))
          (λ i. le-ltb x k (omega arith) ∙ sym (le-ltb x (k + 1) (omega (arith, ne))))

-- the parties to which the symbol leads from one of the mask below k, the visited ones too
pub record Gathered (n : ℕ) (t : Table) (s mask parties k : ℕ) : Type 0 where
  pub all : (c v : ℕ) → c < k → v < n → test_bit mask c ≡ true → test_bit (mask_at t c v) s ≡ true → test_bit parties v ≡ true

module _ {n : ℕ} {t : Table} {s mask parties k : ℕ} (h : Gathered n t s mask parties k) where
  pub gathered_without : test_bit mask k ≡ false → Gathered n t s mask parties (k + 1)
  gathered_without e = record {
    all = λ c v l b m o. by_cases (ℕ_discrete c k) (λ q. both (rw q at m) e) (λ q. h.all c v (omega (arith, q)) b m o);
  }

  pub gathered_with : (more : ℕ) → StepsFrom n (get_or t.rows k no_row) s more → Gathered n t s mask (bit_or parties more) (k + 1)
  gathered_with more f = record {
    all = λ c v l b m o. by_cases (ℕ_discrete c k)
        (λ q. test_or_right parties more v (f v ∙ rw (lt-ltb v n b) (rw q at o)))
        (λ q. test_or_left parties more v (h.all c v (omega (arith, q)) b m o));
  }

  -- the visited ones taken out
  pub gathered_onward : (visited : ℕ) → n ≤ k → Onward n t s mask visited n (without parties visited)
  gathered_onward visited l c v a b m o off = test_without parties visited v ∙ rw (h.all c v (omega arith) b m o, off)
