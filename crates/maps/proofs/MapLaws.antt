-- A map that passes the check takes a pair to one that has at least as many paths with each word.
-- While the check goes on: the images seen so far are those of the mask.
use Rattle.std.proofs.Common.{◌≡◌, sym, ◌∙◌, true, false, ℕ, zero, suc, ◌+◌, ◌<◌, List, None, Some, replicate}
use Rattle.std.proofs.Common.{length, get_or, set, get_or-set_same, get_or-set_other, arith}
use Rattle.std.proofs.Math.Logic.{by_cases}
use Rattle.std.proofs.Math.Decide.{dec_lt}
use Rattle.lists.proofs.Cases.{both}
use Rattle.masks.specs.promises.Mask.{test_bit, with_bit}
use Rattle.masks.specs.declared.Table.{Table}
use Rattle.masks.proofs.BitLaws.{test_with_same, test_with_other}
use Rattle.rebac.specs.Matter.{pair}
use Rattle.rebac.proofs.CarriedLaws.{count_carried}
use Rattle.search.specs.promises.PairSearch.{table_graph}
use Rattle.maps.specs.promises.Maps.{image_of, CarriesSymbols, Covered}
use Rattle.maps.specs.declared.carry.Map.{Map}

-- where no party has an image, none has one
pub none_has_image : (n u v : ℕ) → get_or (replicate n None) u None ≡ Some v → ⊥
none_has_image zero u v e = cc
none_has_image (suc n) zero v e = cc
none_has_image (suc n) (suc u) v e = none_has_image n u v e

-- the parties below u have images below n, no two the same, all in the mask
pub record Used (n : ℕ) (image : List ℕ) (used u : ℕ) : Type 0 where
  pub inside : (x : ℕ) → x < u → get_or image x 0 < n
  pub kept : (x : ℕ) → x < u → test_bit used (get_or image x 0) ≡ true
  pub one : (x y : ℕ) → x < u → y < u → get_or image x 0 ≡ get_or image y 0 → x ≡ y

-- one more image, w for u, which the mask doesn't have
module _ (n : ℕ) (image : List ℕ) (used u w : ℕ) (i : Used n image used u) (h : w < n) (e : test_bit used w ≡ false)
    (s : u < length image) where
  -- a party below u + 1 is one below u, or u itself
  below : {G : Type 0} (x : ℕ) → x < u + 1 → (x < u → G) → (x ≡ u → G) → G
  below x l f g = by_cases (dec_lt x u) f (λ z. g (omega (arith, z)))

  old : (x : ℕ) → x < u → get_or (set image u w) x 0 ≡ get_or image x 0
  old x l = get_or-set_other image u x w 0 (λ q. absurd (omega (arith, q)))

  new : get_or (set image u w) u 0 ≡ w
  new = get_or-set_same image u w 0 s

  fresh : (x : ℕ) → x < u → get_or (set image u w) x 0 ≡ w → ⊥
  fresh x l q = both (rw (sym (old x l) ∙ q) at (i.kept x l)) e

  pub used_with : Used n (set image u w) (with_bit used w) (u + 1)
  used_with = record {
    inside = λ x l. below x l (λ k. rw (old x k) (i.inside x k)) (λ q. rw (q, new) h);
    kept = λ x l. below x l
        (λ k. test_with_other used w _ (fresh x k) ∙ rw (old x k) (i.kept x k))
        (λ q. rw (q, new) (test_with_same used w));
    one = λ x y l k q. below x l
        (λ a. below y k
        (λ b. i.one x y a b (sym (old x a) ∙ q ∙ old y b))
        (λ b. absurd (fresh x a (q ∙ rw b new))))
        (λ a. below y k (λ b. absurd (fresh y b (sym q ∙ rw a new))) (λ b. a ∙ sym b));
  }

pub map_covers : (t : Table) (m : Map) → CarriesSymbols t m
    → (first second u v : ℕ) → first < m.parties → image_of m first ≡ u → image_of m second ≡ v
    → Covered m.parties t (pair first second) (pair u v)
map_covers t m c first second u v h p q cap w =
    let o = m.one_to_one in
    rw (← p, ← q) (count_carried (table_graph m.parties t) (image_of m) o.inside o.one c (pair first second) w h cap)
