-- A copy to a part of a slice is bytes written at its place, and one over zeros is a word value. Assumes nothing.
use Rattle.std.proofs.Common.{◌≡◌, ap, ◌∙◌, List, ◌++◌, ℕ, zero, suc, ◌-◌, ◌≤◌, arith, length}
use Rattle.std.proofs.Common.{take, drop, replicate, drop-drop, length-take-le}
use Rattle.std.proofs.Math.Nat.{sub-zero, zero-sub}
use borrow.Rule.Slice.PartMut.{put_mid}
use Rattle.fields.specs.promises.Writing.{put}
use Rattle.search.specs.declared.word.Word.{Word}
use Rattle.search.specs.promises.WordValues.{word_of}

pub mid_put : (b : List ℕ) (at k : ℕ) (x : List ℕ) → length x ≡ k → put_mid at k b x ≡ put b at x
unfolding put
mid_put b at k x e = rw (e, drop-drop k at b)

drop_zeros : (n i : ℕ) → drop i (replicate n 0) ≡ replicate {A = ℕ} (n - i) 0
drop_zeros n zero = rw sub-zero
drop_zeros zero (suc i) = rw zero-sub
drop_zeros (suc n) (suc i) = let e : n - i ≡ suc n - suc i = omega arith in drop_zeros n i ∙ ap (λ (k : ℕ). replicate k 0) e

word_eq :
    (l s : List ℕ) (n : ℕ) → length l ≡ n → s ≡ l ++ replicate (31 - n) 0
    → ◌≡◌ {A = Word} (record { len = n; symbols = s }) (word_of l)
word_eq l s n h e = cc

pub copied_word :
    (d x : List ℕ) (n : ℕ) → n ≤ length d → x ≡ take n d
    → ◌≡◌ {A = Word} (record { len = n; symbols = x ++ drop n (replicate 31 0) }) (word_of (take n d))
copied_word d x n h e = word_eq (take n d) _ n (length-take-le n d h) (rw (e, drop_zeros 31 n))
