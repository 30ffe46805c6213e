-- Laws of lists in order, of lists without repetition and of sums, each by induction on the list. Assumes nothing.
use Rattle.std.proofs.Common.{◌≡◌, refl, sym, ap, ◌∙◌, ◌⊎◌, ◌↔◌, inl, inr, ⊎_elim, Bool, true, false, List}
use Rattle.std.proofs.Common.{[], ◌∷◌, ◌++◌, map, ℕ, zero, suc, ◌+◌, ◌≤◌, ◌<◌, arith, leb, ltb, length}
use Rattle.std.proofs.Common.{length-append, lt-ltb, le-ltb, ltb-true, le-leb, leb-true, leb-false}
use mathlib.Core.List.Memᴰ
use mathlib.Core.List.{Memᴰ}
use Rattle.std.proofs.Math.Option.{none, some}
use Rattle.std.proofs.lemmas.List.{length-map}
use Rattle.lists.specs.Lists.{any_of, filter_by, first_by, flat_map, up_from, range}
use Rattle.lists.specs.Order.{Ascending, Distinct, first_element, only_if, sum_of, greatest_of}
use Rattle.lists.proofs.Cases.{by_test, by_found, by_mem, by_append, clash, both}
use Rattle.lists.proofs.ListLaws.{First, filter_out, map_out, flat_out, up_out, find_none, find_none_of, find_some, find_in}

module _ {A : Type 0} where
  pub ascending_append : (R : A → A → Bool) (l m : List A) → Ascending R l → Ascending R m
      → ((x y : A) → Memᴰ x l → Memᴰ y m → R x y ≡ true) → Ascending R (l ++ m)
  ascending_append R [] m sl sm c = sm
  ascending_append R (x ∷ l) m sl sm c = (
    λ y n. by_append l n (λ k. sl.0 y k) (λ k. c x y (Memᴰ.head refl) k),
    ascending_append R l m sl.1 sm (λ a b k j. c a b (Memᴰ.tail k) j),
  )

  -- an order that follows from another on the list's elements
  pub ascending_by : (R Q : A → A → Bool) (l : List A)
      → ((x y : A) → Memᴰ x l → Memᴰ y l → R x y ≡ true → Q x y ≡ true) → Ascending R l → Ascending Q l
  ascending_by R Q [] f h = tt
  ascending_by R Q (x ∷ l) f h = (
    λ y n. f x y (Memᴰ.head refl) (Memᴰ.tail n) (h.0 y n),
    ascending_by R Q l (λ a b m n. f a b (Memᴰ.tail m) (Memᴰ.tail n)) h.1,
  )

  pub ascending_filter : (R : A → A → Bool) (p : A → Bool) (l : List A) → Ascending R l → Ascending R (filter_by p l)
  unfolding filter_by
  ascending_filter R p [] h = tt
  ascending_filter R p (x ∷ l) h =
      by_test (p x)
      (λ q. rw (q, filter_by) (λ y n. h.0 y (filter_out p l n).0, ascending_filter R p l h.1))
      (λ q. rw (q, filter_by) (ascending_filter R p l h.1))

  -- two lists in order with the same members are the same
  pub ascending_equal : (R : A → A → Bool) → ((x y : A) → R x y ≡ true → R y x ≡ true → ⊥) → (l m : List A) → Ascending R l → Ascending R m
      → ((x : A) → Memᴰ x l → Memᴰ x m) → ((x : A) → Memᴰ x m → Memᴰ x l) → l ≡ m
  ascending_equal R i [] [] sl sm f g = refl
  ascending_equal R i [] (y ∷ m) sl sm f g = absurd (Memᴰ.not-nil (g y (Memᴰ.head refl)))
  ascending_equal R i (x ∷ l) [] sl sm f g = absurd (Memᴰ.not-nil (f x (Memᴰ.head refl)))
  ascending_equal R i (x ∷ l) (y ∷ m) sl sm f g =
      let before-itself : (z : A) → R z z ≡ true → ⊥ = λ z k. i z z k k in
      let e : x ≡ y =
      by_mem (f x (Memᴰ.head refl))
      (λ q. q)
      (λ n. by_mem (g y (Memᴰ.head refl)) (λ q. sym q) (λ k. absurd (i x y (sl.0 y k) (sm.0 x n)))) in
      let t : l ≡ m = ascending_equal R i l m sl.1 sm.1
      (λ z n. by_mem (f z (Memᴰ.tail n)) (λ q. absurd (before-itself x (ap (R x) (e ∙ sym q) ∙ sl.0 z n))) (λ k. k))
      (λ z n. by_mem (g z (Memᴰ.tail n)) (λ q. absurd (before-itself y (ap (R y) (sym e ∙ sym q) ∙ sm.0 z n))) (λ k. k)) in
      cc

  -- in an order with no element before itself, a list in order has no repetition
  pub ascending_distinct : (R : A → A → Bool) → ((x : A) → R x x ≡ false) → (l : List A) → Ascending R l → Distinct l
  ascending_distinct R i [] h = tt
  ascending_distinct R i (x ∷ l) h = (λ m. both (h.0 x m) (i x), ascending_distinct R i l h.1)

  ascending_after : (R : A → A → Bool) (l m : List A) (x y : A) → Ascending R (l ++ (x ∷ m)) → Memᴰ y m → R x y ≡ true
  ascending_after R [] m x y s k = s.0 y k
  ascending_after R (z ∷ l) m x y s k = ascending_after R l m x y s.1 k

  -- in a list in order, the first that passes comes before every other that does
  pub first_before : (R : A → A → Bool) {p : A → Bool} {l : List A} {x : A} → First p l x
      → Ascending R l → (y : A) → Memᴰ y l → p y ≡ true → (x ≡ y) ⊎ (R x y ≡ true)
  first_before R {p} {l} {x} r s y m h =
      by_append r.pre (rw r.split at m)
      (λ k. both h (r.before k))
      (λ k. by_mem k (λ e. inl (sym e)) (λ n. inr (ascending_after R r.pre r.post x y (rw r.split at s) n)))

  pub first_least : (R : A → A → Bool) (p : A → Bool) (l : List A) → Ascending R l
      → {c : A} → first_by p l ≡ some c → {x : A} → Memᴰ x l → p x ≡ true
      → (c ≡ x) ⊎ (R c x ≡ true)
  first_least R p l s e {x} m h = first_before R (find_some p l e) s x m h

  -- two lists in one order with the same members that pass have the same first that passes
  pub first_agree : (R : A → A → Bool) → ((x : A) → R x x ≡ false) → ((x y z : A) → R x y ≡ true → R y z ≡ true → R x z ≡ true)
      → (p : A → Bool) (l m : List A) → Ascending R l → Ascending R m → ((x : A) → p x ≡ true → Memᴰ x l → Memᴰ x m)
      → ((x : A) → p x ≡ true → Memᴰ x m → Memᴰ x l) → first_by p l ≡ first_by p m
  first_agree R i t p l m sl sm f g =
      by_found (first_by p l)
      (λ e. e ∙ sym (find_none_of p m (λ x n. by_test (p x) (λ h. both h (find_none p l e (g x h n))) (λ h. h))))
      (λ x e. by_found (first_by p m)
      (λ k. let h = (find_some p l e).here in both h (find_none p m k (f x h (find_in p l e))))
      (λ y k.
      let h = (find_some p l e).here in
      let j = (find_some p m k).here in
      let z : x ≡ y =
      ⊎_elim (λ (q : x ≡ y). q)
      (λ (q : R x y ≡ true). ⊎_elim
      (λ (r : y ≡ x). sym r)
      (λ (r : R y x ≡ true). both (t x y x q r) (i x))
      (first_least R p m sm k (f x h (find_in p l e)) h))
      (first_least R p l sl e (g y j (find_in p m k)) j) in
      e ∙ ap some z ∙ sym k))

  pub head_least : (R : A → A → Bool) (l : List A) → Ascending R l
      → {c : A} → first_element l ≡ some c → {x : A} → Memᴰ x l → (c ≡ x) ⊎ (R c x ≡ true)
  head_least R [] s e m = absurd (Memᴰ.not-nil m)
  head_least R (y ∷ ys) s {c} e {x} m = let z : y ≡ c = cc in by_mem m (λ r. inl (cc)) (λ n. inr (rw (← z) (s.0 x n)))

  pub head_in : (l : List A) {x : A} → first_element l ≡ some x → Memᴰ x l
  head_in [] e = clash (cc e)
  head_in (y ∷ ys) {x} e = let z : x ≡ y = cc in Memᴰ.head z

  pub head_none : (l : List A) → (first_element l ≡ none) ↔ (leb 1 (length l) ≡ false)
  head_none [] = (λ e. refl, λ e. refl)
  head_none (x ∷ l) = (λ e. clash (cc e), λ e. both (le-leb 1 (suc (length l)) (omega arith)) e)

  -- a sum is no less where no summand is less
  pub sum_mono : (f g : A → ℕ) (l : List A) → ((x : A) → Memᴰ x l → f x ≤ g x) → sum_of f l ≤ sum_of g l
  unfolding sum_of
  sum_mono f g [] h = omega arith
  sum_mono f g (x ∷ l) h =
      let a : f x ≤ g x = h x (Memᴰ.head refl) in
      let b : sum_of f l ≤ sum_of g l = sum_mono f g l (λ y m. h y (Memᴰ.tail m)) in
      omega arith

  -- and the same where every summand is
  pub sum_same : (f g : A → ℕ) (l : List A) → ((x : A) → Memᴰ x l → f x ≡ g x) → sum_of f l ≡ sum_of g l
  unfolding sum_of
  sum_same f g [] h = refl
  sum_same f g (x ∷ l) h = rw (h x (Memᴰ.head refl), sum_same f g l (λ y m. h y (Memᴰ.tail m)))

  pub sum_none : (f : A → ℕ) (l : List A) → ((x : A) → Memᴰ x l → f x ≡ 0) → sum_of f l ≡ 0
  unfolding sum_of
  sum_none f [] h = refl
  sum_none f (x ∷ l) h =
      let a : f x ≡ 0 = h x (Memᴰ.head refl) in
      let b : sum_of f l ≡ 0 = sum_none f l (λ y m. h y (Memᴰ.tail m)) in
      omega arith

  -- of different elements only one has a value: that value is the sum
  pub sum_only : (f : A → ℕ) (l : List A) (x : A) → Distinct l → Memᴰ x l
      → ((y : A) → (y ≡ x → ⊥) → f y ≡ 0) → sum_of f l ≡ f x
  unfolding sum_of
  sum_only f [] x d m h = absurd (Memᴰ.not-nil m)
  sum_only f (y ∷ l) x d m h =
      by_mem m
      (λ e.
      let a : sum_of f l ≡ 0 = sum_none f l (λ z n. h z (λ q. d.0 (rw (← e, ← q) n))) in
      let b : f y ≡ f x = ap f (sym e) in
      omega arith)
      (λ n.
      let a : f y ≡ 0 = h y (λ q. d.0 (rw q n)) in
      let b : sum_of f l ≡ f x = sum_only f l x d.1 n h in
      omega arith)

  pub sum_any : (f : A → ℕ) (p : A → Bool) (l : List A) → ((x : A) → leb 1 (f x) ≡ p x) → leb 1 (sum_of f l) ≡ any_of p l
  unfolding sum_of any_of
  sum_any f p [] e = refl
  sum_any f p (x ∷ xs) e =
      let ih : leb 1 (sum_of f xs) ≡ any_of p xs = sum_any f p xs e in
      by_test (leb 1 (f x))
      (λ q. let a : 1 ≤ f x = leb-true 1 (f x) q in rw (← e x, q) (le-leb 1 (f x + sum_of f xs) (omega arith)))
      (λ q. let a : f x < 1 = leb-false 1 (f x) q in let z : f x + sum_of f xs ≡ sum_of f xs = omega arith in rw (← e x, q, z) ih)

  pub sum_filter : (f : A → ℕ) (p : A → Bool) (l : List A) → sum_of f (filter_by p l) ≡ sum_of (λ x. only_if (p x) (f x)) l
  unfolding sum_of filter_by
  sum_filter f p [] = refl
  sum_filter f p (x ∷ l) =
      by_test (p x) (λ q. rw (q, filter_by, sum_filter f p l)) (λ q. rw (q, filter_by) (omega (arith, sum_filter f p l)))

-- the greatest value: no less than each, one of them, and no more than a bound of all
module _ {A : Type 0} (f : A → ℕ) where
  pub greatest_least : (l : List A) {x : A} → Memᴰ x l → f x ≤ greatest_of f l
  unfolding greatest_of
  greatest_least [] m = absurd (Memᴰ.not-nil m)
  greatest_least (y ∷ l) m = by_mem m (λ e. rw e (omega arith)) (λ n. omega (arith, greatest_least l n))

  pub greatest_at : (l : List A) (k : ℕ) → 1 ≤ k → k ≤ greatest_of f l → (x : A) × Memᴰ x l × (k ≤ f x)
  unfolding greatest_of
  greatest_at [] k h e = absurd (omega arith)
  greatest_at (y ∷ l) k h e =
      by_test (leb k (f y))
      (λ q. (y, Memᴰ.head refl, leb-true k (f y) q))
      (λ q. let r = greatest_at l k h (omega (arith, leb-false k (f y) q)) in (r.0, Memᴰ.tail r.1, r.2))

  pub greatest_most : (l : List A) (k : ℕ) → ((x : A) → Memᴰ x l → f x ≤ k) → greatest_of f l ≤ k
  unfolding greatest_of
  greatest_most [] k h = omega arith
  greatest_most (y ∷ l) k h = omega (arith, h y (Memᴰ.head refl), greatest_most l k (λ x m. h x (Memᴰ.tail m)))

pub greatest_same : {A : Type 0} (f g : A → ℕ) (l : List A) → ((x : A) → Memᴰ x l → f x ≡ g x) → greatest_of f l ≡ greatest_of g l
unfolding greatest_of
greatest_same f g [] h = refl
greatest_same f g (x ∷ l) h = rw (h x (Memᴰ.head refl), greatest_same f g l (λ y m. h y (Memᴰ.tail m)))

pub ascending_map : {A B : Type 0} (R : A → A → Bool) (Q : B → B → Bool) (f : A → B)
    → ((x y : A) → R x y ≡ true → Q (f x) (f y) ≡ true) → (l : List A) → Ascending R l → Ascending Q (map f l)
ascending_map R Q f h [] s = tt
ascending_map R Q f h (x ∷ l) s = (
  λ y n. let r = map_out f l n in rw r.2 (h x r.0 (s.0 r.0 r.1)),
  ascending_map R Q f h l s.1,
)

pub length_map : {A B : Type 0} (f : A → B) (l : List A) → length (map f l) ≡ length l
length_map f l = length-map l f

pub length_flat : {A B : Type 0} (f : A → List B) (l : List A) → length (flat_map f l) ≡ sum_of (λ x. length (f x)) l
unfolding flat_map sum_of
length_flat f [] = refl
length_flat f (x ∷ l) = length-append (f x) (flat_map f l) ∙ rw (length_flat f l)

pub up_ascending : (a k : ℕ) → Ascending ltb (up_from a k)
unfolding up_from
up_ascending a zero = tt
up_ascending a (suc k) = (λ y n. lt-ltb a y (up_out (suc a) k n).0, up_ascending (suc a) k)

pub up_distinct : (a k : ℕ) → Distinct (up_from a k)
up_distinct a k = ascending_distinct ltb (λ x. le-ltb x x (omega arith)) (up_from a k) (up_ascending a k)

pub range_ascending : (n : ℕ) → Ascending ltb (range n)
unfolding range
range_ascending n = up_ascending 0 n

-- rows one after another, each in order: by the row's number and then within the row
pub rows_ascending : {B : Type 0} (R : B → B → Bool) (g : ℕ → ℕ → B)
    → ((a b x y : ℕ) → a < b → R (g a x) (g b y) ≡ true) → ((a x y : ℕ) → x < y → R (g a x) (g a y) ≡ true)
    → (f : ℕ → List ℕ) → ((a : ℕ) → Ascending ltb (f a)) → (l : List ℕ) → Ascending ltb l → Ascending R (flat_map (λ a. map (g a) (f a)) l)
unfolding flat_map
rows_ascending R g lower same f h [] al = tt
rows_ascending R g lower same f h (a ∷ l) al =
    ascending_append R (map (g a) (f a)) (flat_map (λ a. map (g a) (f a)) l)
    (ascending_map ltb R (g a) (λ x y k. same a x y (ltb-true x y k)) (f a) (h a))
    (rows_ascending R g lower same f h l al.1)
    (λ x y m n.
    let r = map_out (g a) (f a) m in
    let t = flat_out (λ a. map (g a) (f a)) l n in
    let z = map_out (g t.0) (f t.0) t.2 in
    rw (r.2, z.2) (lower a t.0 r.0 z.0 (ltb-true a t.0 (al.0 t.0 t.1))))
