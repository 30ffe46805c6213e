-- List functions whose tests or values agree on the members agree; ranges and filters of a longer range. By induction on the list.
use Rattle.std.proofs.Common.{◌≡◌, refl, sym, ap, ◌∙◌, Bool, true, false, ◌&&◌, List, [], ◌∷◌, ◌++◌, map, append-nil}
use Rattle.std.proofs.Common.{ℕ, zero, suc, ◌+◌, ◌-◌, ◌≤◌, ◌<◌, max, arith, add-one, length, get_or, take, take-suc}
use mathlib.Core.List.Memᴰ
use mathlib.Core.List.{Memᴰ}
use Rattle.std.proofs.Math.Option.{some}
pub use Rattle.std.proofs.lemmas.List.{map-append as map_append}
use Rattle.lists.specs.Lists.{filter_by, first_by, flat_map, up_from, range}
use Rattle.lists.specs.Order.{Distinct, sum_of, greatest_of}
use Rattle.lists.proofs.Cases.{by_test, by_mem, clash}
use Rattle.lists.proofs.Distinct.{distinct_most}
use Rattle.lists.proofs.ListLaws.{up_out, up_length, range_in}

module _ {A : Type 0} where
  pub filter_same : (p q : A → Bool) (l : List A) → ((x : A) → Memᴰ x l → p x ≡ q x) → filter_by p l ≡ filter_by q l
  unfolding filter_by
  filter_same p q [] f = refl
  filter_same p q (x ∷ l) f =
      let e = f x (Memᴰ.head refl) in
      let ih = filter_same p q l (λ y m. f y (Memᴰ.tail m)) in
      by_test (q x) (λ t. rw (e ∙ t, t, filter_by, ih)) (λ t. rw (e ∙ t, t, filter_by) ih)

  pub find_same : (p q : A → Bool) (l : List A) → ((x : A) → Memᴰ x l → p x ≡ q x) → first_by p l ≡ first_by q l
  unfolding first_by
  find_same p q [] f = refl
  find_same p q (x ∷ l) f =
      let e = f x (Memᴰ.head refl) in
      by_test (q x) (λ t. rw (e ∙ t, t, first_by)) (λ t. rw (e ∙ t, t, first_by) (find_same p q l (λ y m. f y (Memᴰ.tail m))))

  -- the first that passes one test passes both where it passes the other
  pub find_and : (p q : A → Bool) (l : List A) {x : A} → first_by p l ≡ some x → q x ≡ true → first_by (λ y. p y && q y) l ≡ some x
  unfolding first_by
  find_and p q [] e h = clash (cc e)
  find_and p q (y ∷ l) {x} e h =
      by_test (p y)
      (λ t. let z : y ≡ x = cc (rw (t, first_by) at e) in let k : q y ≡ true = ap q z ∙ h in rw (t, k, first_by) (ap some z))
      (λ t. rw (t, first_by) (find_and p q l (rw (t, first_by) at e) h))

  pub filter_none : (p : A → Bool) (l : List A) → ((x : A) → Memᴰ x l → p x ≡ false) → filter_by p l ≡ []
  unfolding filter_by
  filter_none p [] f = refl
  filter_none p (x ∷ l) f = rw (f x (Memᴰ.head refl), filter_by) (filter_none p l (λ y m. f y (Memᴰ.tail m)))

  pub filter_append : (p : A → Bool) (l m : List A) → filter_by p (l ++ m) ≡ filter_by p l ++ filter_by p m
  unfolding filter_by
  filter_append p [] m = refl
  filter_append p (x ∷ l) m = by_test (p x) (λ q. rw (q, filter_by, filter_append p l m)) (λ q. rw (q, filter_by) (filter_append p l m))

  -- the last of the elements taken: picked last where it passes, and otherwise it adds nothing
  module _ (p : A → Bool) (l : List A) (i : ℕ) (d : A) (h : i < length l) where
    pub filter_take_in : p (get_or l i d) ≡ true → filter_by p (take (i + 1) l) ≡ filter_by p (take i l) ++ (get_or l i d ∷ [])
    unfolding filter_by
    filter_take_in t = rw (add-one, take-suc l i d, filter_append p, t, filter_by)

    pub filter_take_out : p (get_or l i d) ≡ false → filter_by p (take (i + 1) l) ≡ filter_by p (take i l)
    unfolding filter_by
    filter_take_out t = rw (add-one, take-suc l i d, filter_append p, t, filter_by) (append-nil (filter_by p (take i l)))

-- a filter leaves no more than there was
pub filter_length : {A : Type 0} (p : A → Bool) (l : List A) → length (filter_by p l) ≤ length l
unfolding filter_by
filter_length p [] = omega arith
filter_length p (x ∷ l) =
    let ih : length (filter_by p l) ≤ length l = filter_length p l in
    by_test (p x) (λ e. rw (e, filter_by) (omega arith)) (λ e. rw (e, filter_by) (omega arith))

-- two filters that never pick the same leave no more than there was
pub filter_apart : {A : Type 0} (p q : A → Bool) (l : List A)
    → ((x : A) → Memᴰ x l → p x ≡ true → q x ≡ true → ⊥) → length (filter_by p l) + length (filter_by q l) ≤ length l
unfolding filter_by
filter_apart p q [] f = omega arith
filter_apart p q (x ∷ l) f =
    let ih : length (filter_by p l) + length (filter_by q l) ≤ length l = filter_apart p q l (λ y m. f y (Memᴰ.tail m)) in
    by_test (p x)
    (λ t. by_test (q x) (λ k. absurd (f x (Memᴰ.head refl) t k)) (λ k. rw (t, k, filter_by) (omega arith)))
    (λ t. by_test (q x) (λ k. rw (t, k, filter_by) (omega arith)) (λ k. rw (t, k, filter_by) (omega arith)))

-- a filter of a mapped list
pub filter_map : {A B : Type 0} (p : B → Bool) (f : A → B) (l : List A) → filter_by p (map f l) ≡ map f (filter_by (λ x. p (f x)) l)
unfolding filter_by
filter_map p f [] = refl
filter_map p f (x ∷ l) = by_test (p (f x)) (λ t. rw (t, filter_by, filter_map p f l)) (λ t. rw (t, filter_by) (filter_map p f l))

-- a stricter test picks no more, and fewer where it refuses a member that the other picks
pub filter_fewer : {A : Type 0} (p q : A → Bool) (l : List A)
    → ((x : A) → Memᴰ x l → p x ≡ true → q x ≡ true) → length (filter_by p l) ≤ length (filter_by q l)
unfolding filter_by
filter_fewer p q [] f = omega arith
filter_fewer p q (x ∷ l) f =
    let ih : length (filter_by p l) ≤ length (filter_by q l) = filter_fewer p q l (λ y m. f y (Memᴰ.tail m)) in
    by_test (p x)
    (λ t. rw (t, f x (Memᴰ.head refl) t, filter_by) (omega arith))
    (λ t. by_test (q x) (λ k. rw (t, k, filter_by) (omega arith)) (λ k. rw (t, k, filter_by) ih))

pub filter_strictly : {A : Type 0} (p q : A → Bool) (l : List A)
    → ((x : A) → Memᴰ x l → p x ≡ true → q x ≡ true) → {z : A} → Memᴰ z l
    → p z ≡ false → q z ≡ true → length (filter_by p l) < length (filter_by q l)
unfolding filter_by
filter_strictly {A} p q [] f m a b = absurd (Memᴰ.not-nil m)
filter_strictly {A} p q (x ∷ l) f {z} m a b =
    let rest : (y : A) → Memᴰ y l → p y ≡ true → q y ≡ true = λ y n. f y (Memᴰ.tail n) in
    by_mem m
    (λ e. rw (ap p (sym e) ∙ a, ap q (sym e) ∙ b, filter_by) (omega (arith, filter_fewer p q l rest)))
    (λ n.
    let ih : length (filter_by p l) < length (filter_by q l) = filter_strictly p q l rest n a b in
    by_test (p x)
    (λ t. rw (t, f x (Memᴰ.head refl) t, filter_by) (omega arith))
    (λ t. by_test (q x) (λ k. rw (t, k, filter_by) (omega arith)) (λ k. rw (t, k, filter_by) ih)))

pub flat_same : {A B : Type 0} (f g : A → List B) (l : List A) → ((x : A) → Memᴰ x l → f x ≡ g x) → flat_map f l ≡ flat_map g l
unfolding flat_map
flat_same f g [] h = refl
flat_same f g (x ∷ l) h = rw (h x (Memᴰ.head refl), flat_same f g l (λ y m. h y (Memᴰ.tail m)))

-- a range is the shorter range and what comes after it
pub up_append : (a k j : ℕ) → up_from a (k + j) ≡ up_from a k ++ up_from (a + k) j
unfolding up_from
up_append a zero j = let e : 0 + j ≡ j = omega arith in let z : a + 0 ≡ a = omega arith in rw (e, z)
up_append a (suc k) j =
    let e : suc k + j ≡ suc (k + j) = omega arith in
    let z : a + suc k ≡ suc a + k = omega arith in
    rw (e, z, up_append (suc a) k j)

-- a test that fails from n on picks the same from a longer range
pub filter_range : (p : ℕ → Bool) (n m : ℕ) → n ≤ m → ((x : ℕ) → n ≤ x → x < m → p x ≡ false)
    → filter_by p (range m) ≡ filter_by p (range n)
unfolding range
filter_range p n m h f =
    let e : m ≡ n + (m - n) = omega arith in
    let z : up_from 0 m ≡ up_from 0 n ++ up_from (0 + n) (m - n) = ap (up_from 0) e ∙ up_append 0 n (m - n) in
    let after : filter_by p (up_from (0 + n) (m - n)) ≡ [] = filter_none p (up_from (0 + n) (m - n))
    (λ x k. let r = up_out (0 + n) (m - n) k in f x (omega (arith, r.0)) (omega (arith, r.1))) in
    rw (z, filter_append, after) (append-nil (filter_by p (up_from 0 n)))

-- pigeonhole: different numbers below n are at most n
pub distinct_short : (n : ℕ) (l : List ℕ) → Distinct l → ((x : ℕ) → Memᴰ x l → x < n) → length l ≤ n
unfolding range
distinct_short n l d f = omega (arith, distinct_most l (range n) d (λ x m. range_in n x (f x m)), up_length 0 n)

pub map_same : {A B : Type 0} (f g : A → B) (l : List A) → ((x : A) → Memᴰ x l → f x ≡ g x) → map f l ≡ map g l
map_same f g [] h = refl
map_same f g (x ∷ l) h = rw (h x (Memᴰ.head refl), map_same f g l (λ y m. h y (Memᴰ.tail m))) refl

-- numbers below a bound are so at every place, and past the end there is 0
pub get_or_below : (bound : ℕ) → 0 < bound → (l : List ℕ) → ((x : ℕ) → Memᴰ x l → x < bound) → (i : ℕ) → get_or l i 0 < bound
get_or_below bound h [] f i = h
get_or_below bound h (x ∷ l) f zero = f x (Memᴰ.head refl)
get_or_below bound h (x ∷ l) f (suc i) = get_or_below bound h l (λ y m. f y (Memᴰ.tail m)) i

-- one number more in a range, and the longer range has no less
module _ (f : ℕ → ℕ) where
  sum_append : (l m : List ℕ) → sum_of f (l ++ m) ≡ sum_of f l + sum_of f m
  unfolding sum_of
  sum_append [] m = omega arith
  sum_append (x ∷ l) m = omega (arith, sum_append l m)

  greatest_append : (l m : List ℕ) → greatest_of f (l ++ m) ≡ max (greatest_of f l) (greatest_of f m)
  unfolding greatest_of
  greatest_append [] m = omega arith
  greatest_append (x ∷ l) m = omega (arith, greatest_append l m)

  range_next : (n : ℕ) → range (n + 1) ≡ range n ++ (n ∷ [])
  unfolding range up_from
  range_next n = up_append 0 n 1 ∙ let e : 0 + n ≡ n = omega arith in rw e

  pub sum_next : (n : ℕ) → sum_of f (range (n + 1)) ≡ sum_of f (range n) + f n
  unfolding sum_of
  sum_next n = ap (sum_of f) (range_next n) ∙ sum_append (range n) (n ∷ []) ∙ omega arith

  pub greatest_next : (n : ℕ) → greatest_of f (range (n + 1)) ≡ max (greatest_of f (range n)) (f n)
  unfolding greatest_of
  greatest_next n = ap (greatest_of f) (range_next n) ∙ greatest_append (range n) (n ∷ []) ∙ omega arith

  pub sum_longer : (n m : ℕ) → n ≤ m → sum_of f (range n) ≤ sum_of f (range m)
  unfolding range
  sum_longer n m h =
      let e : n + (m - n) ≡ m = omega arith in
      let z : sum_of f (up_from 0 m) ≡ sum_of f (up_from 0 n) + sum_of f (up_from (0 + n) (m - n)) =
      ap (λ (k : ℕ). sum_of f (up_from 0 k)) (sym e) ∙ ap (sum_of f) (up_append 0 n (m - n))
      ∙ sum_append (up_from 0 n) (up_from (0 + n) (m - n)) in
      omega (arith, z)
