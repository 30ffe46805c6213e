-- What the tests and choices over lists say of their members, each by induction on the list. Assumes nothing.
use Rattle.std.proofs.Common.{◌≡◌, refl, sym, ap, ◌∙◌, Bool, true, false, ◌&&◌, ◌||◌, List, [], ◌∷◌, ◌++◌}
use Rattle.std.proofs.Common.{map, ℕ, zero, suc, ◌+◌, ◌≤◌, ◌<◌, arith, eqb, length, eqb-true, eq-eqb}
use Rattle.std.proofs.lemmas.Bool.{eqb-false}
use mathlib.Core.List.Memᴰ
use mathlib.Core.List.{Memᴰ}
use Rattle.std.proofs.Math.Option.{none, some}
use Rattle.std.specs.List.{list_all}
use Rattle.lists.specs.Lists.{all_of, any_of, filter_by, first_by, flat_map, member, up_from, range}
use Rattle.lists.proofs.Cases.{by_test, by_mem, by_append, clash, both}

-- every element passes, in the words of std
pub all_is : {A : Type 0} (p : A → Bool) (l : List A) → list_all p l ≡ all_of p l
unfolding all_of
all_is p [] = refl
all_is p (x ∷ l) = ap (λ q. p x && q) (all_is p l)

module _ {A : Type 0} where
  pub all_in : (p : A → Bool) (l : List A) → all_of p l ≡ true → {x : A} → Memᴰ x l → p x ≡ true
  unfolding all_of
  all_in p [] h m = absurd (Memᴰ.not-nil m)
  all_in p (y ∷ ys) h m = by_test (p y) (λ q. by_mem m (λ e. rw e q) (λ n. all_in p ys (rw q at h) n)) (λ q. clash (sym (rw q at h)))

  pub all_of_lem : (p : A → Bool) (l : List A) → ((x : A) → Memᴰ x l → p x ≡ true) → all_of p l ≡ true
  unfolding all_of
  all_of_lem p [] h = refl
  all_of_lem p (y ∷ ys) h = rw (h y (Memᴰ.head refl)) (all_of_lem p ys (λ x m. h x (Memᴰ.tail m)))

  pub any_in : (p : A → Bool) (l : List A) {x : A} → Memᴰ x l → p x ≡ true → any_of p l ≡ true
  unfolding any_of
  any_in p [] m e = absurd (Memᴰ.not-nil m)
  any_in p (y ∷ ys) m e = by_test (p y) (λ q. rw q) (λ q. rw q (by_mem m (λ r. both e (ap p r ∙ q)) (λ n. any_in p ys n e)))

  pub any_out : (p : A → Bool) (l : List A) → any_of p l ≡ true → (x : A) × Memᴰ x l × (p x ≡ true)
  unfolding any_of
  any_out p [] h = clash (sym h)
  any_out p (y ∷ ys) h =
      by_test (p y)
      (λ q. (y, Memᴰ.head refl, q))
      (λ q. let r = any_out p ys (rw q at h) in (r.0, Memᴰ.tail r.1, r.2))

  -- where some element passing is absurd, none does
  pub any_none : (p : A → Bool) (l : List A) → ((x : A) → Memᴰ x l → p x ≡ true → ⊥) → any_of p l ≡ false
  any_none p l f = by_test (any_of p l) (λ e. let r = any_out p l e in absurd (f r.0 r.1 r.2)) (λ e. e)

  pub any_same : (p q : A → Bool) (l : List A) → ((x : A) → Memᴰ x l → p x ≡ q x) → any_of p l ≡ any_of q l
  unfolding any_of
  any_same p q [] f = refl
  any_same p q (x ∷ xs) f = rw (f x (Memᴰ.head refl), any_same p q xs (λ y m. f y (Memᴰ.tail m)))

  pub filter_in : (p : A → Bool) (l : List A) {x : A} → Memᴰ x l → p x ≡ true → Memᴰ x (filter_by p l)
  unfolding filter_by
  filter_in p [] m e = absurd (Memᴰ.not-nil m)
  filter_in p (y ∷ ys) m e =
      by_test (p y)
      (λ q. rw (q, filter_by) (by_mem m (λ r. Memᴰ.head r) (λ n. Memᴰ.tail (filter_in p ys n e))))
      (λ q. rw (q, filter_by) (by_mem m (λ r. both e (ap p r ∙ q)) (λ n. filter_in p ys n e)))

  pub filter_out : (p : A → Bool) (l : List A) {x : A} → Memᴰ x (filter_by p l) → Memᴰ x l × (p x ≡ true)
  unfolding filter_by
  filter_out p [] m = absurd (Memᴰ.not-nil m)
  filter_out p (y ∷ ys) m =
      by_test (p y)
      (λ q. by_mem (rw (q, filter_by) at m)
      (λ r. (Memᴰ.head r, rw r q))
      (λ n. let k = filter_out p ys n in (Memᴰ.tail k.0, k.1)))
      (λ q. let k = filter_out p ys (rw (q, filter_by) at m) in (Memᴰ.tail k.0, k.1))

  pub find_none : (p : A → Bool) (l : List A) → first_by p l ≡ none → {x : A} → Memᴰ x l → p x ≡ false
  unfolding first_by
  find_none p [] h m = absurd (Memᴰ.not-nil m)
  find_none p (y ∷ ys) h m =
      by_test (p y)
      (λ q. cc (rw (q, first_by) at h))
      (λ q. by_mem m (λ r. rw r q) (λ n. find_none p ys (rw (q, first_by) at h) n))

  pub find_none_of : (p : A → Bool) (l : List A) → ((x : A) → Memᴰ x l → p x ≡ false) → first_by p l ≡ none
  unfolding first_by
  find_none_of p [] h = refl
  find_none_of p (y ∷ ys) h = rw (h y (Memᴰ.head refl), first_by) (find_none_of p ys (λ x m. h x (Memᴰ.tail m)))

  -- x is the first of the list that passes
  pub record First (p : A → Bool) (l : List A) (x : A) : Type 0 where
    pub pre : List A
    pub post : List A
    pub split : l ≡ pre ++ (x ∷ post)
    pub here : p x ≡ true
    pub before : {y : A} → Memᴰ y pre → p y ≡ false

  pub find_some : (p : A → Bool) (l : List A) {x : A} → first_by p l ≡ some x → First p l x
  unfolding first_by
  find_some p [] {x} h = clash (cc h)
  find_some p (y ∷ ys) {x} h =
      by_test (p y)
      (λ q. let e : y ≡ x = cc (rw (q, first_by) at h) in record {
        pre = [];
        post = ys;
        split = cc;
        here = rw (← e) q;
        before = λ m. absurd (Memᴰ.not-nil m);
      })
      (λ q. let r = find_some p ys (rw (q, first_by) at h) in record {
        pre = y ∷ r.pre;
        post = r.post;
        split = ap (λ (l : List A). y ∷ l) r.split;
        here = r.here;
        before = λ m. by_mem m (λ e. rw e q) (λ n. r.before n);
      })

  pub first_in : {p : A → Bool} {l : List A} {x : A} → First p l x → Memᴰ x l
  first_in r = rw r.split (Memᴰ.append_right r.pre (Memᴰ.head refl))

  pub find_in : (p : A → Bool) (l : List A) {x : A} → first_by p l ≡ some x → Memᴰ x l
  find_in p l h = first_in (find_some p l h)

  pub all_append : (p : A → Bool) (l m : List A) → all_of p (l ++ m) ≡ (all_of p l && all_of p m)
  unfolding all_of
  all_append p [] m = refl
  all_append p (x ∷ l) m = by_test (p x) (λ q. rw q (all_append p l m)) (λ q. rw q)

  pub any_append : (p : A → Bool) (l m : List A) → any_of p (l ++ m) ≡ (any_of p l || any_of p m)
  unfolding any_of
  any_append p [] m = refl
  any_append p (x ∷ l) m = by_test (p x) (λ q. rw q) (λ q. rw q (any_append p l m))

  pub all_one : (p : A → Bool) (x : A) → all_of p (x ∷ []) ≡ p x
  unfolding all_of
  all_one p x = by_test (p x) (λ q. rw q) (λ q. rw q)

  pub any_one : (p : A → Bool) (x : A) → any_of p (x ∷ []) ≡ p x
  unfolding any_of
  any_one p x = by_test (p x) (λ q. rw q) (λ q. rw q)

module _ {A B : Type 0} where
  pub flat_in : (f : A → List B) (l : List A) {x : A} {y : B} → Memᴰ x l → Memᴰ y (f x) → Memᴰ y (flat_map f l)
  unfolding flat_map
  flat_in f [] m k = absurd (Memᴰ.not-nil m)
  flat_in f (z ∷ l) {x} {y} m k =
      by_mem m
      (λ e. Memᴰ.append_left {s = f z} (flat_map f l) (rw (← e) k))
      (λ n. Memᴰ.append_right (f z) (flat_in f l n k))

  pub flat_out : (f : A → List B) (l : List A) {y : B} → Memᴰ y (flat_map f l) → (x : A) × Memᴰ x l × Memᴰ y (f x)
  unfolding flat_map
  flat_out f [] m = absurd (Memᴰ.not-nil m)
  flat_out f (z ∷ l) {y} m =
      by_append (f z) m
      (λ n. (z, Memᴰ.head refl, n))
      (λ n. let r = flat_out f l n in (r.0, Memᴰ.tail r.1, r.2))

  pub map_in : (f : A → B) (l : List A) {x : A} → Memᴰ x l → Memᴰ (f x) (map f l)
  map_in f [] m = absurd (Memᴰ.not-nil m)
  map_in f (z ∷ l) m = by_mem m (λ e. Memᴰ.head (ap f e)) (λ n. Memᴰ.tail (map_in f l n))

  pub map_out : (f : A → B) (l : List A) {y : B} → Memᴰ y (map f l) → (x : A) × Memᴰ x l × (y ≡ f x)
  map_out f [] m = absurd (Memᴰ.not-nil m)
  map_out f (z ∷ l) m = by_mem m (λ e. (z, Memᴰ.head refl, e)) (λ n. let r = map_out f l n in (r.0, Memᴰ.tail r.1, r.2))

-- a number stands in a list exactly where it is a member
pub member_in : (x : ℕ) (l : List ℕ) → Memᴰ x l → member x l ≡ true
member_in x l m = any_in (eqb x) l m (eq-eqb x x refl)

pub member_out : (x : ℕ) (l : List ℕ) → member x l ≡ true → Memᴰ x l
member_out x l e = let r = any_out (eqb x) l e in rw (eqb-true x r.0 r.2) r.1

pub member_not : (x : ℕ) (l : List ℕ) → (Memᴰ x l → ⊥) → member x l ≡ false
member_not x l f = by_test (member x l) (λ e. absurd (f (member_out x l e))) (λ e. e)

-- the numbers of a range
pub up_in : (a k x : ℕ) → a ≤ x → x < a + k → Memᴰ x (up_from a k)
unfolding up_from
up_in a zero x l u = absurd (omega arith)
up_in a (suc k) x l u =
    by_test (eqb x a)
    (λ e. Memᴰ.head (eqb-true x a e))
    (λ e. let n : x ≡ a → ⊥ = eqb-false x a e in Memᴰ.tail (up_in (suc a) k x (omega (arith, n)) (omega arith)))

pub up_out : (a k : ℕ) {x : ℕ} → Memᴰ x (up_from a k) → (a ≤ x) × (x < a + k)
unfolding up_from
up_out a zero m = absurd (Memᴰ.not-nil m)
up_out a (suc k) {x} m =
    by_mem m
    (λ e. (omega arith, omega arith))
    (λ n. let r = up_out (suc a) k n in (omega (arith, r.0), omega (arith, r.1)))

pub up_length : (a k : ℕ) → length (up_from a k) ≡ k
unfolding up_from
up_length a zero = refl
up_length a (suc k) = ap suc (up_length (suc a) k)

pub range_in : (n x : ℕ) → x < n → Memᴰ x (range n)
unfolding range
range_in n x h = up_in 0 n x (omega arith) (omega arith)

pub range_out : (n : ℕ) {x : ℕ} → Memᴰ x (range n) → x < n
unfolding range
range_out n {x} m = let r : x < 0 + n = (up_out 0 n m).1 in omega arith

-- some element passes p exactly where one of those that pass q does, if p asks for q
pub any_filter : {A : Type 0} (p q : A → Bool) (l : List A) → ((x : A) → p x ≡ true → q x ≡ true) → any_of p (filter_by q l) ≡ any_of p l
any_filter p q l f =
    by_test (any_of p l)
    (λ e. let r = any_out p l e in any_in p (filter_by q l) (filter_in q l r.1 (f r.0 r.2)) r.2 ∙ sym e)
    (λ e. any_none p (filter_by q l) (λ x m h. both (any_in p l (filter_out q l m).0 h) e) ∙ sym e)
