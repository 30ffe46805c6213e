-- Lists without repetition: their places, their lengths against lists that have
-- their members, and how they are made. By induction on the list.
use Rattle.std.proofs.Common.{◌≡◌, refl, sym, ap, List, [], ◌∷◌, ◌++◌, map, ℕ, zero, suc, ◌≤◌, ◌<◌, arith, length, get_or, length-append}
use mathlib.Core.List.Memᴰ
use mathlib.Core.List.{Memᴰ}
use mathlib.Core.List.{nil≢cons, cons≢nil, head-eq_of_cons-eq, tail-eq_of_cons-eq}
use Rattle.lists.specs.Lists.{flat_map}
use Rattle.lists.specs.Order.{Distinct}
use Rattle.lists.proofs.Cases.{by_mem, by_append}
use Rattle.lists.proofs.ListLaws.{map_out, flat_out}

module _ {A : Type 0} where
  -- an element stands at a place below the length
  pub get_or_in : (l : List A) (i : ℕ) (d : A) → i < length l → Memᴰ (get_or l i d) l
  get_or_in [] i d h = absurd (omega arith)
  get_or_in (x ∷ l) zero d h = Memᴰ.head refl
  get_or_in (x ∷ l) (suc i) d h = Memᴰ.tail (get_or_in l i d (omega arith))

  -- and every element at some place
  pub in_get_or : {x : A} (l : List A) (d : A) → Memᴰ x l → (i : ℕ) × ((i < length l) × (get_or l i d ≡ x))
  in_get_or [] d m = absurd (Memᴰ.not-nil m)
  in_get_or (y ∷ l) d m =
      by_mem m
      (λ e. (0, (omega arith, sym e)))
      (λ n. let r = in_get_or l d n in (suc r.0, (omega (arith, r.1.0), r.1.1)))

  -- in a list without repetition different places have different elements
  pub distinct_places : (l : List A) (d : A) → Distinct l → (i j : ℕ) → i < length l → j < length l → get_or l i d ≡ get_or l j d → i ≡ j
  distinct_places [] d s i j a b e = absurd (omega arith)
  distinct_places (x ∷ l) d s zero zero a b e = refl
  distinct_places (x ∷ l) d s zero (suc j) a b e = absurd (s.0 (rw e (get_or_in l j d (omega arith))))
  distinct_places (x ∷ l) d s (suc i) zero a b e = absurd (s.0 (rw (sym e) (get_or_in l i d (omega arith))))
  distinct_places (x ∷ l) d s (suc i) (suc j) a b e = ap suc (distinct_places l d s.1 i j (omega arith) (omega arith) e)

  -- where an element of a list stands, what is before and after it
  pub record Split (x : A) (l : List A) : Type 0 where
    pub pre : List A
    pub post : List A
    pub split : l ≡ pre ++ (x ∷ post)

  pub split_at : {x : A} (l : List A) → Memᴰ x l → Split x l
  split_at [] m = absurd (Memᴰ.not-nil m)
  split_at (y ∷ l) m =
      by_mem m
      (λ e. record { pre = []; post = l; split = ap (λ (z : A). z ∷ l) (sym e) })
      (λ n. let r = split_at l n in record { pre = y ∷ r.pre; post = r.post; split = ap (λ (t : List A). y ∷ t) r.split })

  -- a list without repetition is no longer than one that has its members
  pub distinct_most : (l m : List A) → Distinct l → ((x : A) → Memᴰ x l → Memᴰ x m) → length l ≤ length m
  distinct_most [] m d f = omega arith
  distinct_most (x ∷ l) m d f =
      let r = split_at m (f x (Memᴰ.head refl)) in
      let ih : length l ≤ length (r.pre ++ r.post) = distinct_most l (r.pre ++ r.post) d.1 (λ y n.
      by_append r.pre (rw r.split at (f y (Memᴰ.tail n)))
      (λ k. Memᴰ.append_left r.post k)
      (λ k. by_mem k (λ e. absurd (d.0 (rw e at n))) (λ p. Memᴰ.append_right r.pre p))) in
      omega (arith, ap length r.split, length-append r.pre (x ∷ r.post), length-append r.pre r.post)

  -- two lists without repetition with the same members are equally long
  pub distinct_equal : (l m : List A) → Distinct l → Distinct m
      → ((x : A) → Memᴰ x l → Memᴰ x m) → ((x : A) → Memᴰ x m → Memᴰ x l)
      → length l ≡ length m
  distinct_equal l m d e f g = omega (arith, distinct_most l m d f, distinct_most m l e g)

  pub distinct_append : (l m : List A) → Distinct l → Distinct m → ((x : A) → Memᴰ x l → Memᴰ x m → ⊥) → Distinct (l ++ m)
  distinct_append [] m d e f = e
  distinct_append (x ∷ l) m d e f = (
    λ n. by_append l n (λ k. d.0 k) (λ k. f x (Memᴰ.head refl) k),
    distinct_append l m d.1 e (λ y a b. f y (Memᴰ.tail a) b),
  )

module _ {A B : Type 0} where
  -- different elements have different images
  pub distinct_map : (f : A → B) (l : List A) → Distinct l
      → ((x y : A) → Memᴰ x l → Memᴰ y l → f x ≡ f y → x ≡ y) → Distinct (map f l)
  distinct_map f [] d i = tt
  distinct_map f (x ∷ l) d i = (
    λ m. let r = map_out f l m in d.0 (rw (i x r.0 (Memᴰ.head refl) (Memᴰ.tail r.1) r.2) r.1),
    distinct_map f l d.1 (λ y z m n. i y z (Memᴰ.tail m) (Memᴰ.tail n)),
  )

  -- lists with equal images are equal, where equal images come from equal elements
  pub map_one_to_one : (f : A → B) (l m : List A)
      → ((x y : A) → Memᴰ x l → Memᴰ y m → f x ≡ f y → x ≡ y) → map f l ≡ map f m → l ≡ m
  map_one_to_one f [] [] i e = refl
  map_one_to_one f [] (y ∷ m) i e = absurd (nil≢cons e)
  map_one_to_one f (x ∷ l) [] i e = absurd (cons≢nil e)
  map_one_to_one f (x ∷ l) (y ∷ m) i e =
      let h : x ≡ y = i x y (Memᴰ.head refl) (Memᴰ.head refl) (head-eq_of_cons-eq e) in
      let t : l ≡ m = map_one_to_one f l m (λ u v a b. i u v (Memᴰ.tail a) (Memᴰ.tail b)) (tail-eq_of_cons-eq e) in
      cc

  -- pieces without repetition, no two of which share an element
  pub distinct_flat : (f : A → List B) (l : List A) → Distinct l → ((x : A) → Memᴰ x l → Distinct (f x))
      → ((x y : A) (z : B) → Memᴰ x l → Memᴰ y l → Memᴰ z (f x) → Memᴰ z (f y) → x ≡ y) → Distinct (flat_map f l)
  unfolding flat_map
  distinct_flat f [] d p i = tt
  distinct_flat f (x ∷ l) d p i =
      distinct_append (f x) (flat_map f l) (p x (Memᴰ.head refl))
      (distinct_flat f l d.1 (λ y m. p y (Memᴰ.tail m)) (λ y z w m n. i y z w (Memᴰ.tail m) (Memᴰ.tail n)))
      (λ z a b. let r = flat_out f l b in d.0 (rw (i x r.0 z (Memᴰ.head refl) (Memᴰ.tail r.1) a r.2) r.1))
