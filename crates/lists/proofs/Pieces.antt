-- Lists made of pieces: what stands at a place of pieces joined, and pieces over a range. By induction on the list.
use Rattle.std.proofs.Common.{◌≡◌, refl, sym, ap, ◌∙◌, List, [], ◌∷◌, ◌++◌, append_assoc, append-nil, ℕ, zero, suc, ◌+◌, ◌*◌, ◌-◌}
use Rattle.std.proofs.Common.{◌≤◌, ◌<◌, arith, mul-suc, mul-zero, suc-mul, length, get_or, length-append, get_or-append-add}
use Rattle.std.proofs.Math.Logic.{by_cases}
use mathlib.Core.List.{Memᴰ}
use Rattle.std.proofs.Math.Decide.{dec_lt}
use Rattle.std.proofs.Math.ListN.{get_or-append}
pub use Rattle.std.proofs.lemmas.List.{get_or-map as get_or_map}
use Rattle.lists.specs.Lists.{flat_map, up_from, range}
use Rattle.lists.proofs.Pointwise.{up_append}

-- what stands at a place of a range
pub up_at : (a k i d : ℕ) → i < k → get_or (up_from a k) i d ≡ a + i
unfolding up_from
up_at a zero i d h = absurd (omega arith)
up_at a (suc k) zero d h = omega arith
up_at a (suc k) (suc i) d h = up_at (suc a) k i d (omega arith) ∙ omega arith

-- the pieces of lists joined
module _ {A B : Type 0} where
  pub flat_append : (f : A → List B) (l m : List A) → flat_map f (l ++ m) ≡ flat_map f l ++ flat_map f m
  unfolding flat_map
  flat_append f [] m = refl
  flat_append f (x ∷ l) m = rw (flat_append f l m) (sym (append_assoc (f x) (flat_map f l) (flat_map f m)))

  pub flat_one : (f : A → List B) (x : A) → flat_map f (x ∷ []) ≡ f x
  unfolding flat_map
  flat_one f x = append-nil (f x)

  pub flat_snoc : (f : A → List B) (l : List A) (x : A) → flat_map f (l ++ (x ∷ [])) ≡ flat_map f l ++ f x
  flat_snoc f l x = flat_append f l (x ∷ []) ∙ ap (λ (m : List B). flat_map f l ++ m) (flat_one f x)

  -- pieces of k elements each: so many in all, and element k·i + j is element j of piece i
  module _ (f : A → List B) (k : ℕ) where
    abbrev pub Sized : List A → Type 0
    Sized l = (x : A) → Memᴰ x l → length (f x) ≡ k

    pub pieces_length : (l : List A) → Sized l → length (flat_map f l) ≡ k * length l
    unfolding flat_map
    pieces_length [] s = sym (mul-zero k)
    pieces_length (x ∷ l) s =
        omega (
          arith,
          length-append (f x) (flat_map f l),
          s x (Memᴰ.head refl),
          pieces_length l (λ y m. s y (Memᴰ.tail m)),
          mul-suc k (length l),
        )

    pub pieces_at : (l : List A) → Sized l → (i j : ℕ) (d : A) (e : B) → i < length l → j < k
        → get_or (flat_map f l) (k * i + j) e ≡ get_or (f (get_or l i d)) j e
    unfolding flat_map
    pieces_at [] s i j d e h g = absurd (omega arith)
    pieces_at (x ∷ l) s zero j d e h g =
        let z : k * 0 + j ≡ j = omega (arith, mul-zero k) in
        rw z (get_or-append (f x) (flat_map f l) e j (omega (arith, s x (Memᴰ.head refl))))
    pieces_at (x ∷ l) s (suc i) j d e h g =
        let z : k * suc i + j ≡ length (f x) + (k * i + j) = omega (arith, mul-suc k i, s x (Memᴰ.head refl)) in
        rw z (get_or-append-add (f x) (flat_map f l) (k * i + j) e ∙ pieces_at l (λ y m. s y (Memᴰ.tail m)) i j d e (omega arith) g)

-- pieces over a range
pub range_suc : (n : ℕ) → range (suc n) ≡ range n ++ (n ∷ [])
unfolding range up_from
range_suc n =
    let e : suc n ≡ n + 1 = omega arith in
    ap (up_from 0) e ∙ up_append 0 n 1 ∙ ap (λ (k : ℕ). up_from 0 n ++ (k ∷ [])) (omega arith)

module _ {B : Type 0} (f : ℕ → List B) where
  -- the pieces before piece n
  pub flat_suc : (n : ℕ) → flat_map f (range (suc n)) ≡ flat_map f (range n) ++ f n
  flat_suc n = ap (flat_map f) (range_suc n) ∙ flat_snoc f (range n) n

  pub flat_step : (n : ℕ) → length (flat_map f (range (suc n))) ≡ length (flat_map f (range n)) + length (f n)
  flat_step n = ap length (flat_suc n) ∙ length-append (flat_map f (range n)) (f n)

  pub flat_none : length (flat_map f (range 0)) ≡ 0
  unfolding range up_from flat_map
  flat_none = refl

  pub flat_most : (u n : ℕ) → u ≤ n → length (flat_map f (range u)) ≤ length (flat_map f (range n))
  flat_most u zero h = let e : u ≡ 0 = omega arith in rw e (omega arith)
  flat_most u (suc n) h =
      by_cases (dec_lt u (suc n))
      (λ l. omega (arith, flat_most u n (omega arith), flat_step n))
      (λ l. let e : u ≡ suc n = omega arith in rw e (omega arith))

  -- at most c elements in each of the first n pieces; in one of them none
  pub flat_bound : (c n : ℕ) → ((u : ℕ) → u < n → length (f u) ≤ c) → length (flat_map f (range n)) ≤ n * c
  flat_bound c zero h = omega (arith, flat_none)
  flat_bound c (suc n) h = omega (arith, flat_step n, h n (omega arith), flat_bound c n (λ u l. h u (omega arith)), suc-mul n c)

  pub flat_skip : (c n u : ℕ) → ((v : ℕ) → v < n → length (f v) ≤ c) → u < n → length (f u) ≡ 0
      → length (flat_map f (range n)) ≤ (n - 1) * c
  flat_skip c zero u h l z = absurd (omega arith)
  flat_skip c (suc zero) u h l z =
      let e : u ≡ 0 = omega arith in
      omega (arith, flat_step 0, flat_none, ap (λ (k : ℕ). length (f k)) (sym e))
  flat_skip c (suc (suc n)) u h l z =
      let e : suc (suc n) - 1 ≡ suc n = omega arith in
      let k : suc n - 1 ≡ n = omega arith in
      by_cases (dec_lt u (suc n))
      (λ q.
      let i : length (flat_map f (range (suc n))) ≤ n * c = rw k at (flat_skip c (suc n) u (λ v g. h v (omega arith)) q z) in
      rw e (omega (arith, flat_step (suc n), h (suc n) (omega arith), i, suc-mul n c)))
      (λ q.
      let y : u ≡ suc n = omega arith in
      rw e (omega (
        arith,
        flat_step (suc n),
        ap (λ (j : ℕ). length (f j)) (sym y),
        flat_bound c (suc n) (λ v g. h v (omega arith)),
      )))

  -- element i of piece u
  pub flat_at : (n u i : ℕ) (d : B) → u < n → i < length (f u)
      → get_or (flat_map f (range n)) (length (flat_map f (range u)) + i) d ≡ get_or (f u) i d
  flat_at zero u i d h l = absurd (omega arith)
  flat_at (suc n) u i d h l =
      by_cases (dec_lt u n)
      (λ q.
      let s : length (flat_map f (range u)) + i < length (flat_map f (range n)) = omega (arith, flat_most (suc u) n q, flat_step u) in
      rw (flat_suc n) (get_or-append (flat_map f (range n)) (f n) d _ s ∙ flat_at n u i d q l))
      (λ q. let e : u ≡ n = omega arith in rw (e, flat_suc n) (get_or-append-add (flat_map f (range n)) (f n) i d))

  -- the piece that an element stands in
  pub record Within (n i : ℕ) : Type 0 where
    pub piece : ℕ
    pub small : piece < n
    pub from : length (flat_map f (range piece)) ≤ i
    pub below : i < length (flat_map f (range (suc piece)))

  pub flat_within : (n i : ℕ) → i < length (flat_map f (range n)) → Within n i
  flat_within zero i h = absurd (omega (arith, flat_none))
  flat_within (suc n) i h =
      by_cases (dec_lt i (length (flat_map f (range n))))
      (λ q. let r = flat_within n i q in record { piece = r.piece; small = omega (arith, r.small); from = r.from; below = r.below })
      (λ q. record { piece = n; small = omega arith; from = omega arith; below = h })

-- pieces equally long, one by one
pub flat_lengths : {B C : Type 0} (f : ℕ → List B) (g : ℕ → List C) (n : ℕ) → ((u : ℕ) → u < n → length (f u) ≡ length (g u))
    → length (flat_map f (range n)) ≡ length (flat_map g (range n))
flat_lengths f g zero h = flat_none f ∙ sym (flat_none g)
flat_lengths f g (suc n) h = omega (arith, flat_step f n, flat_step g n, flat_lengths f g n (λ u l. h u (omega arith)), h n (omega arith))
