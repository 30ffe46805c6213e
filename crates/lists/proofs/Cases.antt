-- Proofs by cases that hand the outcome over as an equation. Assumes nothing.
use Rattle.std.proofs.Common.{◌≡◌, refl, sym, ◌∙◌, ⊎_elim, Bool, true, false, ◌&&◌, ◌||◌, true≢false, List, [], ◌∷◌, ◌++◌}
use mathlib.Core.List.Memᴰ
use mathlib.Core.List.{Memᴰ}
use Rattle.std.proofs.Math.Option.{Option, none, some}

-- by the two outcomes of a test
pub by_test : {G : Type 0} (b : Bool) → (b ≡ true → G) → (b ≡ false → G) → G
by_test true f g = f refl
by_test false f g = g refl

-- by what a search gave
pub by_found : {G A : Type 0} (o : Option A) → (o ≡ none → G) → ((x : A) → o ≡ some x → G) → G
by_found none f g = f refl
by_found (some x) f g = g x refl

-- by where an element of y ∷ ys stands
pub by_mem : {G A : Type 0} {x y : A} {ys : List A} → Memᴰ x (y ∷ ys) → (x ≡ y → G) → (Memᴰ x ys → G) → G
by_mem m f g = ⊎_elim f g (Memᴰ.cases_cons m)

-- by which of two lists joined an element stands in
pub by_append : {G A : Type 0} {x : A} (l : List A) {m : List A} → Memᴰ x (l ++ m) → (Memᴰ x l → G) → (Memᴰ x m → G) → G
by_append l n f g = ⊎_elim f g (Memᴰ.append_cases l n)

-- the same where the second list is one element
pub by_last : {G A : Type 0} {x y : A} (l : List A) → Memᴰ x (l ++ (y ∷ [])) → (Memᴰ x l → G) → (x ≡ y → G) → G
by_last l n f g = by_append l n f (λ k. by_mem k g (λ j. absurd (Memᴰ.not-nil j)))

pub clash : {G : Type 0} → true ≡ false → G
clash e = absurd (true≢false e)

-- a test that passed did not fail
pub both : {G : Type 0} {b : Bool} → b ≡ true → b ≡ false → G
both t f = clash (sym t ∙ f)

-- two tests that pass together are the same
pub test_same : {b c : Bool} → (b ≡ true → c ≡ true) → (c ≡ true → b ≡ true) → b ≡ c
test_same {b} {c} f g = by_test b (λ e. e ∙ sym (f e)) (λ e. by_test c (λ q. g q ∙ sym q) (λ q. e ∙ sym q))

pub and_false : (b : Bool) {c : Bool} → c ≡ false → (b && c) ≡ false
and_false true e = e
and_false false e = refl

pub or_true : (b : Bool) {c : Bool} → c ≡ true → (b || c) ≡ true
or_true true e = refl
or_true false e = e

pub or_false : (b : Bool) → (b || false) ≡ b
or_false true = refl
or_false false = refl

pub or_left : (b c : Bool) → (b || c) ≡ false → b ≡ false
or_left true c e = e
or_left false c e = refl

pub or_right : (b c : Bool) → (b || c) ≡ false → c ≡ false
or_right true c e = clash e
or_right false c e = e

pub and_left : (b c : Bool) → (b && c) ≡ true → b ≡ true
and_left true c e = refl
and_left false c e = e

pub and_right : (b c : Bool) → (b && c) ≡ true → c ≡ true
and_right true c e = e
and_right false c e = clash (sym e)

pub and_both : {b c : Bool} → b ≡ true → c ≡ true → (b && c) ≡ true
and_both p q = rw (p, q)
