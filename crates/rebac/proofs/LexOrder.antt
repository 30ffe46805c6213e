-- The order of lists of numbers and word order are irreflexive and transitive: by induction on the lists.
use Rattle.std.proofs.Common.{◌≡◌, refl, sym, ◌∙◌, ◌⊎◌, inl, inr, ⊎_elim, Bool, true, false, ◌&&◌, ◌||◌, List, [], ◌∷◌}
use Rattle.std.proofs.Common.{map, ℕ, ◌<◌, arith, ltb, eqb, length, ltb-true, lt-ltb, le-ltb, eqb-true, eq-eqb}
use Rattle.lists.specs.Lists.{flat_map}
use Rattle.lists.specs.Order.{Ascending}
use Rattle.lists.proofs.Cases.{clash, and_left, and_right, or_true}
use Rattle.lists.proofs.ListLaws.{flat_out, map_out}
use Rattle.lists.proofs.OrderLaws.{ascending_append}
use Rattle.rebac.specs.Words.{Word, lex_less, before}

-- a comparison by a number first and then by a second test
or_cases : (b c : Bool) → (b || c) ≡ true → (b ≡ true) ⊎ (c ≡ true)
or_cases true c e = inl refl
or_cases false c e = inr e

pub by_first : (a b : ℕ) (c : Bool) → (ltb a b || (eqb a b && c)) ≡ true → (a < b) ⊎ ((a ≡ b) × (c ≡ true))
by_first a b c e =
    ⊎_elim
    (λ (h : ltb a b ≡ true). inl (ltb-true a b h))
    (λ (h : (eqb a b && c) ≡ true). inr (eqb-true a b (and_left (eqb a b) c h), and_right (eqb a b) c h))
    (or_cases (ltb a b) (eqb a b && c) e)

pub first_lower : (a b : ℕ) (c : Bool) → a < b → (ltb a b || (eqb a b && c)) ≡ true
first_lower a b c h = rw (lt-ltb a b h)

pub first_same : (a b : ℕ) (c : Bool) → a ≡ b → c ≡ true → (ltb a b || (eqb a b && c)) ≡ true
first_same a b c h k = rw (eq-eqb a b h, k) (or_true (ltb a b) refl)

same_false : (a : ℕ) (c : Bool) → c ≡ false → (ltb a a || (eqb a a && c)) ≡ false
same_false a c k = rw (le-ltb a a (omega arith), eq-eqb a a refl, k)

two_steps : (a b c : ℕ) (x y z : Bool) → (x ≡ true → y ≡ true → z ≡ true) → (ltb a b || (eqb a b && x)) ≡ true
    → (ltb b c || (eqb b c && y)) ≡ true → (ltb a c || (eqb a c && z)) ≡ true
two_steps a b c x y z f h k =
    ⊎_elim
    (λ (p : a < b). ⊎_elim
    (λ (q : b < c). first_lower a c z (omega arith))
    (λ (q : (b ≡ c) × (y ≡ true)). first_lower a c z (omega (arith, q.0)))
    (by_first b c y k))
    (λ (p : (a ≡ b) × (x ≡ true)). ⊎_elim
    (λ (q : b < c). first_lower a c z (omega (arith, p.0)))
    (λ (q : (b ≡ c) × (y ≡ true)). first_same a c z (p.0 ∙ q.0) (f p.1 q.1))
    (by_first b c y k))
    (by_first a b x h)

pub lex_irreflexive : (w : List ℕ) → lex_less w w ≡ false
unfolding lex_less
lex_irreflexive [] = refl
lex_irreflexive (s ∷ w) = same_false s (lex_less w w) (lex_irreflexive w)

pub lex_transitive : (u v w : List ℕ) → lex_less u v ≡ true → lex_less v w ≡ true → lex_less u w ≡ true
unfolding lex_less
lex_transitive [] [] w h k = k
lex_transitive [] (y ∷ v) [] h k = k
lex_transitive [] (y ∷ v) (z ∷ w) h k = refl
lex_transitive (x ∷ u) [] w h k = clash (sym h)
lex_transitive (x ∷ u) (y ∷ v) [] h k = k
lex_transitive (x ∷ u) (y ∷ v) (z ∷ w) h k = two_steps x y z (lex_less u v) (lex_less v w) (lex_less u w) (lex_transitive u v w) h k

pub before_irreflexive : (w : Word) → before w w ≡ false
unfolding before
before_irreflexive w = same_false (length w) (lex_less w w) (lex_irreflexive w)

pub before_transitive : (u v w : Word) → before u v ≡ true → before v w ≡ true → before u w ≡ true
unfolding before
before_transitive u v w = two_steps (length u) (length v) (length w) (lex_less u v) (lex_less v w) (lex_less u w) (lex_transitive u v w)

-- lists that begin with the same number, and lists that begin with numbers in order
pub cons_ascending : (c : ℕ) (l : List (List ℕ)) → Ascending lex_less l → Ascending lex_less (map (λ w. c ∷ w) l)
unfolding lex_less
cons_ascending c [] h = tt
cons_ascending c (w ∷ l) h = (
  λ y n. let r = map_out (λ v. c ∷ v) l n in rw r.2 (first_same c c (lex_less w r.0) refl (h.0 r.0 r.1)),
  cons_ascending c l h.1,
)

pub flat_ascending : (f : ℕ → List (List ℕ)) (al : List ℕ) → Ascending ltb al
    → ((s : ℕ) → Ascending lex_less (f s)) → Ascending lex_less (flat_map (λ s. map (λ w. s ∷ w) (f s)) al)
unfolding flat_map lex_less
flat_ascending f [] ha hf = tt
flat_ascending f (s ∷ al) ha hf =
    ascending_append lex_less (map (λ w. s ∷ w) (f s)) (flat_map (λ s. map (λ w. s ∷ w) (f s)) al)
    (cons_ascending s (f s) (hf s)) (flat_ascending f al ha.1 hf)
    (λ x y m n.
    let a = map_out (λ w. s ∷ w) (f s) m in
    let b = flat_out (λ s. map (λ w. s ∷ w) (f s)) al n in
    let c = map_out (λ w. b.0 ∷ w) (f b.0) b.2 in
    rw (a.2, c.2) (first_lower s b.0 (lex_less a.0 c.0) (ltb-true s b.0 (ha.0 b.0 b.1))))
