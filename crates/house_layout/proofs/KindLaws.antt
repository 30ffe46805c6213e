-- Legal kinds, their places in a mask of kinds and their opposites: by what a kind is, a label, 80 plus a label or a permit's.
-- Assumes nothing.
use Rattle.std.proofs.Common.{◌≡◌, refl, sym, ap, ◌∙◌, ◌⊎◌, inl, inr, ⊎_elim, Bool, true, false, ◌&&◌, ◌||◌, ℕ, ◌+◌, ◌-◌, ◌≤◌, ◌<◌, arith}
use Rattle.std.proofs.Common.{eqb, ltb, leb, ltb-true, leb-true, eqb-true, eq-eqb, ne_eqb, lt-ltb, le-ltb, le-leb}
use Rattle.std.proofs.lemmas.Bool.{eqb-false}
use Rattle.lists.proofs.Cases.{by_test, or_true, or_false, and_left, and_right, and_false}
use Rattle.house_layout.specs.Layout.{unknown_from, unknown_kind, permit_kind, LegalKind}
use Rattle.house_layout.specs.Fields.{legal_kind, opposite}
use Rattle.house_layout.specs.promises.Kinds.{permit_bit, unknown_bit, bit_of, opposite_kind}

unknown_cases : (l k : ℕ) → (leb unknown_from k && ltb k (unknown_kind l)) ≡ true → (j : ℕ) × ((j < l) × (k ≡ unknown_kind j))
unknown_cases l k e =
    let low : unknown_from ≤ k = leb-true unknown_from k (and_left (leb unknown_from k) _ e) in
    let high : k < unknown_kind l = ltb-true k (unknown_kind l) (and_right (leb unknown_from k) _ e) in
    (k - unknown_from, (omega arith, omega arith))

-- the test passes the legal kinds
pub kind_cases : (l k : ℕ) → legal_kind l k ≡ true → LegalKind l k
kind_cases l k e =
    by_test (ltb k l) (λ q. inl (ltb-true k l q)) (λ q. inr (
    by_test (leb unknown_from k && ltb k (unknown_kind l)) (λ w. inl (unknown_cases l k w))
    (λ w. inr (eqb-true k permit_kind (rw (q, w) at e)))))

pub label_legal : (l k : ℕ) → k < l → legal_kind l k ≡ true
label_legal l k h = rw (lt-ltb k l h)

pub unknown_legal : (l j : ℕ) → j < l → legal_kind l (unknown_kind j) ≡ true
unknown_legal l j h =
    or_true (ltb (unknown_kind j) l)
    (rw (le-leb unknown_from (unknown_kind j) (omega arith), lt-ltb (unknown_kind j) (unknown_kind l) (omega arith)))

pub permit_legal : (l : ℕ) → legal_kind l permit_kind ≡ true
permit_legal l = or_true (ltb permit_kind l) (or_true (leb unknown_from permit_kind && ltb permit_kind (unknown_kind l)) refl)

pub kind_legal : (l k : ℕ) → LegalKind l k → legal_kind l k ≡ true
kind_legal l k s =
    ⊎_elim (λ h. label_legal l k h) (λ t. ⊎_elim (λ j. rw j.1.1 (unknown_legal l j.0 j.1.0)) (λ e. rw e (permit_legal l)) t) s

-- of kinds that are not 80 plus a label the test passes a label and a permit's, and none is another's opposite
pub known_legal : (l k : ℕ) → ((j : ℕ) → j < l → k ≡ unknown_kind j → ⊥) → legal_kind l k ≡ (ltb k l || eqb k permit_kind)
known_legal l k h =
    by_test (leb unknown_from k && ltb k (unknown_kind l))
    (λ w. let j = unknown_cases l k w in absurd (h j.0 j.1.0 j.1.1))
    (λ w. rw w refl)

-- a kind's place in a mask of kinds
pub bit_label : (k : ℕ) → k < unknown_from → bit_of k ≡ k
bit_label k h = rw (ne_eqb k permit_kind (omega arith), lt-ltb k unknown_from h)

pub bit_unknown : (j : ℕ) → j < 8 → bit_of (unknown_kind j) ≡ unknown_bit + j
bit_unknown j h = rw (ne_eqb (unknown_kind j) permit_kind (omega arith), le-ltb (unknown_kind j) unknown_from (omega arith)) (omega arith)

-- what a legal kind is, with its place
data KindIs (l k : ℕ) : Type 0 where
  label : k < l → bit_of k ≡ k → KindIs l k
  unknown : (j : ℕ) → j < l → k ≡ unknown_kind j → bit_of k ≡ unknown_bit + j → KindIs l k
  permit : k ≡ permit_kind → bit_of k ≡ permit_bit → KindIs l k

module _ (l : ℕ) (bounded : l ≤ 8) where
  kind_is : (k : ℕ) → legal_kind l k ≡ true → KindIs l k
  kind_is k e =
      ⊎_elim (λ h. label h (bit_label k (omega arith)))
      (λ t. ⊎_elim
      (λ j. unknown j.0 j.1.0 j.1.1 (rw j.1.1 (bit_unknown j.0 (omega (arith, j.1.0)))))
      (λ q. permit q (rw q)) t)
      (kind_cases l k e)

  pub kind_small : (k : ℕ) → legal_kind l k ≡ true → k < 256
  kind_small k e = go (kind_is k e)
    where
      go : KindIs l k → k < 256
      go (label h p) = omega arith
      go (unknown j h q p) = omega arith
      go (permit q p) = omega arith

  pub bit_small : (k : ℕ) → legal_kind l k ≡ true → bit_of k < 32
  bit_small k e = go (kind_is k e)
    where
      go : KindIs l k → bit_of k < 32
      go (label h p) = omega arith
      go (unknown j h q p) = omega arith
      go (permit q p) = omega arith

  -- different kinds have different places
  pub bit_apart : (k m : ℕ) → legal_kind l k ≡ true → legal_kind l m ≡ true → bit_of k ≡ bit_of m → k ≡ m
  bit_apart k m ek em e = go (kind_is k ek) (kind_is m em)
    where
      go : KindIs l k → KindIs l m → k ≡ m
      go (label h p) (label i q) = omega arith
      go (label h p) (unknown j i r q) = absurd (omega arith)
      go (label h p) (permit r q) = absurd (omega arith)
      go (unknown j h o p) (label i q) = absurd (omega arith)
      go (unknown j h o p) (unknown g i r q) = omega arith
      go (unknown j h o p) (permit r q) = absurd (omega arith)
      go (permit o p) (label i q) = absurd (omega arith)
      go (permit o p) (unknown j i r q) = absurd (omega arith)
      go (permit o p) (permit r q) = o ∙ sym r

  -- a label and 80 plus it are each other's opposite; a permit has none
  pub opposite_legal : (k : ℕ) → legal_kind l k ≡ true → (k ≡ permit_kind → ⊥) → legal_kind l (opposite_kind k) ≡ true
  opposite_legal k e ne =
      ⊎_elim (λ h. rw (lt-ltb k unknown_from (omega arith)) (unknown_legal l k h))
      (λ t. ⊎_elim
      (λ j. let q : k - unknown_from ≡ j.0 = omega (arith, j.1.1) in
      rw (le-ltb k unknown_from (omega (arith, j.1.1)), q) (label_legal l j.0 j.1.0))
      (λ q. absurd (ne q)) t)
      (kind_cases l k e)

  pub opposite_is : (k m : ℕ) → legal_kind l k ≡ true → (k ≡ permit_kind → ⊥) → opposite l k m ≡ eqb m (opposite_kind k)
  opposite_is k m e ne =
      ⊎_elim
      (λ h. rw (lt-ltb k l h, lt-ltb k unknown_from (omega arith), ne_eqb k (unknown_kind m) (omega arith))
      (ap (λ (b : Bool). eqb m (unknown_kind k) || b) (and_false (ltb m l) refl) ∙ or_false (eqb m (unknown_kind k))))
      (λ t. ⊎_elim
      (λ j. let q : k - unknown_from ≡ j.0 = omega (arith, j.1.1) in
      rw (le-ltb k l (omega (arith, j.1.1)), le-ltb k unknown_from (omega (arith, j.1.1)), q)
      (by_test (eqb m j.0)
      (λ w. let z : m ≡ j.0 = eqb-true m j.0 w in
      rw (w, lt-ltb m l (omega (arith, j.1.0)), eq-eqb k (unknown_kind m) (omega (arith, j.1.1))))
      (λ w. rw (w, ne_eqb k (unknown_kind m) (λ z. eqb-false m j.0 w (omega (arith, j.1.1)))) (and_false (ltb m l) refl))))
      (λ q. absurd (ne q)) t)
      (kind_cases l k e)

  pub permit_opposite : (m : ℕ) → opposite l permit_kind m ≡ false
  permit_opposite m =
      rw (le-ltb permit_kind l (omega arith))
      (by_test (ltb m l)
      (λ w. let z : m < l = ltb-true m l w in rw (w, ne_eqb permit_kind (unknown_kind m) (omega arith)))
      (λ w. rw w))

-- two kinds that are each other's opposite, in plain terms
pub opposite_out : (l j k : ℕ) → opposite l j k ≡ true → ((j < l) × (k ≡ unknown_kind j)) ⊎ ((k < l) × (j ≡ unknown_kind k))
opposite_out l j k e =
    by_test (ltb j l && eqb k (unknown_kind j))
    (λ q. inl (ltb-true j l (and_left (ltb j l) _ q), eqb-true k (unknown_kind j) (and_right (ltb j l) _ q)))
    (λ q. let r : (ltb k l && eqb j (unknown_kind k)) ≡ true = rw q at e in
    inr (ltb-true k l (and_left (ltb k l) _ r), eqb-true j (unknown_kind k) (and_right (ltb k l) _ r)))

pub opposite_in : (l j k : ℕ) → j < l → k ≡ unknown_kind j → opposite l j k ≡ true
opposite_in l j k h e = rw (lt-ltb j l h, eq-eqb k (unknown_kind j) e)

pub known_opposite : (l j k : ℕ) → ((x : ℕ) → x < l → j ≡ unknown_kind x → ⊥) → ((x : ℕ) → x < l → k ≡ unknown_kind x → ⊥)
    → opposite l j k ≡ false
known_opposite l j k h i =
    by_test (opposite l j k) (λ e. ⊎_elim (λ t. absurd (i j t.0 t.1)) (λ t. absurd (h k t.0 t.1)) (opposite_out l j k e)) (λ e. e)

pub opposite_swap : (l j k : ℕ) → opposite l j k ≡ opposite l k j
opposite_swap l j k = or_swap (ltb j l && eqb k (unknown_kind j)) (ltb k l && eqb j (unknown_kind k))
  where
    or_swap : (a b : Bool) → (a || b) ≡ (b || a)
    or_swap true b = sym (or_true b refl)
    or_swap false b = sym (or_false b)

pub opposite_self : (l j : ℕ) → opposite l j j ≡ false
opposite_self l j = rw (ne_eqb j (unknown_kind j) (omega arith), and_false (ltb j l) refl)
