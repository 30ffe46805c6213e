-- Another order changes neither the length nor the entries, by induction on the reordering.
-- Tests of all or of some entries depend on the entries only.
use Rattle.std.proofs.Common.{◌≡◌, refl, sym, ap, ◌∙◌, Bool, List, [], ◌∷◌, suc, length}
use mathlib.Core.List.Memᴰ
use mathlib.Core.List.{Memᴰ}
use Rattle.lists.specs.Lists.{all_of, any_of}
use Rattle.lists.specs.Reorder.{Reordered, nothing, one_more, exchanged, in_turn}
use Rattle.lists.specs.Reorder.{Alike, Permuted, SameMembers, ReorderedTerms, SameTerms}
use Rattle.lists.proofs.Cases.{by_mem, test_same}
use Rattle.lists.proofs.ListLaws.{all_in, all_of_lem, any_in, any_out}

module _ {A : Type 0} {R : A → A → Type 0} where
  pub reordered_length : {l m : List A} → Reordered R l m → length l ≡ length m
  reordered_length nothing = refl
  reordered_length (one_more r d) = ap suc (reordered_length d)
  reordered_length (exchanged r s) = refl
  reordered_length (in_turn d e) = reordered_length d ∙ reordered_length e

  module _ (same : (x : A) → R x x) (next : (x y z : A) → R x y → R y z → R x z) where
    reordered_there : {l m : List A} → Reordered R l m → (x : A) → Memᴰ x l → (y : A) × (Memᴰ y m × R x y)
    reordered_there nothing x i = absurd (Memᴰ.not-nil i)
    reordered_there (one_more {y = b} r d) x i =
        by_mem i
        (λ e. (b, (Memᴰ.head refl, rw e r)))
        (λ n. let k = reordered_there d x n in (k.0, (Memᴰ.tail k.1.0, k.1.1)))
    reordered_there (exchanged {v = v} {w = w} r s) x i =
        by_mem i
        (λ e. (w, (Memᴰ.tail (Memᴰ.head refl), rw e r)))
        (λ n. by_mem n
        (λ e. (v, (Memᴰ.head refl, rw e s)))
        (λ k. (x, (Memᴰ.tail (Memᴰ.tail k), same x))))
    reordered_there (in_turn d e) x i =
        let k = reordered_there d x i in
        let j = reordered_there e k.0 k.1.0 in
        (j.0, (j.1.0, next x k.0 j.0 k.1.1 j.1.1))

    reordered_back : {l m : List A} → Reordered R l m → (y : A) → Memᴰ y m → (x : A) × (Memᴰ x l × R x y)
    reordered_back nothing y i = absurd (Memᴰ.not-nil i)
    reordered_back (one_more {x = a} r d) y i =
        by_mem i
        (λ e. (a, (Memᴰ.head refl, rw e r)))
        (λ n. let k = reordered_back d y n in (k.0, (Memᴰ.tail k.1.0, k.1.1)))
    reordered_back (exchanged {x = a} {y = b} r s) y i =
        by_mem i
        (λ e. (b, (Memᴰ.tail (Memᴰ.head refl), rw e s)))
        (λ n. by_mem n
        (λ e. (a, (Memᴰ.head refl, rw e r)))
        (λ k. (y, (Memᴰ.tail (Memᴰ.tail k), same y))))
    reordered_back (in_turn d e) y i =
        let k = reordered_back e y i in
        let j = reordered_back d k.0 k.1.0 in
        (j.0, (j.1.0, next j.0 k.0 y j.1.1 k.1.1))

    -- another order has the same entries
    pub reordered_alike : {l m : List A} → Reordered R l m → Alike R l m
    reordered_alike d = record { there = reordered_there d; back = reordered_back d }

  reordered_same : ((x : A) → R x x) → (l : List A) → Reordered R l l
  reordered_same same [] = nothing
  reordered_same same (x ∷ l) = one_more (same x) (reordered_same same l)

  -- entries that are alike in one respect are so in a weaker one
  alike_by : {Q : A → A → Type 0} → ((x y : A) → R x y → Q x y) → {l m : List A} → Alike R l m → Alike Q l m
  alike_by f a = record {
    there = λ x i. let k = a.there x i in (k.0, (k.1.0, f x k.0 k.1.1));
    back = λ y i. let k = a.back y i in (k.0, (k.1.0, f k.0 y k.1.1));
  }

  -- a test that gives the same for entries that R allows gives the same for all of them, and for some
  module _ (p : A → Bool) (f : (x y : A) → R x y → p x ≡ p y) {l m : List A} (a : Alike R l m) where
    pub all_alike : all_of p l ≡ all_of p m
    all_alike =
        test_same
        (λ h. all_of_lem p m (λ y i. let k = a.back y i in sym (f k.0 y k.1.1) ∙ all_in p l h k.1.0))
        (λ h. all_of_lem p l (λ x i. let k = a.there x i in f x k.0 k.1.1 ∙ all_in p m h k.1.0))

    pub any_alike : any_of p l ≡ any_of p m
    any_alike =
        test_same
        (λ h. let o = any_out p l h in let k = a.there o.0 o.1 in any_in p m k.1.0 (sym (f o.0 k.0 k.1.1) ∙ o.2))
        (λ h. let o = any_out p m h in let k = a.back o.0 o.1 in any_in p l k.1.0 (f k.0 o.0 k.1.1 ∙ o.2))

module _ {A : Type 0} where
  pub permuted_members : {l m : List A} → Permuted l m → SameMembers l m
  permuted_members d = reordered_alike (λ x. refl) (λ x y z e f. e ∙ f) d

  -- lists of terms in another order have the same terms
  pub reordered_terms : {l m : List (List A)} → ReorderedTerms l m → Alike Permuted l m
  reordered_terms d = reordered_alike (λ t. reordered_same (λ x. refl) t) (λ t u v e f. in_turn e f) d

  pub reordered_sets : {l m : List (List A)} → ReorderedTerms l m → SameTerms l m
  reordered_sets d = alike_by (λ t u. permuted_members) (reordered_terms d)

  -- "some term, all of its entries" depends on the set of sets only
  pub terms_alike : (p : A → Bool) {l m : List (List A)} → SameTerms l m → any_of (all_of p) l ≡ any_of (all_of p) m
  terms_alike p a = any_alike (all_of p) (λ t u s. all_alike p (λ x y e. ap p e) s) a
