-- Following one chain passes exactly where the chain's records are right and new: by induction on the turns, both ways. Assumes nothing.
use Rattle.std.proofs.Common.{◌≡◌, refl, sym, ap, ◌∙◌, Bool, true, false, List, [], ◌∷◌, ◌++◌, append_assoc, append-nil, Result, Ok, Err}
use Rattle.std.proofs.Common.{ℕ, zero, suc, ◌≤◌, ◌<◌, arith, eqb, ltb, eq-eqb, ne_eqb, le-ltb, eqb-true, ltb-false, ltb-true, lt-ltb}
use Rattle.std.proofs.lemmas.Bool.{eqb-false}
use mathlib.Core.List.Memᴰ
use mathlib.Core.List.{Memᴰ}
use Rattle.std.specs.Prelude.{⊤}
use Rattle.house_layout.specs.declared.reply.Refusal.{Refusal}
use Rattle.lists.specs.Lists.{any_of, member}
use Rattle.lists.specs.Order.{Distinct}
use Rattle.lists.proofs.Cases.{by_test, by_mem, both, clash, or_left, or_right, and_false}
use Rattle.house_layout.specs.Layout.{parties_of, labels_of, records_of, record_of}
use Rattle.house_layout.specs.Fields.{foreign, legal_target, legal_kind, opposite}
use Rattle.house_file.specs.Check.{record_check, says, contradicts, Followed, passed, if_accepted, follow_chain}
use Rattle.house_file.specs.Meaning.{chain_from, IsChain}
use Rattle.house_layout.proofs.KindLaws.{opposite_swap, opposite_self}
use Rattle.house_layout.proofs.RecordLaws.{judge_accepts, judge_passed}
use Rattle.house_file.proofs.ChainLaws.{any_more, any_yes, any_no, unlike}

-- a test that no element of a longer list passes
any_left : {A : Type 0} (p : A → Bool) (l : List A) (x : A) → any_of p (l ++ (x ∷ [])) ≡ false → any_of p l ≡ false
any_left p l x e = or_left (any_of p l) (p x) (sym (any_more p l x) ∙ e)

any_last : {A : Type 0} (p : A → Bool) (l : List A) (x : A) → any_of p (l ++ (x ∷ [])) ≡ false → p x ≡ false
any_last p l x e = or_right (any_of p l) (p x) (sym (any_more p l x) ∙ e)

-- the same target and kind
pub says_in : (f : List ℕ) (t k r : ℕ) → (record_of f r).target ≡ t → (record_of f r).kind ≡ k → says f t k r ≡ true
unfolding says
says_in f t k r p q = rw (eq-eqb _ _ p, eq-eqb _ _ q)

pub says_target : (f : List ℕ) (t k r : ℕ) → says f t k r ≡ true → ((record_of f r).target ≡ t) × ((record_of f r).kind ≡ k)
unfolding says
says_target f t k r e =
    by_test (eqb (record_of f r).target t)
    (λ q. (eqb-true _ _ q, eqb-true _ _ (rw q at e)))
    (λ q. clash (sym (rw q at e)))

-- the same target, and kinds that are each other's opposite
agrees : (f : List ℕ) (r s : ℕ) → (record_of f r).target ≡ (record_of f s).target
    → contradicts f (record_of f s).target (record_of f s).kind r ≡ false
    → opposite (labels_of f) (record_of f s).kind (record_of f r).kind ≡ false
unfolding contradicts
agrees f r s t e = rw (eq-eqb (record_of f r).target (record_of f s).target t) at e

agreeing : (f : List ℕ) (r s : ℕ)
    → ((record_of f s).target ≡ (record_of f r).target → opposite (labels_of f) (record_of f s).kind (record_of f r).kind ≡ false)
    → contradicts f (record_of f s).target (record_of f s).kind r ≡ false
unfolding contradicts
agreeing f r s h =
    by_test (eqb (record_of f r).target (record_of f s).target)
    (λ q. and_false (eqb (record_of f r).target (record_of f s).target) (h (sym (eqb-true _ _ q))))
    (λ q. rw q)

-- a chain ends at 0, and at any other number has that record and what follows it
pub chain_end : (f : List ℕ) (k r : ℕ) → r ≡ 0 → chain_from f k r ≡ []
unfolding chain_from
chain_end f zero r e = refl
chain_end f (suc k) r e = rw (eq-eqb r 0 e)

pub chain_step : (f : List ℕ) (k r : ℕ) → (r ≡ 0 → ⊥) → r ≤ records_of f → chain_from f (suc k) r ≡ r ∷ chain_from f k (record_of f r).next
unfolding chain_from
chain_step f k r z l = rw (ne_eqb r 0 z, le-ltb (records_of f) r l)

follow_step : (f : List ℕ) (u k : ℕ) (before earlier : List ℕ) (r : ℕ) → (r ≡ 0 → ⊥) → r ≤ records_of f
    → follow_chain f u (suc k) before earlier r
    ≡ if_accepted (record_check f u before earlier r) (follow_chain f u k before (earlier ++ (r ∷ [])) (record_of f r).next)
unfolding follow_chain
follow_step f u k before earlier r z l = rw (ne_eqb r 0 z, le-ltb (records_of f) r l)

follow_end : (f : List ℕ) (u k : ℕ) (before earlier : List ℕ) (r : ℕ) → r ≡ 0 → follow_chain f u (suc k) before earlier r ≡ passed earlier
unfolding follow_chain
follow_end f u k before earlier r e = rw (eq-eqb r 0 e)

-- the records c from r on are right, after `before` and `earlier`
pub record Right (f : List ℕ) (u : ℕ) (before earlier : List ℕ) (r : ℕ) (c : List ℕ) : Type 0 where
  pub linked : IsChain f r c
  pub owner : (s : ℕ) → Memᴰ s c → foreign u (record_of f s).owner ≡ false
  pub target : (s : ℕ) → Memᴰ s c → legal_target (parties_of f) u (record_of f s).target ≡ true
  pub kind : (s : ℕ) → Memᴰ s c → legal_kind (labels_of f) (record_of f s).kind ≡ true
  pub fresh : (s : ℕ) → Memᴰ s c → member s (before ++ earlier) ≡ false
  pub once : Distinct c
  pub new : (s : ℕ) → Memᴰ s c → any_of (says f (record_of f s).target (record_of f s).kind) earlier ≡ false
  pub different : (s t : ℕ) → Memᴰ s c → Memᴰ t c
      → (record_of f s).target ≡ (record_of f t).target → (record_of f s).kind ≡ (record_of f t).kind → s ≡ t
  pub agreed : (s : ℕ) → Memᴰ s c → any_of (contradicts f (record_of f s).target (record_of f s).kind) earlier ≡ false
  pub consistent : (s t : ℕ) → Memᴰ s c → Memᴰ t c
      → (record_of f s).target ≡ (record_of f t).target → opposite (labels_of f) (record_of f s).kind (record_of f t).kind ≡ false

nothing : {G : Type 0} {s : ℕ} → Memᴰ s [] → G
nothing m = absurd (Memᴰ.not-nil m)

right_end : (f : List ℕ) (u : ℕ) (before earlier : List ℕ) (r : ℕ) → r ≡ 0 → Right f u before earlier r []
right_end f u before earlier r e = record {
  linked = e;
  owner = λ s m. nothing m;
  target = λ s m. nothing m;
  kind = λ s m. nothing m;
  fresh = λ s m. nothing m;
  once = tt;
  new = λ s m. nothing m;
  different = λ s t m n p q. nothing m;
  agreed = λ s m. nothing m;
  consistent = λ s t m n p. nothing m;
}

module _ (f : List ℕ) (u : ℕ) (before earlier : List ℕ) (r : ℕ) (c : List ℕ) (z : r ≡ 0 → ⊥) (l : r ≤ records_of f) where
  moved : (s : ℕ) → member s (before ++ (earlier ++ (r ∷ []))) ≡ member s ((before ++ earlier) ++ (r ∷ []))
  moved s = ap (member s) (sym (append_assoc before earlier (r ∷ [])))

  -- one record more in front
  right_cons : record_check f u before earlier r ≡ Ok tt
      → Right f u before (earlier ++ (r ∷ [])) (record_of f r).next c
      → Right f u before earlier r (r ∷ c)
  unfolding record_check
  right_cons e h =
      let p = judge_passed (parties_of f) (labels_of f) u (record_of f r) _ _ _ e in
      record {
        linked = (refl, (omega (arith, z), (l, h.linked)));
        owner = λ s m. by_mem m (λ q. rw q p.owner) (h.owner s);
        target = λ s m. by_mem m (λ q. rw q p.target) (h.target s);
        kind = λ s m. by_mem m (λ q. rw q p.kind) (h.kind s);
        fresh = λ s m. by_mem m (λ q. rw q p.fresh) (λ n. any_left (eqb s) (before ++ earlier) r (sym (moved s) ∙ h.fresh s n));
        once = (λ m. both (any_yes (eqb r) (before ++ earlier) r (eq-eqb r r refl)) (sym (moved r) ∙ h.fresh r m), h.once);
        new = λ s m. by_mem m
            (λ q. rw q p.new)
            (λ n. any_left (says f (record_of f s).target (record_of f s).kind) earlier r (h.new s n));
        different = λ s t m n a b. by_mem m
            (λ q. by_mem n (λ o. q ∙ sym o)
            (λ n'. both (says_in f _ _ r (rw q at a) (rw q at b))
            (any_last (says f (record_of f t).target (record_of f t).kind) earlier r (h.new t n'))))
            (λ m'. by_mem n
            (λ o. both (says_in f _ _ r (sym (rw o at a)) (sym (rw o at b)))
            (any_last (says f (record_of f s).target (record_of f s).kind) earlier r (h.new s m')))
            (λ n'. h.different s t m' n' a b));
        agreed = λ s m. by_mem m
            (λ q. rw q p.consistent)
            (λ n. any_left (contradicts f (record_of f s).target (record_of f s).kind) earlier r (h.agreed s n));
        consistent = λ s t m n a. by_mem m
            (λ q. by_mem n
            (λ o. rw (q, o) (opposite_self (labels_of f) (record_of f r).kind))
            (λ n'. rw q (opposite_swap (labels_of f) (record_of f r).kind (record_of f t).kind
            ∙ agrees f r t (rw q at a) (any_last (contradicts f (record_of f t).target (record_of f t).kind) earlier r (h.agreed t n')))))
            (λ m'. by_mem n
            (λ o. rw o (agrees f r s (sym (rw o at a))
            (any_last (contradicts f (record_of f s).target (record_of f s).kind) earlier r (h.agreed s m'))))
            (λ n'. h.consistent s t m' n' a));
      }

  -- and off again
  right_tail : Right f u before earlier r (r ∷ c) → Right f u before (earlier ++ (r ∷ [])) (record_of f r).next c
  right_tail h =
      let here : Memᴰ r (r ∷ c) = Memᴰ.head refl in
      let other : (s : ℕ) → Memᴰ s c → s ≡ r → ⊥ = λ s m q. h.once.0 (rw q at m) in
      record {
        linked = h.linked.1.1.1;
        owner = λ s m. h.owner s (Memᴰ.tail m);
        target = λ s m. h.target s (Memᴰ.tail m);
        kind = λ s m. h.kind s (Memᴰ.tail m);
        fresh = λ s m. moved s ∙ any_no (eqb s) (before ++ earlier) r (ne_eqb s r (other s m)) ∙ h.fresh s (Memᴰ.tail m);
        once = h.once.1;
        new = λ s m. by_test (says f (record_of f s).target (record_of f s).kind r)
            (λ q. let w = says_target f _ _ r q in absurd (other s m (sym (h.different r s here (Memᴰ.tail m) w.0 w.1))))
            (λ q. any_no (says f (record_of f s).target (record_of f s).kind) earlier r q ∙ h.new s (Memᴰ.tail m));
        different = λ s t m n a b. h.different s t (Memᴰ.tail m) (Memᴰ.tail n) a b;
        agreed = λ s m.
            any_no (contradicts f (record_of f s).target (record_of f s).kind) earlier r
            (agreeing f r s (h.consistent s r (Memᴰ.tail m) here))
            ∙ h.agreed s (Memᴰ.tail m);
        consistent = λ s t m n. h.consistent s t (Memᴰ.tail m) (Memᴰ.tail n);
      }

  right_accepts : Right f u before earlier r (r ∷ c) → record_check f u before earlier r ≡ Ok tt
  unfolding record_check
  right_accepts h =
      let here : Memᴰ r (r ∷ c) = Memᴰ.head refl in
      judge_accepts (parties_of f) (labels_of f) u (record_of f r) _ _ _
      (h.fresh r here) (h.owner r here) (h.target r here) (h.kind r here) (h.new r here) (h.agreed r here)

-- where following passes, each record was accepted
accepted_passed : (x : Result ⊤ Refusal) (w : Followed) {c : List ℕ} → if_accepted x w ≡ passed c → (x ≡ Ok tt) × (w ≡ passed c)
accepted_passed (Ok _) w e = (refl, e)
accepted_passed (Err y) w e = unlike refl e

pub record Passes (f : List ℕ) (u k : ℕ) (before earlier : List ℕ) (r : ℕ) (c : List ℕ) : Type 0 where
  pub shape : c ≡ earlier ++ chain_from f k r
  pub right : Right f u before earlier r (chain_from f k r)

inside : (f : List ℕ) (u k : ℕ) (before earlier : List ℕ) (r : ℕ) {c : List ℕ}
    → follow_chain f u (suc k) before earlier r ≡ passed c
    → (r ≡ 0 → ⊥) → r ≤ records_of f
unfolding follow_chain
inside f u k before earlier r e z =
    by_test (ltb (records_of f) r) (λ q. unlike refl (rw (ne_eqb r 0 z, q, follow_chain) at e)) (λ q. ltb-false (records_of f) r q)

no_turns : (f : List ℕ) (u : ℕ) (before earlier : List ℕ) (r : ℕ) {c : List ℕ} {G : Type 0}
    → follow_chain f u zero before earlier r ≡ passed c → G
unfolding follow_chain
no_turns f u before earlier r e = unlike refl e

-- where following passed, it ended here or went on over this record
follow_cases : (f : List ℕ) (u k : ℕ) (before earlier : List ℕ) (r : ℕ) (c : List ℕ) → follow_chain f u (suc k) before earlier r ≡ passed c
    → ((z : r ≡ 0 → ⊥) (l : r ≤ records_of f) → record_check f u before earlier r ≡ Ok tt
    → follow_chain f u k before (earlier ++ (r ∷ [])) (record_of f r).next ≡ passed c → Passes f u k before earlier r c)
    → Passes f u k before earlier r c
follow_cases f u k before earlier r c e step =
    by_test (eqb r 0)
    (λ q. let z : r ≡ 0 = eqb-true r 0 q in
    let s : earlier ≡ c = cc (sym (follow_end f u k before earlier r z) ∙ e) in
    record {
      shape = rw (chain_end f k r z) (sym s ∙ sym (append-nil earlier));
      right = rw (chain_end f k r z) (right_end f u before earlier r z);
    })
    (λ q. let z : r ≡ 0 → ⊥ = eqb-false r 0 q in
    let l : r ≤ records_of f = inside f u k before earlier r e z in
    let o =
    accepted_passed (record_check f u before earlier r)
    (follow_chain f u k before (earlier ++ (r ∷ [])) (record_of f r).next)
    (sym (follow_step f u k before earlier r z l) ∙ e) in
    step z l o.0 o.1)

pub follow_passed : (f : List ℕ) (u k : ℕ) (before earlier : List ℕ) (r : ℕ) (c : List ℕ)
    → follow_chain f u (suc k) before earlier r ≡ passed c
    → Passes f u k before earlier r c
follow_passed f u zero before earlier r c e =
    follow_cases f u zero before earlier r c e
    (λ z l a w. no_turns f u before (earlier ++ (r ∷ [])) (record_of f r).next w)
follow_passed f u (suc k) before earlier r c e =
    follow_cases f u (suc k) before earlier r c e (λ z l a w.
    let h = follow_passed f u k before (earlier ++ (r ∷ [])) (record_of f r).next c w in
    record {
      shape = rw (chain_step f k r z l) (h.shape ∙ append_assoc earlier (r ∷ []) (chain_from f k (record_of f r).next));
      right = rw (chain_step f k r z l) (right_cons f u before earlier r (chain_from f k (record_of f r).next) z l a h.right);
    })

-- and back
chain_stop : (f : List ℕ) (k r : ℕ) → records_of f < r → chain_from f (suc k) r ≡ []
unfolding chain_from
chain_stop f k r l = by_test (eqb r 0) (λ q. rw q) (λ q. rw (q, lt-ltb (records_of f) r l))

passed_end : (f : List ℕ) (u k : ℕ) (before earlier : List ℕ) (r : ℕ) → r ≡ 0
    → follow_chain f u (suc k) before earlier r ≡ passed (earlier ++ chain_from f k r)
passed_end f u k before earlier r z = rw (chain_end f k r z) (follow_end f u k before earlier r z ∙ ap passed (sym (append-nil earlier)))

pub passed_follow : (f : List ℕ) (u k : ℕ) (before earlier : List ℕ) (r : ℕ) → Right f u before earlier r (chain_from f k r)
    → follow_chain f u (suc k) before earlier r ≡ passed (earlier ++ chain_from f k r)
unfolding chain_from
passed_follow f u zero before earlier r h = passed_end f u zero before earlier r h.linked
passed_follow f u (suc k) before earlier r h =
    by_test (eqb r 0)
    (λ q. passed_end f u (suc k) before earlier r (eqb-true r 0 q))
    (λ q. by_test (ltb (records_of f) r)
    (λ g.
    let t : Right f u before earlier r [] = rw (chain_stop f k r (ltb-true (records_of f) r g)) at h in
    passed_end f u (suc k) before earlier r t.linked)
    (λ g. let z : r ≡ 0 → ⊥ = eqb-false r 0 q in
    let l : r ≤ records_of f = ltb-false (records_of f) r g in
    let t : Right f u before earlier r (r ∷ chain_from f k (record_of f r).next) = rw (chain_step f k r z l) at h in
    rw (chain_step f k r z l, follow_step f u (suc k) before earlier r z l, right_accepts f u before earlier r _ z l t)
    (passed_follow f u k before (earlier ++ (r ∷ [])) (record_of f r).next (right_tail f u before earlier r _ z l t)
    ∙ ap passed (append_assoc earlier (r ∷ []) (chain_from f k (record_of f r).next)))))
