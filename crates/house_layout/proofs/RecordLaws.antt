-- A check's reply by its cases, what an own owner byte and a legal target are, and a record's checks one by one: by the
-- outcome of each test. Assumes nothing.
use Rattle.std.proofs.Common.{◌≡◌, refl, ap, Bool, true, false, not, ℕ, ◌<◌}
use Rattle.std.proofs.Common.{eqb, ltb, Option, Some, None, Result, Ok, Err, ltb-true, eqb-true, eq-eqb, ne_eqb, lt-ltb}
use Rattle.std.proofs.lemmas.Bool.{eqb-false, not-true, not-false}
use Rattle.std.specs.Prelude.{⊤}
use Rattle.lists.proofs.Cases.{by_test, and_left, and_right}
use Rattle.house_layout.specs.Fields.{foreign, legal_target, legal_kind, judge_record}
use Rattle.house_layout.specs.declared.record.Record.{Record}
use Rattle.house_layout.specs.declared.reply.Refusal.{Refusal}
use Rattle.house_layout.specs.declared.reply.Refusal.TheVariants.{Again, Owner, Target, Kind, Repeat, Contrary}

-- by the check's reply
pub by_check : {G : Type 0} (c : Result ⊤ Refusal) → (c ≡ Ok tt → G) → ((x : Refusal) → c ≡ Err x → G) → G
by_check (Ok _) g h = g refl
by_check (Err x) g h = h x refl

-- an owner byte
pub owner_is_own : (u : ℕ) (o : Option ℕ) → foreign u o ≡ false → (p : ℕ) → o ≡ Some p → p ≡ u
owner_is_own u o e p q = eqb-true p u (not-false (eqb p u) (rw q at e))

pub not_foreign : (u : ℕ) (o : Option ℕ) → ((p : ℕ) → o ≡ Some p → p ≡ u) → foreign u o ≡ false
not_foreign u None h = refl
not_foreign u (Some p) h = ap not (eq-eqb p u (h p refl))

-- a target
pub target_below : (n u t : ℕ) → legal_target n u t ≡ true → t < n
target_below n u t e = ltb-true t n (and_left (ltb t n) (not (eqb t u)) e)

pub target_other : (n u t : ℕ) → legal_target n u t ≡ true → t ≡ u → ⊥
target_other n u t e = eqb-false t u (not-true (eqb t u) (and_right (ltb t n) (not (eqb t u)) e))

pub target_legal : (n u t : ℕ) → t < n → (t ≡ u → ⊥) → legal_target n u t ≡ true
target_legal n u t l ne = rw (lt-ltb t n l, ne_eqb t u ne)

-- a record's checks
module _ (n l u : ℕ) (r : Record) where
  abbrev O : Bool
  O = foreign u r.owner

  abbrev T : Bool
  T = legal_target n u r.target

  abbrev K : Bool
  K = legal_kind l r.kind

  pub judge_again : (a p c : Bool) → a ≡ true → judge_record n l u r a p c ≡ Err Again
  unfolding judge_record
  judge_again a p c e = rw e

  pub judge_owner : (a p c : Bool) → a ≡ false → O ≡ true → judge_record n l u r a p c ≡ Err Owner
  unfolding judge_record
  judge_owner a p c e o = rw (e, o)

  pub judge_target : (a p c : Bool) → a ≡ false → O ≡ false → T ≡ false → judge_record n l u r a p c ≡ Err Target
  unfolding judge_record
  judge_target a p c e o t = rw (e, o, t)

  pub judge_kind : (a p c : Bool) → a ≡ false → O ≡ false → T ≡ true → K ≡ false → judge_record n l u r a p c ≡ Err Kind
  unfolding judge_record
  judge_kind a p c e o t k = rw (e, o, t, k)

  pub judge_repeat : (a p c : Bool) → a ≡ false → O ≡ false → T ≡ true → K ≡ true → p ≡ true
      → judge_record n l u r a p c ≡ Err Repeat
  unfolding judge_record
  judge_repeat a p c e o t k q = rw (e, o, t, k, q)

  pub judge_contrary : (a p c : Bool) → a ≡ false → O ≡ false → T ≡ true → K ≡ true → p ≡ false → c ≡ true
      → judge_record n l u r a p c ≡ Err Contrary
  unfolding judge_record
  judge_contrary a p c e o t k q x = rw (e, o, t, k, q, x)

  pub judge_accepts : (a p c : Bool) → a ≡ false → O ≡ false → T ≡ true → K ≡ true → p ≡ false → c ≡ false
      → judge_record n l u r a p c ≡ Ok tt
  unfolding judge_record
  judge_accepts a p c e o t k q x = rw (e, o, t, k, q, x)

  -- an accepted record passed each test
  pub record Passed (a p c : Bool) : Type 0 where
    pub fresh : a ≡ false
    pub owner : O ≡ false
    pub target : T ≡ true
    pub kind : K ≡ true
    pub new : p ≡ false
    pub consistent : c ≡ false

  unlike : {G : Type 0} {x : Refusal} {c : Result ⊤ Refusal} → c ≡ Err x → c ≡ Ok tt → G
  unlike e h = cc

  pub judge_passed : (a p c : Bool) → judge_record n l u r a p c ≡ Ok tt → Passed a p c
  judge_passed a p c h =
      by_test a (λ e. unlike (judge_again a p c e) h) (λ e.
      by_test O (λ o. unlike (judge_owner a p c e o) h) (λ o.
      by_test T (λ t.
      by_test K (λ k.
      by_test p (λ q. unlike (judge_repeat a p c e o t k q) h)
      (λ q.
      by_test c (λ x. unlike (judge_contrary a p c e o t k q x) h)
      (λ x. record { fresh = e; owner = o; target = t; kind = k; new = q; consistent = x })))
      (λ k. unlike (judge_kind a p c e o t k) h))
      (λ t. unlike (judge_target a p c e o t) h)))

  -- the repeat and its like matter for legal targets and kinds only
  pub judge_same : (a b p q c d : Bool) → a ≡ b → (T ≡ true → K ≡ true → (p ≡ q) × (c ≡ d))
      → judge_record n l u r a p c ≡ judge_record n l u r b q d
  unfolding judge_record
  judge_same a b p q c d e f =
      by_test T
      (λ t. by_test K (λ k. let g = f t k in rw (e, g.0, g.1)) (λ k. rw (e, k)))
      (λ t. rw (e, t))
