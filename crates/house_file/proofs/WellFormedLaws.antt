-- Accepted means well formed: the header's tests one by one, then all chains followed. Assumes nothing.
use Rattle.std.proofs.Common.{◌≡◌, refl, sym, ap, ◌∙◌, Bool, true, false, not, ◌↔◌, ⊎_elim, List, [], Result, Ok, Err, ℕ, ◌≤◌, ◌<◌, arith}
use Rattle.std.proofs.Common.{length, eqb, ltb, leb, eq-eqb, ne_eqb, eqb-true, le-leb, leb-true, lt-ltb, le-ltb, ltb-false}
use Rattle.std.proofs.lemmas.Bool.{not-false}
use mathlib.Core.List.Memᴰ
use mathlib.Core.List.{Memᴰ}
use Rattle.std.specs.Prelude.{⊤}
use Rattle.lists.specs.Lists.{all_of, member, up_from}
use Rattle.lists.proofs.Cases.{by_test, both, and_left, and_right, and_both}
use Rattle.lists.proofs.ListLaws.{all_in, all_of_lem, up_in, up_out, member_in, member_out}
use Rattle.fields.specs.Numbers.{byte_at}
use Rattle.house_layout.specs.Layout.{edition_of, parties_of, labels_of, language_of, longest_of, records_of, size_of, record_of}
use Rattle.house_layout.specs.Layout.{unknown_kind}
use Rattle.house_layout.specs.Reply.{refuse}
use Rattle.house_layout.specs.Fields.{within, fields_in_range, opposite}
use Rattle.house_file.specs.Check.{Followed, stopped, passed, follow_chains, reached_all, chains_check, check_of}
use Rattle.house_file.specs.Meaning.{chain_of, FieldsRight, WellFormed}
use Rattle.house_layout.specs.declared.reply.Refusal.{Refusal}
use Rattle.house_layout.specs.declared.reply.Refusal.TheVariants.{Length, Field, Unreached}
use Rattle.house_layout.proofs.KindLaws.{kind_cases, kind_legal, opposite_in, opposite_out}
use Rattle.house_layout.proofs.RecordLaws.{owner_is_own, not_foreign, target_below, target_other, target_legal}
use Rattle.house_file.proofs.ChainsLaws.{chains_from, chains_in, chains_out, follows_passed, passed_follows}
use Rattle.house_file.proofs.LinkedLaws.{records_right}

-- a test that was passed over
pub refuse_passed : (b : Bool) (x : Refusal) (k : Result ⊤ Refusal) → refuse b x k ≡ Ok tt → (b ≡ false) × (k ≡ Ok tt)
refuse_passed true x k e = let z : ◌≡◌ {A = ℕ} 0 1 = cc in absurd (omega arith)
refuse_passed false x k e = (refl, e)

pub passed_refuse : {b : Bool} (x : Refusal) {k : Result ⊤ Refusal} → b ≡ false → k ≡ Ok tt → refuse b x k ≡ Ok tt
passed_refuse x p q = rw p q

range_out : (low high x : ℕ) → within low high x ≡ true → (low ≤ x) × (x ≤ high)
range_out low high x e = (leb-true low x (and_left (leb low x) (leb x high) e), leb-true x high (and_right (leb low x) (leb x high) e))

range_in : (low high x : ℕ) → low ≤ x → x ≤ high → within low high x ≡ true
range_in low high x a b = and_both (le-leb low x a) (le-leb x high b)

pub fields_right : (f : List ℕ) → fields_in_range f ≡ true → FieldsRight f
unfolding fields_in_range
fields_right f e0 =
    let e1 = and_right (within 1 2 (edition_of f)) _ e0 in
    let e2 = and_right (within 1 32 (parties_of f)) _ e1 in
    let e3 = and_right (within 1 8 (labels_of f)) _ e2 in
    let e4 = and_right (within 0 3 (language_of f)) _ e3 in
    let e5 = and_right (within 1 31 (longest_of f)) _ e4 in
    let e6 = and_right (eqb (byte_at f 5) 0) _ e5 in
    record {
      edition = range_out 1 2 (edition_of f) (and_left _ _ e0);
      parties = range_out 1 32 (parties_of f) (and_left _ _ e1);
      labels = range_out 1 8 (labels_of f) (and_left _ _ e2);
      language = (range_out 0 3 (language_of f) (and_left _ _ e3)).1;
      longest = range_out 1 31 (longest_of f) (and_left _ _ e4);
      zero_byte = eqb-true (byte_at f 5) 0 (and_left _ _ e5);
      records = leb-true (records_of f) 8928 e6;
    }

right_fields : (f : List ℕ) → FieldsRight f → fields_in_range f ≡ true
unfolding fields_in_range
right_fields f h =
    and_both (range_in 1 2 (edition_of f) h.edition.0 h.edition.1)
    (and_both (range_in 1 32 (parties_of f) h.parties.0 h.parties.1)
    (and_both (range_in 1 8 (labels_of f) h.labels.0 h.labels.1)
    (and_both (range_in 0 3 (language_of f) (omega arith) h.language)
    (and_both (range_in 1 31 (longest_of f) h.longest.0 h.longest.1)
    (and_both (eq-eqb (byte_at f 5) 0 h.zero_byte)
    (le-leb (records_of f) 8928 h.records))))))

-- all records were reached
reached_out : (r : ℕ) (w : Followed) → reached_all r w ≡ Ok tt
    → (all : List ℕ) × ((w ≡ passed all) × ((s : ℕ) → 1 ≤ s → s ≤ r → Memᴰ s all))
reached_out r (stopped x) e = let z : ◌≡◌ {A = ℕ} 0 1 = cc in absurd (omega arith)
reached_out r (passed all) e =
    let t = not-false _ (refuse_passed (not (all_of (λ s. member s all) (up_from 1 r))) Unreached (Ok tt) e).0 in
    (all, (refl, λ s a b. member_out s all (all_in (λ s. member s all) (up_from 1 r) t (up_in 1 r s a (omega arith)))))

reached_in : (r : ℕ) (all : List ℕ) → ((s : ℕ) → 1 ≤ s → s ≤ r → Memᴰ s all) → reached_all r (passed all) ≡ Ok tt
reached_in r all h =
    passed_refuse Unreached
    (ap not (all_of_lem (λ s. member s all) (up_from 1 r)
    (λ s m. let b = up_out 1 r m in member_in s all (h s b.0 (omega (arith, b.1))))))
    refl

-- the check, by the outcome of its first tests
module _ (f : List ℕ) where
  pub check_short : length f < 8 → check_of f ≡ Err Length
  unfolding check_of
  check_short h = rw (lt-ltb (length f) 8 h)

  pub check_field : 8 ≤ length f → fields_in_range f ≡ false → check_of f ≡ Err Field
  unfolding check_of
  check_field h e = rw (le-ltb (length f) 8 h, e)

  pub check_size : 8 ≤ length f → fields_in_range f ≡ true → (length f ≡ size_of f → ⊥) → check_of f ≡ Err Length
  unfolding check_of
  check_size h e n = rw (le-ltb (length f) 8 h, e, ne_eqb (length f) (size_of f) n)

  pub check_chains : 8 ≤ length f → fields_in_range f ≡ true → length f ≡ size_of f → check_of f ≡ chains_check f
  unfolding check_of
  check_chains h e q = rw (le-ltb (length f) 8 h, e, eq-eqb (length f) (size_of f) q)

-- what the check's header and length tests leave
pub record Framing (f : List ℕ) : Type 0 where
  pub long : 8 ≤ length f
  pub fields : FieldsRight f
  pub size : length f ≡ size_of f
  pub chains : chains_check f ≡ Ok tt

pub framing : (f : List ℕ) → check_of f ≡ Ok tt → Framing f
unfolding check_of
framing f e =
    let a = refuse_passed (ltb (length f) 8) Length _ e in
    let b = refuse_passed (not (fields_in_range f)) Field _ a.1 in
    let d = refuse_passed (not (eqb (length f) (size_of f))) Length _ b.1 in
    record {
      long = ltb-false (length f) 8 a.0;
      fields = fields_right f (not-false (fields_in_range f) b.0);
      size = eqb-true (length f) (size_of f) (not-false (eqb (length f) (size_of f)) d.0);
      chains = d.1;
    }

well_formed : (f : List ℕ) → check_of f ≡ Ok tt → WellFormed f
unfolding chains_check
well_formed f e =
    let g = framing f e in
    let w = reached_out (records_of f) (follow_chains f 0 (parties_of f) []) g.chains in
    let p = follows_passed f 0 (parties_of f) [] w.0 w.1.0 in
    let h = p.1 in
    record {
      long = g.long;
      fields = g.fields;
      size = g.size;
      chain = chain_of f;
      records = record {
        linked = λ u l. (h.chain u (omega arith) (omega arith)).linked;
        reached = λ r a b.
            let m : Memᴰ r (chains_from f 0 (parties_of f)) = rw p.0 at (w.1.1 r a b) in
            let o = chains_out f 0 (parties_of f) m in
            (o.0, (omega (arith, o.1.1.0), o.1.1.1));
        once = λ u l. (h.chain u (omega arith) (omega arith)).once;
        apart = λ u v r l k m n. h.apart u v r (omega arith) l (omega arith) m n;
        owner = λ u r l m. owner_is_own u (record_of f r).owner ((h.chain u (omega arith) (omega arith)).owner r m);
        target = λ u r l m.
            let t = (h.chain u (omega arith) (omega arith)).target r m in
            (target_below _ u _ t, target_other (parties_of f) u _ t);
        kind = λ u r l m. kind_cases (labels_of f) (record_of f r).kind ((h.chain u (omega arith) (omega arith)).kind r m);
        different = λ u r s l. (h.chain u (omega arith) (omega arith)).different r s;
        consistent = λ u r s k l m n t b p q.
            both (rw (p, q) (opposite_in (labels_of f) k (unknown_kind k) b refl))
            ((h.chain u (omega arith) (omega arith)).consistent r s m n t);
      };
    }

accepted : (f : List ℕ) → WellFormed f → check_of f ≡ Ok tt
unfolding check_of chains_check
accepted f w =
    let h = records_right f w in
    passed_refuse Length (le-ltb (length f) 8 w.long)
    (passed_refuse Field (ap not (right_fields f w.fields))
    (passed_refuse Length (ap not (eq-eqb (length f) (size_of f) w.size))
    (ap (reached_all (records_of f)) (passed_follows f 0 (parties_of f) [] (record {
      chain = λ v a b. record {
        linked = h.linked v (omega arith);
        owner = λ s m. not_foreign v (record_of f s).owner (h.owner v s (omega arith) m);
        target = λ s m. let t = h.target v s (omega arith) m in target_legal (parties_of f) v (record_of f s).target t.0 t.1;
        kind = λ s m. kind_legal (labels_of f) (record_of f s).kind (h.kind v s (omega arith) m);
        once = h.once v (omega arith);
        different = λ s t. h.different v s t (omega arith);
        consistent = λ s t m n e. by_test (opposite (labels_of f) (record_of f s).kind (record_of f t).kind)
            (λ q. ⊎_elim
            (λ o. absurd (h.consistent v s t (record_of f s).kind (omega arith) m n e o.0 refl o.1))
            (λ o. absurd (h.consistent v t s (record_of f t).kind (omega arith) n m (sym e) o.0 refl o.1))
            (opposite_out (labels_of f) (record_of f s).kind (record_of f t).kind q))
            (λ q. q);
      };
      fresh = λ v s a b m n. Memᴰ.not-nil n;
      apart = λ v w s a b d m n. h.apart v w s b (omega arith) m n;
    }))
    ∙ reached_in (records_of f) (chains_from f 0 (parties_of f))
    (λ s a b.
    let r = h.reached s a b in
    chains_in f 0 (parties_of f) r.0 s (omega arith) (omega (arith, r.1.0)) r.1.1))))

-- a file is accepted exactly where it is well formed
pub accepted_iff_well_formed : (f : List ℕ) → (check_of f ≡ Ok tt) ↔ WellFormed f
accepted_iff_well_formed f = (well_formed f, accepted f)
