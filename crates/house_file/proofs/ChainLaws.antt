-- One chain followed turn by turn: marks stand for the records reached, the row for their kinds, and the definition's turns that
-- are left stay above the number of records not reached. Assumes nothing.
use Rattle.std.proofs.Common.{◌≡◌, refl, sym, ap, ◌∙◌, Bool, true, false, not, ◌&&◌, ◌||◌, List, [], ◌∷◌, ◌++◌, append_assoc}
use Rattle.std.proofs.Common.{append-nil, Result, Ok, Err, ℕ, zero, suc, ◌-◌, ◌≤◌, ◌<◌, arith, get_or, set, length}
use Rattle.std.proofs.Common.{get_or-set_same, get_or-set_other, eqb, ltb, eq-eqb, ne_eqb, lt-ltb, le-ltb, eqb-true}
use Rattle.std.proofs.lemmas.Bool.{not-false}
use Rattle.std.proofs.Math.Logic.{by_cases}
use Rattle.std.specs.Prelude.{⊤}
use Rattle.std.proofs.Math.Decide.{ℕ_discrete}
use Rattle.lists.specs.Lists.{any_of, member, pick}
use Rattle.lists.proofs.ListLaws.{any_append, any_one, any_none, any_same}
use Rattle.lists.proofs.Cases.{both, or_true, and_right, and_false, or_false}
use Rattle.masks.specs.promises.Mask.{test_bit, with_bit}
use Rattle.masks.specs.promises.Table.{mask_in}
use Rattle.masks.specs.declared.Row.{Row}
use Rattle.masks.proofs.BitLaws.{test_with_same, test_with_other}
use Rattle.masks.proofs.MaskLaws.{zero_bit}
use Rattle.house_layout.specs.Layout.{head_of, parties_of, labels_of, records_of, record_of, permit_kind}
use Rattle.house_layout.specs.Reply.{refuse}
use Rattle.house_layout.specs.Fields.{legal_kind, judge_record}
use Rattle.house_file.specs.Check.{record_check, says, contradicts, Followed, stopped, passed, if_accepted, enough_turns, follow_chain}
use Rattle.house_layout.specs.promises.Kinds.{bit_of, opposite_kind, contrary_in}
use Rattle.house_file.specs.promises.Reading.{RecordMarks, RowOf, chain_followed}
use Rattle.house_layout.specs.declared.record.Record.{Record}
use Rattle.house_layout.specs.declared.reply.Refusal.{Refusal}
use Rattle.house_layout.specs.declared.reply.Refusal.TheVariants.{Link}
use Rattle.house_layout.proofs.KindLaws.{bit_apart, opposite_legal, opposite_is, permit_opposite}
use Rattle.house_layout.proofs.RecordLaws.{judge_same, judge_passed, Passed}
use Rattle.house_file.proofs.Clear.{clear, clear_le, clear_set}

-- one more at the end
pub any_more : {A : Type 0} (p : A → Bool) (l : List A) (x : A) → any_of p (l ++ (x ∷ [])) ≡ (any_of p l || p x)
any_more p l x = any_append p l (x ∷ []) ∙ ap (λ (b : Bool). any_of p l || b) (any_one p x)

pub any_yes : {A : Type 0} (p : A → Bool) (l : List A) (x : A) → p x ≡ true → any_of p (l ++ (x ∷ [])) ≡ true
any_yes p l x e = any_more p l x ∙ or_true (any_of p l) e

pub any_no : {A : Type 0} (p : A → Bool) (l : List A) (x : A) → p x ≡ false → any_of p (l ++ (x ∷ [])) ≡ any_of p l
any_no p l x e = any_more p l x ∙ ap (λ (b : Bool). any_of p l || b) e ∙ or_false (any_of p l)

-- a record is marked
pub marks_more : (marks seen : List ℕ) (r : ℕ) → 1 ≤ r → r - 1 < length marks
    → RecordMarks marks seen → RecordMarks (set marks (r - 1) 1) (seen ++ (r ∷ []))
marks_more marks seen r h l m x k =
    by_cases (ℕ_discrete x r)
    (λ q. rw (q, get_or-set_same marks (r - 1) 1 0 l) (sym (any_yes (eqb r) seen r (eq-eqb r r refl))))
    (λ q. rw (get_or-set_other marks (r - 1) (x - 1) 1 0 (λ e. q (omega arith))) (m x k ∙ sym (any_no (eqb x) seen r (ne_eqb x r q))))

-- a record's kind is added to the row
pub row_none : (f : List ℕ) (row : Row) → ((v : ℕ) → mask_in row v ≡ 0) → RowOf f row []
unfolding any_of
row_none f row e t k h = rw (e t) (zero_bit (bit_of k))

module _ (f : List ℕ) (bounded : labels_of f ≤ 8) (row more : Row) (c : List ℕ) (r : ℕ)
    (legal : legal_kind (labels_of f) (record_of f r).kind ≡ true)
    (same : mask_in more (record_of f r).target ≡ with_bit (mask_in row (record_of f r).target) (bit_of (record_of f r).kind))
    (other : (x : ℕ) → (x ≡ (record_of f r).target → ⊥) → mask_in more x ≡ mask_in row x) where
  pub row_more : RowOf f row c → RowOf f more (c ++ (r ∷ []))
  unfolding says
  row_more m t k h =
      let target : ℕ = (record_of f r).target in
      let kind : ℕ = (record_of f r).kind in
      let mask : ℕ = mask_in row target in
      by_cases (ℕ_discrete t target)
      (λ q. by_cases (ℕ_discrete k kind)
      (λ p. rw (q, p, same, test_with_same mask (bit_of kind))
      (sym (any_yes (says f target kind) c r (rw (eq-eqb target target refl, eq-eqb kind kind refl)))))
      (λ p.
      let apart : bit_of k ≡ bit_of kind → ⊥ = λ e. p (bit_apart (labels_of f) bounded k kind h legal e) in
      let unlike : says f target k r ≡ false = rw (ne_eqb kind k (λ e. p (sym e))) (and_false (eqb target target) refl) in
      rw (q, same, test_with_other mask (bit_of kind) (bit_of k) apart) (m target k h ∙ sym (any_no (says f target k) c r unlike))))
      (λ q. rw (other t q) (m t k h ∙ sym (any_no (says f t k) c r (rw (ne_eqb target t (λ e. q (sym e)))))))

-- the row has the opposite of a kind exactly where one of the records contradicts it
row_contrary : (f : List ℕ) → labels_of f ≤ 8 → (row : Row) (c : List ℕ) → RowOf f row c → (t k : ℕ) → legal_kind (labels_of f) k ≡ true
    → contrary_in (mask_in row t) k ≡ any_of (contradicts f t k) c
unfolding contrary_in contradicts says
row_contrary f b row c m t k h =
    by_cases (ℕ_discrete k permit_kind)
    (λ q. rw (eq-eqb k permit_kind q)
    (sym (any_none (contradicts f t k) c (λ s n e.
    both (and_right (eqb (record_of f s).target t) _ e) (rw q (permit_opposite (labels_of f) b (record_of f s).kind))))))
    (λ q. rw (ne_eqb k permit_kind q)
    (m t (opposite_kind k) (opposite_legal (labels_of f) b k h q)
    ∙ any_same (says f t (opposite_kind k)) (contradicts f t k) c (λ s n.
    ap (λ (x : Bool). eqb (record_of f s).target t && x) (sym (opposite_is (labels_of f) b k (record_of f s).kind h q)))))

-- whether record r is marked, and whether the row has the record's kind or its opposite for its target
abbrev pub is_marked : List ℕ → ℕ → Bool
is_marked marks r = not (eqb (get_or marks (r - 1) 0) 0)

abbrev pub has_kind : Row → Record → Bool
has_kind row x = test_bit (mask_in row x.target) (bit_of x.kind)

abbrev pub has_contrary : Row → Record → Bool
has_contrary row x = contrary_in (mask_in row x.target) x.kind

-- the checks of record `at`, as the code makes them
unfoldable pub judged : List ℕ → ℕ → List ℕ → Row → ℕ → Result ⊤ Refusal
judged f u marks row at =
    judge_record (parties_of f) (labels_of f) u (record_of f at)
    (is_marked marks at) (has_kind row (record_of f at)) (has_contrary row (record_of f at))

-- a record that passed: its tests, and one clear mark fewer
module _ (f : List ℕ) (u : ℕ) (marks : List ℕ) (row : Row) (at : ℕ) (e : judged f u marks row at ≡ Ok tt) where
  pub tests : Passed (parties_of f) (labels_of f) u (record_of f at)
      (is_marked marks at) (has_kind row (record_of f at)) (has_contrary row (record_of f at))
  unfolding judged
  tests = judge_passed (parties_of f) (labels_of f) u (record_of f at) _ _ _ e

  pub clearer : (at ≡ 0 → ⊥) → at ≤ records_of f → at - 1 < length marks
      → clear marks (records_of f) ≡ suc (clear (set marks (at - 1) 1) (records_of f))
  clearer z l long =
      clear_set marks (at - 1) (records_of f) (omega (arith, z)) long
      (eqb-true (get_or marks (at - 1) 0) 0 (not-false (eqb (get_or marks (at - 1) 0) 0) tests.fresh))

-- following does not both stop and pass
pub unlike : {G : Type 0} {w : Followed} {x : Refusal} {c : List ℕ} → w ≡ stopped x → w ≡ passed c → G
unlike p q = cc

-- how far party u's chain was followed: to record `at`, with these marks and this row
pub record Here (f : List ℕ) (u : ℕ) (before marks : List ℕ) (row : Row) (at : ℕ) : Type 0 where
  pub earlier : List ℕ
  pub turns : ℕ
  pub enough : clear marks (records_of f) < turns
  pub marked : RecordMarks marks (before ++ earlier)
  pub kinds : RowOf f row earlier
  pub same : chain_followed f u before ≡ follow_chain f u turns before earlier at

pub here_start : (f : List ℕ) (u : ℕ) (before marks : List ℕ) (row : Row) (at : ℕ) → at ≡ head_of f u
    → ((v : ℕ) → mask_in row v ≡ 0) → RecordMarks marks before → Here f u before marks row at
here_start f u before marks row at a e m = record {
  earlier = [];
  turns = enough_turns f;
  enough = omega (arith, clear_le marks (records_of f));
  marked = λ r h. m r h ∙ ap (member r) (sym (append-nil before));
  kinds = row_none f row e;
  same = rw a;
}

module _ (f : List ℕ) (u : ℕ) (before marks : List ℕ) (row : Row) (at : ℕ) (h : Here f u before marks row at) where
  -- one turn of the definition
  turn : (k : ℕ) → clear marks (records_of f) < k → follow_chain f u k before h.earlier at
      ≡ pick (eqb at 0) (passed h.earlier)
      (if_accepted (refuse (ltb (records_of f) at) Link (record_check f u before h.earlier at))
      (follow_chain f u (k - 1) before (h.earlier ++ (at ∷ [])) (record_of f at).next))
  unfolding follow_chain
  turn zero l = absurd (omega arith)
  turn (suc k) l = let p : suc k - 1 ≡ k = omega arith in rw p

  pub here_end : at ≡ 0 → chain_followed f u before ≡ passed h.earlier
  here_end e = h.same ∙ turn h.turns h.enough ∙ rw (eq-eqb at 0 e)

  pub here_link : (at ≡ 0 → ⊥) → records_of f < at → chain_followed f u before ≡ stopped Link
  here_link z l = h.same ∙ turn h.turns h.enough ∙ rw (ne_eqb at 0 z, lt-ltb (records_of f) at l)

  module _ (z : at ≡ 0 → ⊥) (l : at ≤ records_of f) (bounded : labels_of f ≤ 8) where
    -- the turns after this one
    abbrev rest : Followed
    rest = follow_chain f u (h.turns - 1) before (h.earlier ++ (at ∷ [])) (record_of f at).next

    go_on : chain_followed f u before ≡ if_accepted (judged f u marks row at) rest
    unfolding judged record_check
    go_on =
        let seen = h.marked at (omega (arith, z)) in
        let checks =
        judge_same (parties_of f) (labels_of f) u (record_of f at) _ _ _ _ _ _ seen (λ t k. (
          h.kinds (record_of f at).target (record_of f at).kind k,
          row_contrary f bounded row h.earlier h.kinds (record_of f at).target (record_of f at).kind k,
        )) in
        h.same ∙ turn h.turns h.enough
        ∙ rw (ne_eqb at 0 z, le-ltb (records_of f) at l) (ap (λ (c : Result ⊤ Refusal). if_accepted c rest) (sym checks))

    pub here_refused : (x : Refusal) → judged f u marks row at ≡ Err x → chain_followed f u before ≡ stopped x
    here_refused x e = go_on ∙ rw e

    module _ (e : judged f u marks row at ≡ Ok tt) (long : at - 1 < length marks) where
      pub here_next : (more : Row)
          → mask_in more (record_of f at).target ≡ with_bit (mask_in row (record_of f at).target) (bit_of (record_of f at).kind)
          → ((x : ℕ) → (x ≡ (record_of f at).target → ⊥) → mask_in more x ≡ mask_in row x)
          → Here f u before (set marks (at - 1) 1) more (record_of f at).next
      here_next more s o = record {
        earlier = h.earlier ++ (at ∷ []);
        turns = h.turns - 1;
        enough = omega (arith, clearer f u marks row at e z l long, h.enough);
        marked = λ r k.
            marks_more marks (before ++ h.earlier) at (omega (arith, z)) long h.marked r k
            ∙ ap (member r) (append_assoc before h.earlier (at ∷ []));
        kinds = row_more f bounded row more h.earlier at (tests f u marks row at e).kind s o h.kinds;
        same = go_on ∙ rw e;
      }
