-- Each record is checked as the definition's turn checks it; one that passes is marked, so that a clear mark fewer is left.
use Rattle.std.proofs.Common.{◌≡◌, sym, ap, ◌∙◌, true, not, List, Result, Ok, ℕ, ◌-◌, ◌≤◌, ◌<◌, arith, eqb, length-set, length, get_or}
use Rattle.std.specs.Prelude.{⊤}
use Rattle.house_layout.specs.declared.reply.Refusal.{Refusal}
use Rattle.house_layout.proofs.Exits.{left_with}
use Rattle.masks.specs.promises.Mask.{test_bit}
use Rattle.masks.specs.promises.Table.{mask_in}
use Rattle.masks.specs.declared.Row.{Row}
use Rattle.house_layout.proofs.KindLaws.{kind_small, bit_small}
use Rattle.house_layout.proofs.RecordLaws.{target_below}
use Rattle.house_layout.specs.Layout.{parties_of, labels_of, records_of, record_of}
use Rattle.house_layout.specs.Fields.{legal_kind, judge_record}
use Rattle.house_layout.specs.declared.header.Header.{Header}
use Rattle.house_layout.specs.declared.record.Record.{Record}
use Rattle.house_layout.specs.promises.Kinds.{bit_of, contrary_in}
use Rattle.house_file.specs.promises.Reading.{Framed}
use Rattle.house_file.proofs.ChainLaws.{judged, here_start, here_end}
use Rattle.house_file.proofs.ChainLaws.{here_link, here_refused, here_next, tests, clearer}
use Rattle.house_file.proofs.chain.Frame.read_chain.Goals as goal

-- the file's numbers, as its header has them
module _ {f : List ℕ} {h : Header} (framed : Framed f h) where
  parties : h.parties ≡ parties_of f
  parties = ap (λ (x : Header). x.parties) framed.numbers

  records : h.records ≡ records_of f
  records = ap (λ (x : Header). x.records) framed.numbers

  bounded : labels_of f ≤ 8
  bounded = omega (arith, ap (λ (x : Header). x.labels) framed.numbers, framed.labels)

  -- a record number that passed the first tests
  in_file : {at : ℕ} → at ≤ h.records → at ≤ records_of f
  in_file l = rw (← records) l

  long : (marks : List ℕ) {at : ℕ} → length marks ≡ 8928 → (at ≡ 0 → ⊥) → at ≤ h.records → at - 1 < length marks
  long marks p z l = omega (arith, p, z, l, framed.records)

  -- the record's checks gave what the definition's turn says
  checked : (marks : List ℕ) (row : Row) (u at : ℕ) {x : Record} {r v : Result ⊤ Refusal} → x ≡ record_of f at
      → r ≡ judge_record h.parties h.labels u x (not (eqb (get_or marks (at - 1) 0) 0)) (test_bit (mask_in row x.target) (bit_of x.kind))
      (contrary_in (mask_in row x.target) x.kind)
      → r ≡ v → judged f u marks row at ≡ v
  unfolding judged
  checked marks row u at {r = r} e j q =
      let k : r ≡ judged f u marks row at = j ∙ rw (e, framed.numbers) in
      sym k ∙ q

  -- what an accepted record's tests say of the record that was read
  module _ (marks : List ℕ) (row : Row) (u at : ℕ) {x : Record} (read : x ≡ record_of f at) (e : judged f u marks row at ≡ Ok tt) where
    legal : legal_kind (labels_of f) x.kind ≡ true
    legal = rw read (tests f u marks row at e).kind

    below : x.target < 32
    below =
        let t = target_below (parties_of f) u (record_of f at).target (tests f u marks row at e).target in
        rw read (omega (arith, t, parties, framed.parties))

pub loop-at-init : goal.loop-at-init
loop-at-init c = (
  c.requires.places,
  λ before m. here_start _ _ before _ _ _ c.u16_at-at.ensures.0 c.empty-row.ensures m,
)

pub returns-then-h-at-clause-read : goal.returns-then-h-at-clause-read
returns-then-h-at-clause-read c =
    let w = c.args.self.now.framed in
    λ before m.
    let l = c.loop-at in
    here_link _ _ before _ _ _ (l.invariant.1 before m) c.loop-at-test.true (omega (arith, records w, c.if-h-at.true))

pub returns-in_err-check_record-clause-read : goal.returns-in_err-check_record-clause-read
returns-in_err-check_record-clause-read c =
    let w = c.args.self.now.framed in
    λ before m.
    let l = c.loop-at in
    rw (left_with c.from_residual.result c.from_residual.ensures.1)
    (here_refused _ _ before _ _ _ (l.invariant.1 before m) c.loop-at-test.true (in_file w c.if-h-at.false) (bounded w) _
    (checked w _ _ _ _ c.read_record-x.ensures c.check_record.ensures c.in_err-check_record.was))

pub bit_of-requires : goal.bit_of-requires
bit_of-requires c =
    let w = c.args.self.now.framed in
    let a = checked w _ _ _ _ c.read_record-x.ensures c.check_record.ensures c.in_ok-check_record.was in
    kind_small _ (bounded w) _ (legal w _ _ _ _ c.read_record-x.ensures a)

pub add-row-requires : goal.add-row-requires
add-row-requires c =
    let w = c.args.self.now.framed in
    let a = checked w _ _ _ _ c.read_record-x.ensures c.check_record.ensures c.in_ok-check_record.was in (
      below w _ _ _ _ c.read_record-x.ensures a,
      rw c.bit_of.ensures (bit_small _ (bounded w) _ (legal w _ _ _ _ c.read_record-x.ensures a)),
    )

pub loop-at-smaller : goal.loop-at-smaller
loop-at-smaller c =
    let w = c.args.self.now.framed in
    let a = checked w _ _ _ _ c.read_record-x.ensures c.check_record.ensures c.in_ok-check_record.was in
    omega (
      arith,
      clearer _ _ _ _ _ a c.loop-at-test.true (in_file w c.if-h-at.false)
          (long w _ c.loop-at.invariant.0 c.loop-at-test.true c.if-h-at.false),
    )

pub loop-at-preserved : goal.loop-at-preserved
loop-at-preserved c =
    let w = c.args.self.now.framed in
    let l = c.loop-at in
    let x = c.read_record-x.ensures in
    let a = checked w _ _ _ _ x c.check_record.ensures c.in_ok-check_record.was in (
      length-set l.marks _ _ ∙ l.invariant.0,
      λ before m.
          rw x (here_next _ _ before _ _ _ (l.invariant.1 before m) c.loop-at-test.true (in_file w c.if-h-at.false)
          (bounded w) a (long w _ l.invariant.0 c.loop-at-test.true c.if-h-at.false)
          c.add-row.result
          (rw x at (rw c.bit_of.ensures at c.add-row.ensures.same)) (rw x at c.add-row.ensures.other)),
    )

pub returns-clause-read : goal.returns-clause-read
returns-clause-read c =
    λ before m.
    let h = c.loop-at.invariant.1 before m in
    record { chain = h.earlier; followed = here_end _ _ before _ _ _ h c.loop-at-test.false; marked = h.marked; kinds = h.kinds }
