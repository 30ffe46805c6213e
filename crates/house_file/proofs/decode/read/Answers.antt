-- The first tests have their laws; then the chains, and the permits from the kinds.
use Rattle.std.proofs.Common.{◌≡◌, sym, ◌∙◌, Bool, List, ℕ, ◌+◌, ◌*◌, ◌≤◌, true, arith, length}
use Rattle.house_layout.proofs.Exits.{left_with}
use Rattle.house_layout.specs.Layout.{header_of, record_size, labels_of, size_of, permit_kind}
use Rattle.house_layout.specs.Fields.{fields_in_range}
use Rattle.house_layout.specs.declared.header.Header.{Header}
use Rattle.house_file.specs.Check.{check_of, chains_check}
use Rattle.house_file.specs.Meaning.{is_permitted}
use Rattle.house_file.specs.promises.Reading.{Framed}
use Rattle.house_layout.proofs.LayoutLaws.{size_most}
use Rattle.house_layout.proofs.KindLaws.{permit_legal}
use Rattle.house_file.proofs.WellFormedLaws.{check_size, check_chains, fields_right}
use Rattle.house_file.proofs.decode.read.Goals as goal

-- a header's numbers where the fields' test passed
module _ (f : List ℕ) {h : Header} (numbers : h ≡ header_of f) {in_range : Bool} (tested : in_range ≡ fields_in_range f)
    (passed : in_range ≡ true) where
  inside : fields_in_range f ≡ true
  inside = sym tested ∙ passed

  -- they are small
  parties : h.parties ≤ 32
  parties = rw numbers (fields_right _ inside).parties.1

  labels : h.labels ≤ 8
  labels = rw numbers (fields_right _ inside).labels.1

  records : h.records ≤ 8928
  records = rw numbers (fields_right _ inside).records

  -- and the length that they say
  module _ {s : ℕ} (size : s ≡ record_size h.edition) where
    bounded : s * h.records ≤ 5 * 8928
    bounded = rw size (omega (arith, size_most h.edition h.records, records))

    said : 8 + 2 * h.parties + s * h.records ≡ size_of f
    said = rw (size, numbers)

    framed : length f ≡ 8 + 2 * h.parties + s * h.records → Framed f h
    framed e = record { numbers = numbers; parties = parties; labels = labels; records = records; size = e ∙ said }

    -- the check is then that of the chains
    checked : 8 ≤ length f → length f ≡ 8 + 2 * h.parties + s * h.records → check_of f ≡ chains_check f
    checked l e = check_chains f l inside (e ∙ said)

pub overflow_mul-record_size : goal.overflow_mul-record_size
overflow_mul-record_size c =
    let b = bounded _ c.read_header-header.ensures c.fields_in_range.ensures c.if-not-fields_in_range.false c.record_size.ensures in
    omega arith

pub overflow_add-header-2 : goal.overflow_add-header-2
overflow_add-header-2 c =
    let n = c.read_header-header.ensures in
    let t = c.fields_in_range.ensures in
    let p = c.if-not-fields_in_range.false in
    omega (arith, bounded _ n t p c.record_size.ensures, parties _ n t p)

pub returns-then-file-header : goal.returns-then-file-header
returns-then-file-header c =
    let n = c.read_header-header.ensures in
    let t = c.fields_in_range.ensures in
    let p = c.if-not-fields_in_range.false in
    check_size _ c.if-file-lt-HEADER_SIZE.false (inside _ n t p) (λ q. c.if-file-header.true (q ∙ sym (said _ n t p c.record_size.ensures)))

pub invariant_of-read_chains : goal.invariant_of-read_chains
invariant_of-read_chains c =
    let n = c.read_header-header.ensures in
    let t = c.fields_in_range.ensures in
    let p = c.if-not-fields_in_range.false in
    record { framed = framed _ n t p c.record_size.ensures c.if-file-header.false }

pub returns-in_err-kinds : goal.returns-in_err-kinds
returns-in_err-kinds c =
    let n = c.read_header-header.ensures in
    let t = c.fields_in_range.ensures in
    let p = c.if-not-fields_in_range.false in
    let k = checked _ n t p c.record_size.ensures c.if-file-lt-HEADER_SIZE.false c.if-file-header.false in
    rw (left_with c.from_residual.result c.from_residual.ensures.1) (k ∙ c.in_err-kinds.ensures)

pub returns : goal.returns
unfolding is_permitted
returns c =
    let n = c.read_header-header.ensures in
    let t = c.fields_in_range.ensures in
    let p = c.if-not-fields_in_range.false in
    let k = checked _ n t p c.record_size.ensures c.if-file-lt-HEADER_SIZE.false c.if-file-header.false in
    let r = c.in_ok-kinds.ensures in (
      k ∙ r.0,
      record {
        header = n;
        kinds = r.1;
        permits = λ u v. c.permit_masks-permits.ensures u v ∙ r.1 u v permit_kind (permit_legal (labels_of c.args.file.now));
      },
    )
