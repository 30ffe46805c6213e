-- The copy of an accepted file, and the call that writes it: its matter gives back what was written, so equal copies mean equal matter and
-- a copy's copy is the copy. Assumes nothing.
use Rattle.std.proofs.Common.{Ok, Err, Result, ◌≡◌, sym, ap, ◌∙◌, ◌↔◌, ◌⊎◌, inl, inr, true, List, ℕ, ◌≤◌, ◌<◌, arith, leb, length}
use Rattle.std.proofs.Math.Logic.{by_cases}
use Rattle.std.proofs.Math.Decide.{dec_lt}
use Rattle.lists.proofs.Cases.{by_test, clash}
use Rattle.lists.proofs.Distinct.{distinct_equal}
use Rattle.rebac.specs.Matter.{Matter}
use Rattle.house_layout.specs.Layout.{parties_of, labels_of, records_of, file_size}
use Rattle.house_layout.specs.declared.reply.Refusal.{Refusal}
use Rattle.house_layout.specs.declared.reply.Refusal.TheVariants.{Output}
use Rattle.house_layout.specs.Fields.{legal_kind}
use Rattle.house_layout.proofs.RecordLaws.{by_check}
use Rattle.house_layout.proofs.RefusalNumbers.{refusal_said}
use Rattle.house_file.proofs.FileRefusals.{OfFile, file_refusals}
use Rattle.house_file.specs.Check.{check_of}
use Rattle.house_file.specs.Meaning.{IsEdition, recorded}
use Rattle.house_file.proofs.LinkedLaws.{records_right}
use Rattle.house_file.proofs.WellFormedLaws.{accepted_iff_well_formed}
use Rattle.graph.specs.FileMatter.{matter_of}
use Rattle.canonical.specs.Canonical.{count_of, canonical_of, written_edition}
use Rattle.canonical.specs.Calls.{refuses, writes, said_file, write_in, copy_for, write_call}
use Rattle.canonical.specs.Shape.{InLimits, SameMatter, FileFor, CopyOf}
use Rattle.canonical.proofs.LayoutLaws.{canonical_size, canonical_edition, canonical_labels, canonical_records}
use Rattle.canonical.proofs.AcceptedLaws.{canonical_right, canonical_accepted}
use Rattle.canonical.proofs.MatterLaws.{canonical_recorded, canonical_matter}
use Rattle.canonical.proofs.ShapeLaws.{canonical_shape}
use Rattle.canonical.proofs.StandsLaws.{short_in, fits_in}
use Rattle.canonical.proofs.FileLaws.{recorded_in, recorded_length, recorded_distinct, entry_found, found_entry}
use Rattle.canonical.proofs.FileLaws.{matter_parties, matter_labels, matter_says, accepted_matter}

-- the canonical file, in either edition
pub canonical_file : (e : ℕ) → IsEdition e → (M : Matter) → InLimits M → FileFor e M (canonical_of e M)
canonical_file e known M i = record {
  accepted = canonical_accepted e known M i;
  header = canonical_edition e M;
  matter = canonical_matter e M i;
  shape = canonical_shape e M i;
}

-- the edition that is written is one
pub written_known : IsEdition written_edition
written_known = (omega arith, omega arith)

module _ (f : List ℕ) (a : check_of f ≡ Ok tt) where
  -- the copy records what the file does
  copy_recorded : (u v k : ℕ) → legal_kind (labels_of f) k ≡ true
      → recorded (canonical_of written_edition (matter_of f)) u v k ≡ recorded f u v k
  copy_recorded u v k l =
      canonical_recorded written_edition (matter_of f) (accepted_matter f a) u v k (rw (matter_labels f) l) ∙ matter_says f a u v k l

  -- an accepted file's R is the number of its entries
  pub accepted_count : records_of f ≡ count_of (matter_of f)
  accepted_count =
      let c : List ℕ = canonical_of written_edition (matter_of f) in
      let w = records_right f ((accepted_iff_well_formed f).0 a) in
      let y = canonical_right written_edition written_known (matter_of f) (accepted_matter f a) in
      let z : labels_of c ≡ labels_of f = canonical_labels written_edition (matter_of f) ∙ matter_labels f in
      sym (recorded_length f w)
      ∙ distinct_equal (recorded_in f) (recorded_in c) (recorded_distinct f w) (recorded_distinct c y)
      (λ e m.
      let o = entry_found f w e m in
      found_entry c y e.owner e.target e.kind
      (copy_recorded e.owner e.target e.kind o.legal ∙ o.found))
      (λ e m.
      let o = entry_found c y e m in
      found_entry f w e.owner e.target e.kind
      (sym (copy_recorded e.owner e.target e.kind (rw z at o.legal)) ∙ o.found))
      ∙ recorded_length c y
      ∙ canonical_records written_edition (matter_of f)

  -- so the length of a canonical file of its matter follows from the file's own numbers
  pub canonical_length : (e : ℕ) → length (canonical_of e (matter_of f)) ≡ file_size e (parties_of f) (records_of f)
  canonical_length e =
      canonical_size e (matter_of f)
      ∙ ap (λ (n : ℕ). file_size e n (count_of (matter_of f))) (matter_parties f)
      ∙ ap (file_size e (parties_of f)) (sym accepted_count)

  pub copy_size : length (copy_for f) ≡ file_size written_edition (parties_of f) (records_of f)
  unfolding copy_for
  copy_size = canonical_length written_edition

  pub copied : CopyOf f (copy_for f)
  unfolding copy_for
  copied = record { file = canonical_file written_edition written_known (matter_of f) (accepted_matter f a); size = copy_size }

-- equal matters, field by field
module _ (f g : List ℕ) where
  pub same_matter : SameMatter f g → matter_of f ≡ matter_of g
  unfolding matter_of
  same_matter s = λ j. record {
    parties = s.parties j;
    labels = s.labels j;
    language = s.language j;
    longest = s.longest j;
    edge = λ u v l. s.edges u v l j;
    unknown = λ u v l. s.unknowns u v l j;
    permit = λ u v. s.permits u v j;
  }

  module _ (a : check_of f ≡ Ok tt) (b : check_of g ≡ Ok tt) where
    -- R follows from the rest
    pub records_follow : matter_of f ≡ matter_of g → records_of f ≡ records_of g
    records_follow e = accepted_count f a ∙ ap count_of e ∙ sym (accepted_count g b)

    matter_same : matter_of f ≡ matter_of g → SameMatter f g
    unfolding matter_of
    matter_same e = record {
      parties = ap (λ (M : Matter). M.parties) e;
      labels = ap (λ (M : Matter). M.labels) e;
      language = ap (λ (M : Matter). M.language) e;
      longest = ap (λ (M : Matter). M.longest) e;
      records = records_follow e;
      edges = λ u v l. ap (λ (M : Matter). M.edge u v l) e;
      unknowns = λ u v l. ap (λ (M : Matter). M.unknown u v l) e;
      permits = λ u v. ap (λ (M : Matter). M.permit u v) e;
    }

    -- 02, Ticket 1: "Two accepted files with equal header fields, relations and permits give equal bytes, and unequal
    -- ones don't."; of either edition
    pub copies_equal : (copy_for f ≡ copy_for g) ↔ SameMatter f g
    unfolding copy_for
    copies_equal = (
      λ e. matter_same (sym (copied f a).file.matter ∙ ap matter_of e ∙ (copied g b).file.matter),
      λ s. ap (canonical_of written_edition) (same_matter s),
    )

-- an answer that writes
written : {c d : List ℕ} → writes c ≡ writes d → c ≡ d
written e = cc

refused : {x y : Refusal} → refuses x ≡ refuses y → x ≡ y
refused e = cc

apart : {x : Refusal} {c : List ℕ} → refuses x ≡ writes c → ⊥
apart e = let z : ◌≡◌ {A = ℕ} 0 1 = cc in omega arith

-- the call, by the file's check and the output's size
pub write_refused : (f : List ℕ) (x : Refusal) (size : ℕ) → check_of f ≡ Err x → write_call f size ≡ refuses x
unfolding write_call
write_refused f x size e = rw e

module _ (f : List ℕ) (a : check_of f ≡ Ok tt) where
  write_accepted : (size : ℕ) → write_call f size ≡ write_in (copy_for f) size
  unfolding write_call copy_for
  write_accepted size = rw a

  -- 14 where the output is shorter than the copy
  pub write_short : (size : ℕ) → size < file_size written_edition (parties_of f) (records_of f) → write_call f size ≡ refuses Output
  write_short size h = write_accepted size ∙ short_in (copy_for f) size (omega (arith, copy_size f a))

  pub write_fits : (size : ℕ) → file_size written_edition (parties_of f) (records_of f) ≤ size → write_call f size ≡ writes (copy_for f)
  write_fits size h = write_accepted size ∙ fits_in (copy_for f) size (omega (arith, copy_size f a))

  -- what the call wrote is the copy
  written_is : (size : ℕ) (c : List ℕ) → write_call f size ≡ writes c → copy_for f ≡ c
  written_is size c e =
      by_cases (dec_lt size (file_size written_edition (parties_of f) (records_of f)))
      (λ h. absurd (apart (sym (write_short size h) ∙ e)))
      (λ h. written (sym (write_fits size (omega arith)) ∙ e))

  pub write_copies : (size : ℕ) (c : List ℕ) → write_call f size ≡ writes c → CopyOf f c
  write_copies size c e = rw (written_is size c e) at (copied f a)

-- "Writing the written file again changes nothing.": the same bytes, and 14 for the same outputs
pub write_again : (f : List ℕ) → check_of f ≡ Ok tt → (size : ℕ) (c : List ℕ) → write_call f size ≡ writes c → (j : ℕ)
    → (length c ≤ j → write_call c j ≡ writes c) × (j < length c → write_call c j ≡ refuses Output)
unfolding copy_for
write_again f a size c e j =
    let k = (write_copies f a size c e).file in
    let p : copy_for c ≡ c = ap (canonical_of written_edition) k.matter ∙ written_is f a size c e in
    let l : length c ≡ file_size written_edition (parties_of c) (records_of c) = ap length (sym p) ∙ copy_size c k.accepted in
    (λ h. write_fits c k.accepted j (omega arith) ∙ ap writes p, λ h. write_short c k.accepted j (omega arith))

-- the file's refusals, 1 to 8, 15 and 16, and 14; no other
pub write_refusals : (f : List ℕ) (size : ℕ) (x : Refusal) → write_call f size ≡ refuses x → OfFile x ⊎ (x ≡ Output)
unfolding write_call write_in copy_for
write_refusals f size x e =
    by_check (check_of f)
    (λ q. by_test (leb (length (copy_for f)) size) (λ t. absurd (apart (sym (rw (q, t) at e)))) (λ t. inr (refused (sym (rw (q, t) at e)))))
    (λ y q. inl (file_refusals f x (q ∙ ap Err (refused (rw q at e)))))

-- the same over the calls: what two calls wrote is equal exactly where the files say the same
pub written_equal : (f g : List ℕ) → check_of f ≡ Ok tt → check_of g ≡ Ok tt → (j k : ℕ)
    → file_size written_edition (parties_of f) (records_of f) ≤ j → file_size written_edition (parties_of g) (records_of g) ≤ k
    → (write_call f j ≡ write_call g k) ↔ SameMatter f g
written_equal f g a b j k h l = (
  λ e. (copies_equal f g a b).0 (written (sym (write_fits f a j h) ∙ e ∙ write_fits g b k l)),
  λ s. write_fits f a j h ∙ ap writes ((copies_equal f g a b).1 s) ∙ sym (write_fits g b k l),
)

pub file_said : (r s : Result ℕ Refusal) → said_file r ≡ said_file s → r ≡ s
file_said (Err x) (Err y) e = ap Err (refusal_said e)
file_said (Err x) (Ok k) e = clash (cc e)
file_said (Ok j) (Err y) e = clash (cc e)
file_said (Ok j) (Ok k) e = ap Ok (cc e)
