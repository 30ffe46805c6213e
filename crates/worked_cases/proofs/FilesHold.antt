-- Case A's file and refused files, by computation: the file's matter is row A's, so the rows' theorem gives the rest. Assumes nothing.
use Rattle.std.proofs.Common.{ℕ, zero, suc, ◌≤◌, arith, ◌≡◌, refl, ◌∙◌, true, false, List, [], ◌∷◌, ◌++◌}
use Rattle.std.proofs.Common.{map, append-nil, length, eqb, ltb, eqb-true, le-ltb, ne_eqb, Ok, Err}
use mathlib.Core.List.{Memᴰ}
use Rattle.lists.specs.Lists.{all_of, any_of, up_from}
use Rattle.lists.proofs.Cases.{and_false}
use Rattle.lists.proofs.ListLaws.{all_in, any_out}
use Rattle.fields.specs.Numbers.{u16_at}
use Rattle.house_layout.specs.Layout.{record_size, owner_in, record_of}
use Rattle.house_layout.specs.Reply.{number_of}
use Rattle.house_layout.specs.Fields.{fields_in_range, judge_record}
use Rattle.house_file.specs.Check.{says, contradicts, record_check, follow_chain, follow_chains, chains_check, check_of}
use Rattle.house_file.specs.Meaning.{chain_from, chain_of, recorded, is_edge, is_unknown, is_permitted, WellFormed}
use Rattle.house_file.proofs.WellFormedLaws.{accepted_iff_well_formed}
use Rattle.graph.specs.FileMatter.{matter_of}
use Rattle.conversion.specs.Calls.{verdict_in, verdict_call}
use Rattle.conversion.specs.Demands.{MinesList}
use Rattle.conversion.proofs.Demand3.{mining_exact}
use Rattle.fields.specs.Decimal.{digits_in, decimal_text}
use Rattle.report.specs.Report.{refused_line, verdict_line, file_text}
use Rattle.worked_cases.specs.Text.{bytes_in}
use Rattle.worked_cases.specs.Cases.{CaseRow, RowHolds, row_a, listed_edge, listed_pair}
use Rattle.worked_cases.specs.Files.{file_a, file_a2, FileHolds, with_parties, with_records, RefusedFile, refused_files, Refuses}
use Rattle.worked_cases.proofs.CasesHold.{same_at, cases_hold}
use Rattle.worked_cases.proofs.CopiesHold.{copy_a}

accepted : check_of file_a ≡ Ok tt
unfolding all_of any_of up_from u16_at record_size owner_in record_of fields_in_range judge_record
    says contradicts record_check follow_chain follow_chains chains_check check_of
accepted = refl

-- a number from 3 on, by the tests
record Far (k : ℕ) : Type 0 where
  under : ltb k 3 ≡ false
  zero : eqb k 0 ≡ false
  one : eqb k 1 ≡ false
  two : eqb k 2 ≡ false
  one_to : eqb 1 k ≡ false
  two_to : eqb 2 k ≡ false

-- a statement about every number, from 0, 1, 2 and the numbers from 3 on
from_three : (A : ℕ → Type 0) → A 0 → A 1 → A 2 → ((k : ℕ) → Far k → A k) → (n : ℕ) → A n
from_three A a b c d zero = a
from_three A a b c d (suc zero) = b
from_three A a b c d (suc (suc zero)) = c
from_three A a b c d (suc (suc (suc k))) =
    let n = suc (suc (suc k)) in
    d n (record {
      under = le-ltb n 3 (omega arith);
      zero = ne_eqb n 0 (λ e. omega arith);
      one = ne_eqb n 1 (λ e. omega arith);
      two = ne_eqb n 2 (λ e. omega arith);
      one_to = ne_eqb 1 n (λ e. omega arith);
      two_to = ne_eqb 2 n (λ e. omega arith);
    })

edge_same : (l u v : ℕ) → is_edge file_a u v l ≡ row_a.matter.edge u v l
unfolding any_of u16_at record_size record_of says chain_from chain_of recorded is_edge listed_edge
edge_same zero =
    from_three (λ u. (v : ℕ) → is_edge file_a u v 0 ≡ row_a.matter.edge u v 0)
    (from_three (λ v. is_edge file_a 0 v 0 ≡ row_a.matter.edge 0 v 0) refl refl refl (λ v f. simp (f.one, f.one_to, f.two_to)))
    (from_three (λ v. is_edge file_a 1 v 0 ≡ row_a.matter.edge 1 v 0) refl refl refl (λ v f. simp (f.two, f.two_to)))
    (λ v. refl)
    (λ u f v. simp (f.under, f.zero, f.one))
edge_same (suc l) = λ u v.
    let q : eqb (suc l) 0 ≡ false = ne_eqb (suc l) 0 (λ e. omega arith) in
    rw (le-ltb (suc l) 1 (omega arith), and_false (eqb u 0) (and_false (eqb v 1) q), and_false (eqb u 1) (and_false (eqb v 2) q))

unknown_same : (l u v : ℕ) → is_unknown file_a u v l ≡ row_a.matter.unknown u v l
unfolding any_of u16_at record_size record_of says chain_from chain_of recorded is_unknown
unknown_same zero =
    from_three (λ u. (v : ℕ) → is_unknown file_a u v 0 ≡ false)
    (from_three (λ v. is_unknown file_a 0 v 0 ≡ false) refl refl refl (λ v f. simp (f.one_to, f.two_to)))
    (from_three (λ v. is_unknown file_a 1 v 0 ≡ false) refl refl refl (λ v f. simp f.two_to))
    (λ v. refl)
    (λ u f v. simp f.under)
unknown_same (suc l) = λ u v. rw (le-ltb (suc l) 1 (omega arith))

permit_same : (u v : ℕ) → is_permitted file_a u v ≡ row_a.matter.permit u v
unfolding any_of u16_at record_size record_of says chain_from chain_of recorded is_permitted listed_pair
permit_same =
    from_three (λ u. (v : ℕ) → is_permitted file_a u v ≡ row_a.matter.permit u v)
    (from_three (λ v. is_permitted file_a 0 v ≡ row_a.matter.permit 0 v) refl refl refl (λ v f. simp (f.two, f.one_to, f.two_to)))
    (from_three (λ v. is_permitted file_a 1 v ≡ row_a.matter.permit 1 v) refl refl refl (λ v f. simp f.two_to))
    (λ v. refl)
    (λ u f v. simp (f.under, f.zero))

matter_same : matter_of file_a ≡ row_a.matter
unfolding matter_of
matter_same = λ i. record {
  parties = 3;
  labels = 1;
  language = 0;
  longest = 2;
  edge = λ u v l. edge_same l u v i;
  unknown = λ u v l. unknown_same l u v i;
  permit = λ u v. permit_same u v i;
}

-- an accepted file with a row's matter has the row's reply and text
of_row : (f : List ℕ) (c : CaseRow) → check_of f ≡ Ok tt → matter_of f ≡ c.matter → RowHolds c → FileHolds f c
unfolding verdict_call file_text
of_row f c e m h =
    let v : verdict_call f ≡ verdict_in c.matter = rw (e, m) in
    record {
      accepted = e;
      matter = m;
      reply = v ∙ h.reply;
      bytes = λ k q. rw m (h.mined k q).bytes;
      text = rw (v, m, h.first_line, h.term_lines);
    }

pub file_a_holds : FileHolds file_a row_a
file_a_holds = of_row file_a row_a accepted matter_same (cases_hold row_a (Memᴰ.head refl))

-- the same in edition 2: it is A's copy, so it says what A does
pub file_a2_holds : FileHolds file_a2 row_a
file_a2_holds = of_row file_a2 row_a copy_a.file.accepted (copy_a.file.matter ∙ matter_same) (cases_hold row_a (Memᴰ.head refl))

-- lent enough, mining writes the list, returns 7, and permit on the list gives back the permit table
pub file_a_mined : (scratch output : List ℕ) → 1024 ≤ length scratch → 7 ≤ length output → MinesList file_a 7 scratch output
file_a_mined = mining_exact file_a accepted 7 file_a_holds.reply

-- so the theorems about well formed files are not about nothing
pub file_a_well_formed : WellFormed file_a
file_a_well_formed = (accepted_iff_well_formed file_a).0 accepted

pub file_a_length : length file_a ≡ 26
file_a_length = refl

-- the refusals, each by its file
checked : map (λ c. check_of c.file) refused_files ≡ map (λ c. Err c.refusal) refused_files
unfolding all_of any_of up_from u16_at record_size owner_in record_of fields_in_range judge_record
    says contradicts record_check follow_chain follow_chains chains_check check_of
checked = refl

numbered : map (λ c. number_of c.refusal) refused_files ≡ map (λ c. c.number) refused_files
numbered = refl

lined : map (λ c. refused_line c.refusal) refused_files ≡ map (λ c. bytes_in c.line) refused_files
unfolding digits_in decimal_text refused_line bytes_in
lined = refl

pub files_refused : (c : RefusedFile) → Memᴰ c refused_files → Refuses c
unfolding verdict_call verdict_line file_text
files_refused c m =
    let e : check_of c.file ≡ Err c.refusal =
    same_at (λ c. check_of c.file) (λ c. Err c.refusal) refused_files checked m in
    record {
      check = e;
      number = same_at (λ c. number_of c.refusal) (λ c. c.number) refused_files numbered m;
      text = rw (e, append-nil, same_at (λ c. refused_line c.refusal) (λ c. bytes_in c.line) refused_files lined m);
    }

-- each number that a file can be refused by is some row's
pub every_refusal : (k : ℕ) → Memᴰ k (up_from 1 8 ++ (15 ∷ 16 ∷ [])) → (c : RefusedFile) × Memᴰ c refused_files × (c.number ≡ k)
every_refusal k m =
    let r =
    any_out (λ c. eqb c.number k) refused_files
    (all_in (λ k. any_of (λ c. eqb c.number k) refused_files) (up_from 1 8 ++ (15 ∷ 16 ∷ [])) occurring m) in
    (r.0, r.1, eqb-true r.0.number k r.2)
  where
    occurring : all_of (λ k. any_of (λ c. eqb c.number k) refused_files) (up_from 1 8 ++ (15 ∷ 16 ∷ [])) ≡ true
    occurring = unfold all_of any_of up_from in refl

-- "R 8,928 passes its field", "n 32 passes"
pub fields_pass : (fields_in_range (with_records 8928) ≡ true) × (fields_in_range (with_parties 32) ≡ true)
unfolding u16_at fields_in_range
fields_pass = (refl, refl)
