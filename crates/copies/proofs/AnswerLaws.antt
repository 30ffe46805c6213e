-- Every call looks at a file's check and at its matter only, so two accepted files with one matter are answered alike,
-- in whichever editions: a file and its copy among them, and a file and the same matter in edition 1.
use Rattle.std.proofs.Common.{◌≡◌, sym, ◌∙◌, List, ℕ, Ok}
use Rattle.house_file.specs.Check.{check_of}
use Rattle.house_file.specs.Meaning.{IsEdition}
use Rattle.graph.specs.FileMatter.{matter_of}
use Rattle.paths.specs.Calls as path
use Rattle.rules.specs.Permit.{permit_call}
use Rattle.conversion.specs.Calls as conversion
use Rattle.canonical.specs.Calls as canonical
use Rattle.canonical.specs.Canonical.{canonical_of}
use Rattle.canonical.specs.Shape.{SameMatter}
use Rattle.canonical.proofs.FileLaws.{accepted_matter}
use Rattle.canonical.proofs.CopyLaws.{same_matter, canonical_file, write_copies}
use Rattle.comparison.specs.Compare.{compare_call}
use Rattle.report.specs.Report.{file_text}
use Rattle.copies.specs.Answers.{AnswersAs}

-- two files with one check's reply and one matter
pub same_answers : (f g : List ℕ) → check_of g ≡ check_of f → matter_of g ≡ matter_of f → AnswersAs f g
unfolding conversion.verdict_call conversion.mining_call path.path_call path.next_call permit_call
    compare_call canonical.write_call file_text
same_answers f g c m = record {
  check = c;
  verdict = rw (c, m);
  mining = λ scratch output. rw (c, m);
  path = λ a b w output. rw (c, m);
  next = λ a b w output. rw (c, m);
  permit = λ list a b. rw (c, m);
  compare = λ list. rw (c, m);
  write = λ output. rw (c, m);
  text = rw (c, m);
}

-- two accepted files that say the same
pub matter_answers : (f g : List ℕ) → check_of f ≡ Ok tt → check_of g ≡ Ok tt → SameMatter g f → AnswersAs f g
matter_answers f g a b s = same_answers f g (b ∙ sym a) (same_matter g f s)

-- 02, Ticket 2: "Verdicts and mined lists are those of the same matter in edition 1": at e = 1
pub edition_answers : (f : List ℕ) → check_of f ≡ Ok tt → (e : ℕ) → IsEdition e → AnswersAs f (canonical_of e (matter_of f))
edition_answers f a e k =
    let c = canonical_file e k (matter_of f) (accepted_matter f a) in
    same_answers f (canonical_of e (matter_of f)) (c.accepted ∙ sym a) c.matter

-- what the writer wrote for an accepted file is answered as the file
pub copy_answers : (f c : List ℕ) → check_of f ≡ Ok tt → (size : ℕ) → canonical.write_call f size ≡ canonical.writes c → AnswersAs f c
copy_answers f c a size e = let k = (write_copies f a size c e).file in same_answers f c (k.accepted ∙ sym a) k.matter
