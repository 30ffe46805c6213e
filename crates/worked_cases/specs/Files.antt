-- 01, "Threadings tried": case A's file, the same in edition 2 (02, Ticket 2), and files that are refused.
use Rattle.std.specs.Prelude.{ℕ, ◌/◌, ◌%◌, ◌≡◌, List, [], ◌∷◌, ◌++◌, take, set, Ok, Err}
use Prim.Native.String.{String}
use Rattle.house_layout.specs.Reply.{number_of}
use Rattle.house_file.specs.Check.{check_of}
use Rattle.house_layout.specs.declared.reply.Refusal.{Refusal}
use Rattle.house_layout.specs.declared.reply.Refusal.TheVariants.{Length, Field, Link, Again, Unreached}
use Rattle.house_layout.specs.declared.reply.Refusal.TheVariants.{Owner, Target, Kind, Repeat, Contrary}
use Rattle.graph.specs.FileMatter.{matter_of}
use Rattle.conversion.specs.Calls.{bytes_of, verdict_call}
use Rattle.conversion.specs.declared.verdict.Verdict.TheVariants.{Convertible}
use Rattle.report.specs.Report.{file_text}
use Rattle.worked_cases.specs.Text.{bytes_in}
use Rattle.worked_cases.specs.Cases.{CaseRow}

-- "A's file, 26 bytes: 01 03 01 00 02 00 03 00, heads 01 00 03 00 00 00, records 01 00 02 00, 02 FF 00 00, 02 00 00 00."
abbrev pub file_a : List ℕ
file_a =
    1 ∷ 3 ∷ 1 ∷ 0 ∷ 2 ∷ 0 ∷ 3 ∷ 0
    ∷ 1 ∷ 0 ∷ 3 ∷ 0 ∷ 0 ∷ 0
    ∷ 1 ∷ 0 ∷ 2 ∷ 0
    ∷ 2 ∷ 0xFF ∷ 0 ∷ 0
    ∷ 2 ∷ 0 ∷ 0 ∷ 0
    ∷ []

-- A in edition 2: each record with its owner
abbrev pub file_a2 : List ℕ
file_a2 =
    2 ∷ 3 ∷ 1 ∷ 0 ∷ 2 ∷ 0 ∷ 3 ∷ 0
    ∷ 1 ∷ 0 ∷ 3 ∷ 0 ∷ 0 ∷ 0
    ∷ 1 ∷ 0 ∷ 2 ∷ 0 ∷ 0
    ∷ 2 ∷ 0xFF ∷ 0 ∷ 0 ∷ 0
    ∷ 2 ∷ 0 ∷ 0 ∷ 0 ∷ 1
    ∷ []

-- a file is accepted and says a row's matter, so that the calls answer as the row does
pub record FileHolds (f : List ℕ) (c : CaseRow) : Type 0 where
  pub accepted : check_of f ≡ Ok tt
  pub matter : matter_of f ≡ c.matter
  pub reply : verdict_call f ≡ c.reply
  pub bytes : (k : ℕ) → c.reply ≡ Ok (Convertible k) → bytes_of (matter_of f) ≡ c.bytes
  pub text : file_text f ≡ bytes_in c.first_line ++ bytes_in c.term_lines

-- a file and the refusal expected, with its number and what permitconv prints
pub record RefusedFile : Type 0 where
  pub file : List ℕ
  pub refusal : Refusal
  pub number : ℕ
  pub line : String

abbrev refused : List ℕ → Refusal → ℕ → String → RefusedFile
refused f x k s = record { file = f; refusal = x; number = k; line = s }

-- A's file, and the same in edition 2, with byte i set to v
abbrev changed : ℕ → ℕ → List ℕ
changed i v = set file_a i v

abbrev changed2 : ℕ → ℕ → List ℕ
changed2 i v = set file_a2 i v

-- A's file with another n, and with another R
abbrev pub with_parties : ℕ → List ℕ
with_parties n = changed 1 n

abbrev pub with_records : ℕ → List ℕ
with_records r = set (changed 6 (r % 256)) 7 (r / 256)

abbrev pub refused_files : List RefusedFile
refused_files =
    -- "shorter than 8 bytes", and "of another length than the header says"
    refused (take 7 file_a) Length 1 "refused 1\n"
    ∷ refused (take 25 file_a) Length 1 "refused 1\n"
    -- "R 8,928 passes its field; 8,929 is 2. n 32 passes; 33 is 2."
    ∷ refused (with_records 8928) Length 1 "refused 1\n"
    ∷ refused (with_records 8929) Field 2 "refused 2\n"
    ∷ refused (with_parties 32) Length 1 "refused 1\n"
    ∷ refused (with_parties 33) Field 2 "refused 2\n"
    -- party 0's head, record 1's next: above R
    ∷ refused (changed 8 4) Link 3 "refused 3\n"
    ∷ refused (changed 16 4) Link 3 "refused 3\n"
    -- "With record 2's next 01 00: refusal 4. With head 1 zero: 5."
    ∷ refused (changed 20 1) Again 4 "refused 4\n"
    ∷ refused (changed 10 0) Unreached 5 "refused 5\n"
    -- record 1's target: n, and the chain's own party
    ∷ refused (changed 14 3) Target 6 "refused 6\n"
    ∷ refused (changed 14 0) Target 6 "refused 6\n"
    -- record 1's kind: L
    ∷ refused (changed 15 1) Kind 7 "refused 7\n"
    -- record 1 with the target and kind of record 2
    ∷ refused (set (changed 14 2) 15 0xFF) Repeat 8 "refused 8\n"
    -- 02, Ticket 5: record 1's kind 80 plus L; records 1 and 2 with one target and label: known and unknown, the reverse, unknown twice
    ∷ refused (changed 15 0x81) Kind 7 "refused 7\n"
    ∷ refused (set (changed 18 1) 19 0x80) Contrary 16 "refused 16\n"
    ∷ refused (set (set (changed 15 0x80) 18 1) 19 0) Contrary 16 "refused 16\n"
    ∷ refused (set (set (changed 15 0x80) 18 1) 19 0x80) Repeat 8 "refused 8\n"
    -- edition 2 behind edition 1's header and the reverse; no edition
    ∷ refused (changed2 0 1) Length 1 "refused 1\n"
    ∷ refused (changed 0 2) Length 1 "refused 1\n"
    ∷ refused (changed2 0 3) Field 2 "refused 2\n"
    ∷ refused (changed2 0 0) Field 2 "refused 2\n"
    -- record 1's owner: party 1, and no party at all
    ∷ refused (changed2 18 1) Owner 15 "refused 15\n"
    ∷ refused (changed2 18 3) Owner 15 "refused 15\n"
    -- 15 "after 4 and before 6": record 3 with another owner and no target; head 1 at record 1, whose owner is party 0
    ∷ refused (set (changed2 28 0) 24 3) Owner 15 "refused 15\n"
    ∷ refused (changed2 10 1) Again 4 "refused 4\n"
    -- known and unknown in edition 2
    ∷ refused (set (changed2 19 1) 20 0x80) Contrary 16 "refused 16\n"
    -- a wrong target stands earlier in the chain than a wrong owner
    ∷ refused (set (changed2 14 3) 23 1) Target 6 "refused 6\n"
    -- record 3 is never reached, whatever its owner
    ∷ refused (set (changed2 10 0) 28 2) Unreached 5 "refused 5\n"
    ∷ []

-- the check's reply, the number of it, and what permitconv prints
pub record Refuses (c : RefusedFile) : Type 0 where
  pub check : check_of c.file ≡ Err c.refusal
  pub number : number_of c.refusal ≡ c.number
  pub text : file_text c.file ≡ bytes_in c.line
