-- What each call of 01 and of Tickets 1 and 3 of 02 gives for a file: its reply, and every byte of the buffers lent to it;
-- and two files for which every call gives the same.
use Rattle.std.specs.Prelude.{ℕ, ◌≡◌, List, Option, Result, length}
use Rattle.house_file.specs.Check.{check_of}
use Rattle.search.specs.declared.word.Word.{Word}
use Rattle.paths.specs.Calls as path
use Rattle.rules.specs.Permit.{permit_call}
use Rattle.conversion.specs.Calls as conversion
use Rattle.house_layout.specs.declared.reply.Refusal.{Refusal}
use Rattle.canonical.specs.Calls as canonical
use Rattle.comparison.specs.Compare.{compare_call}
use Rattle.report.specs.Report.{file_text}

-- mining's reply, scratch and output
abbrev pub mined_for : List ℕ → List ℕ → List ℕ → Result ℕ Refusal × (List ℕ × List ℕ)
mined_for f scratch output =
    let m = conversion.mining_call f (length scratch) (length output) in
    (conversion.mining_reply m, (conversion.mining_scratch m scratch, conversion.mining_output m output))

-- the reply and output of path and of next-word
abbrev pub path_for : List ℕ → ℕ → ℕ → Word → List ℕ → Result (Option ℕ) Refusal × List ℕ
path_for f a b w output = let p = path.path_call f a b w (length output) in (path.word_reply p, path.word_output p output)

abbrev pub next_for : List ℕ → ℕ → ℕ → Word → List ℕ → Result (Option ℕ) Refusal × List ℕ
next_for f a b w output = let p = path.next_call f a b w (length output) in (path.word_reply p, path.word_output p output)

-- the writer's reply and output
abbrev pub written_for : List ℕ → List ℕ → Result ℕ Refusal × List ℕ
written_for f output = let p = canonical.write_call f (length output) in (canonical.file_reply p, canonical.file_output p output)

-- every call gives the same for both, and permitconv prints the same
pub record AnswersAs (f g : List ℕ) : Type 0 where
  pub check : check_of g ≡ check_of f
  pub verdict : conversion.verdict_call g ≡ conversion.verdict_call f
  pub mining : (scratch output : List ℕ) → mined_for g scratch output ≡ mined_for f scratch output
  pub path : (a b : ℕ) (w : Word) (output : List ℕ) → path_for g a b w output ≡ path_for f a b w output
  pub next : (a b : ℕ) (w : Word) (output : List ℕ) → next_for g a b w output ≡ next_for f a b w output
  pub permit : (list : List ℕ) (a b : ℕ) → permit_call g list a b ≡ permit_call f list a b
  pub compare : (list : List ℕ) → compare_call g list ≡ compare_call f list
  pub write : (output : List ℕ) → written_for g output ≡ written_for f output
  pub text : file_text g ≡ file_text f
