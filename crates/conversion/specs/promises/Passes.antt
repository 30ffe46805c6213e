-- What the functions that go through the pairs promise each other.
use Rattle.std.specs.Prelude.{ℕ, ◌+◌, ◌/◌, ◌%◌, ◌≤◌, ◌≡◌, ◌⊎◌, List, ◌++◌, map, length, drop, Result, Ok, Err}
use Rattle.lists.specs.Lists.{range}
use Rattle.limits.specs.Limits.{most_parties, pair_numbers}
use Rattle.masks.specs.promises.Mask.{test_bit}
use Rattle.masks.specs.promises.Table.{mask_in}
use Rattle.masks.specs.declared.Row.{Row}
use Rattle.rebac.specs.Mining.{mine}
use Rattle.rebac.specs.Verdict.{verdict}
use Rattle.rebac.specs.Existence.{plain_list}
use Rattle.graph.specs.declared.archive.Archive.{Archive}
use Rattle.rule_bytes.specs.ListBytes.{encode_list}
use Rattle.mining.specs.promises.Building.{problem_in}
use Rattle.mining.specs.promises.Taking.{PairMarks}
use Rattle.mining.specs.declared.build.Pair.{Pair as PairValue}
use Rattle.mining.specs.declared.build.Obstacle.{Obstacle}
use Rattle.mining.specs.declared.build.Obstacle.TheVariants as obstacle
use Rattle.house_layout.specs.declared.reply.Refusal.{Refusal}
use Rattle.conversion.specs.declared.verdict.Verdict.{Verdict as VerdictValue}
use Rattle.conversion.specs.declared.verdict.Verdict.TheVariants.{Convertible, NoWord, Rival}
use Rattle.conversion.specs.declared.verdict.Hindered.{Hindered}
use Rattle.conversion.specs.declared.verdict.Judged.{Judged}
use Rattle.conversion.specs.Calls.{one_if, verdict_reply}

-- the bytes of an archive's list
unfoldable pub archive_bytes : Archive → List ℕ
archive_bytes a = encode_list (plain_list (mine (problem_in a)))

unfoldable pub archive_verdict : Archive → Result VerdictValue Refusal
archive_verdict a = verdict_reply (length (archive_bytes a)) (verdict (problem_in a))

-- the bytes of the longest term
abbrev pub longest_term : ℕ
longest_term = 31778

-- what the verdict needs: in a slice of this size room for a term at the limit, or for the list
abbrev pub JudgeRoom : Archive → ℕ → ℕ → Type 0
JudgeRoom a limit size = (limit + longest_term ≤ size) ⊎ (length (archive_bytes a) ≤ size)

-- the archive's list at the start of a slice, and its marks
pub record ListWritten (a : Archive) (old new : List ℕ) (row : Row) : Type 0 where
  pub bytes : new ≡ archive_bytes a ++ drop (length (archive_bytes a)) old
  pub marks : PairMarks a (mine (problem_in a)) row

-- what is in a pair's way, as the verdict says it
abbrev pub verdict_by : PairValue → Obstacle → VerdictValue
verdict_by p obstacle.NoWord = NoWord p
verdict_by p (obstacle.Rival q) = Rival p q

-- the verdict, and the list where it is within the limit
abbrev pub JudgedAs : Archive → ℕ → List ℕ → List ℕ → Result Judged Hindered → Type 0
JudgedAs a limit old new (Ok j) = (Ok (Convertible j.size) ≡ archive_verdict a) × (j.size ≤ limit → ListWritten a old new j.marks)
JudgedAs a limit old new (Err h) = Ok (verdict_by h.pair h.obstacle) ≡ archive_verdict a

-- the longest list that is kept while the verdict is found
abbrev pub kept_list : ℕ
kept_list = 65536

-- what writing the list needs: a convertible archive, its list and marks where they are kept, and room in an output
pub record ListRoom (a : Archive) (list : List ℕ) (j : Judged) (output : ℕ) : Type 0 where
  pub verdict : Ok (Convertible j.size) ≡ archive_verdict a
  pub kept : j.size ≤ kept_list → (old : List ℕ) × ListWritten a old list j.marks
  pub room : j.size ≤ output

-- the bits of a row of masks as 1,024 bytes
unfoldable pub row_bytes : Row → List ℕ
row_bytes r = map (λ k. one_if (test_bit (mask_in r (k / most_parties)) (k % most_parties))) (range pair_numbers)
