-- The numbers and masks that stand for a file's matter.
use Rattle.std.specs.Prelude.{ℕ, ◌≡◌, true, false, List, Result, Ok, Err}
use Rattle.rebac.specs.Matter.{Matter}
use Rattle.search.specs.declared.pair.PairIn.{PairIn}
use Rattle.house_file.specs.Check.{check_of}
use Rattle.house_layout.specs.declared.reply.Refusal.{Refusal}
use Rattle.house_layout.specs.declared.reply.Refusal.TheVariants.{PartyPair}
use Rattle.graph.specs.declared.archive.Archive.{Archive}
use Rattle.graph.specs.FileMatter.{matter_of}
use Rattle.graph.specs.Legal.{is_pair}
use Rattle.graph.specs.promises.Shown.{ShowsAs}

-- the archive stands for the matter
abbrev pub Shows : Matter → Archive → Type 0
Shows M a = ShowsAs M a.graph a.words a.permits

-- what loading any bytes gives: the archive where the check accepts, otherwise its refusal
abbrev pub LoadedAs : List ℕ → Result Archive Refusal → Type 0
LoadedAs f (Ok a) = (check_of f ≡ Ok tt) × Shows (matter_of f) a
LoadedAs f (Err x) = check_of f ≡ Err x

-- the pair of two numbers in the archive's graph, or refusal 10 where they are none
abbrev pub PairGiven : Archive → ℕ → ℕ → Result PairIn Refusal → Type 0
PairGiven a first second (Ok q) =
    (is_pair a.graph.parties first second ≡ true) × ((q.graph ≡ a.graph) × ((q.first ≡ first) × (q.second ≡ second)))
PairGiven a first second (Err x) = (is_pair a.graph.parties first second ≡ false) × (x ≡ PartyPair)
