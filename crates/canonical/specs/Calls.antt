-- Calls that write a file: what they answer and write. The copy (02, Tickets 1, 2 and 5): an accepted file's matter,
-- written again in edition 2.
use Rattle.std.specs.Prelude.{Ok, Err, Result}
use Rattle.std.specs.Prelude.{ℕ, List, [], ◌∷◌, ◌++◌, length, drop, leb}
use Rattle.rebac.specs.Matter.{Matter}
use Rattle.house_layout.specs.Reply.{Said, refusal, values, number_of}
use Rattle.house_layout.specs.declared.reply.Refusal.{Refusal}
use Rattle.house_layout.specs.declared.reply.Refusal.TheVariants.{Output}
use Rattle.graph.specs.FileMatter.{matter_of}
use Rattle.graph.specs.Refusals.{unless, over_matter}
use Rattle.canonical.specs.Canonical.{canonical_of, written_edition}

-- a refusal, or the file that is written
pub data FileAnswer : Type 0 where
  refuses : Refusal → FileAnswer
  writes : List ℕ → FileAnswer

-- "It returns the length, as do later calls that write a file"
abbrev pub file_reply : FileAnswer → Result ℕ Refusal
file_reply (refuses x) = Err x
file_reply (writes l) = Ok (length l)

-- the reply in 01's number and values
abbrev pub said_file : Result ℕ Refusal → Said
said_file (Err x) = refusal (number_of x)
said_file (Ok k) = values (k ∷ [])

-- the output then: the file stands at its start, every other byte is kept
abbrev pub file_output : FileAnswer → List ℕ → List ℕ
file_output (refuses x) old = old
file_output (writes l) old = l ++ drop (length l) old

-- "a short output is 14, checked last"
unfoldable pub write_in : List ℕ → ℕ → FileAnswer
write_in file size = unless refuses (leb (length file) size) Output (writes file)

-- what is written for a matter, and for an accepted file
abbrev pub copy_in : Matter → List ℕ
copy_in M = canonical_of written_edition M

unfoldable pub copy_for : List ℕ → List ℕ
copy_for f = copy_in (matter_of f)

-- a file's copy, written to an output of this size
unfoldable pub write_call : List ℕ → ℕ → FileAnswer
write_call f size = over_matter refuses f (λ M. write_in (copy_in M) size)
