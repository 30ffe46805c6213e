-- How a call on a file opens: it loads the file, and a refusal is its own. The check is what the reply says, and by it
-- `over_matter` refuses or answers for the matter, which an accepted file's archive stands for. Assumes nothing.
use Rattle.std.proofs.Common.{◌≡◌, ◌∙◌, List, ℕ}
use Rattle.std.specs.Prelude.{⊤, Result, Ok, Err}
use Rattle.house_file.specs.Check.{check_of}
use Rattle.house_layout.specs.declared.reply.Refusal.{Refusal}
use Rattle.graph.specs.declared.archive.Archive.{Archive}
use Rattle.graph.specs.FileMatter.{matter_of}
use Rattle.graph.specs.promises.Archive.{Shows, LoadedAs}

-- what a reply says of the check: that the file is accepted, or why not
abbrev pub reply_check : {A : Type 0} → Result A Refusal → Result ⊤ Refusal
reply_check (Ok a) = Ok tt
reply_check (Err x) = Err x

-- of any reply whose promise says in either case what the check is
pub checked_as : {A : Type 0} (Q : Result A Refusal → Type 0) (f : List ℕ)
    → ((a : A) → Q (Ok a) → check_of f ≡ Ok tt) → ((x : Refusal) → Q (Err x) → check_of f ≡ Err x)
    → (r : Result A Refusal) → Q r → check_of f ≡ reply_check r
checked_as Q f accepts refuses (Ok a) q = accepts a q
checked_as Q f accepts refuses (Err x) q = refuses x q

module _ (f : List ℕ) (r : Result Archive Refusal) (l : LoadedAs f r) where
  -- either reply: what the check is
  pub load_check : {c : Result ⊤ Refusal} → reply_check r ≡ c → check_of f ≡ c
  load_check e = checked_as (LoadedAs f) f (λ a q. q.0) (λ x q. q) r l ∙ e

  pub load_shows : {a : Archive} → r ≡ Ok a → Shows (matter_of f) a
  load_shows {a} e = let loaded : LoadedAs f (Ok a) = rw e at l in loaded.1
