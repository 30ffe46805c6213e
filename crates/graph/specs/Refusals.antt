-- What calls are made of, whatever their reply: a test that refuses; and the file's own refusals before the answer for its matter.
use Rattle.std.specs.Prelude.{ℕ, Bool, true, false, ⊤, List, Result, Ok, Err}
use Rattle.rebac.specs.Matter.{Matter}
use Rattle.house_file.specs.Check.{check_of}
use Rattle.house_layout.specs.declared.reply.Refusal.{Refusal}
use Rattle.graph.specs.FileMatter.{matter_of}

module _ {R : Type 0} (refuse : Refusal → R) where
  abbrev pub unless : Bool → Refusal → R → R
  unless true x k = k
  unless false x k = refuse x

  -- refused as the check refuses, or the answer
  abbrev pub after_check : Result ⊤ Refusal → R → R
  after_check (Ok _) k = k
  after_check (Err x) k = refuse x

  -- a call on a file's bytes: the file's refusals come first, then the answer for its matter
  abbrev pub over_matter : List ℕ → (Matter → R) → R
  over_matter f answer = after_check (check_of f) (answer (matter_of f))
