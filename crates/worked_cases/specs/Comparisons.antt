-- Rule lists held against files (02, Ticket 3), worked by hand.
use Rattle.std.specs.Prelude.{ℕ, List, [], ◌∷◌, Option, None, Some, Result, Ok, Err}
use Rattle.house_layout.specs.Reply.{Said, refusal, values}
use Rattle.house_layout.specs.declared.reply.Refusal.TheVariants.{Length, RuleList}
use Rattle.rebac.specs.Matter.{pair}
use Rattle.mining.specs.Values.{pair_value}
use Rattle.house_layout.specs.declared.reply.Refusal.{Refusal}
use Rattle.comparison.specs.declared.call.Difference.{Difference}
use Rattle.comparison.specs.declared.call.Difference.TheVariants.{OnlyFile, OnlyList}
use Rattle.worked_cases.specs.Files.{file_a, file_a2}
use Rattle.worked_cases.specs.Copies.{one_party}

pub record ComparedList : Type 0 where
  pub file : List ℕ
  pub list : List ℕ
  pub reply : Result (Option Difference) Refusal
  -- the reply's number or values
  pub said : Said

abbrev same : List ℕ → List ℕ → ComparedList
same f l = record { file = f; list = l; reply = Ok None; said = values [] }

abbrev by_file : List ℕ → List ℕ → ℕ → ℕ → ComparedList
by_file f l a b = record { file = f; list = l; reply = Ok (Some (OnlyFile (pair_value (pair a b)))); said = values (a ∷ b ∷ 0 ∷ []) }

abbrev by_list : List ℕ → List ℕ → ℕ → ℕ → ComparedList
by_list f l a b = record { file = f; list = l; reply = Ok (Some (OnlyList (pair_value (pair a b)))); said = values (a ∷ b ∷ 1 ∷ []) }

abbrev broken : List ℕ → List ℕ → ComparedList
broken f l = record { file = f; list = l; reply = Err RuleList; said = refusal 9 }

-- C's file: relations 0 to 1 and 1 to 2, permit (2,0)
abbrev file_c : List ℕ
file_c =
    1 ∷ 3 ∷ 1 ∷ 0 ∷ 2 ∷ 0 ∷ 3 ∷ 0
    ∷ 1 ∷ 0 ∷ 2 ∷ 0 ∷ 3 ∷ 0
    ∷ 1 ∷ 0 ∷ 0 ∷ 0
    ∷ 2 ∷ 0 ∷ 0 ∷ 0
    ∷ 0 ∷ 0xFF ∷ 0 ∷ 0
    ∷ []

abbrev no_terms : List ℕ
no_terms = 0 ∷ 0 ∷ []

-- the terms 00.00 and 00
abbrev two_steps : List ℕ → List ℕ
two_steps l = 1 ∷ 0 ∷ 2 ∷ 0 ∷ 0 ∷ l

abbrev one_step : List ℕ → List ℕ
one_step l = 1 ∷ 0 ∷ 1 ∷ 0 ∷ l

abbrev pub compared_lists : List ComparedList
compared_lists =
    -- A's own list, in both editions of the file
    same file_a (1 ∷ 0 ∷ two_steps [])
    ∷ same file_a2 (1 ∷ 0 ∷ two_steps [])
    ∷ by_file file_a no_terms 0 2
    ∷ by_list file_a (1 ∷ 0 ∷ one_step []) 0 1
    -- both terms, in either order
    ∷ by_list file_a (2 ∷ 0 ∷ two_steps (one_step [])) 0 1
    ∷ by_list file_a (2 ∷ 0 ∷ one_step (two_steps [])) 0 1
    -- a term twice; a word twice in its term
    ∷ same file_a (2 ∷ 0 ∷ two_steps (two_steps []))
    ∷ same file_a (1 ∷ 0 ∷ 2 ∷ 0 ∷ 2 ∷ 0 ∷ 0 ∷ 2 ∷ 0 ∷ 0 ∷ [])
    -- cut short; broken after a term by which they differ
    ∷ broken file_a (1 ∷ 0 ∷ [])
    ∷ broken file_a (2 ∷ 0 ∷ one_step (0 ∷ 0 ∷ []))
    -- not convertible, so no list is the same
    ∷ by_file file_c no_terms 2 0
    ∷ by_list file_c (1 ∷ 0 ∷ one_step []) 0 1
    -- no pairs: every legal list is the same
    ∷ same one_party no_terms
    ∷ same one_party (1 ∷ 0 ∷ one_step [])
    ∷ broken one_party (1 ∷ 0 ∷ [])
    -- a file that is refused comes before a list that is
    ∷ record { file = 1 ∷ []; list = 1 ∷ 0 ∷ []; reply = Err Length; said = refusal 1 }
    ∷ []
