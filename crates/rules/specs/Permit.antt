-- The permit call (01, "The calls").
use Rattle.std.specs.Prelude.{ℕ, Bool, true, false, List, [], ◌∷◌, Result, Ok, Err}
use Rattle.std.proofs.Math.Option.{Option, none, some}
use Rattle.rebac.specs.Matter.{Matter, Pair, pair}
use Rattle.rebac.specs.Existence.{permits_pair}
use Rattle.house_layout.specs.Reply.{Said, refusal, values, number_of}
use Rattle.house_layout.specs.declared.reply.Refusal.{Refusal}
use Rattle.house_layout.specs.declared.reply.Refusal.TheVariants.{RuleList, PartyPair}
use Rattle.graph.specs.Legal.{is_pair}
use Rattle.graph.specs.Refusals.{unless, over_matter}
use Rattle.rule_bytes.specs.ListBytes.{decode_list}

-- the reply in 01's number and values: no is 0, yes is 1
abbrev pub said_permit : Result Bool Refusal → Said
said_permit (Err x) = refusal (number_of x)
said_permit (Ok false) = values (0 ∷ [])
said_permit (Ok true) = values (1 ∷ [])

abbrev pub yes_or_no : Bool → Result Bool Refusal
yes_or_no b = Ok b

-- 9, or by the list that the bytes are
abbrev pub answer_by : Matter → Pair → Option (List (List (List ℕ))) → Result Bool Refusal
answer_by M p none = Err RuleList
answer_by M p (some l) = yes_or_no (permits_pair M l p)

-- the answer for an accepted file: 10, then 9, then yes or no
unfoldable pub permit_in : Matter → List ℕ → ℕ → ℕ → Result Bool Refusal
permit_in M list a b =
    unless Err (is_pair M.parties a b) PartyPair
    (answer_by M (pair a b) (decode_list M.labels M.language M.longest list))

-- 01: "Permit: for a rule list and a pair, yes or no." For any bytes; the file's refusals come first
unfoldable pub permit_call : List ℕ → List ℕ → ℕ → ℕ → Result Bool Refusal
permit_call file list a b = over_matter Err file (λ M. permit_in M list a b)
