-- What a check answers: accepted, or 01's refusal.
use Rattle.std.specs.Prelude.{ℕ, Bool, true, false, ⊤, List, [], Result, Ok, Err}
use Rattle.house_layout.specs.declared.reply.Refusal.{Refusal}
use Rattle.house_layout.specs.declared.reply.Refusal.TheVariants.{Length, Field, Link, Again, Unreached, Target, Kind, Repeat}
use Rattle.house_layout.specs.declared.reply.Refusal.TheVariants.{RuleList, PartyPair, GivenWord, Scratch, Inconvertible}
use Rattle.house_layout.specs.declared.reply.Refusal.TheVariants.{Output, Owner, Contrary}

-- 01's number of a refusal ("Who can make a call refuse"); 15 is Ticket 2's of 02, 16 Ticket 5's
abbrev pub number_of : Refusal → ℕ
number_of Length = 1
number_of Field = 2
number_of Link = 3
number_of Again = 4
number_of Unreached = 5
number_of Target = 6
number_of Kind = 7
number_of Repeat = 8
number_of RuleList = 9
number_of PartyPair = 10
number_of GivenWord = 11
number_of Scratch = 12
number_of Inconvertible = 13
number_of Output = 14
number_of Owner = 15
number_of Contrary = 16

-- 01: "Where an answer is an enum, a definition gives this paper's number and values for each of its cases": a refusal's number, or an
-- answer's values. Each call's reply has such a definition; equal ones mean equal replies.
pub data Said : Type 0 where
  refusal : ℕ → Said
  values : List ℕ → Said

abbrev pub said_check : Result ⊤ Refusal → Said
said_check (Ok _) = values []
said_check (Err x) = refusal (number_of x)

-- refused where the test holds, otherwise what follows
abbrev pub refuse : Bool → Refusal → Result ⊤ Refusal → Result ⊤ Refusal
refuse true x k = Err x
refuse false x k = k
