-- What Ticket 3 says of the replies, in the words of the permit call, the permit table and pair order.
use Rattle.std.specs.Prelude.{ℕ, ◌≡◌, Bool, true, not, List}
use Rattle.std.proofs.Math.Option.{Option}
use Rattle.rebac.specs.Matter.{Matter, Pair, IsPair, pair_before, permitted}
use Rattle.rebac.specs.Words.{Word}
use Rattle.graph.specs.FileMatter.{matter_of}
use Rattle.rule_bytes.specs.ListBytes.{decode_list}
use Rattle.rules.specs.Permit.{permit_call, yes_or_no}
use Rattle.comparison.specs.Compare.{compare_call}

module _ (f list : List ℕ) where
  -- the file's matter
  abbrev M : Matter
  M = matter_of f

  -- the list that the bytes are for the file; none where they are no legal list
  abbrev pub decoded_for : Option (List (List Word))
  decoded_for = decode_list M.labels M.language M.longest list

  -- permit answers for the pair as the table has it
  abbrev pub Agree : Pair → Type 0
  Agree p = permit_call f list p.first p.second ≡ yes_or_no (permitted M p)

  -- the first pair in pair order that the one permits and the other doesn't:
  -- `in_table` is whether the table has it, and permit says the opposite
  pub record Parting (in_table : Bool) (p : Pair) : Type 0 where
    pub is_pair : IsPair M.parties p
    pub table : permitted M p ≡ in_table
    pub permit : permit_call f list p.first p.second ≡ yes_or_no (not in_table)
    pub before : (q : Pair) → IsPair M.parties q → pair_before q p ≡ true → Agree q

-- the calls that are given a list say the same for both
pub record SameReplies (f one other : List ℕ) : Type 0 where
  pub compare : compare_call f one ≡ compare_call f other
  pub permit : (a b : ℕ) → permit_call f one a b ≡ permit_call f other a b
