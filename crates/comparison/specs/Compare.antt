-- The call that holds any rule list against a file's permit table (02, Ticket 3).
use Rattle.std.specs.Prelude.{ℕ, Bool, true, false, not, ◌&&◌, ◌||◌, List, [], ◌∷◌, Option, Some, None, Result, Ok, Err}
use Rattle.std.proofs.Math.Option.{Option as Sought, none, some}
use Rattle.lists.specs.Lists.{first_by}
use Rattle.rebac.specs.Matter.{Matter, Pair, pairs_of, permitted}
use Rattle.rebac.specs.Words.{Word}
use Rattle.rebac.specs.Existence.{permits_pair}
use Rattle.house_layout.specs.Reply.{Said, refusal, values, number_of}
use Rattle.house_layout.specs.declared.reply.Refusal.{Refusal}
use Rattle.house_layout.specs.declared.reply.Refusal.TheVariants.{RuleList}
use Rattle.graph.specs.Refusals.{over_matter}
use Rattle.rule_bytes.specs.ListBytes.{decode_list}
use Rattle.mining.specs.Values.{pair_value}
use Rattle.comparison.specs.declared.call.Difference.{Difference}
use Rattle.comparison.specs.declared.call.Difference.TheVariants.{OnlyFile, OnlyList}

module _ (M : Matter) (l : List (List Word)) where
  -- the table permits the pair and the list doesn't; the list does and the table doesn't
  unfoldable pub only_file : Pair → Bool
  only_file p = permitted M p && not (permits_pair M l p)

  unfoldable pub only_list : Pair → Bool
  only_list p = permits_pair M l p && not (permitted M p)

  -- "that the one permits and the other doesn't"
  unfoldable pub differ : Pair → Bool
  differ p = only_file p || only_list p

  -- "the first pair in pair order"
  unfoldable pub first_difference : Sought Pair
  first_difference = first_by differ (pairs_of M.parties)

-- "and which of the two permits it": the file's table, or else the list
abbrev pub side_of : Bool → Pair → Difference
side_of true p = OnlyFile (pair_value p)
side_of false p = OnlyList (pair_value p)

-- "same", which is no difference, or the pair and its side
abbrev pub answer_for : Matter → Sought Pair → Option Difference
answer_for M none = None
answer_for M (some p) = Some (side_of (permitted M p) p)

-- a matter and a list held against each other
unfoldable pub comparison : Matter → List (List Word) → Option Difference
comparison M l = answer_for M (first_difference M l)

-- 9, or by the list that the bytes are
abbrev pub compare_by : Matter → Sought (List (List Word)) → Result (Option Difference) Refusal
compare_by M none = Err RuleList
compare_by M (some l) = Ok (comparison M l)

-- the answer for an accepted file: 9, then "same" or the pair
unfoldable pub compare_in : Matter → List ℕ → Result (Option Difference) Refusal
compare_in M list = compare_by M (decode_list M.labels M.language M.longest list)

-- for any bytes: "It refuses as the permit call does, without the pair": the file's refusals, then 9
unfoldable pub compare_call : List ℕ → List ℕ → Result (Option Difference) Refusal
compare_call file list = over_matter Err file (λ M. compare_in M list)

-- the reply in number and values: none for "same"; the pair, then 0 where the file permits it and 1 where the list does
abbrev pub said_compare : Result (Option Difference) Refusal → Said
said_compare (Err x) = refusal (number_of x)
said_compare (Ok None) = values []
said_compare (Ok (Some (OnlyFile p))) = values (p.first ∷ p.second ∷ 0 ∷ [])
said_compare (Ok (Some (OnlyList p))) = values (p.first ∷ p.second ∷ 1 ∷ [])
