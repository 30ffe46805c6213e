-- The verdict and mining calls (01, "The calls"): what each answers and writes, for any bytes and buffers.
use Rattle.std.specs.Prelude.{ℕ, ◌/◌, ◌%◌, ◌≡◌, Bool, true, false, ◌&&◌, List, [], ◌∷◌, ◌++◌, map, length, drop, replicate, leb, Result, Ok}
use Rattle.std.specs.Prelude.{Err}
use Rattle.lists.specs.Lists.{range}
use Rattle.limits.specs.Limits.{most_parties, pair_numbers, scratch_size}
use Rattle.rebac.specs.Matter.{Matter, Pair, pair}
use Rattle.rebac.specs.Verdict.{Verdict, convertible, no_word, rivalled, is_convertible}
use Rattle.rebac.specs.Existence.{problem_of, verdict_of, mined_list, plain_list, permits_pair}
use Rattle.house_layout.specs.Reply.{Said, refusal, values, number_of}
use Rattle.house_layout.specs.declared.reply.Refusal.{Refusal}
use Rattle.house_layout.specs.declared.reply.Refusal.TheVariants.{Scratch, Inconvertible, Output}
use Rattle.graph.specs.Legal.{is_pair}
use Rattle.graph.specs.Refusals.{unless, over_matter}
use Rattle.rule_bytes.specs.ListBytes.{encode_list}
use Rattle.mining.specs.Values.{pair_value}
use Rattle.conversion.specs.declared.verdict.Verdict.{Verdict as VerdictValue}
use Rattle.conversion.specs.declared.verdict.Verdict.TheVariants as reply

-- the list that mining writes, and its bytes
unfoldable pub list_of : Matter → List (List (List ℕ))
list_of M = plain_list (mined_list M)

unfoldable pub bytes_of : Matter → List ℕ
bytes_of M = encode_list (list_of M)

-- Verdict: "convertible, with the length in bytes of the list that mining writes; or not convertible, with a pair",
-- and "no word" or the rival
abbrev pub verdict_reply : ℕ → Verdict Pair → Result VerdictValue Refusal
verdict_reply size convertible = Ok (reply.Convertible size)
verdict_reply size (no_word p) = Ok (reply.NoWord (pair_value p))
verdict_reply size (rivalled p q) = Ok (reply.Rival (pair_value p) (pair_value q))

-- the reply in 01's number and values: the length; the pair; the pair and its rival
abbrev pub said_verdict : Result VerdictValue Refusal → Said
said_verdict (Err x) = refusal (number_of x)
said_verdict (Ok (reply.Convertible k)) = values (k ∷ [])
said_verdict (Ok (reply.NoWord p)) = values (p.first ∷ p.second ∷ [])
said_verdict (Ok (reply.Rival p q)) = values (p.first ∷ p.second ∷ q.first ∷ q.second ∷ [])

unfoldable pub verdict_in : Matter → Result VerdictValue Refusal
verdict_in M = verdict_reply (length (bytes_of M)) (verdict_of M)

unfoldable pub verdict_call : List ℕ → Result VerdictValue Refusal
verdict_call f = over_matter Err f verdict_in

-- what mining answers: a refusal, 14 apart from the others, or the table and the list that it writes
pub data MiningAnswer : Type 0 where
  refuses : Refusal → MiningAnswer
  too_short : MiningAnswer
  writes : List ℕ → List ℕ → MiningAnswer

-- "Scratch byte 32a + b, of the first 1,024, is then 1 where the list permits (a, b) and otherwise 0."
abbrev pub one_if : Bool → ℕ
one_if true = 1
one_if false = 0

abbrev pub list_permits : Matter → ℕ → ℕ → Bool
list_permits M a b = is_pair M.parties a b && permits_pair M (list_of M) (pair a b)

unfoldable pub table_of : Matter → List ℕ
table_of M = map (λ k. one_if (list_permits M (k / most_parties) (k % most_parties))) (range pair_numbers)

-- 1,024 bytes 0
unfoldable pub clear_table : List ℕ
clear_table = replicate scratch_size 0

abbrev pub enough : Bool → MiningAnswer → MiningAnswer
enough true k = k
enough false k = too_short

-- Mining: 12 by scratch's length, 13 by the verdict, 14 by the output's length
unfoldable pub mining_in : Matter → ℕ → ℕ → MiningAnswer
mining_in M scratch output =
    unless refuses (leb scratch_size scratch) Scratch
    (unless refuses (is_convertible (problem_of M) (verdict_of M)) Inconvertible
    (enough (leb (length (bytes_of M)) output)
    (writes (table_of M) (bytes_of M))))

unfoldable pub mining_call : List ℕ → ℕ → ℕ → MiningAnswer
mining_call f scratch output = over_matter refuses f (λ M. mining_in M scratch output)

-- "The list is written from the output's first byte and its length returned."
abbrev pub mining_reply : MiningAnswer → Result ℕ Refusal
mining_reply (refuses x) = Err x
mining_reply too_short = Err Output
mining_reply (writes t l) = Ok (length l)

-- the reply in 01's number and values
abbrev pub said_mining : Result ℕ Refusal → Said
said_mining (Err x) = refusal (number_of x)
said_mining (Ok k) = values (k ∷ [])

-- "Scratch keeps all bytes too, except at 14 in mining, where its first 1,024 become 0."
abbrev pub mining_scratch : MiningAnswer → List ℕ → List ℕ
mining_scratch (refuses x) old = old
mining_scratch too_short old = clear_table ++ drop scratch_size old
mining_scratch (writes t l) old = t ++ drop scratch_size old

abbrev pub mining_output : MiningAnswer → List ℕ → List ℕ
mining_output (refuses x) old = old
mining_output too_short old = old
mining_output (writes t l) old = l ++ drop (length l) old

-- what mining gives, with its answer by the lengths of scratch and output: the reply, and every byte of both
abbrev pub Mined : (ℕ → ℕ → MiningAnswer) → Result ℕ Refusal → List ℕ → List ℕ → List ℕ → List ℕ → Type 0
Mined answer r scratch scratchAfter output outputAfter =
    (r ≡ mining_reply (answer (length scratch) (length output)))
    × ((scratchAfter ≡ mining_scratch (answer (length scratch) (length output)) scratch)
    × (outputAfter ≡ mining_output (answer (length scratch) (length output)) output))
