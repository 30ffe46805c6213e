-- The check of a house file: 01's order of checks and its refusals 1 to 8; 02's refusal 15 stands between 4 and 6, and 16 after 8.
use Rattle.std.specs.Prelude.{ℕ, zero, suc, Bool, ⊤, Result, Ok, Err, not, ◌&&◌, List, [], ◌∷◌, ◌++◌, length, eqb, ltb}
use Rattle.lists.specs.Lists.{pick, all_of, any_of, member, up_from}
use Rattle.house_layout.specs.Layout.{parties_of, labels_of, records_of, header_size, size_of, head_of, record_of}
use Rattle.house_layout.specs.Reply.{refuse}
use Rattle.house_layout.specs.Fields.{fields_in_range, opposite, judge_record}
use Rattle.house_layout.specs.declared.reply.Refusal.{Refusal}
use Rattle.house_layout.specs.declared.reply.Refusal.TheVariants.{Length, Field, Link, Again, Unreached}

-- record s has this target and kind
unfoldable pub says : List ℕ → ℕ → ℕ → ℕ → Bool
says f t k s = eqb (record_of f s).target t && eqb (record_of f s).kind k

-- record s has this target and this kind's label, one known and one unknown
unfoldable pub contradicts : List ℕ → ℕ → ℕ → ℕ → Bool
contradicts f t k s = eqb (record_of f s).target t && opposite (labels_of f) k (record_of f s).kind

-- the checks 4, 15, 6, 7, 8, 16 of record r of party u's chain. `before`: the records of the chains of lower parties;
-- `earlier`: those of this chain
unfoldable pub record_check : List ℕ → ℕ → List ℕ → List ℕ → ℕ → Result ⊤ Refusal
record_check f u before earlier r =
    judge_record (parties_of f) (labels_of f) u (record_of f r)
    (member r (before ++ earlier))
    (any_of (says f (record_of f r).target (record_of f r).kind) earlier)
    (any_of (contradicts f (record_of f r).target (record_of f r).kind) earlier)

-- what following chains gives: a refusal, or the numbers of the records passed, in order
pub data Followed : Type 0 where
  stopped : Refusal → Followed
  passed : List ℕ → Followed

abbrev pub if_accepted : Result ⊤ Refusal → Followed → Followed
if_accepted (Ok _) w = w
if_accepted (Err x) w = stopped x

-- R + 1 turns: a chain passes each record once, so they are enough, and a turn more could only meet a record again
abbrev pub enough_turns : List ℕ → ℕ
enough_turns f = suc (records_of f)

-- along party u's chain from record r on
unfoldable pub follow_chain : List ℕ → ℕ → ℕ → List ℕ → List ℕ → ℕ → Followed
follow_chain f u zero before earlier r = stopped Again
follow_chain f u (suc turns) before earlier r =
    pick (eqb r 0) (passed earlier)
    (if_accepted (refuse (ltb (records_of f) r) Link (record_check f u before earlier r))
    (follow_chain f u turns before (earlier ++ (r ∷ [])) (record_of f r).next))

abbrev pub and_then : Followed → (List ℕ → Followed) → Followed
and_then (stopped x) g = stopped x
and_then (passed c) g = g c

-- along the chains of m parties from u on
unfoldable pub follow_chains : List ℕ → ℕ → ℕ → List ℕ → Followed
follow_chains f u zero before = passed before
follow_chains f u (suc m) before =
    and_then (follow_chain f u (enough_turns f) before [] (head_of f u))
    (λ c. follow_chains f (suc u) m (before ++ c))

-- every record from 1 to r was reached
abbrev pub every_reached : ℕ → List ℕ → Bool
every_reached r seen = all_of (λ s. member s seen) (up_from 1 r)

-- a record never reached comes last
abbrev pub reached_all : ℕ → Followed → Result ⊤ Refusal
reached_all r (stopped x) = Err x
reached_all r (passed all) = refuse (not (every_reached r all)) Unreached (Ok tt)

unfoldable pub chains_check : List ℕ → Result ⊤ Refusal
chains_check f = reached_all (records_of f) (follow_chains f 0 (parties_of f) [])

-- the check's reply for any bytes
unfoldable pub check_of : List ℕ → Result ⊤ Refusal
check_of f =
    refuse (ltb (length f) header_size) Length
    (refuse (not (fields_in_range f)) Field
    (refuse (not (eqb (length f) (size_of f))) Length
    (chains_check f)))
