-- Only the refusals 1 to 8, 15 and 16 come from a file: each test of the check gives one of them, and following chains
-- passes on what it met.
use Rattle.std.proofs.Common.{◌≡◌, refl, ◌⊎◌, inl, inr, Bool, true, false, not, List, [], ◌∷◌, ◌++◌}
use Rattle.std.proofs.Common.{Result, Ok, Err, ℕ, zero, suc, ◌≤◌, arith, eqb, ltb, length}
use Rattle.std.specs.Prelude.{⊤}
use Rattle.lists.specs.Lists.{pick, all_of, member, up_from}
use Rattle.house_layout.specs.Layout.{parties_of, records_of, size_of, head_of, record_of}
use Rattle.house_layout.specs.Reply.{number_of, refuse}
use Rattle.house_layout.specs.Fields.{fields_in_range, foreign, legal_target, legal_kind, judge_record}
use Rattle.house_layout.specs.declared.record.Record.{Record}
use Rattle.house_layout.specs.declared.reply.Refusal.{Refusal}
use Rattle.house_layout.specs.declared.reply.Refusal.TheVariants.{Length, Field, Link, Again, Unreached}
use Rattle.house_layout.specs.declared.reply.Refusal.TheVariants.{Owner, Target, Kind, Repeat, Contrary}
use Rattle.house_file.specs.Check.{record_check, Followed, stopped, passed, if_accepted, enough_turns, follow_chain}
use Rattle.house_file.specs.Check.{and_then, follow_chains, reached_all, chains_check, check_of}

-- a refusal of a file; a reply, or what following gave, that refuses by one of them at the most
abbrev pub OfFile : Refusal → Type 0
OfFile x = (number_of x ≤ 8) ⊎ ((number_of x ≡ 15) ⊎ (number_of x ≡ 16))

abbrev FromFile : Result ⊤ Refusal → Type 0
FromFile (Ok _) = Unit {0}
FromFile (Err x) = OfFile x

abbrev FollowedFromFile : Followed → Type 0
FollowedFromFile (stopped x) = OfFile x
FollowedFromFile (passed c) = Unit {0}

refuse_from : (b : Bool) (x : Refusal) (c : Result ⊤ Refusal) → OfFile x → FromFile c → FromFile (refuse b x c)
refuse_from true x c h k = h
refuse_from false x c h k = k

pick_from : (b : Bool) (v w : Followed) → FollowedFromFile v → FollowedFromFile w → FollowedFromFile (pick b v w)
pick_from true v w h k = h
pick_from false v w h k = k

judge_from_lem : (n l u : ℕ) (r : Record) (again repeat contrary : Bool) → FromFile (judge_record n l u r again repeat contrary)
unfolding judge_record
judge_from_lem n l u r again repeat contrary =
    refuse_from again Again _ (inl (omega arith))
    (refuse_from (foreign u r.owner) Owner _ (inr (inl refl))
    (refuse_from (not (legal_target n u r.target)) Target _ (inl (omega arith))
    (refuse_from (not (legal_kind l r.kind)) Kind _ (inl (omega arith))
    (refuse_from repeat Repeat _ (inl (omega arith))
    (refuse_from contrary Contrary _ (inr (inr refl)) tt)))))

accepted_from : (c : Result ⊤ Refusal) (w : Followed) → FromFile c → FollowedFromFile w → FollowedFromFile (if_accepted c w)
accepted_from (Ok _) w h k = k
accepted_from (Err x) w h k = h

chain_from_lem : (f : List ℕ) (u k : ℕ) (before earlier : List ℕ) (r : ℕ) → FollowedFromFile (follow_chain f u k before earlier r)
unfolding follow_chain record_check
chain_from_lem f u zero before earlier r = inl (omega arith)
chain_from_lem f u (suc k) before earlier r =
    pick_from (eqb r 0) _ _ tt
    (accepted_from (refuse (ltb (records_of f) r) Link (record_check f u before earlier r)) _
    (refuse_from (ltb (records_of f) r) Link _ (inl (omega arith)) (judge_from_lem _ _ _ _ _ _ _))
    (chain_from_lem f u k before (earlier ++ (r ∷ [])) (record_of f r).next))

then_from : (w : Followed) (g : List ℕ → Followed) → FollowedFromFile w → ((c : List ℕ) → FollowedFromFile (g c))
    → FollowedFromFile (and_then w g)
then_from (stopped x) g h k = h
then_from (passed c) g h k = k c

chains_from_lem : (f : List ℕ) (u m : ℕ) (before : List ℕ) → FollowedFromFile (follow_chains f u m before)
unfolding follow_chains
chains_from_lem f u zero before = tt
chains_from_lem f u (suc m) before =
    then_from (follow_chain f u (enough_turns f) before [] (head_of f u)) _
    (chain_from_lem f u (enough_turns f) before [] (head_of f u))
    (λ c. chains_from_lem f (suc u) m (before ++ c))

reached_from : (r : ℕ) (w : Followed) → FollowedFromFile w → FromFile (reached_all r w)
reached_from r (stopped x) h = h
reached_from r (passed all) h = refuse_from (not (all_of (λ s. member s all) (up_from 1 r))) Unreached _ (inl (omega arith)) tt

check_from : (f : List ℕ) → FromFile (check_of f)
unfolding check_of chains_check
check_from f =
    refuse_from (ltb (length f) 8) Length _ (inl (omega arith))
    (refuse_from (not (fields_in_range f)) Field _ (inl (omega arith))
    (refuse_from (not (eqb (length f) (size_of f))) Length _ (inl (omega arith))
    (reached_from (records_of f) (follow_chains f 0 (parties_of f) []) (chains_from_lem f 0 (parties_of f) []))))

pub file_refusals : (f : List ℕ) (x : Refusal) → check_of f ≡ Err x → OfFile x
file_refusals f x e = rw e at (check_from f)
