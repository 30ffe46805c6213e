-- A refusal's number says which it is, and is at most 16: each of the sixteen by computing. So a reply is known by
-- its number and values. Assumes nothing.
use Rattle.std.proofs.Common.{◌≡◌, refl, sym, ap, ◌∙◌, ℕ, ◌≤◌, arith, eqb, Result, Ok, Err}
use Rattle.std.specs.Prelude.{⊤}
use Rattle.lists.specs.Lists.{pick}
use Rattle.house_layout.specs.Reply.{number_of, refusal, said_check}
use Rattle.house_layout.specs.declared.reply.Refusal.{Refusal}
use Rattle.house_layout.specs.declared.reply.Refusal.TheVariants.{Length, Field, Link, Again, Unreached, Target, Kind, Repeat}
use Rattle.house_layout.specs.declared.reply.Refusal.TheVariants.{RuleList, PartyPair, GivenWord, Scratch, Inconvertible}
use Rattle.house_layout.specs.declared.reply.Refusal.TheVariants.{Output, Owner, Contrary}

-- the refusal of a number
refusal_of : ℕ → Refusal
refusal_of n =
    pick (eqb n 1) Length
    (pick (eqb n 2) Field
    (pick (eqb n 3) Link
    (pick (eqb n 4) Again
    (pick (eqb n 5) Unreached
    (pick (eqb n 6) Target
    (pick (eqb n 7) Kind
    (pick (eqb n 8) Repeat
    (pick (eqb n 9) RuleList
    (pick (eqb n 10) PartyPair
    (pick (eqb n 11) GivenWord
    (pick (eqb n 12) Scratch
    (pick (eqb n 13) Inconvertible
    (pick (eqb n 14) Output
    (pick (eqb n 15) Owner Contrary))))))))))))))

refusal_number : (x : Refusal) → (refusal_of (number_of x) ≡ x) × (number_of x ≤ 16)
unfolding refusal_of
refusal_number Length = (refl, omega arith)
refusal_number Field = (refl, omega arith)
refusal_number Link = (refl, omega arith)
refusal_number Again = (refl, omega arith)
refusal_number Unreached = (refl, omega arith)
refusal_number Target = (refl, omega arith)
refusal_number Kind = (refl, omega arith)
refusal_number Repeat = (refl, omega arith)
refusal_number RuleList = (refl, omega arith)
refusal_number PartyPair = (refl, omega arith)
refusal_number GivenWord = (refl, omega arith)
refusal_number Scratch = (refl, omega arith)
refusal_number Inconvertible = (refl, omega arith)
refusal_number Output = (refl, omega arith)
refusal_number Owner = (refl, omega arith)
refusal_number Contrary = (refl, omega arith)

pub number_apart : (x y : Refusal) → number_of x ≡ number_of y → x ≡ y
number_apart x y e = sym (refusal_number x).0 ∙ ap refusal_of e ∙ (refusal_number y).0

pub number_small : (x : Refusal) → number_of x ≤ 16
number_small x = (refusal_number x).1

-- equal numbers and values mean equal replies; for every call's reply, by its cases
pub refusal_said : {x y : Refusal} → refusal (number_of x) ≡ refusal (number_of y) → x ≡ y
refusal_said {x} {y} e = number_apart x y (cc e)

pub check_said : (c d : Result ⊤ Refusal) → said_check c ≡ said_check d → c ≡ d
check_said (Ok _) (Ok _) e = refl
check_said (Ok _) (Err y) e = cc
check_said (Err x) (Ok _) e = cc
check_said (Err x) (Err y) e = ap Err (refusal_said e)
