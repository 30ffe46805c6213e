-- Files in which no kind says that a relation is unknown (02, Ticket 5), and the checks of a record as 01 has them without such kinds: for
-- theorems.
use Rattle.std.specs.Prelude.{ℕ, ◌<◌, ◌≡◌, ⊤, Result, Ok, not, ◌||◌, List, ◌++◌, eqb, ltb}
use mathlib.Core.List.{Memᴰ}
use Rattle.lists.specs.Lists.{any_of, member}
use Rattle.house_layout.specs.Layout.{parties_of, labels_of, record_of, unknown_kind, permit_kind}
use Rattle.house_layout.specs.Reply.{refuse}
use Rattle.house_layout.specs.Fields.{foreign, legal_target}
use Rattle.house_layout.specs.declared.reply.Refusal.{Refusal}
use Rattle.house_layout.specs.declared.reply.Refusal.TheVariants.{Again, Owner, Target, Kind, Repeat}
use Rattle.house_file.specs.Check.{says}
use Rattle.house_file.specs.Meaning.{chain_of}

-- record r does not call a relation unknown; no record of a chain does
abbrev pub KnownKind : List ℕ → ℕ → Type 0
KnownKind f r = (l : ℕ) → l < labels_of f → (record_of f r).kind ≡ unknown_kind l → ⊥

abbrev pub OnlyKnown : List ℕ → Type 0
OnlyKnown f = (u r : ℕ) → u < parties_of f → Memᴰ r (chain_of f u) → KnownKind f r

-- the checks 4, 15, 6, 7, 8 of record r of party u's chain
unfoldable pub listed_record_check : List ℕ → ℕ → List ℕ → List ℕ → ℕ → Result ⊤ Refusal
listed_record_check f u before earlier r =
    refuse (member r (before ++ earlier)) Again
    (refuse (foreign u (record_of f r).owner) Owner
    (refuse (not (legal_target (parties_of f) u (record_of f r).target)) Target
    (refuse (not (ltb (record_of f r).kind (labels_of f) || eqb (record_of f r).kind permit_kind)) Kind
    (refuse (any_of (says f (record_of f r).target (record_of f r).kind) earlier) Repeat
    (Ok tt)))))
