-- Which header fields and which record a file may have: the tests of 01's order of checks that need no chain.
use Rattle.std.specs.Prelude.{ℕ, Bool, false, ⊤, not, ◌&&◌, ◌||◌, List, Option, Some, None, Result, Ok, eqb, ltb, leb}
use Rattle.limits.specs.Limits.{most_parties, most_labels, last_language, longest_word, most_records}
use Rattle.fields.specs.Numbers.{byte_at}
use Rattle.house_layout.specs.Layout.{last_edition, edition_of, parties_of, labels_of, language_of, longest_of, records_of}
use Rattle.house_layout.specs.Layout.{unknown_from, unknown_kind, permit_kind}
use Rattle.house_layout.specs.Reply.{refuse}
use Rattle.house_layout.specs.declared.reply.Refusal.{Refusal}
use Rattle.house_layout.specs.declared.reply.Refusal.TheVariants.{Again, Owner, Target, Kind, Repeat, Contrary}
use Rattle.house_layout.specs.declared.record.Record.{Record}

abbrev pub within : ℕ → ℕ → ℕ → Bool
within low high x = leb low x && leb x high

-- every header field is in its range
unfoldable pub fields_in_range : List ℕ → Bool
fields_in_range f =
    within 1 last_edition (edition_of f)
    && (within 1 most_parties (parties_of f)
    && (within 1 most_labels (labels_of f)
    && (within 0 last_language (language_of f)
    && (within 1 longest_word (longest_of f)
    && (eqb (byte_at f 5) 0
    && leb (records_of f) most_records)))))

-- 02, Ticket 2: "an owner byte other than the chain's party"; where there is none, no test looks at it
abbrev pub foreign : ℕ → Option ℕ → Bool
foreign u None = false
foreign u (Some p) = not (eqb p u)

-- a target is a party other than the chain's own
abbrev pub legal_target : ℕ → ℕ → ℕ → Bool
legal_target n u t = ltb t n && not (eqb t u)

-- a kind byte is a label below L, 80 plus such a label (02, Ticket 5), or that of a permit
abbrev pub legal_kind : ℕ → ℕ → Bool
legal_kind l k = ltb k l || ((leb unknown_from k && ltb k (unknown_kind l)) || eqb k permit_kind)

-- 02, Ticket 5: "the same ... label, one known and one unknown"; a permit has no label
abbrev pub opposite : ℕ → ℕ → ℕ → Bool
opposite l j k = (ltb j l && eqb k (unknown_kind j)) || (ltb k l && eqb j (unknown_kind k))

-- one record of party u's chain, by 01's order; 15 is "checked after 4 and before 6" (02, Ticket 2), 16 "after 8" (Ticket 5)
-- `again`: it was reached before; `repeat`: an earlier record of the chain has its target and kind; `contrary`: its target and
-- label, one known and one unknown
unfoldable pub judge_record : ℕ → ℕ → ℕ → Record → Bool → Bool → Bool → Result ⊤ Refusal
judge_record n l u r again repeat contrary =
    refuse again Again
    (refuse (foreign u r.owner) Owner
    (refuse (not (legal_target n u r.target)) Target
    (refuse (not (legal_kind l r.kind)) Kind
    (refuse repeat Repeat
    (refuse contrary Contrary
    (Ok tt))))))
