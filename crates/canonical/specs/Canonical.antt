-- The canonical file of a matter, in an edition (02, Tickets 1, 2 and 5): "the same matter with records numbered along
-- the chains, party 0 first, each chain by target and then by kind byte".
use Rattle.std.specs.Prelude.{ℕ, suc, ◌-◌, Bool, List, [], ◌∷◌, ◌++◌, map, length, eqb, ltb, Option, Some, None}
use Rattle.lists.specs.Lists.{pick, filter_by, flat_map, range}
use Rattle.fields.specs.Numbers.{u16_bytes}
use Rattle.rebac.specs.Matter.{Matter}
use Rattle.house_layout.specs.Layout.{owner_in, unknown_from, unknown_kind, permit_kind}
use Rattle.house_layout.specs.declared.header.Header.{Header}
use Rattle.house_layout.specs.declared.record.Record.{Record}

-- what a record says: its owner's relation of this label to the target, that it is unknown, or a permit
pub record Entry : Type 0 where
  pub owner : ℕ
  pub target : ℕ
  pub kind : ℕ

abbrev pub entry : ℕ → ℕ → ℕ → Entry
entry u v k = record { owner = u; target = v; kind = k }

-- the kind bytes of a file with so many labels, ascending: the labels, 80 plus them (02, Ticket 5), then FF
unfoldable pub kind_bytes : ℕ → List ℕ
kind_bytes labels = range labels ++ (map unknown_kind (range labels) ++ (permit_kind ∷ []))

-- M says this kind of the pair (u, v)
unfoldable pub says_kind : Matter → ℕ → ℕ → ℕ → Bool
says_kind M u v k =
    pick (eqb k permit_kind) (M.permit u v)
    (pick (ltb k unknown_from) (M.edge u v k)
    (M.unknown u v (k - unknown_from)))

-- what M says of the pair (u, v), by kind byte
unfoldable pub pair_entries : Matter → ℕ → ℕ → List Entry
pair_entries M u v = map (entry u v) (filter_by (says_kind M u v) (kind_bytes M.labels))

-- what M says of party u, by target and then by kind byte
unfoldable pub entries_of : Matter → ℕ → List Entry
entries_of M u = flat_map (pair_entries M u) (range M.parties)

-- what M says of the parties below u, party 0 first
unfoldable pub entries_below : Matter → ℕ → List Entry
entries_below M u = flat_map (entries_of M) (range u)

-- R: a record for each entry
abbrev pub count_of : Matter → ℕ
count_of M = length (entries_below M M.parties)

-- the number of party u's first record, where it has one; records are numbered from 1
abbrev pub first_of : Matter → ℕ → ℕ
first_of M u = suc (length (entries_below M u))

-- a head or next: record r where it is before the chain's end, and otherwise 0
abbrev pub link : ℕ → ℕ → ℕ
link end r = pick (ltb r end) r 0

-- record r, in a chain that ends before record `end`
abbrev pub record_for : ℕ → ℕ → ℕ → Entry → Record
record_for edition end r e = record { target = e.target; kind = e.kind; next = link end (suc r); owner = owner_in edition e.owner }

-- a chain's records, numbered from r on
unfoldable pub chain_records : ℕ → ℕ → ℕ → List Entry → List Record
chain_records edition end r [] = []
chain_records edition end r (e ∷ es) = record_for edition end r e ∷ chain_records edition end (suc r) es

-- party u's records
unfoldable pub records_for : ℕ → Matter → ℕ → List Record
records_for edition M u = chain_records edition (first_of M (suc u)) (first_of M u) (entries_of M u)

-- the bytes of a header (01, "The house file"), of the heads of n parties whose first records are so numbered, and of a record
unfoldable pub header_bytes : Header → List ℕ
header_bytes h = h.edition ∷ h.parties ∷ h.labels ∷ h.language ∷ h.longest ∷ 0 ∷ u16_bytes h.records

unfoldable pub heads_by : (ℕ → ℕ) → ℕ → List ℕ
heads_by first n = flat_map (λ u. u16_bytes (link (first (suc u)) (first u))) (range n)

abbrev pub owner_bytes : Option ℕ → List ℕ
owner_bytes None = []
owner_bytes (Some u) = u ∷ []

unfoldable pub record_bytes : Record → List ℕ
record_bytes r = r.target ∷ r.kind ∷ (u16_bytes r.next ++ owner_bytes r.owner)

-- the numbers of M's header
abbrev pub header_for : ℕ → Matter → Header
header_for e M = record {
  edition = e;
  parties = M.parties;
  labels = M.labels;
  language = M.language;
  longest = M.longest;
  records = count_of M;
}

-- header, heads, and the records of all parties
unfoldable pub canonical_of : ℕ → Matter → List ℕ
canonical_of edition M =
    header_bytes (header_for edition M)
    ++ (heads_by (first_of M) M.parties
    ++ flat_map record_bytes (flat_map (records_for edition M) (range M.parties)))

-- 02, Ticket 2: "The writer of Ticket 1 writes edition 2 from now on, for files of either edition"
abbrev pub written_edition : ℕ
written_edition = 2
