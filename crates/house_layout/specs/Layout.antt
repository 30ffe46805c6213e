-- Where the fields of a house file stand (01, "The house file"; 02, Ticket 2: edition 2).
-- Only `record_size` and `owner_in` know the editions apart; every place and length is by them.
use Rattle.std.specs.Prelude.{ℕ, ◌+◌, ◌*◌, ◌-◌, ◌<◌, ◌≡◌, ◌⊎◌, List, Option, Some, None, eqb}
use Rattle.lists.specs.Lists.{pick}
use Rattle.limits.specs.Limits.{most_parties, most_records}
use Rattle.fields.specs.Numbers.{byte_at, u16_at}
use Rattle.house_layout.specs.declared.header.Header.{Header}
use Rattle.house_layout.specs.declared.record.Record.{Record}

-- the header's numbers: edition, n, L, language, D, R
abbrev pub edition_of : List ℕ → ℕ
edition_of f = byte_at f 0

abbrev pub parties_of : List ℕ → ℕ
parties_of f = byte_at f 1

abbrev pub labels_of : List ℕ → ℕ
labels_of f = byte_at f 2

abbrev pub language_of : List ℕ → ℕ
language_of f = byte_at f 3

abbrev pub longest_of : List ℕ → ℕ
longest_of f = byte_at f 4

abbrev pub records_of : List ℕ → ℕ
records_of f = u16_at f 6

abbrev pub header_of : List ℕ → Header
header_of f = record {
  edition = edition_of f;
  parties = parties_of f;
  labels = labels_of f;
  language = language_of f;
  longest = longest_of f;
  records = records_of f;
}

-- editions 1 (01) and 2 (02, Ticket 2) are read
abbrev pub last_edition : ℕ
last_edition = 2

-- the bytes of a record: 4 in edition 1 (01); 02, Ticket 2: "Edition 2 has records of 5 bytes: the four of old and then the owning party"
abbrev pub plain_record : ℕ
plain_record = 4

abbrev pub owned_record : ℕ
owned_record = 5

unfoldable pub record_size : ℕ → ℕ
record_size edition = pick (eqb edition 1) plain_record owned_record

-- the owner that a record says by this byte; in edition 1 there is none, it is "known only from the chain" (02, Ticket 2)
unfoldable pub owner_in : ℕ → ℕ → Option ℕ
owner_in edition u = pick (eqb edition 1) None (Some u)

-- the bytes of the header, and of a head
abbrev pub header_size : ℕ
header_size = 8

abbrev pub head_size : ℕ
head_size = 2

-- the place of party u's head; after the heads of n parties stands record 1
abbrev pub head_place : ℕ → ℕ
head_place u = header_size + head_size * u

-- the place of record r of a file of n parties; records are numbered from 1
abbrev pub record_place : ℕ → ℕ → ℕ → ℕ
record_place edition n r = head_place n + record_size edition * (r - 1)

-- the length of a file of n parties and R records: 8 + 2n + 4R (01), 8 + 2n + 5R (02, Ticket 2)
abbrev pub file_size : ℕ → ℕ → ℕ → ℕ
file_size edition n r = head_place n + record_size edition * r

-- the longest file: one of edition 2
abbrev pub longest_file : ℕ
longest_file = head_place most_parties + owned_record * most_records

-- the length that the header says
abbrev pub size_of : List ℕ → ℕ
size_of f = file_size (edition_of f) (parties_of f) (records_of f)

-- the number that party u's chain begins with
abbrev pub head_of : List ℕ → ℕ → ℕ
head_of f u = u16_at f (head_place u)

-- record r's first byte
abbrev pub place_of : List ℕ → ℕ → ℕ
place_of f r = record_place (edition_of f) (parties_of f) r

-- record r: target party, kind byte, next, owner
unfoldable pub record_of : List ℕ → ℕ → Record
record_of f r = record {
  target = byte_at f (place_of f r);
  kind = byte_at f (place_of f r + 1);
  next = u16_at f (place_of f r + 2);
  owner = owner_in (edition_of f) (byte_at f (place_of f r + 4));
}

-- 02, Ticket 5: "A kind byte of 80 plus label (hexadecimal) now says that this relation to the target is unknown"
abbrev pub unknown_from : ℕ
unknown_from = 128

abbrev pub unknown_kind : ℕ → ℕ
unknown_kind label = unknown_from + label

-- the kind byte of a permit
abbrev pub permit_kind : ℕ
permit_kind = 255

-- the legal kind bytes: a label below L, 80 plus such a label, a permit's
abbrev pub LegalKind : ℕ → ℕ → Type 0
LegalKind labels k = (k < labels) ⊎ (((l : ℕ) × ((l < labels) × (k ≡ unknown_kind l))) ⊎ (k ≡ permit_kind))
