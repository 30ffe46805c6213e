-- What the writer's functions promise each other: the matter that header numbers and masks of kinds say, and the numbers of its records.
use Rattle.std.specs.Prelude.{Some}
use Rattle.std.specs.Prelude.{ℕ, ◌+◌, ◌*◌, ◌-◌, ◌≤◌, ◌<◌, ◌≡◌, true, List, map, length, get_or}
use Rattle.lists.specs.Lists.{filter_by, flat_map}
use Rattle.masks.specs.promises.Mask.{test_bit}
use Rattle.masks.specs.promises.Table.{mask_at}
use Rattle.masks.specs.declared.Table.{Table}
use Rattle.rebac.specs.Matter.{Matter}
use Rattle.house_layout.specs.Fields.{legal_kind}
use Rattle.house_layout.specs.Layout.{header_size, owned_record, head_place}
use Rattle.house_layout.specs.promises.Kinds.{permit_bit, unknown_bit, bit_of}
use Rattle.house_layout.specs.declared.header.Header.{Header}
use Rattle.house_layout.specs.declared.record.Record.{Record}
use Rattle.canonical.specs.Canonical.{Entry, entry, kind_bytes, says_kind, first_of, chain_records, record_bytes}
use Rattle.canonical.specs.Canonical.{count_of, written_edition}
use Rattle.canonical.specs.Shape.{InLimits}
use Rattle.canonical.specs.declared.count.Firsts.{Firsts}
use Rattle.canonical.specs.declared.matter.MatterIn.{MatterIn}
use Rattle.canonical.specs.declared.chain.Chain.{Chain}

-- the matter that the header's numbers and the masks of kinds say
abbrev pub matter_in : Header → Table → Matter
matter_in h k = record {
  parties = h.parties;
  labels = h.labels;
  language = h.language;
  longest = h.longest;
  edge = λ u v l. test_bit (mask_at k u v) l;
  unknown = λ u v l. test_bit (mask_at k u v) (unknown_bit + l);
  permit = λ u v. test_bit (mask_at k u v) permit_bit;
}

abbrev pub matter_by : MatterIn → Matter
matter_by m = matter_in m.header m.masks.now

-- the header's numbers and the masks of kinds stand for the matter
pub record Stands (M : Matter) (h : Header) (k : Table) : Type 0 where
  pub limits : InLimits M
  pub parties : h.parties ≡ M.parties
  pub labels : h.labels ≡ M.labels
  pub language : h.language ≡ M.language
  pub longest : h.longest ≡ M.longest
  pub kinds : (u v b : ℕ) → legal_kind M.labels b ≡ true → test_bit (mask_at k u v) (bit_of b) ≡ says_kind M u v b

-- the kinds that a mask has, ascending
unfoldable pub kinds_in : ℕ → ℕ → List ℕ
kinds_in labels mask = filter_by (λ k. test_bit mask (bit_of k)) (kind_bytes labels)

-- the bytes of a chain's records in the edition that is written, from record `number` on
unfoldable pub chain_bytes : ℕ → ℕ → List Entry → List ℕ
chain_bytes end number es = flat_map record_bytes (chain_records written_edition end number es)

-- the bytes of one pair's records
unfoldable pub pair_bytes : ℕ → ℕ → ℕ → ℕ → List ℕ → List ℕ
pair_bytes end number owner target kinds = chain_bytes end number (map (entry owner target) kinds)

-- the numbers of the first records, and after them the number past the last record
abbrev pub numbers_in : Firsts → ℕ → ℕ
numbers_in f u = get_or f.numbers u 0

abbrev pub FirstsOf : Matter → Firsts → Type 0
FirstsOf M f = (u : ℕ) → u ≤ M.parties → numbers_in f u ≡ first_of M u

-- numbers that fit their bytes, and room for them in an output of this size: one record at a place, whether it has an owner byte or not,
pub record RecordFits (x : Record) (at size : ℕ) : Type 0 where
  pub target : x.target < 256
  pub kind : x.kind < 256
  pub next : x.next < 65536
  pub owner : (u : ℕ) → x.owner ≡ Some u → u < 256
  pub room : at + owned_record ≤ size

-- one pair's records from `number` on, in a chain,
pub record PairFits (c : Chain) (target mask number size : ℕ) : Type 0 where
  pub parties : (c.owner < 256) × (target < 256)
  pub first : 1 ≤ number
  pub kinds : number + length (kinds_in c.kinds.labels mask) ≤ c.end
  pub last : c.end < 65536
  pub room : c.base + owned_record * (c.end - 1) ≤ size

-- the header,
pub record HeaderFits (h : Header) (size : ℕ) : Type 0 where
  pub edition : h.edition < 256
  pub parties : h.parties < 256
  pub labels : h.labels < 256
  pub language : h.language < 256
  pub longest : h.longest < 256
  pub records : h.records < 65536
  pub room : header_size ≤ size

-- and the whole file
abbrev pub FileFits : MatterIn → ℕ → Type 0
FileFits m size = head_place m.header.parties + owned_record * m.header.records ≤ size

-- the header that is written, with the edition and the number of records, and the numbers of the first records
pub record Written (m : MatterIn) (f : Firsts) : Type 0 where
  pub edition : m.header.edition ≡ written_edition
  pub language : m.header.language < 256
  pub longest : m.header.longest < 256
  pub records : m.header.records ≡ count_of (matter_by m)
  pub firsts : FirstsOf (matter_by m) f
