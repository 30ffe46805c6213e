-- Where the canonical file's numbers stand: its header by computing, heads as pieces of 2 bytes, records as pieces of
-- the edition's size. Assumes nothing.
use Rattle.std.proofs.Common.{Some, None, ◌≡◌, refl, sym, ap, ◌∙◌, List, [], ◌∷◌, ◌++◌, ℕ, zero, suc, ◌+◌, ◌*◌}
use Rattle.std.proofs.Common.{◌-◌, ◌≤◌, ◌<◌, arith, eqb, length, get_or, length-append, get_or-append-add}
use mathlib.Core.List.Memᴰ
use mathlib.Core.List.{Memᴰ}
use Rattle.std.proofs.Math.ListN.{get_or-append}
use Rattle.lists.specs.Lists.{flat_map, range}
use Rattle.lists.proofs.Cases.{by_test, by_mem}
use Rattle.lists.proofs.ListLaws.{range_out, up_length, flat_out}
use Rattle.lists.proofs.Pointwise.{flat_same}
use Rattle.lists.proofs.Pieces.{Sized, pieces_length, pieces_at, flat_lengths, flat_step, flat_most, flat_at, up_at}
use Rattle.fields.specs.Numbers.{byte_at, u16_at, u16_bytes}
use Rattle.fields.proofs.NumberLaws.{u16_size, u16_read}
use Rattle.rebac.specs.Matter.{Matter}
use Rattle.house_layout.specs.Layout.{edition_of, parties_of, labels_of, language_of, longest_of, records_of}
use Rattle.house_layout.specs.Layout.{head_of, record_size, owner_in, record_of}
use Rattle.house_layout.proofs.LayoutLaws.{size_least}
use Rattle.house_layout.specs.declared.header.Header.{Header}
use Rattle.house_layout.specs.declared.record.Record.{Record}
use Rattle.canonical.specs.Canonical.{Entry, entry, entries_of, entries_below, count_of, first_of, link, record_for, chain_records}
use Rattle.canonical.specs.Canonical.{records_for, header_bytes, heads_by, record_bytes, header_for, canonical_of}

abbrev pub no_entry : Entry
no_entry = entry 0 0 0

abbrev pub no_record : Record
no_record = record { target = 0; kind = 0; next = 0; owner = None }

-- a chain's records: as many as its entries, and each with its entry's target, kind and owner
module _ (edition end : ℕ) where
  pub linked_length : (r : ℕ) (es : List Entry) → length (chain_records edition end r es) ≡ length es
  unfolding chain_records
  linked_length r [] = refl
  linked_length r (e ∷ es) = ap suc (linked_length (suc r) es)

  pub linked_at : (r : ℕ) (es : List Entry) (i : ℕ) → i < length es
      → get_or (chain_records edition end r es) i no_record ≡ record_for edition end (r + i) (get_or es i no_entry)
  unfolding chain_records
  linked_at r [] i h = absurd (omega arith)
  linked_at r (e ∷ es) zero h = let z : r + 0 ≡ r = omega arith in rw z
  linked_at r (e ∷ es) (suc i) h = let z : suc r + i ≡ r + suc i = omega arith in linked_at (suc r) es i (omega arith) ∙ rw z

  pub linked_out : (r : ℕ) (es : List Entry) (x : Record) → Memᴰ x (chain_records edition end r es)
      → (k : ℕ) × ((e : Entry) × (Memᴰ e es × (x ≡ record_for edition end k e)))
  unfolding chain_records
  linked_out r [] x m = absurd (Memᴰ.not-nil m)
  linked_out r (e ∷ es) x m =
      by_mem m
      (λ q. (r, (e, (Memᴰ.head refl, q))))
      (λ n. let o = linked_out (suc r) es x n in (o.0, (o.1.0, (Memᴰ.tail o.1.1.0, o.1.1.1))))

  -- so its bytes are the edition's number
  record_size_lem : (r : ℕ) (e : Entry) → length (record_bytes (record_for edition end r e)) ≡ record_size edition
  unfolding record_bytes u16_bytes record_size owner_in
  record_size_lem r e = by_test (eqb edition 1) (λ q. rw q) (λ q. rw q)

  pub linked_sized : (r : ℕ) (es : List Entry) → Sized record_bytes (record_size edition) (chain_records edition end r es)
  linked_sized r es x m = let o = linked_out r es x m in rw o.1.1.1 (record_size_lem o.0 o.1.0)

pub header_size_lem : (h : Header) → length (header_bytes h) ≡ 8
unfolding header_bytes u16_bytes
header_size_lem h = refl

pub heads_size : (first : ℕ → ℕ) (n : ℕ) → length (heads_by first n) ≡ 2 * n
unfolding heads_by range
heads_size first n = pieces_length _ 2 (range n) (λ u m. u16_size _) ∙ ap (λ (k : ℕ). 2 * k) (up_length 0 n)

-- heads by the same numbers
pub heads_same : (first other : ℕ → ℕ) (n : ℕ) → ((u : ℕ) → u ≤ n → first u ≡ other u) → heads_by first n ≡ heads_by other n
unfolding heads_by
heads_same first other n h =
    flat_same (λ u. u16_bytes (link (first (suc u)) (first u))) (λ u. u16_bytes (link (other (suc u)) (other u))) (range n)
    (λ u m. let l : u < n = range_out n m in rw (h (suc u) l, h u (omega arith)))

module _ (M : Matter) where
  -- the numbers of party u's records
  pub first_step : (u : ℕ) → first_of M (suc u) ≡ first_of M u + length (entries_of M u)
  unfolding entries_below
  first_step u = omega (arith, flat_step (entries_of M) u)

  pub first_most : (u : ℕ) → u ≤ M.parties → first_of M u ≤ suc (count_of M)
  unfolding entries_below
  first_most u h = omega (arith, flat_most (entries_of M) u M.parties h)

  pub first_order : (u v : ℕ) → u ≤ v → first_of M u ≤ first_of M v
  unfolding entries_below
  first_order u v h = omega (arith, flat_most (entries_of M) u v h)

module _ (edition : ℕ) (M : Matter) where
  -- the parts behind the header: the heads, and the records
  heads : List ℕ
  heads = heads_by (first_of M) M.parties

  records : List Record
  records = flat_map (records_for edition M) (range M.parties)

  range_size : length (range M.parties) ≡ M.parties
  unfolding range
  range_size = up_length 0 M.parties

  heads_number : length heads ≡ 2 * M.parties
  unfolding heads
  heads_number = heads_size (first_of M) M.parties

  pub records_below : (u : ℕ) → length (flat_map (records_for edition M) (range u)) ≡ length (entries_below M u)
  unfolding records_for entries_below
  records_below u =
      flat_lengths (records_for edition M) (entries_of M) u
      (λ v l. linked_length edition (first_of M (suc v)) (first_of M v) (entries_of M v))

  records_number : length records ≡ count_of M
  unfolding records
  records_number = records_below M.parties

  pub records_sized : (u : ℕ) → Sized record_bytes (record_size edition) (flat_map (records_for edition M) (range u))
  unfolding records_for
  records_sized u x m = let o = flat_out (records_for edition M) (range u) m in linked_sized edition _ _ (entries_of M o.0) x o.2

  -- 8 + 2n + 4R or 8 + 2n + 5R bytes
  pub canonical_size : length (canonical_of edition M) ≡ 8 + 2 * M.parties + record_size edition * count_of M
  unfolding canonical_of heads records
  canonical_size =
      let r : length (flat_map record_bytes records) ≡ record_size edition * count_of M =
      pieces_length record_bytes (record_size edition) records (records_sized M.parties)
      ∙ ap (λ (k : ℕ). record_size edition * k) records_number in
      let h = length-append (header_bytes (header_for edition M)) (heads ++ flat_map record_bytes records) in
      omega (arith, h, header_size_lem (header_for edition M), length-append heads (flat_map record_bytes records), heads_number, r)

  -- the header's numbers
  pub canonical_edition : edition_of (canonical_of edition M) ≡ edition
  unfolding canonical_of header_bytes
  canonical_edition = refl

  pub canonical_zero : byte_at (canonical_of edition M) 5 ≡ 0
  unfolding canonical_of header_bytes
  canonical_zero = refl

  pub canonical_parties : parties_of (canonical_of edition M) ≡ M.parties
  unfolding canonical_of header_bytes
  canonical_parties = refl

  pub canonical_labels : labels_of (canonical_of edition M) ≡ M.labels
  unfolding canonical_of header_bytes
  canonical_labels = refl

  pub canonical_language : language_of (canonical_of edition M) ≡ M.language
  unfolding canonical_of header_bytes
  canonical_language = refl

  pub canonical_longest : longest_of (canonical_of edition M) ≡ M.longest
  unfolding canonical_of header_bytes
  canonical_longest = refl

  pub canonical_records : records_of (canonical_of edition M) ≡ count_of M
  unfolding canonical_of header_bytes u16_bytes
  canonical_records = u16_read (canonical_of edition M) 6 (count_of M) refl refl

  -- after the header, the heads; after them, the records
  after_header : (i : ℕ) → byte_at (canonical_of edition M) (8 + i) ≡ get_or (heads ++ flat_map record_bytes records) i 0
  unfolding canonical_of heads records
  after_header i =
      let z : 8 + i ≡ length (header_bytes (header_for edition M)) + i = omega (arith, header_size_lem (header_for edition M)) in
      rw z (get_or-append-add (header_bytes (header_for edition M)) (heads ++ flat_map record_bytes records) i 0)

  head_byte : (u j : ℕ) → u < M.parties → j < 2
      → byte_at (canonical_of edition M) (8 + 2 * u + j) ≡ get_or (u16_bytes (link (first_of M (suc u)) (first_of M u))) j 0
  unfolding heads heads_by range
  head_byte u j h g =
      let z : 8 + 2 * u + j ≡ 8 + (2 * u + j) = omega arith in
      let head : ℕ → List ℕ = λ k. u16_bytes (link (first_of M (suc k)) (first_of M k)) in
      ap (byte_at (canonical_of edition M)) z
      ∙ after_header (2 * u + j)
      ∙ get_or-append heads (flat_map record_bytes records) 0 (2 * u + j) (omega (arith, heads_number))
      ∙ pieces_at head 2 (range M.parties) (λ k m. u16_size (link (first_of M (suc k)) (first_of M k)))
      u j 0 0 (omega (arith, range_size)) g
      ∙ ap (λ (k : ℕ). get_or (head k) j 0) (up_at 0 M.parties u 0 h ∙ omega arith)

  pub canonical_head : (u : ℕ) → u < M.parties → head_of (canonical_of edition M) u ≡ link (first_of M (suc u)) (first_of M u)
  unfolding u16_bytes
  canonical_head u h =
      let z : 8 + 2 * u + 0 ≡ 8 + 2 * u = omega arith in
      u16_read (canonical_of edition M) (8 + 2 * u) (link (first_of M (suc u)) (first_of M u))
      (ap (byte_at (canonical_of edition M)) (sym z) ∙ head_byte u 0 h (omega arith))
      (head_byte u 1 h (omega arith))

  -- record i + 1 stands at this place
  at : ℕ → ℕ
  at i = 8 + 2 * M.parties + record_size edition * i

  record_byte : (i j : ℕ) → i < count_of M → j < record_size edition
      → byte_at (canonical_of edition M) (at i + j) ≡ get_or (record_bytes (get_or records i no_record)) j 0
  unfolding at records
  record_byte i j h g =
      let z : 8 + 2 * M.parties + record_size edition * i + j ≡ 8 + (length heads + (record_size edition * i + j)) =
      omega (arith, heads_number) in
      ap (byte_at (canonical_of edition M)) z
      ∙ after_header (length heads + (record_size edition * i + j))
      ∙ get_or-append-add heads (flat_map record_bytes records) (record_size edition * i + j) 0
      ∙ pieces_at record_bytes (record_size edition) records (records_sized M.parties) i j no_record 0 (omega (arith, records_number)) g

  -- a record of this edition, whose bytes stand at its place
  module _ (r end q : ℕ) (e : Entry)
      (h : (j : ℕ) → j < record_size edition
      → byte_at (canonical_of edition M) (at (r - 1) + j) ≡ get_or (record_bytes (record_for edition end q e)) j 0) where
    owner_same : owner_in edition (byte_at (canonical_of edition M) (at (r - 1) + 4)) ≡ owner_in edition e.owner
    unfolding owner_in record_size record_bytes u16_bytes
    owner_same = by_test (eqb edition 1) (λ t. rw t) (λ t. rw t (ap Some (rw t at (h 4 (rw t (omega arith))))))

    record_same : record_of (canonical_of edition M) r ≡ record_for edition end q e
    unfolding record_of record_bytes u16_bytes at
    record_same =
        let s : 4 ≤ record_size edition = size_least edition in
        let f : List ℕ = canonical_of edition M in
        let z : at (r - 1) + 0 ≡ at (r - 1) = omega arith in
        let y : at (r - 1) + 2 + 1 ≡ at (r - 1) + 3 = omega arith in
        let t : byte_at f (at (r - 1)) ≡ e.target = ap (byte_at f) (sym z) ∙ h 0 (omega arith) in
        let k : byte_at f (at (r - 1) + 1) ≡ e.kind = h 1 (omega arith) in
        let n : u16_at f (at (r - 1) + 2) ≡ link end (suc q) =
        u16_read f (at (r - 1) + 2) (link end (suc q)) (h 2 (omega arith)) (ap (byte_at f) y ∙ h 3 (omega arith)) in
        rw (canonical_parties, canonical_edition) (λ i. record { target = t i; kind = k i; next = n i; owner = owner_same i })

  -- record i of party u's chain
  pub party_record : (u i : ℕ) → u < M.parties → i < length (entries_of M u)
      → record_of (canonical_of edition M) (first_of M u + i)
      ≡ record_for edition (first_of M (suc u)) (first_of M u + i) (get_or (entries_of M u) i no_entry)
  unfolding records records_for
  party_record u i h g =
      let l = linked_length edition (first_of M (suc u)) (first_of M u) (entries_of M u) in
      let z : first_of M u + i - 1 ≡ length (flat_map (records_for edition M) (range u)) + i = omega (arith, records_below u) in
      let e : get_or records (first_of M u + i - 1) no_record
      ≡ record_for edition (first_of M (suc u)) (first_of M u + i) (get_or (entries_of M u) i no_entry) =
      ap (λ (k : ℕ). get_or records k no_record) z
      ∙ flat_at (records_for edition M) M.parties u i no_record h (omega (arith, l))
      ∙ linked_at edition (first_of M (suc u)) (first_of M u) (entries_of M u) i g in
      record_same (first_of M u + i) (first_of M (suc u)) (first_of M u + i) (get_or (entries_of M u) i no_entry)
      (λ j b.
      record_byte (first_of M u + i - 1) j (omega (arith, first_step M u, first_most M (suc u) h)) b
      ∙ ap (λ (x : Record). get_or (record_bytes x) j 0) e)
