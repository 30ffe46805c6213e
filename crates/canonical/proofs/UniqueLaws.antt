-- The shape leaves no choice: an accepted file in shape has, chain by chain, the entries of its matter in order, so its heads, its records
-- and then its bytes are the canonical file's. Assumes nothing.
use Rattle.std.proofs.Common.{Ok, ◌≡◌, sym, ap, ◌∙◌, true, List, map, ℕ, zero, suc, ◌+◌, ◌*◌}
use Rattle.std.proofs.Common.{◌-◌, ◌/◌, ◌%◌, ◌≤◌, ◌<◌, arith, length, get_or, ext_get_or}
use Rattle.std.proofs.Math.Logic.{by_cases}
use mathlib.Core.List.{Memᴰ}
use Rattle.std.proofs.Math.Decide.{dec_lt}
use Rattle.lists.specs.Lists.{flat_map, range, up_from}
use Rattle.lists.proofs.ListLaws.{map_in, map_out, up_in, up_length}
use Rattle.lists.proofs.OrderLaws.{ascending_equal, length_map}
use Rattle.lists.proofs.Pieces.{get_or_map, up_at, flat_lengths, flat_within}
use Rattle.fields.specs.Numbers.{byte_at, u16_at, Bytes}
use Rattle.fields.proofs.NumberLaws.{u16_same}
use Rattle.rebac.specs.Matter.{Matter, pair}
use Rattle.rebac.proofs.PairsLaws.{pair_one_way}
use Rattle.house_layout.specs.Layout.{edition_of, parties_of, labels_of, records_of, head_of, record_size, owner_in, place_of, record_of}
use Rattle.house_layout.proofs.LayoutLaws.{size_most, piece_of, owner_apart}
use Rattle.house_layout.specs.declared.record.Record.{Record}
use Rattle.house_layout.specs.Fields.{legal_kind}
use Rattle.house_layout.proofs.KindLaws.{kind_legal}
use Rattle.house_file.specs.Check.{check_of}
use Rattle.house_file.specs.Meaning.{chain_of, recorded, IsChain, RecordsRight, WellFormed}
use Rattle.house_file.proofs.LinkedLaws.{records_right}
use Rattle.house_file.proofs.WellFormedLaws.{accepted_iff_well_formed}
use Rattle.house_file.proofs.OwnerLaws.{owner_said}
use Rattle.graph.specs.FileMatter.{matter_of}
use Rattle.canonical.specs.Canonical.{Entry, says_kind, entries_of, entries_below, first_of, link, canonical_of, record_for}
use Rattle.canonical.specs.Shape.{entry_before, entry_in, InShape}
use Rattle.canonical.proofs.LayoutLaws.{no_entry, first_step, party_record, canonical_edition, canonical_zero}
use Rattle.canonical.proofs.LayoutLaws.{canonical_parties, canonical_labels}
use Rattle.canonical.proofs.LayoutLaws.{canonical_language, canonical_longest, canonical_records, canonical_head}
use Rattle.canonical.proofs.EntryLaws.{entry_in_lem, entry_out, entries_ascending}
use Rattle.canonical.proofs.ChainLaws.{link_inside, link_past}
use Rattle.canonical.proofs.FileLaws.{recorded_in_lem, recorded_out, matter_parties, matter_labels, matter_says, accepted_matter}
use Rattle.canonical.proofs.CopyLaws.{accepted_count, canonical_length}
use Rattle.canonical.proofs.ByteLaws.{canonical_bytes}

-- of two entries at most one is before the other
entry_one_way : (e g : Entry) → entry_before e g ≡ true → entry_before g e ≡ true → ⊥
entry_one_way e g h k = pair_one_way (pair e.target e.kind) (pair g.target g.kind) h k

-- a chain of consecutive numbers: what names its first record, and what each record names
head_named : (f : List ℕ) (k a x : ℕ) → IsChain f x (up_from a k) → x ≡ link (a + k) a
unfolding up_from
head_named f zero a x h = h ∙ sym (link_past (a + 0) a (omega arith))
head_named f (suc k) a x h = h.0 ∙ sym (link_inside (a + suc k) a (omega arith))

next_named : (f : List ℕ) (k a x i : ℕ) → i < k → IsChain f x (up_from a k) → (record_of f (a + i)).next ≡ link (a + k) (suc (a + i))
unfolding up_from
next_named f zero a x i g h = absurd (omega arith)
next_named f (suc k) a x zero g h =
    let z : a + 0 ≡ a = omega arith in
    let y : a + suc k ≡ suc a + k = omega arith in
    rw (z, y) (ap (λ (r : ℕ). (record_of f r).next) (sym h.0) ∙ head_named f k (suc a) (record_of f x).next h.1.1.1)
next_named f (suc k) a x (suc i) g h =
    let z : a + suc i ≡ suc a + i = omega arith in
    let y : a + suc k ≡ suc a + k = omega arith in
    rw (z, y) (next_named f k (suc a) (record_of f x).next i (omega arith) h.1.1.1)

module _ (f : List ℕ) (a : check_of f ≡ Ok tt) (s : InShape f) where
  M : Matter
  M = matter_of f

  edition : ℕ
  edition = edition_of f

  parties_of_lem : M.parties ≡ parties_of f
  unfolding M
  parties_of_lem = matter_parties f

  labels_of_lem : M.labels ≡ labels_of f
  unfolding M
  labels_of_lem = matter_labels f

  w : WellFormed f
  w = (accepted_iff_well_formed f).0 a

  right : RecordsRight f (chain_of f)
  right = records_right f w

  -- M says what the file records
  said_recorded : (u v k : ℕ) → legal_kind (labels_of f) k ≡ true → says_kind M u v k ≡ recorded f u v k
  unfolding M
  said_recorded u v k l = matter_says f a u v k l

  module _ (u : ℕ) (h : u < parties_of f) where
    chain_said : (e : Entry) → Memᴰ e (map (entry_in f u) (chain_of f u)) → Memᴰ e (entries_of M u)
    chain_said e m =
        let r = map_out (entry_in f u) (chain_of f u) m in
        let l : legal_kind (labels_of f) (record_of f r.0).kind ≡ true = kind_legal (labels_of f) _ (right.kind u r.0 h r.1) in
        rw r.2
        (entry_in_lem M u _ _ (rw parties_of_lem (right.target u r.0 h r.1).0)
        (rw labels_of_lem l) (said_recorded u _ _ l ∙ recorded_in_lem f u r.0 h r.1))

    said_chain : (e : Entry) → Memᴰ e (entries_of M u) → Memᴰ e (map (entry_in f u) (chain_of f u))
    said_chain e m =
        let y = entry_out M u e m in
        let o =
        recorded_out f u e.target e.kind
        (sym (said_recorded u e.target e.kind (rw labels_of_lem at y.legal)) ∙ y.said) in
        let t : (record_of f o.1.0).target ≡ e.target = o.1.1.1.0 in
        let k : (record_of f o.1.0).kind ≡ e.kind = o.1.1.1.1 in
        let z : entry_in f u o.1.0 ≡ e = λ j. record { owner = sym y.owner j; target = t j; kind = k j } in
        rw z at (map_in (entry_in f u) (chain_of f u) o.1.1.0)

    -- the chain's records say the entries, in order
    chain_entries : map (entry_in f u) (chain_of f u) ≡ entries_of M u
    chain_entries =
        ascending_equal entry_before entry_one_way (map (entry_in f u) (chain_of f u)) (entries_of M u)
        (s.ascending u h)
        (entries_ascending M u (omega (arith, labels_of_lem, w.fields.labels.1)))
        chain_said said_chain

    chain_length : length (chain_of f u) ≡ length (entries_of M u)
    chain_length = sym (length_map (entry_in f u) (chain_of f u)) ∙ ap length chain_entries

  -- so the numbers are the canonical file's
  chains_below : (u : ℕ) → u ≤ parties_of f → length (flat_map (chain_of f) (range u)) ≡ length (entries_below M u)
  unfolding entries_below
  chains_below u h = flat_lengths (chain_of f) (entries_of M) u (λ v l. chain_length v (omega arith))

  chain_numbers : (u : ℕ) → u < parties_of f → chain_of f u ≡ up_from (first_of M u) (length (entries_of M u))
  chain_numbers u h = s.numbered u h ∙ rw (chain_length u h, chains_below u (omega arith))

  chain_linked : (u : ℕ) → u < parties_of f → IsChain f (head_of f u) (up_from (first_of M u) (length (entries_of M u)))
  chain_linked u h = rw (chain_numbers u h) at (right.linked u h)

  same_head : (u : ℕ) → u < parties_of f → head_of f u ≡ head_of (canonical_of edition M) u
  same_head u h =
      head_named f (length (entries_of M u)) (first_of M u) (head_of f u) (chain_linked u h)
      ∙ ap (λ (e : ℕ). link e (first_of M u)) (sym (first_step M u))
      ∙ sym (canonical_head edition M u (rw parties_of_lem h))

  same_entry : (u i : ℕ) → u < parties_of f → i < length (entries_of M u)
      → entry_in f u (first_of M u + i) ≡ get_or (entries_of M u) i no_entry
  same_entry u i h g =
      let n : ℕ = length (entries_of M u) in
      ap (entry_in f u) (sym (up_at (first_of M u) n i 0 g))
      ∙ sym (get_or_map (entry_in f u) (up_from (first_of M u) n) i 0 no_entry (omega (arith, up_length (first_of M u) n)))
      ∙ ap (λ (l : List ℕ). get_or (map (entry_in f u) l) i no_entry) (sym (chain_numbers u h))
      ∙ ap (λ (l : List Entry). get_or l i no_entry) (chain_entries u h)

  record_equal : (u i : ℕ) → u < parties_of f → i < length (entries_of M u)
      → record_of f (first_of M u + i) ≡ record_of (canonical_of edition M) (first_of M u + i)
  unfolding edition
  record_equal u i h g =
      let e = same_entry u i h g in
      let m : Memᴰ (first_of M u + i) (chain_of f u) =
      rw (chain_numbers u h) (up_in (first_of M u) (length (entries_of M u)) (first_of M u + i) (omega arith) (omega arith)) in
      let o : (record_of f (first_of M u + i)).owner ≡ owner_in edition (get_or (entries_of M u) i no_entry).owner =
      owner_said f a u (first_of M u + i) h m ∙ ap (owner_in edition) (ap (λ (x : Entry). x.owner) e) in
      let t : (record_of f (first_of M u + i)).target ≡ (get_or (entries_of M u) i no_entry).target = ap (λ (x : Entry). x.target) e in
      let k : (record_of f (first_of M u + i)).kind ≡ (get_or (entries_of M u) i no_entry).kind = ap (λ (x : Entry). x.kind) e in
      let n : (record_of f (first_of M u + i)).next ≡ link (first_of M (suc u)) (suc (first_of M u + i)) =
      next_named f (length (entries_of M u)) (first_of M u) (head_of f u) i g (chain_linked u h)
      ∙ ap (λ (e : ℕ). link e (suc (first_of M u + i))) (sym (first_step M u)) in
      let z : record_of f (first_of M u + i) ≡ record_for edition (first_of M (suc u)) (first_of M u + i)
      (get_or (entries_of M u) i no_entry) =
      λ j. record { target = t j; kind = k j; next = n j; owner = o j } in
      z ∙ sym (party_record edition M u i (rw parties_of_lem h) g)

  same_record : (r : ℕ) → 1 ≤ r → r ≤ records_of f → record_of f r ≡ record_of (canonical_of edition M) r
  unfolding entries_below M
  same_record r b d =
      let v = flat_within (entries_of M) M.parties (r - 1) (omega (arith, accepted_count f a)) in
      let z : first_of M v.piece + (r - first_of M v.piece) ≡ r = omega (arith, v.from) in
      rw z at
      (record_equal v.piece (r - first_of M v.piece)
      (omega (arith, parties_of_lem, v.small)) (omega (arith, v.from, v.below, first_step M v.piece)))

  -- and so are the bytes
  copy : List ℕ
  copy = canonical_of edition M

  copy_parties : parties_of copy ≡ parties_of f
  unfolding copy
  copy_parties = canonical_parties edition M ∙ parties_of_lem

  copy_edition : edition_of copy ≡ edition_of f
  unfolding copy edition
  copy_edition = canonical_edition edition M

  module _ (b : Bytes f) (d : Bytes copy) where
    header_byte : (i : ℕ) → i < 8 → byte_at f i ≡ byte_at copy i
    unfolding M copy matter_of
    header_byte zero h = sym copy_edition
    header_byte (suc zero) h = sym (canonical_parties edition M)
    header_byte (suc (suc zero)) h = sym (canonical_labels edition M)
    header_byte (suc (suc (suc zero))) h = sym (canonical_language edition M)
    header_byte (suc (suc (suc (suc zero)))) h = sym (canonical_longest edition M)
    header_byte (suc (suc (suc (suc (suc zero))))) h = w.fields.zero_byte ∙ sym (canonical_zero edition M)
    header_byte (suc (suc (suc (suc (suc (suc zero)))))) h =
        (u16_same f copy b d 6 (accepted_count f a ∙ sym (canonical_records edition M))).0
    header_byte (suc (suc (suc (suc (suc (suc (suc zero))))))) h =
        (u16_same f copy b d 6 (accepted_count f a ∙ sym (canonical_records edition M))).1
    header_byte (suc (suc (suc (suc (suc (suc (suc (suc i)))))))) h = absurd (omega arith)

    head_byte : (u j : ℕ) → u < parties_of f → j < 2 → byte_at f (8 + 2 * u + j) ≡ byte_at copy (8 + 2 * u + j)
    unfolding copy
    head_byte u zero h g = let z : 8 + 2 * u + 0 ≡ 8 + 2 * u = omega arith in rw z (u16_same f copy b d (8 + 2 * u) (same_head u h)).0
    head_byte u (suc zero) h g = (u16_same f copy b d (8 + 2 * u) (same_head u h)).1
    head_byte u (suc (suc j)) h g = absurd (omega arith)

    -- record q + 1 stands at this place
    module _ (q : ℕ) (h : q < records_of f) where
      at : ℕ
      at = 8 + 2 * parties_of f + record_size edition * q

      place_file : place_of f (suc q) ≡ at
      unfolding at edition
      place_file = let z : suc q - 1 ≡ q = omega arith in rw z

      place_copy : place_of copy (suc q) ≡ at
      unfolding at edition
      place_copy = let z : suc q - 1 ≡ q = omega arith in rw (z, copy_parties, copy_edition)

      same : record_of f (suc q) ≡ record_of copy (suc q)
      unfolding copy
      same = same_record (suc q) (omega arith) (omega arith)

      target_byte : byte_at f at ≡ byte_at copy at
      unfolding record_of
      target_byte = rw (place_file, place_copy) at (ap (λ (x : Record). x.target) same)

      kind_byte : byte_at f (at + 1) ≡ byte_at copy (at + 1)
      unfolding record_of
      kind_byte = rw (place_file, place_copy) at (ap (λ (x : Record). x.kind) same)

      next_field : u16_at f (at + 2) ≡ u16_at copy (at + 2)
      unfolding record_of
      next_field = rw (place_file, place_copy) at (ap (λ (x : Record). x.next) same)

      -- the byte after them, where the edition has it
      owner_byte : 4 < record_size edition → byte_at f (at + 4) ≡ byte_at copy (at + 4)
      unfolding record_of edition
      owner_byte g = owner_apart (edition_of f) _ _ g (rw (place_file, place_copy, copy_edition) at (ap (λ (x : Record). x.owner) same))

      record_byte : (j : ℕ) → j < record_size edition → byte_at f (at + j) ≡ byte_at copy (at + j)
      record_byte zero g = let z : at + 0 ≡ at = omega arith in rw z target_byte
      record_byte (suc zero) g = kind_byte
      record_byte (suc (suc zero)) g = (u16_same f copy b d (at + 2) next_field).0
      record_byte (suc (suc (suc zero))) g =
          let z : at + 2 + 1 ≡ at + 3 = omega arith in
          rw z at (u16_same f copy b d (at + 2) next_field).1
      record_byte (suc (suc (suc (suc zero)))) g = owner_byte g
      record_byte (suc (suc (suc (suc (suc j))))) g = absurd (omega (arith, size_most edition 1))

    byte_equal : (i : ℕ) → i < length f → byte_at f i ≡ byte_at copy i
    unfolding at edition
    byte_equal i h =
        by_cases (dec_lt i 8)
        (λ g. header_byte i g)
        (λ g. by_cases (dec_lt i (8 + 2 * parties_of f))
        (λ k.
        let z : 8 + 2 * ((i - 8) / 2) + (i - 8) % 2 ≡ i = omega arith in
        rw z at (head_byte ((i - 8) / 2) ((i - 8) % 2) (omega arith) (omega arith)))
        (λ k.
        let p = piece_of edition (records_of f) (i - (8 + 2 * parties_of f)) (omega (arith, w.size)) in
        let z : 8 + 2 * parties_of f + record_size edition * p.0 + p.1.0 ≡ i = omega (arith, p.1.1.1.1) in
        rw z at (record_byte p.0 p.1.1.0 p.1.0 p.1.1.1.0)))

    whole : f ≡ copy
    unfolding M copy edition
    whole = ext_get_or 0 f copy (w.size ∙ sym (canonical_length f a edition)) (λ i h. byte_equal i h)

-- an accepted file in shape is the canonical file of its matter, in its edition
pub shape_only : (f : List ℕ) → Bytes f → check_of f ≡ Ok tt → InShape f → f ≡ canonical_of (edition_of f) (matter_of f)
unfolding M copy edition
shape_only f b a s =
    whole f a s b
    (canonical_bytes (edition_of f) ((accepted_iff_well_formed f).0 a).fields.edition (matter_of f) (accepted_matter f a))
