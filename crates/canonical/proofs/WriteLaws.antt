-- The file's bytes piece by piece: records of the edition that is written are five bytes each, so each piece begins where the one before it
-- ends. Assumes nothing.
use Rattle.std.proofs.Common.{Some, None, ◌≡◌, refl, sym, ap, ◌∙◌, List, [], ◌∷◌, ◌++◌, map, append_assoc}
use Rattle.std.proofs.Common.{ℕ, suc, ◌+◌, ◌*◌, ◌-◌, ◌≤◌, ◌<◌, add-one, arith, length, set, length-append}
use Rattle.lists.specs.Lists.{flat_map, up_from, range}
use Rattle.lists.proofs.OrderLaws.{length_map}
use Rattle.lists.proofs.Pointwise.{map_append}
use Rattle.lists.proofs.Pieces.{flat_append, flat_one, flat_suc, pieces_length}
use Rattle.fields.specs.Numbers.{u16_bytes}
use Rattle.fields.specs.promises.Writing.{put}
use Rattle.fields.proofs.PutLaws.{put_nil, put_two, put_three, then_put, then_one, then_three, put_put}
use Rattle.rebac.specs.Matter.{Matter}
use Rattle.house_layout.specs.Layout.{record_size, owner_in}
use Rattle.house_layout.specs.declared.header.Header.{Header}
use Rattle.house_layout.specs.declared.record.Record.{Record}
use Rattle.canonical.specs.Canonical.{Entry, entry, entries_of, entries_below, first_of, link, chain_records, records_for}
use Rattle.canonical.specs.Canonical.{header_bytes, heads_by, record_bytes, header_for, canonical_of, written_edition}
use Rattle.canonical.specs.promises.Masks.{matter_by, chain_bytes, pair_bytes, numbers_in, FirstsOf, FileFits, Written}
use Rattle.canonical.specs.declared.count.Firsts.{Firsts}
use Rattle.canonical.specs.declared.matter.MatterIn.{MatterIn}
use Rattle.canonical.proofs.CountLaws.{kinds_none, kinds_all, kinds_room}
use Rattle.canonical.proofs.EntryLaws.{count_bounded}
use Rattle.canonical.proofs.LayoutLaws.{header_size_lem, heads_size, heads_same, first_step, first_most}
use Rattle.canonical.proofs.LayoutLaws.{linked_length, linked_sized, records_below, records_sized}

-- a record byte after byte: the first four,
abbrev pub front_bytes : Record → List ℕ
front_bytes x = x.target ∷ x.kind ∷ u16_bytes x.next

pub front_put : (b out : List ℕ) (at : ℕ) (x : Record) → at + 4 ≤ length b
    → out ≡ put (set (set b at x.target) (at + 1) x.kind) (at + 2) (u16_bytes x.next) → out ≡ put b at (front_bytes x)
front_put b out at x h e =
    e
    ∙ ap (λ (l : List ℕ). put l (at + 2) (u16_bytes x.next)) (put_two b at x.target x.kind (omega arith))
    ∙ put_put b at (x.target ∷ x.kind ∷ []) (u16_bytes x.next) (omega arith)

-- and the owner's, where the record has one
pub missing_put : (b out : List ℕ) (at : ℕ) (x : Record) → x.owner ≡ None → out ≡ put b at (front_bytes x)
    → out ≡ put b at (record_bytes x)
unfolding record_bytes u16_bytes
missing_put b out at x q e = rw q e

pub owner_put : (b out : List ℕ) (at u : ℕ) (x : Record) → at + 5 ≤ length b → x.owner ≡ Some u → out ≡ put b at (front_bytes x)
    → set out (at + 4) u ≡ put b at (record_bytes x)
unfolding record_bytes u16_bytes
owner_put b out at u x h q e = rw q (then_one b at (front_bytes x) out (at + 4) e refl u (omega arith))

-- the header byte after byte
pub header_put : (b out : List ℕ) (h : Header) → 8 ≤ length b
    → out
    ≡ put (set (set (set (set (set (set b 0 h.edition) 1 h.parties) 2 h.labels) 3 h.language) 4 h.longest) 5 0) 6
    (u16_bytes h.records)
    → out ≡ put b 0 (header_bytes h)
unfolding header_bytes
header_put b out h l e =
    let three = put_three b 0 h.edition h.parties h.labels (omega arith) in
    let six = then_three b 0 (h.edition ∷ h.parties ∷ h.labels ∷ []) _ 3 three refl h.language h.longest 0 (omega arith) in
    let front : List ℕ = h.edition ∷ h.parties ∷ h.labels ∷ h.language ∷ h.longest ∷ 0 ∷ [] in
    e ∙ then_put b 0 front _ 6 six refl (u16_bytes h.records) (omega arith)

-- records that follow others of the chain are numbered on
linked_append : (edition end r : ℕ) (es fs : List Entry)
    → chain_records edition end r (es ++ fs) ≡ chain_records edition end r es ++ chain_records edition end (r + length es) fs
unfolding chain_records
linked_append edition end r [] fs = let z : r + 0 ≡ r = omega arith in rw z
linked_append edition end r (e ∷ es) fs =
    let z : r + suc (length es) ≡ suc r + length es = omega arith in
    rw (linked_append edition end (suc r) es fs, z)

module _ (end : ℕ) where
  pub chain_none : (r : ℕ) → chain_bytes end r [] ≡ []
  unfolding chain_bytes chain_records flat_map
  chain_none r = refl

  chain_append : (r : ℕ) (es fs : List Entry) → chain_bytes end r (es ++ fs) ≡ chain_bytes end r es ++ chain_bytes end (r + length es) fs
  unfolding chain_bytes
  chain_append r es fs =
      ap (flat_map record_bytes) (linked_append written_edition end r es fs)
      ∙ flat_append record_bytes (chain_records written_edition end r es) (chain_records written_edition end (r + length es) fs)

  pub chain_length : (r : ℕ) (es : List Entry) → length (chain_bytes end r es) ≡ 5 * length es
  unfolding chain_bytes record_size
  chain_length r es =
      pieces_length record_bytes (record_size written_edition) (chain_records written_edition end r es)
      (linked_sized written_edition end r es)
      ∙ ap (λ (k : ℕ). 5 * k) (linked_length written_edition end r es)

  -- one pair's records
  pub pair_none : (r u v : ℕ) → pair_bytes end r u v [] ≡ []
  unfolding pair_bytes
  pair_none r u v = chain_none r

  pub pair_length : (r u v : ℕ) (ks : List ℕ) → length (pair_bytes end r u v ks) ≡ 5 * length ks
  unfolding pair_bytes
  pair_length r u v ks = chain_length r (map (entry u v) ks) ∙ ap (λ (k : ℕ). 5 * k) (length_map (entry u v) ks)

  pair_more : (r u v : ℕ) (ks : List ℕ) (k : ℕ)
      → pair_bytes end r u v (ks ++ (k ∷ []))
      ≡ pair_bytes end r u v ks ++ record_bytes (record { target = v; kind = k; next = link end (suc (r + length ks)); owner = Some u })
  unfolding pair_bytes chain_bytes chain_records owner_in
  pair_more r u v ks k =
      let x : Record = record { target = v; kind = k; next = link end (suc (r + length ks)); owner = Some u } in
      ap (chain_bytes end r) (map_append (entry u v) ks (k ∷ []))
      ∙ chain_append r (map (entry u v) ks) (entry u v k ∷ [])
      ∙ rw length_map (ap (λ (l : List ℕ). chain_bytes end r (map (entry u v) ks) ++ l) (flat_one record_bytes x))

  -- one record after the pair's others
  pub pair_put : (b out : List ℕ) (base r u v next : ℕ) (ks more : List ℕ) (k to : ℕ) → 1 ≤ r → base + 5 * (r - 1) ≤ length b
      → next ≡ r + length ks → more ≡ ks ++ (k ∷ []) → to ≡ link end (next + 1) → out ≡ put b (base + 5 * (r - 1)) (pair_bytes end r u v ks)
      → put out (base + 5 * (next - 1)) (record_bytes (record { target = v; kind = k; next = to; owner = Some u }))
      ≡ put b (base + 5 * (r - 1)) (pair_bytes end r u v more)
  pair_put b out base r u v next ks more k to one h n m t o =
      let z : next + 1 ≡ suc (r + length ks) = omega arith in
      let x : Record = record { target = v; kind = k; next = link end (suc (r + length ks)); owner = Some u } in
      let e : base + 5 * (next - 1) ≡ base + 5 * (r - 1) + length (pair_bytes end r u v ks) = omega (arith, pair_length r u v ks) in
      rw (m, pair_more, t, z) (then_put b (base + 5 * (r - 1)) (pair_bytes end r u v ks) out (base + 5 * (next - 1)) o e (record_bytes x) h)

  -- one pair's records after the party's others
  pub party_put : (b out : List ℕ) (base r u v next : ℕ) (es more : List Entry) (ks : List ℕ) → 1 ≤ r → base + 5 * (r - 1) ≤ length b
      → next ≡ r + length es → more ≡ es ++ map (entry u v) ks → out ≡ put b (base + 5 * (r - 1)) (chain_bytes end r es)
      → put out (base + 5 * (next - 1)) (pair_bytes end next u v ks) ≡ put b (base + 5 * (r - 1)) (chain_bytes end r more)
  unfolding pair_bytes
  party_put b out base r u v next es more ks one h n m o =
      let e : base + 5 * (next - 1) ≡ base + 5 * (r - 1) + length (chain_bytes end r es) = omega (arith, chain_length r es) in
      rw (m, chain_append, ← n)
      (then_put b (base + 5 * (r - 1)) (chain_bytes end r es) out (base + 5 * (next - 1)) o e (pair_bytes end next u v ks) h)

-- what `put_pair` rests on: no kinds, all of them, and room for one more
pub ruleset pair_laws = (kinds_none, kinds_all, kinds_room, pair_none, put_nil)

-- the heads of the parties below u
module _ (first : ℕ → ℕ) where
  pub heads_none : heads_by first 0 ≡ []
  unfolding heads_by range up_from flat_map
  heads_none = refl

  pub heads_put : (b out : List ℕ) (u to : ℕ) → 8 ≤ length b → to ≡ link (first (u + 1)) (first u)
      → out ≡ put b 8 (heads_by first u) → put out (8 + 2 * u) (u16_bytes to) ≡ put b 8 (heads_by first (u + 1))
  unfolding heads_by
  heads_put b out u to h t o =
      let e : heads_by first (u + 1) ≡ heads_by first u ++ u16_bytes (link (first (suc u)) (first u)) = ap (heads_by first) (add-one u)
      ∙ flat_suc (λ k. u16_bytes (link (first (suc k)) (first k))) u in
      let z : 8 + 2 * u ≡ 8 + length (heads_by first u) = omega (arith, heads_size first u) in
      rw (e, t, add-one) (then_put b 8 (heads_by first u) out (8 + 2 * u) o z (u16_bytes (link (first (suc u)) (first u))) h)

-- the records of the parties below u
unfoldable pub records_to : Matter → ℕ → List ℕ
records_to M u = flat_map record_bytes (flat_map (records_for written_edition M) (range u))

module _ (M : Matter) where
  pub records_none : records_to M 0 ≡ []
  unfolding records_to range up_from flat_map
  records_none = refl

  records_more : (u : ℕ) → records_to M (u + 1) ≡ records_to M u ++ chain_bytes (first_of M (u + 1)) (first_of M u) (entries_of M u)
  unfolding records_to records_for chain_bytes
  records_more u =
      rw add-one
      (ap (flat_map record_bytes) (flat_suc (records_for written_edition M) u)
      ∙ flat_append record_bytes (flat_map (records_for written_edition M) (range u)) (records_for written_edition M u))

  pub records_length : (u : ℕ) → length (records_to M u) ≡ 5 * length (entries_below M u)
  unfolding records_to record_size
  records_length u =
      pieces_length record_bytes (record_size written_edition) _ (records_sized written_edition M u)
      ∙ ap (λ (k : ℕ). 5 * k) (records_below written_edition M u)

  -- one party's records after those of the parties before it
  pub records_put : (b out : List ℕ) (base u first end : ℕ) → base ≤ length b → first ≡ first_of M u → end ≡ first_of M (u + 1)
      → out ≡ put b base (records_to M u)
      → put out (base + 5 * (first - 1)) (chain_bytes end first (entries_of M u)) ≡ put b base (records_to M (u + 1))
  records_put b out base u first end h f e o =
      let z : base + 5 * (first - 1) ≡ base + length (records_to M u) = omega (arith, records_length u) in
      rw (records_more, ← f, ← e)
      (then_put b base (records_to M u) out (base + 5 * (first - 1)) o z (chain_bytes end first (entries_of M u)) h)

-- the numbers of the first records fit in two bytes
pub firsts_small : (m : MatterIn) (f : Firsts) (u : ℕ) → Written m f → u ≤ m.header.parties → numbers_in f u < 65536
firsts_small m f u w h =
    let M = matter_by m in
    omega (arith, w.firsts u h, first_most M u h, count_bounded M m.parties m.labels)

-- the numbers of party u's records, and room for them in an output of this size
pub record PartyFits (m : MatterIn) (f : Firsts) (u size : ℕ) : Type 0 where
  pub first : 1 ≤ numbers_in f u
  pub entries : numbers_in f u + length (entries_of (matter_by m) u) ≤ numbers_in f (u + 1)
  pub last : numbers_in f (u + 1) < 65536
  pub room : 8 + 2 * m.header.parties + 5 * (numbers_in f (u + 1) - 1) ≤ size

-- each party's records have their numbers, and fit where the whole file does
pub party_fits : (m : MatterIn) (f : Firsts) (size u : ℕ) → Written m f → FileFits m size → u < m.header.parties → PartyFits m f u size
party_fits m f size u w room h =
    let M = matter_by m in
    let first = w.firsts u (omega arith) in
    let step = ap (first_of M) (add-one u) ∙ first_step M u in
    let end = w.firsts (u + 1) (omega arith) in
    let most = first_most M (u + 1) (omega arith) in
    let count = count_bounded M m.parties m.labels in
    record {
      first = omega arith;
      entries = omega arith;
      last = omega arith;
      room = omega (arith, w.records, room);
    }

-- the file's parts one after another: header, heads, records
pub file_put : (M : Matter) (h : Header) (f : Firsts) → FirstsOf M f → header_for written_edition M ≡ h → (b o₁ o₂ o₃ : List ℕ)
    → 8 + 2 * M.parties ≤ length b → o₁ ≡ put b 0 (header_bytes h) → o₂ ≡ put o₁ 8 (heads_by (numbers_in f) M.parties)
    → o₃ ≡ put o₂ (8 + 2 * M.parties) (records_to M M.parties) → o₃ ≡ put b 0 (canonical_of written_edition M)
unfolding canonical_of records_to
file_put M h f F q b o₁ o₂ o₃ l e₁ e₂ e₃ =
    let H : List ℕ = header_bytes (header_for written_edition M) in
    let A : List ℕ = heads_by (first_of M) M.parties in
    let B : List ℕ = records_to M M.parties in
    let o : o₁ ≡ put b 0 H = e₁ ∙ ap (λ (x : Header). put b 0 (header_bytes x)) (sym q) in
    let s = heads_same (numbers_in f) (first_of M) M.parties F in
    let k = header_size_lem (header_for written_edition M) in
    let p : o₂ ≡ put b 0 (H ++ A) = e₂ ∙ ap (put o₁ 8) s ∙ then_put b 0 H o₁ 8 o (omega (arith, k)) A (omega arith) in
    let n : 8 + 2 * M.parties ≡ 0 + length (H ++ A) = omega (arith, length-append H A, k, heads_size (first_of M) M.parties) in
    e₃ ∙ then_put b 0 (H ++ A) o₂ (8 + 2 * M.parties) p n B (omega arith) ∙ ap (put b 0) (append_assoc H A B)
