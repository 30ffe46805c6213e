-- Chains of the canonical file are consecutive numbers: from a record that is not the chain's last the next one is named, from the last
-- none, by induction on the records left. Assumes nothing.
use Rattle.std.proofs.Common.{◌≡◌, refl, sym, ap, ◌∙◌, List, ◌∷◌, ℕ, zero, suc, ◌+◌, ◌-◌, ◌≤◌, ◌<◌, arith, length, get_or, lt-ltb, le-ltb}
use Rattle.std.proofs.Math.Logic.{by_cases}
use mathlib.Core.List.{Memᴰ}
use Rattle.std.proofs.Math.Decide.{dec_lt}
use Rattle.lists.specs.Lists.{up_from}
use Rattle.lists.proofs.ListLaws.{up_in, up_out}
use Rattle.lists.proofs.Pieces.{flat_within}
use Rattle.rebac.specs.Matter.{Matter}
use Rattle.house_layout.specs.Layout.{head_of, records_of, record_of}
use Rattle.house_layout.specs.declared.record.Record.{Record}
use Rattle.house_file.specs.Meaning.{chain_from, chain_of, IsChain}
use Rattle.house_file.proofs.FollowLaws.{chain_end, chain_step}
use Rattle.canonical.specs.Canonical.{entries_of, entries_below, count_of, first_of, link, canonical_of, record_for}
use Rattle.canonical.proofs.LayoutLaws.{no_entry, first_step, first_most, canonical_records, canonical_head, party_record}

pub link_inside : (end r : ℕ) → r < end → link end r ≡ r
link_inside end r h = rw (lt-ltb r end h)

pub link_past : (end r : ℕ) → end ≤ r → link end r ≡ 0
link_past end r h = rw (le-ltb r end h)

module _ (e : ℕ) (M : Matter) (u : ℕ) (h : u < M.parties) where
  -- record r of the chain is that of the entry at its place
  chain_record : (r : ℕ) → first_of M u ≤ r → r < first_of M (suc u)
      → record_of (canonical_of e M) r ≡ record_for e (first_of M (suc u)) r (get_or (entries_of M u) (r - first_of M u) no_entry)
  chain_record r a b =
      let z : first_of M u + (r - first_of M u) ≡ r = omega arith in
      rw z at (party_record e M u (r - first_of M u) h (omega (arith, first_step M u)))

  -- its number is one of the file's, and it names the next
  number_most : (r : ℕ) → r < first_of M (suc u) → r ≤ records_of (canonical_of e M)
  number_most r b = omega (arith, canonical_records e M, first_most M (suc u) h)

  names_next : (r : ℕ) → first_of M u ≤ r → r < first_of M (suc u)
      → (record_of (canonical_of e M) r).next ≡ link (first_of M (suc u)) (suc r)
  names_next r a b = ap (λ (x : Record). x.next) (chain_record r a b)

  chain_from_lem : (k r : ℕ) → first_of M u ≤ r → r ≤ first_of M (suc u) → first_of M (suc u) ≤ r + k
      → chain_from (canonical_of e M) k (link (first_of M (suc u)) r) ≡ up_from r (first_of M (suc u) - r)
  unfolding up_from
  chain_from_lem zero r a b d =
      let z : first_of M (suc u) - r ≡ 0 = omega arith in
      rw (link_past (first_of M (suc u)) r (omega arith), z) (chain_end (canonical_of e M) 0 0 refl)
  chain_from_lem (suc k) r a b d =
      by_cases (dec_lt r (first_of M (suc u)))
      (λ g.
      let z : first_of M (suc u) - r ≡ suc (first_of M (suc u) - suc r) = omega arith in
      rw (link_inside (first_of M (suc u)) r g, z)
      (chain_step (canonical_of e M) k r (λ z. omega arith) (number_most r g)
      ∙ ap (λ (c : List ℕ). r ∷ c)
      (ap (chain_from (canonical_of e M) k) (names_next r a g) ∙ chain_from_lem k (suc r) (omega arith) g (omega arith))))
      (λ g.
      let z : first_of M (suc u) - r ≡ 0 = omega arith in
      rw (link_past (first_of M (suc u)) r (omega arith), z) (chain_end (canonical_of e M) (suc k) 0 refl))

  head_link : head_of (canonical_of e M) u ≡ link (first_of M (suc u)) (first_of M u)
  head_link = canonical_head e M u h

  size : first_of M (suc u) - first_of M u ≡ length (entries_of M u)
  size = omega (arith, first_step M u)

  -- party u's chain is as many consecutive numbers as the party has entries
  pub canonical_chain : chain_of (canonical_of e M) u ≡ up_from (first_of M u) (length (entries_of M u))
  unfolding chain_of
  canonical_chain =
      ap (chain_from (canonical_of e M) (records_of (canonical_of e M))) head_link
      ∙ chain_from_lem (records_of (canonical_of e M)) (first_of M u) (omega arith) (omega (arith, first_step M u))
      (omega (arith, canonical_records e M, first_most M (suc u) h))
      ∙ ap (up_from (first_of M u)) size

  linked_from : (j r : ℕ) → first_of M u ≤ r → r + j ≡ first_of M (suc u)
      → IsChain (canonical_of e M) (link (first_of M (suc u)) r) (up_from r j)
  unfolding up_from
  linked_from zero r a q = link_past (first_of M (suc u)) r (omega arith)
  linked_from (suc j) r a q =
      let g : r < first_of M (suc u) = omega arith in
      rw (link_inside (first_of M (suc u)) r g)
      (refl, (omega arith, (number_most r g, rw (names_next r a g) (linked_from j (suc r) (omega arith) (omega arith)))))

  pub canonical_linked : IsChain (canonical_of e M) (head_of (canonical_of e M) u) (chain_of (canonical_of e M) u)
  canonical_linked =
      rw (canonical_chain, head_link)
      (linked_from (length (entries_of M u)) (first_of M u) (omega arith) (sym (first_step M u)))

  -- a record of the chain by its place in it
  pub record At (r : ℕ) : Type 0 where
    pub place : ℕ
    pub small : place < length (entries_of M u)
    pub number : r ≡ first_of M u + place
    pub says : record_of (canonical_of e M) r ≡ record_for e (first_of M (suc u)) r (get_or (entries_of M u) place no_entry)

  pub chain_at : (r : ℕ) → Memᴰ r (chain_of (canonical_of e M) u) → At r
  chain_at r m =
      let b = up_out (first_of M u) (length (entries_of M u)) (rw canonical_chain at m) in
      record {
        place = r - first_of M u;
        small = omega (arith, b.0, b.1);
        number = omega (arith, b.0);
        says = chain_record r b.0 (omega (arith, b.1, first_step M u));
      }

  pub at_chain : (i : ℕ) → i < length (entries_of M u) → Memᴰ (first_of M u + i) (chain_of (canonical_of e M) u)
  at_chain i g = rw canonical_chain (up_in (first_of M u) (length (entries_of M u)) (first_of M u + i) (omega arith) (omega arith))

-- the party whose chain has record r
pub canonical_reached : (e : ℕ) (M : Matter) (r : ℕ) → 1 ≤ r → r ≤ count_of M
    → (u : ℕ) × ((u < M.parties) × Memᴰ r (chain_of (canonical_of e M) u))
unfolding entries_below
canonical_reached e M r a b =
    let w = flat_within (entries_of M) M.parties (r - 1) (omega arith) in
    let s = first_step M w.piece in
    let m = up_in (first_of M w.piece) (length (entries_of M w.piece)) r (omega (arith, w.from)) (omega (arith, w.below)) in
    (w.piece, (w.small, rw (canonical_chain e M w.piece w.small) m))
