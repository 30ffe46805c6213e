-- The canonical file is in shape: its chains are consecutive numbers after those of the lower parties, and in each the records follow the
-- entries' order. Assumes nothing.
use Rattle.std.proofs.Common.{◌≡◌, sym, ap, ◌∙◌, map, ℕ, ◌+◌, ◌≤◌, ◌<◌, arith, length, get_or, ext_get_or}
use Rattle.lists.specs.Lists.{flat_map, range, up_from}
use Rattle.lists.proofs.Distinct.{get_or_in}
use Rattle.lists.proofs.ListLaws.{up_length}
use Rattle.lists.proofs.OrderLaws.{length_map}
use Rattle.lists.proofs.Pieces.{get_or_map, up_at, flat_lengths}
use Rattle.rebac.specs.Matter.{Matter}
use Rattle.house_layout.specs.Layout.{record_of}
use Rattle.house_layout.specs.declared.record.Record.{Record}
use Rattle.house_file.specs.Meaning.{chain_of}
use Rattle.canonical.specs.Canonical.{Entry, entries_of, entries_below, first_of, canonical_of}
use Rattle.canonical.specs.Shape.{InLimits, entry_in, InShape}
use Rattle.canonical.proofs.LayoutLaws.{no_entry, party_record, canonical_parties}
use Rattle.canonical.proofs.EntryLaws.{entry_out, entries_ascending}
use Rattle.canonical.proofs.ChainLaws.{canonical_chain}

module _ (d : ℕ) (M : Matter) where
  chain_size : (u : ℕ) → u < M.parties → length (chain_of (canonical_of d M) u) ≡ length (entries_of M u)
  chain_size u h = ap length (canonical_chain d M u h) ∙ up_length (first_of M u) (length (entries_of M u))

  chains_below : (u : ℕ) → u ≤ M.parties → length (flat_map (chain_of (canonical_of d M)) (range u)) ≡ length (entries_below M u)
  unfolding entries_below
  chains_below u h = flat_lengths (chain_of (canonical_of d M)) (entries_of M) u (λ v l. chain_size v (omega arith))

  -- the chain's records say the entries, in order
  chain_entries : (u : ℕ) → u < M.parties → map (entry_in (canonical_of d M) u) (chain_of (canonical_of d M) u) ≡ entries_of M u
  chain_entries u h =
      let n : ℕ = length (entries_of M u) in
      let l : length (map (entry_in (canonical_of d M) u) (up_from (first_of M u) n)) ≡ n =
      length_map (entry_in (canonical_of d M) u) (up_from (first_of M u) n) ∙ up_length (first_of M u) n in
      ap (map (entry_in (canonical_of d M) u)) (canonical_chain d M u h)
      ∙ ext_get_or no_entry (map (entry_in (canonical_of d M) u) (up_from (first_of M u) n)) (entries_of M u) l
      (λ i g.
      let s : i < n = omega (arith, l) in
      let e : Entry = get_or (entries_of M u) i no_entry in
      let r = party_record d M u i h s in
      let o : u ≡ e.owner = sym (entry_out M u e (get_or_in (entries_of M u) i no_entry s)).owner in
      let t : (record_of (canonical_of d M) (first_of M u + i)).target ≡ e.target = ap (λ (x : Record). x.target) r in
      let k : (record_of (canonical_of d M) (first_of M u + i)).kind ≡ e.kind = ap (λ (x : Record). x.kind) r in
      get_or_map (entry_in (canonical_of d M) u) (up_from (first_of M u) n) i 0 no_entry (omega (arith, up_length (first_of M u) n))
      ∙ ap (entry_in (canonical_of d M) u) (up_at (first_of M u) n i 0 s)
      ∙ (λ j. record { owner = o j; target = t j; kind = k j }))

  pub canonical_shape : InLimits M → InShape (canonical_of d M)
  canonical_shape i = record {
    numbered = λ u h.
        let g : u < M.parties = rw (canonical_parties d M) at h in
        rw (chain_size u g, chains_below u (omega arith)) (canonical_chain d M u g);
    ascending = λ u h.
        let g : u < M.parties = rw (canonical_parties d M) at h in
        rw (chain_entries u g) (entries_ascending M u (omega (arith, i.limits.labels.1)));
  }
