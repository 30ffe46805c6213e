-- The canonical file of a matter in limits is accepted, in either edition: it is well formed, statement by statement. Assumes nothing.
use Rattle.std.proofs.Common.{Ok, ◌≡◌, refl, sym, ap, ◌∙◌, ℕ, suc, ◌≤◌, ◌<◌, arith, length, get_or}
use mathlib.Core.List.{Memᴰ}
use Rattle.lists.proofs.Distinct.{get_or_in, distinct_places}
use Rattle.lists.proofs.ListLaws.{any_in}
use Rattle.lists.proofs.OrderLaws.{up_distinct}
use Rattle.rebac.specs.Matter.{Matter}
use Rattle.house_layout.specs.Layout.{parties_of, record_of, unknown_kind}
use Rattle.house_layout.specs.declared.record.Record.{Record}
use Rattle.house_layout.proofs.LayoutLaws.{owner_named}
use Rattle.house_layout.proofs.KindLaws.{kind_cases}
use Rattle.house_file.specs.Check.{check_of}
use Rattle.house_file.specs.Meaning.{chain_of, IsEdition, FieldsRight, RecordsRight, WellFormed}
use Rattle.house_file.proofs.FollowLaws.{says_in}
use Rattle.house_file.proofs.WellFormedLaws.{accepted_iff_well_formed}
use Rattle.canonical.specs.Canonical.{Entry, entries_of, first_of, canonical_of}
use Rattle.canonical.specs.Shape.{InLimits}
use Rattle.canonical.proofs.LayoutLaws.{no_entry, first_step, first_order, canonical_size, canonical_edition}
use Rattle.canonical.proofs.LayoutLaws.{canonical_zero, canonical_parties, canonical_labels}
use Rattle.canonical.proofs.LayoutLaws.{canonical_language, canonical_longest, canonical_records}
use Rattle.canonical.proofs.EntryLaws.{Says, entry_out, entries_distinct, says_pair, says_once, entries_bounded}
use Rattle.canonical.proofs.ChainLaws.{At, canonical_chain, canonical_linked, chain_at, canonical_reached}
use Rattle.canonical.proofs.MatterLaws.{record_said}

module _ (e : ℕ) (known : IsEdition e) (M : Matter) (i : InLimits M) where
  fields : FieldsRight (canonical_of e M)
  fields = record {
    edition = rw (canonical_edition e M) known;
    parties = rw (canonical_parties e M) i.limits.parties;
    labels = rw (canonical_labels e M) i.limits.labels;
    language = rw (canonical_language e M) i.limits.language;
    longest = rw (canonical_longest e M) i.limits.longest;
    zero_byte = canonical_zero e M;
    records = rw (canonical_records e M) (entries_bounded M i);
  }

  -- what stands at a place of party u's chain
  module _ (u : ℕ) (h : u < M.parties) where
    entry_at : (r : ℕ) → (a : At e M u h r) → Says M u (get_or (entries_of M u) a.place no_entry)
    entry_at r a = entry_out M u (get_or (entries_of M u) a.place no_entry) (get_or_in (entries_of M u) a.place no_entry a.small)

    -- no two entries of a party have both target and kind equal
    different : (r s : ℕ) → Memᴰ r (chain_of (canonical_of e M) u) → Memᴰ s (chain_of (canonical_of e M) u)
        → (record_of (canonical_of e M) r).target ≡ (record_of (canonical_of e M) s).target
        → (record_of (canonical_of e M) r).kind ≡ (record_of (canonical_of e M) s).kind
        → r ≡ s
    different r s m n t k =
        let a = chain_at e M u h r m in
        let b = chain_at e M u h s n in
        let d : Entry = get_or (entries_of M u) a.place no_entry in
        let g : Entry = get_or (entries_of M u) b.place no_entry in
        let o : d.owner ≡ g.owner = (entry_at r a).owner ∙ sym (entry_at s b).owner in
        let p : d.target ≡ g.target = ap (λ (x : Record). x.target) (sym a.says) ∙ t ∙ ap (λ (x : Record). x.target) b.says in
        let q : d.kind ≡ g.kind = ap (λ (x : Record). x.kind) (sym a.says) ∙ k ∙ ap (λ (x : Record). x.kind) b.says in
        let y = entries_distinct M u (omega (arith, i.limits.labels.1)) in
        let z : a.place ≡ b.place =
        distinct_places (entries_of M u) no_entry y a.place b.place a.small b.small
        (λ j. record { owner = o j; target = p j; kind = q j }) in
        omega (arith, a.number, b.number)

    inside : {r : ℕ} → Memᴰ r (chain_of (canonical_of e M) u) → (first_of M u ≤ r) × (r < first_of M (suc u))
    inside {r} m = let a = chain_at e M u h r m in (omega (arith, a.number), omega (arith, a.number, a.small, first_step M u))

  inner : (u : ℕ) → u < parties_of (canonical_of e M) → u < M.parties
  inner u h = rw (canonical_parties e M) at h

  pub canonical_right : RecordsRight (canonical_of e M) (chain_of (canonical_of e M))
  canonical_right = record {
    linked = λ u h. canonical_linked e M u (inner u h);
    reached = λ r a b.
        let w = canonical_reached e M r a (rw (canonical_records e M) at b) in
        (w.0, (rw (canonical_parties e M) w.1.0, w.1.1));
    once = λ u h. rw (canonical_chain e M u (inner u h)) (up_distinct (first_of M u) (length (entries_of M u)));
    apart = λ u v r l h m n. let g = inner v h in omega (arith, (inside u (omega arith) m).1, (inside v g n).0, first_order M (suc u) v l);
    owner = λ u r h m p q.
        let g = inner u h in
        let a = chain_at e M u g r m in
        owner_named e _ p (ap (λ (x : Record). x.owner) (sym a.says) ∙ q) ∙ (entry_at u g r a).owner;
    target = λ u r h m.
        let g = inner u h in
        let a = chain_at e M u g r m in
        let s = entry_at u g r a in
        let t = ap (λ (x : Record). x.target) a.says in
        (rw (t, canonical_parties e M) s.target, λ q. (says_pair M i u _ _ s.said).different (sym (sym t ∙ q)));
    kind = λ u r h m.
        let g = inner u h in
        let a = chain_at e M u g r m in
        let k = ap (λ (x : Record). x.kind) a.says in
        rw (k, canonical_labels e M) (kind_cases M.labels _ (entry_at u g r a).legal);
    different = λ u r s h m n t k. different u (inner u h) r s m n t k;
    consistent = λ u r s l h m n t b p q.
        let v : ℕ = (record_of (canonical_of e M) s).target in
        says_once M i u v l (rw (canonical_labels e M) at b)
        (record_said e M i u v l (inner u h) (any_in _ _ m (says_in (canonical_of e M) v l r t p)))
        (record_said e M i u v (unknown_kind l) (inner u h) (any_in _ _ n (says_in (canonical_of e M) v (unknown_kind l) s refl q)));
  }

  pub canonical_well_formed : WellFormed (canonical_of e M)
  canonical_well_formed = record {
    long = omega (arith, canonical_size e M);
    fields = fields;
    size = canonical_size e M ∙ rw (canonical_edition e M, canonical_parties e M, canonical_records e M);
    chain = chain_of (canonical_of e M);
    records = canonical_right;
  }

  pub canonical_accepted : check_of (canonical_of e M) ≡ Ok tt
  canonical_accepted = (accepted_iff_well_formed (canonical_of e M)).1 canonical_well_formed
