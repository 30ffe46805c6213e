-- The canonical file's matter is the matter that was written: a record of party u's chain has a target and kind exactly where the matter
-- says that kind. Assumes nothing.
use Rattle.std.proofs.Common.{◌≡◌, sym, ap, ◌∙◌, true, ℕ, ◌+◌, ◌<◌, arith, get_or, lt-ltb, le-ltb, eq-eqb}
use Rattle.std.proofs.Math.Logic.{by_cases}
use Rattle.std.proofs.Math.Decide.{dec_lt}
use Rattle.lists.specs.Lists.{any_of}
use Rattle.lists.proofs.Cases.{by_test, test_same}
use Rattle.lists.proofs.Distinct.{in_get_or, get_or_in}
use Rattle.lists.proofs.ListLaws.{any_in, any_out}
use Rattle.rebac.specs.Matter.{Matter}
use Rattle.house_layout.specs.Layout.{record_of, unknown_kind, permit_kind}
use Rattle.house_layout.specs.Fields.{legal_kind}
use Rattle.house_layout.specs.declared.record.Record.{Record}
use Rattle.house_layout.proofs.KindLaws.{label_legal, unknown_legal, permit_legal}
use Rattle.house_file.specs.Check.{says}
use Rattle.house_file.specs.Meaning.{chain_of, recorded, is_edge, is_unknown, is_permitted}
use Rattle.house_file.proofs.FollowLaws.{says_target}
use Rattle.graph.specs.FileMatter.{matter_of}
use Rattle.canonical.specs.Canonical.{Entry, says_kind, entries_of, first_of, canonical_of}
use Rattle.canonical.specs.Shape.{InLimits}
use Rattle.canonical.proofs.LayoutLaws.{no_entry, party_record}
use Rattle.canonical.proofs.LayoutLaws.{canonical_parties, canonical_labels, canonical_language, canonical_longest}
use Rattle.canonical.proofs.EntryLaws.{entry_in_lem, entry_out, says_edge, says_unknown, says_permit, says_pair}
use Rattle.canonical.proofs.ChainLaws.{chain_at, at_chain}

module _ (d : ℕ) (M : Matter) (i : InLimits M) where
  -- a record of the chain says what its entry does, and each entry has a record
  pub record_said : (u v k : ℕ) → u < M.parties → any_of (says (canonical_of d M) v k) (chain_of (canonical_of d M) u) ≡ true
      → says_kind M u v k ≡ true
  record_said u v k h s =
      let r = any_out (says (canonical_of d M) v k) (chain_of (canonical_of d M) u) s in
      let a = chain_at d M u h r.0 r.1 in
      let t = says_target (canonical_of d M) v k r.0 r.2 in
      let e = entry_out M u (get_or (entries_of M u) a.place no_entry) (get_or_in (entries_of M u) a.place no_entry a.small) in
      let p : (get_or (entries_of M u) a.place no_entry).target ≡ v = ap (λ (x : Record). x.target) (sym a.says) ∙ t.0 in
      let q : (get_or (entries_of M u) a.place no_entry).kind ≡ k = ap (λ (x : Record). x.kind) (sym a.says) ∙ t.1 in
      rw (p, q) at e.said

  said_record : (u v k : ℕ) → u < M.parties → legal_kind M.labels k ≡ true → says_kind M u v k ≡ true
      → any_of (says (canonical_of d M) v k) (chain_of (canonical_of d M) u) ≡ true
  unfolding says
  said_record u v k h l s =
      let p = in_get_or (entries_of M u) no_entry (entry_in_lem M u v k (says_pair M i u v k s).second l s) in
      let z = party_record d M u p.0 h p.1.0 in
      let t : (record_of (canonical_of d M) (first_of M u + p.0)).target ≡ v =
      ap (λ (x : Record). x.target) z ∙ ap (λ (e : Entry). e.target) p.1.1 in
      let q : (record_of (canonical_of d M) (first_of M u + p.0)).kind ≡ k =
      ap (λ (x : Record). x.kind) z ∙ ap (λ (e : Entry). e.kind) p.1.1 in
      any_in (says (canonical_of d M) v k) (chain_of (canonical_of d M) u) (at_chain d M u h p.0 p.1.0)
      (rw (eq-eqb _ _ t, eq-eqb _ _ q))

  pub canonical_recorded : (u v k : ℕ) → legal_kind M.labels k ≡ true → recorded (canonical_of d M) u v k ≡ says_kind M u v k
  unfolding recorded
  canonical_recorded u v k l =
      by_cases (dec_lt u M.parties)
      (λ h. rw (canonical_parties d M, lt-ltb u M.parties h) (test_same (record_said u v k h) (said_record u v k h l)))
      (λ h. rw (canonical_parties d M, le-ltb u M.parties (omega arith))
      (by_test (says_kind M u v k) (λ s. absurd (omega (arith, (says_pair M i u v k s).first))) (λ s. sym s)))

  -- its relations, unknown ones and permits
  pub canonical_edges : (u v l : ℕ) → is_edge (canonical_of d M) u v l ≡ M.edge u v l
  unfolding is_edge
  canonical_edges u v l =
      by_cases (dec_lt l M.labels)
      (λ h. rw (canonical_labels d M, lt-ltb l M.labels h)
      (canonical_recorded u v l (label_legal M.labels l h) ∙ says_edge M u v l (omega (arith, i.limits.labels.1))))
      (λ h. rw (canonical_labels d M, le-ltb l M.labels (omega arith))
      (by_test (M.edge u v l) (λ s. absurd (omega (arith, (i.edges u v l s).1))) (λ s. sym s)))

  pub canonical_unknowns : (u v l : ℕ) → is_unknown (canonical_of d M) u v l ≡ M.unknown u v l
  unfolding is_unknown
  canonical_unknowns u v l =
      by_cases (dec_lt l M.labels)
      (λ h. rw (canonical_labels d M, lt-ltb l M.labels h)
      (canonical_recorded u v (unknown_kind l) (unknown_legal M.labels l h)
      ∙ says_unknown M u v l (omega (arith, i.limits.labels.1))))
      (λ h. rw (canonical_labels d M, le-ltb l M.labels (omega arith))
      (by_test (M.unknown u v l) (λ s. absurd (omega (arith, (i.unknowns u v l s).1))) (λ s. sym s)))

  pub canonical_permits : (u v : ℕ) → is_permitted (canonical_of d M) u v ≡ M.permit u v
  unfolding is_permitted
  canonical_permits u v = canonical_recorded u v permit_kind (permit_legal M.labels) ∙ says_permit M u v

  -- the matter, as an equation
  pub canonical_matter : matter_of (canonical_of d M) ≡ M
  unfolding matter_of
  canonical_matter = λ j. record {
    parties = canonical_parties d M j;
    labels = canonical_labels d M j;
    language = canonical_language d M j;
    longest = canonical_longest d M j;
    edge = λ u v l. canonical_edges u v l j;
    unknown = λ u v l. canonical_unknowns u v l j;
    permit = λ u v. canonical_permits u v j;
  }

-- two matters in limits with one canonical file are the same
pub canonical_once : (d : ℕ) (M N : Matter) → InLimits M → InLimits N → canonical_of d M ≡ canonical_of d N → M ≡ N
canonical_once d M N i j e = sym (canonical_matter d M i) ∙ ap matter_of e ∙ canonical_matter d N j

-- the canonical file's canonical file is itself, and from any edition the same
pub canonical_again : (d e : ℕ) (M : Matter) → InLimits M → canonical_of d (matter_of (canonical_of e M)) ≡ canonical_of d M
canonical_again d e M i = ap (canonical_of d) (canonical_matter e M i)
