-- What an accepted file records: its matter is in limits, and its R is the number of (owner, target, kind) that it records, since
-- the records of all chains are the numbers 1 to R, each once, and no two say the same. Assumes nothing.
use Rattle.std.proofs.Common.{Ok, ◌≡◌, refl, sym, ap, ◌∙◌, ⊎_elim, true, List, map, ℕ, ◌≤◌, ◌<◌}
use Rattle.std.proofs.Common.{arith, ltb, length, eq-eqb, lt-ltb, ltb-true}
use Rattle.std.proofs.Math.Logic.{by_cases}
use mathlib.Core.List.{Memᴰ}
use Rattle.std.proofs.Math.Decide.{dec_lt}
use Rattle.lists.specs.Lists.{flat_map, range, up_from}
use Rattle.lists.specs.Order.{Distinct}
use Rattle.lists.proofs.Cases.{and_left, and_right, and_both}
use Rattle.lists.proofs.Distinct.{distinct_map, distinct_flat, distinct_equal}
use Rattle.lists.proofs.ListLaws.{any_in, any_out, flat_in, flat_out, map_in, map_out, range_in, range_out, up_in, up_out, up_length}
use Rattle.lists.proofs.OrderLaws.{length_map, up_distinct}
use Rattle.lists.proofs.Pieces.{flat_lengths}
use Rattle.house_layout.specs.Layout.{parties_of, labels_of, records_of, head_of, record_of, unknown_kind, permit_kind}
use Rattle.house_layout.specs.Fields.{legal_kind}
use Rattle.house_layout.specs.declared.record.Record.{Record}
use Rattle.house_layout.proofs.KindLaws.{kind_cases, kind_legal}
use Rattle.house_file.specs.Check.{says, check_of}
use Rattle.house_file.specs.Meaning.{chain_of, recorded, is_edge, is_unknown, is_permitted, RecordsRight}
use Rattle.house_file.proofs.FollowLaws.{says_target}
use Rattle.house_file.proofs.LinkedLaws.{linked_inside, records_right}
use Rattle.house_file.proofs.UnknownLaws.{unknown_no_edge}
use Rattle.house_file.proofs.WellFormedLaws.{framing, accepted_iff_well_formed}
use Rattle.rebac.specs.Matter.{pair, IsPair}
use Rattle.graph.specs.FileMatter.{matter_of}
use Rattle.graph.proofs.LoadLaws.{accepted_limits}
use Rattle.canonical.specs.Canonical.{Entry, entry, says_kind}
use Rattle.canonical.specs.Shape.{InLimits, entry_in}
use Rattle.canonical.proofs.EntryLaws.{says_edge, says_unknown, says_permit}

-- what party u's records say, and the file's, chain by chain
abbrev recorded_by : List ℕ → ℕ → List Entry
recorded_by f u = map (entry_in f u) (chain_of f u)

unfoldable pub recorded_in : List ℕ → List Entry
recorded_in f = flat_map (recorded_by f) (range (parties_of f))

module _ (f : List ℕ) where
  -- a record of the owner's chain has the target and kind
  pub recorded_out : (u v k : ℕ) → recorded f u v k ≡ true
      → (u < parties_of f) × ((r : ℕ) × (Memᴰ r (chain_of f u) × (((record_of f r).target ≡ v) × ((record_of f r).kind ≡ k))))
  unfolding recorded
  recorded_out u v k e =
      let r = any_out (says f v k) (chain_of f u) (and_right (ltb u (parties_of f)) _ e) in
      (ltb-true u (parties_of f) (and_left (ltb u (parties_of f)) _ e), (r.0, (r.1, says_target f v k r.0 r.2)))

  pub recorded_in_lem : (u r : ℕ) → u < parties_of f → Memᴰ r (chain_of f u)
      → recorded f u (record_of f r).target (record_of f r).kind ≡ true
  unfolding recorded says
  recorded_in_lem u r h m =
      let x : Record = record_of f r in
      let same : says f x.target x.kind r ≡ true = and_both (eq-eqb x.target _ refl) (eq-eqb x.kind _ refl) in
      and_both (lt-ltb u (parties_of f) h) (any_in (says f x.target x.kind) (chain_of f u) m same)

  -- an entry is recorded where a record has it
  pub record Found (e : Entry) : Type 0 where
    pub legal : legal_kind (labels_of f) e.kind ≡ true
    pub found : recorded f e.owner e.target e.kind ≡ true

  module _ (w : RecordsRight f (chain_of f)) where
    pub recorded_pair : (u v k : ℕ) → recorded f u v k ≡ true → IsPair (parties_of f) (pair u v)
    recorded_pair u v k e =
        let o = recorded_out u v k e in
        let t = w.target u o.1.0 o.0 o.1.1.0 in
        record { first = o.0; second = rw o.1.1.1.0 at t.0; different = λ q. t.1 (o.1.1.1.0 ∙ sym q) }

    -- the records of all chains are 1 to R, each once
    numbers_distinct : Distinct (flat_map (chain_of f) (range (parties_of f)))
    unfolding range
    numbers_distinct =
        distinct_flat (chain_of f) (range (parties_of f)) (up_distinct 0 (parties_of f)) (λ u m. w.once u (range_out (parties_of f) m))
        (λ u v r a b m n.
        by_cases (dec_lt u v)
        (λ l. absurd (w.apart u v r l (range_out (parties_of f) b) m n))
        (λ l. by_cases (dec_lt v u) (λ g. absurd (w.apart v u r g (range_out (parties_of f) a) n m)) (λ g. omega arith)))

    numbers_length : length (flat_map (chain_of f) (range (parties_of f))) ≡ records_of f
    numbers_length =
        distinct_equal (flat_map (chain_of f) (range (parties_of f))) (up_from 1 (records_of f)) numbers_distinct
        (up_distinct 1 (records_of f))
        (λ r m.
        let o = flat_out (chain_of f) (range (parties_of f)) m in
        let b = linked_inside f (head_of f o.0) (chain_of f o.0) (w.linked o.0 (range_out (parties_of f) o.1)) r o.2 in
        up_in 1 (records_of f) r b.0 (omega (arith, b.1)))
        (λ r m.
        let b = up_out 1 (records_of f) m in
        let o = w.reached r b.0 (omega (arith, b.1)) in
        flat_in (chain_of f) (range (parties_of f)) (range_in (parties_of f) o.0 o.1.0) o.1.1)
        ∙ up_length 1 (records_of f)

    -- so many entries are recorded, each once
    pub recorded_length : length (recorded_in f) ≡ records_of f
    unfolding recorded_in
    recorded_length =
        flat_lengths (recorded_by f) (chain_of f) (parties_of f) (λ u h. length_map (entry_in f u) (chain_of f u)) ∙ numbers_length

    pub recorded_distinct : Distinct (recorded_in f)
    unfolding recorded_in range
    recorded_distinct =
        distinct_flat (recorded_by f) (range (parties_of f)) (up_distinct 0 (parties_of f))
        (λ u m. distinct_map (entry_in f u) (chain_of f u) (w.once u (range_out (parties_of f) m))
        (λ r s a b e. w.different u r s (range_out (parties_of f) m) a b (ap (λ (x : Entry). x.target) e) (ap (λ (x : Entry). x.kind) e)))
        (λ u v e a b m n.
        ap (λ (x : Entry). x.owner) (sym (map_out (entry_in f u) (chain_of f u) m).2 ∙ (map_out (entry_in f v) (chain_of f v) n).2))

    pub entry_found : (e : Entry) → Memᴰ e (recorded_in f) → Found e
    unfolding recorded_in
    entry_found e m =
        let o = flat_out (recorded_by f) (range (parties_of f)) m in
        let r = map_out (entry_in f o.0) (chain_of f o.0) o.2 in
        let h = range_out (parties_of f) o.1 in
        rw r.2 (record {
          legal = kind_legal (labels_of f) (record_of f r.0).kind (w.kind o.0 r.0 h r.1);
          found = recorded_in_lem o.0 r.0 h r.1;
        })

    pub found_entry : (u v k : ℕ) → recorded f u v k ≡ true → Memᴰ (entry u v k) (recorded_in f)
    unfolding recorded_in
    found_entry u v k e =
        let o = recorded_out u v k e in
        let q = o.1.1.1 in
        flat_in (recorded_by f) (range (parties_of f)) (range_in (parties_of f) u o.0)
        (rw (q.0, q.1) at (map_in (entry_in f u) (chain_of f u) o.1.1.0))

-- the numbers of a file's matter
pub matter_parties : (f : List ℕ) → (matter_of f).parties ≡ parties_of f
unfolding matter_of
matter_parties f = refl

pub matter_labels : (f : List ℕ) → (matter_of f).labels ≡ labels_of f
unfolding matter_of
matter_labels f = refl

module _ (f : List ℕ) (a : check_of f ≡ Ok tt) where
  -- and what it says
  pub matter_says : (u v k : ℕ) → legal_kind (labels_of f) k ≡ true → says_kind (matter_of f) u v k ≡ recorded f u v k
  unfolding matter_of is_edge is_unknown is_permitted
  matter_says u v k l =
      let small : labels_of f ≤ 8 = (framing f a).fields.labels.1 in
      ⊎_elim
      (λ h. says_edge (matter_of f) u v k (omega arith) ∙ rw (lt-ltb k (labels_of f) h))
      (λ t. ⊎_elim
      (λ j. rw j.1.1 (says_unknown (matter_of f) u v j.0 (omega (arith, j.1.0)) ∙ rw (lt-ltb j.0 (labels_of f) j.1.0)))
      (λ q. rw q (says_permit (matter_of f) u v))
      t)
      (kind_cases (labels_of f) k l)

  pub accepted_matter : InLimits (matter_of f)
  unfolding matter_of is_edge is_unknown is_permitted
  accepted_matter =
      let w = records_right f ((accepted_iff_well_formed f).0 a) in
      record {
        limits = accepted_limits f a;
        edges = λ u v l e. (
          recorded_pair f w u v l (and_right (ltb l (labels_of f)) _ e),
          ltb-true l (labels_of f) (and_left (ltb l (labels_of f)) _ e),
        );
        unknowns = λ u v l e. (
          recorded_pair f w u v (unknown_kind l) (and_right (ltb l (labels_of f)) _ e),
          ltb-true l (labels_of f) (and_left (ltb l (labels_of f)) _ e),
        );
        permits = λ u v e. recorded_pair f w u v permit_kind e;
        consistent = λ u v l e. unknown_no_edge f a u v l e;
      }
