-- No relation of an accepted file is both an edge and unknown: its two records would be one known and one unknown. Where no record has
-- such a kind, nothing is unknown, and the checks are those without it. Assumes nothing.
use Rattle.std.proofs.Common.{◌≡◌, sym, ◌∙◌, refl, true, false, List, ℕ, eqb, ltb, ltb-true, Ok}
use mathlib.Core.List.{Memᴰ}
use Rattle.lists.specs.Lists.{any_of}
use Rattle.lists.proofs.Cases.{by_test, both, and_left, and_right, and_false}
use Rattle.lists.proofs.ListLaws.{any_out, any_none}
use Rattle.house_layout.specs.Fields.{judge_record}
use Rattle.house_layout.proofs.KindLaws.{known_legal, known_opposite}
use Rattle.house_layout.specs.Layout.{parties_of, labels_of, record_of, unknown_kind}
use Rattle.house_file.specs.Check.{says, contradicts, record_check, check_of}
use Rattle.house_file.specs.Meaning.{chain_of, recorded, is_edge, is_unknown}
use Rattle.house_file.specs.Listed.{KnownKind, OnlyKnown, listed_record_check}
use Rattle.house_file.proofs.FollowLaws.{says_target}
use Rattle.house_file.proofs.LinkedLaws.{records_right}
use Rattle.house_file.proofs.WellFormedLaws.{accepted_iff_well_formed}

pub nothing_unknown : (f : List ℕ) → OnlyKnown f → (u v l : ℕ) → is_unknown f u v l ≡ false
unfolding is_unknown recorded
nothing_unknown f h u v l =
    by_test (is_unknown f u v l)
    (λ e.
    let q = and_right (ltb l (labels_of f)) _ e in
    let r = any_out (says f v (unknown_kind l)) (chain_of f u) (and_right (ltb u (parties_of f)) _ q) in
    absurd (h u r.0 (ltb-true u (parties_of f) (and_left (ltb u (parties_of f)) _ q)) r.1 l
    (ltb-true l (labels_of f) (and_left (ltb l (labels_of f)) _ e)) (says_target f v (unknown_kind l) r.0 r.2).1))
    (λ e. e)

-- and the checks of a record are 01's as they stood
pub record_as_listed : (f : List ℕ) (u : ℕ) (before earlier : List ℕ) (r : ℕ) → KnownKind f r → ((s : ℕ) → Memᴰ s earlier → KnownKind f s)
    → record_check f u before earlier r ≡ listed_record_check f u before earlier r
unfolding record_check judge_record listed_record_check contradicts
record_as_listed f u before earlier r h i =
    let x = record_of f r in
    let none : any_of (contradicts f x.target x.kind) earlier ≡ false =
    any_none (contradicts f x.target x.kind) earlier
    (λ s m e.
    let apart = known_opposite (labels_of f) x.kind (record_of f s).kind h (i s m) in
    both e (and_false (eqb (record_of f s).target x.target) apart)) in
    rw (known_legal (labels_of f) x.kind h, none) refl

module _ (f : List ℕ) (a : check_of f ≡ Ok tt) where
  pub never_both : (u v l : ℕ) → is_edge f u v l ≡ true → is_unknown f u v l ≡ true → ⊥
  unfolding is_edge is_unknown recorded
  never_both u v l p q =
      let b = and_right (ltb l (labels_of f)) _ p in
      let below = ltb-true l (labels_of f) (and_left (ltb l (labels_of f)) _ p) in
      let inside = ltb-true u (parties_of f) (and_left (ltb u (parties_of f)) _ b) in
      let r = any_out (says f v l) (chain_of f u) (and_right (ltb u (parties_of f)) _ b) in
      let s =
      any_out (says f v (unknown_kind l)) (chain_of f u) (and_right (ltb u (parties_of f)) _ (and_right (ltb l (labels_of f)) _ q)) in
      let known = says_target f v l r.0 r.2 in
      let unknown = says_target f v (unknown_kind l) s.0 s.2 in
      (records_right f ((accepted_iff_well_formed f).0 a)).consistent u r.0 s.0 l inside r.1 s.1
      (known.0 ∙ sym unknown.0) below known.1 unknown.1

  -- so an unknown relation is no edge
  pub unknown_no_edge : (u v l : ℕ) → is_unknown f u v l ≡ true → is_edge f u v l ≡ false
  unknown_no_edge u v l q = by_test (is_edge f u v l) (λ p. absurd (never_both u v l p q)) (λ p. p)
