-- The call step by step: the test at a pair, the pairs from a number on, the list's check.
-- The masks stand for the matter, and the pairs by number are the pairs in order.
use Rattle.std.proofs.Common.{◌≡◌, refl, sym, ap, ◌∙◌, arith, Bool, true, false, not, ◌&&◌, ◌||◌, List, ℕ, ◌+◌, ◌*◌, ◌/◌, ◌%◌, ◌≤◌, ◌<◌}
use Rattle.std.proofs.Common.{Option, Some, None, Ok, Err}
use mathlib.Core.Bool.{beq}
use mathlib.Core.Option.{none, some}
use Rattle.lists.specs.Lists.{first_by}
use Rattle.lists.proofs.Cases.{by_test, and_left, and_right}
use Rattle.masks.specs.promises.Mask.{test_bit}
use Rattle.masks.specs.promises.Table.{mask_in}
use Rattle.rebac.specs.Matter.{Matter, permitted}
use Rattle.rebac.specs.Words.{Word}
use Rattle.rebac.specs.promises.Options.{is_some}
use Rattle.rebac.proofs.OptionLaws.{none_of}
use Rattle.fields.specs.Numbers.{Bytes}
use Rattle.graph.specs.promises.Archive.{Shows}
use Rattle.graph.specs.declared.archive.Archive.{Archive}
use Rattle.house_layout.specs.declared.reply.Refusal.TheVariants.{RuleList}
use Rattle.rules.specs.promises.Meets.{meets_list}
use Rattle.rules.proofs.PermitLaws.{same_answer, archive_list, checked}
use Rattle.mining.specs.promises.Pairs.{pair_at, is_pair_at, pairs_from}
use Rattle.mining.proofs.GridLaws.{pairs_numbered, pairs_skip, pairs_take, pairs_end}
use Rattle.comparison.specs.Compare.{only_file, only_list, differ, first_difference, side_of, comparison, compare_by, compare_in}
use Rattle.comparison.specs.promises.Given.{Given}
use Rattle.comparison.specs.declared.call.Difference.{Difference}

unequal : (s t : Bool) → not (beq s t) ≡ ((s && not t) || (t && not s))
unequal true true = refl
unequal true false = refl
unequal false true = refl
unequal false false = refl

module _ (M : Matter) (l : List (List Word)) (a : Archive) (list : List ℕ) (h : Given M l a list) where
  -- the table's bit of a number is the matter's permit
  bit_permitted : (k : ℕ) → test_bit (mask_in a.permits (k / 32)) (k % 32) ≡ permitted M (pair_at k)
  unfolding permitted
  bit_permitted k = h.shows.permits (k / 32) (k % 32)

  module _ (k : ℕ) where
    pub no_pair : is_pair_at a.graph.parties k ≡ false → false ≡ (is_pair_at a.graph.parties k && differ M l (pair_at k))
    no_pair e = rw e refl

    -- the two answers differ where only one of them is yes
    pub pair_differs : is_pair_at a.graph.parties k ≡ true → {s t : Bool} → s ≡ test_bit (mask_in a.permits (k / 32)) (k % 32)
        → t ≡ meets_list a.graph.parties a.graph.table (k / 32) (k % 32) l
        → not (beq s t) ≡ (is_pair_at a.graph.parties k && differ M l (pair_at k))
    unfolding differ only_file only_list
    pair_differs e {s} {t} p q =
        rw (e, ← bit_permitted k, ← p, ← same_answer M a h.shows (k / 32) (k % 32) l, ← q) (unequal s t)

  -- what is left to go through
  abbrev pub Left : ℕ → Type 0
  Left k = first_difference M l ≡ first_by (differ M l) (pairs_from a.graph.parties k)

  pub left_start : Left 0
  unfolding first_difference
  left_start = rw (← h.shows.parties, pairs_numbered a.graph.parties a.graph.within)

  module _ (k : ℕ) (turn : k < 32 * a.graph.parties) (d : Left k) where
    bounded : k < 1024
    bounded = omega (arith, turn, a.graph.within)

    pub left_next : (is_pair_at a.graph.parties k && differ M l (pair_at k)) ≡ false → Left (k + 1)
    unfolding first_by
    left_next e =
        by_test (is_pair_at a.graph.parties k)
        (λ t.
        let n : differ M l (pair_at k) ≡ false = rw t at e in
        d ∙ ap (first_by (differ M l)) (pairs_take a.graph.parties k bounded t) ∙ rw (n, first_by) refl)
        (λ t. d ∙ ap (first_by (differ M l)) (pairs_skip a.graph.parties k bounded t))

    pub left_found : (is_pair_at a.graph.parties k && differ M l (pair_at k)) ≡ true
        → comparison M l ≡ Some (side_of (test_bit (mask_in a.permits (k / 32)) (k % 32)) (pair_at k))
    unfolding first_by comparison
    left_found e =
        let t = and_left (is_pair_at a.graph.parties k) _ e in
        let y = and_right (is_pair_at a.graph.parties k) _ e in
        let f : first_difference M l ≡ some (pair_at k) =
        d ∙ ap (first_by (differ M l)) (pairs_take a.graph.parties k bounded t) ∙ rw (y, first_by) refl in
        rw f (ap (λ (b : Bool). Some (side_of b (pair_at k))) (sym (bit_permitted k)))

  pub left_none : (k : ℕ) → 32 * a.graph.parties ≤ k → Left k → comparison M l ≡ None
  unfolding first_by comparison
  left_none k far d = let f : first_difference M l ≡ none = d ∙ ap (first_by (differ M l)) (pairs_end a.graph.parties k far) in rw f

-- the list's check, then the answer
module _ (M : Matter) (a : Archive) (h : Shows M a) (list : List ℕ) where
  in_archive : compare_in M list ≡ compare_by M (archive_list a list)
  unfolding compare_in
  in_archive = rw (← h.labels, ← h.language, ← h.longest)

  pub no_list : is_some (archive_list a list) ≡ false → compare_in M list ≡ Err RuleList
  no_list e = in_archive ∙ rw (none_of (archive_list a list) e)

  module _ (bytes : Bytes list) (e : is_some (archive_list a list) ≡ true) where
    pub the_answer : (r : Option Difference) → ((l : List (List Word)) → Given M l a list → r ≡ comparison M l) → compare_in M list ≡ Ok r
    the_answer r f =
        let k = checked M a h list bytes e in
        in_archive ∙ rw k.decodes (ap Ok (sym (f k.listed (record { shows = h; listed = k.is }))))
