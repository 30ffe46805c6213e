-- All chains followed, party by party: marks stand for the records of the chains passed, rows for their kinds. Assumes nothing.
use Rattle.std.proofs.Common.{◌≡◌, refl, ap, ◌∙◌, true, not, List, [], ◌++◌, Ok, Err, ℕ, zero, suc}
use Rattle.std.proofs.Common.{◌+◌, ◌-◌, ◌≤◌, ◌<◌, add-one, arith, replicate, lt-ltb, le-ltb}
use Rattle.std.proofs.Math.Logic.{by_cases}
use Rattle.std.proofs.Math.Decide.{ℕ_discrete, dec_lt}
use Rattle.lists.specs.Lists.{any_of}
use Rattle.masks.specs.promises.Mask.{test_bit}
use Rattle.masks.specs.promises.Table.{mask_in, mask_at}
use Rattle.masks.specs.declared.Row.{Row}
use Rattle.masks.specs.declared.Table.{Table}
use Rattle.masks.proofs.MaskLaws.{zero_bit}
use Rattle.masks.proofs.TableLaws.{get_or_zeros}
use Rattle.house_layout.specs.Layout.{parties_of, labels_of, records_of}
use Rattle.house_layout.specs.Reply.{refuse}
use Rattle.house_layout.specs.Fields.{legal_kind}
use Rattle.house_file.specs.Check.{says, stopped, passed, and_then, follow_chains, every_reached, reached_all, chains_check}
use Rattle.house_file.specs.promises.Reading.{RecordMarks, RowOf, chain_followed}
use Rattle.house_file.specs.Meaning.{chain_of, recorded}
use Rattle.house_layout.specs.promises.Kinds.{bit_of}
use Rattle.house_layout.specs.declared.reply.Refusal.{Refusal}
use Rattle.house_layout.specs.declared.reply.Refusal.TheVariants.{Unreached}
use Rattle.house_file.proofs.ChainsLaws.{chain_passed}

-- the chains below party u were followed: what was reached, and the chains that are left
pub record Upto (f : List ℕ) (u : ℕ) (marks : List ℕ) (kinds : Table) : Type 0 where
  pub before : List ℕ
  pub marked : RecordMarks marks before
  pub left : ℕ
  pub count : u + left ≡ parties_of f
  pub same : follow_chains f 0 (parties_of f) [] ≡ follow_chains f u left before
  pub rows : (v : ℕ) → v < u → (t k : ℕ) → legal_kind (labels_of f) k ≡ true
      → test_bit (mask_at kinds v t) (bit_of k) ≡ any_of (says f t k) (chain_of f v)
  pub empty : (v t : ℕ) → u ≤ v → mask_at kinds v t ≡ 0

pub upto_start : (f : List ℕ) (n : ℕ) (kinds : Table) → ((v t : ℕ) → mask_at kinds v t ≡ 0) → Upto f 0 (replicate n 0) kinds
unfolding any_of
upto_start f n kinds e = record {
  before = [];
  marked = λ r h. rw (get_or_zeros n (r - 1));
  left = parties_of f;
  count = omega arith;
  same = refl;
  rows = λ v h. absurd (omega arith);
  empty = λ v t h. e v t;
}

module _ (f : List ℕ) (u : ℕ) (marks : List ℕ) (kinds : Table) (h : Upto f u marks kinds) where
  module _ (l : u < parties_of f) where
    turn : (m : ℕ) → u + m ≡ parties_of f
        → follow_chains f u m h.before ≡ and_then (chain_followed f u h.before) (λ c. follow_chains f (suc u) (m - 1) (h.before ++ c))
    unfolding follow_chains
    turn zero e = absurd (omega arith)
    turn (suc m) e = let p : suc m - 1 ≡ m = omega arith in rw p

    pub upto_refused : (x : Refusal) → chain_followed f u h.before ≡ stopped x → chains_check f ≡ Err x
    unfolding chains_check
    upto_refused x e = let w : follow_chains f 0 (parties_of f) [] ≡ stopped x = h.same ∙ turn h.left h.count ∙ rw e in rw w

    pub upto_next : (c marks' : List ℕ) (row : Row) (kinds' : Table)
        → chain_followed f u h.before ≡ passed c → RecordMarks marks' (h.before ++ c) → RowOf f row c
        → ((t : ℕ) → mask_at kinds' u t ≡ mask_in row t) → ((v t : ℕ) → (v ≡ u → ⊥) → mask_at kinds' v t ≡ mask_at kinds v t)
        → Upto f (u + 1) marks' kinds'
    upto_next c marks' row kinds' e m r s o =
        let q : c ≡ chain_of f u = (chain_passed f u h.before c e).0 in
        record {
          before = h.before ++ c;
          marked = m;
          left = h.left - 1;
          count = omega (arith, h.count);
          same = h.same ∙ turn h.left h.count ∙ rw (e, add-one u);
          rows = λ v l' t k g. by_cases (ℕ_discrete v u)
              (λ p. rw (p, s t, ← q) (r t k g))
              (λ p. rw (o v t p) (h.rows v (omega (arith, p)) t k g));
          empty = λ v t g. o v t (λ p. omega arith) ∙ h.empty v t (omega arith);
        }

  module _ (l : parties_of f ≤ u) where
    done : (m : ℕ) → u + m ≡ parties_of f → follow_chains f u m h.before ≡ passed h.before
    unfolding follow_chains
    done zero e = refl
    done (suc m) e = absurd (omega arith)

    pub upto_end : chains_check f ≡ refuse (not (every_reached (records_of f) h.before)) Unreached (Ok tt)
    unfolding chains_check
    upto_end = ap (reached_all (records_of f)) (h.same ∙ done h.left h.count)

    pub upto_kinds : (v t k : ℕ) → legal_kind (labels_of f) k ≡ true → test_bit (mask_at kinds v t) (bit_of k) ≡ recorded f v t k
    unfolding recorded
    upto_kinds v t k g =
        by_cases (dec_lt v (parties_of f))
        (λ p. h.rows v (omega arith) t k g ∙ rw (lt-ltb v (parties_of f) p))
        (λ p. rw (h.empty v t (omega (arith, h.count)), le-ltb v (parties_of f) (omega arith)) (zero_bit (bit_of k)))
