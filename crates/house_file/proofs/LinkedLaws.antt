-- A list of records linked from a head is what the turns of `chain_from` give: its records are different numbers from 1 to R, so it has
-- R records at the most. By induction on the list. Assumes nothing.
use Rattle.std.proofs.Common.{◌≡◌, ap, ◌∙◌, List, [], ◌∷◌, ℕ, zero, suc, ◌≤◌, ◌<◌, arith, length}
use mathlib.Core.List.Memᴰ
use mathlib.Core.List.{Memᴰ}
use Rattle.lists.specs.Lists.{up_from}
use Rattle.lists.specs.Order.{Distinct}
use Rattle.lists.proofs.Cases.{by_mem}
use Rattle.lists.proofs.Distinct.{distinct_most}
use Rattle.lists.proofs.ListLaws.{up_in, up_length}
use Rattle.house_layout.specs.Layout.{parties_of, head_of, records_of, record_of}
use Rattle.house_file.specs.Meaning.{chain_from, chain_of, IsChain, RecordsRight, WellFormed}
use Rattle.house_file.proofs.FollowLaws.{chain_end, chain_step}

-- its records are numbered from 1 to R
pub linked_inside : (f : List ℕ) (r : ℕ) (c : List ℕ) → IsChain f r c → (s : ℕ) → Memᴰ s c → (1 ≤ s) × (s ≤ records_of f)
linked_inside f r [] h s m = absurd (Memᴰ.not-nil m)
linked_inside f r (t ∷ c) h s m =
    by_mem m
    (λ e. (omega (arith, h.0, h.1.0), omega (arith, h.0, h.1.1.0)))
    (λ n. linked_inside f (record_of f r).next c h.1.1.1 s n)

linked_length : (f : List ℕ) (r : ℕ) (c : List ℕ) → IsChain f r c → Distinct c → length c ≤ records_of f
linked_length f r c h d =
    let most =
    distinct_most c (up_from 1 (records_of f)) d (λ s m.
    let b = linked_inside f r c h s m in
    up_in 1 (records_of f) s b.0 (omega (arith, b.1))) in
    omega (arith, most, up_length 1 (records_of f))

-- as many turns as it has records give it back
linked_from : (f : List ℕ) (k r : ℕ) (c : List ℕ) → IsChain f r c → length c ≤ k → chain_from f k r ≡ c
linked_from f k r [] h l = chain_end f k r h
linked_from f zero r (s ∷ c) h l = absurd (omega arith)
linked_from f (suc k) r (s ∷ c) h l =
    chain_step f k r (λ e. omega (arith, e, h.1.0)) h.1.1.0
    ∙ rw (linked_from f k (record_of f r).next c h.1.1.1 (omega arith)) (ap (λ (t : ℕ). t ∷ c) h.0)

-- a list linked from party u's head is party u's chain
pub linked_chain : (f : List ℕ) (u : ℕ) (c : List ℕ) → IsChain f (head_of f u) c → Distinct c → chain_of f u ≡ c
unfolding chain_of
linked_chain f u c h d = linked_from f (records_of f) (head_of f u) c h (linked_length f (head_of f u) c h d)

-- so the records of a well-formed file are right over its chains
pub records_right : (f : List ℕ) → WellFormed f → RecordsRight f (chain_of f)
records_right f w =
    let h = w.records in
    let same : (u : ℕ) → u < parties_of f → chain_of f u ≡ w.chain u = λ u l. linked_chain f u (w.chain u) (h.linked u l) (h.once u l) in
    record {
      linked = λ u l. rw (same u l) (h.linked u l);
      reached = λ r a b. let o = h.reached r a b in (o.0, (o.1.0, rw (same o.0 o.1.0) o.1.1));
      once = λ u l. rw (same u l) (h.once u l);
      apart = λ u v r k l m n. h.apart u v r k l (rw (same u (omega arith)) at m) (rw (same v l) at n);
      owner = λ u r l m. h.owner u r l (rw (same u l) at m);
      target = λ u r l m. h.target u r l (rw (same u l) at m);
      kind = λ u r l m. h.kind u r l (rw (same u l) at m);
      different = λ u r s l m n. h.different u r s l (rw (same u l) at m) (rw (same u l) at n);
      consistent = λ u r s k l m n. h.consistent u r s k l (rw (same u l) at m) (rw (same u l) at n);
    }
