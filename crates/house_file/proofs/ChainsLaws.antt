-- Following all chains passes exactly where each chain is right and no record stands in two: by induction on the parties, both ways.
-- Assumes nothing.
use Rattle.std.proofs.Common.{◌≡◌, refl, sym, ap, ◌∙◌, true, false, List, [], ◌++◌, append_assoc}
use Rattle.std.proofs.Common.{append-nil, ℕ, zero, suc, ◌+◌, ◌≤◌, ◌<◌, arith}
use Rattle.std.proofs.Math.Logic.{by_cases}
use mathlib.Core.List.Memᴰ
use mathlib.Core.List.{Memᴰ}
use Rattle.std.proofs.Math.Decide.{ℕ_discrete}
use Rattle.lists.specs.Lists.{any_of}
use Rattle.lists.specs.Order.{Distinct}
use Rattle.lists.proofs.Cases.{both, by_append}
use Rattle.lists.proofs.ListLaws.{member_in, member_not}
use Rattle.house_layout.specs.Layout.{parties_of, labels_of, head_of, records_of, record_of}
use Rattle.house_layout.specs.Fields.{foreign, legal_target, legal_kind, opposite}
use Rattle.house_file.specs.Check.{Followed, stopped, passed, and_then, follow_chains}
use Rattle.house_file.specs.Meaning.{chain_of, IsChain}
use Rattle.house_file.specs.promises.Reading.{chain_followed}
use Rattle.house_file.proofs.ChainLaws.{unlike}
use Rattle.house_file.proofs.FollowLaws.{follow_passed, passed_follow}

-- a chain that is right by itself
pub record RightChain (f : List ℕ) (u : ℕ) : Type 0 where
  pub linked : IsChain f (head_of f u) (chain_of f u)
  pub owner : (s : ℕ) → Memᴰ s (chain_of f u) → foreign u (record_of f s).owner ≡ false
  pub target : (s : ℕ) → Memᴰ s (chain_of f u) → legal_target (parties_of f) u (record_of f s).target ≡ true
  pub kind : (s : ℕ) → Memᴰ s (chain_of f u) → legal_kind (labels_of f) (record_of f s).kind ≡ true
  pub once : Distinct (chain_of f u)
  pub different : (s t : ℕ) → Memᴰ s (chain_of f u) → Memᴰ t (chain_of f u)
      → (record_of f s).target ≡ (record_of f t).target → (record_of f s).kind ≡ (record_of f t).kind → s ≡ t
  pub consistent : (s t : ℕ) → Memᴰ s (chain_of f u) → Memᴰ t (chain_of f u)
      → (record_of f s).target ≡ (record_of f t).target → opposite (labels_of f) (record_of f s).kind (record_of f t).kind ≡ false

-- party u's chain followed, after the records `before`
pub chain_passed : (f : List ℕ) (u : ℕ) (before c : List ℕ) → chain_followed f u before ≡ passed c
    → (c ≡ chain_of f u) × (RightChain f u × ((s : ℕ) → Memᴰ s (chain_of f u) → Memᴰ s before → ⊥))
unfolding chain_of
chain_passed f u before c e =
    let h = follow_passed f u (records_of f) before [] (head_of f u) c e in
    let r = h.right in (
      h.shape,
      (
        record {
          linked = r.linked;
          owner = r.owner;
          target = r.target;
          kind = r.kind;
          once = r.once;
          different = r.different;
          consistent = r.consistent;
        },
        λ s m n. both (member_in s (before ++ []) (rw (append-nil before) n)) (r.fresh s m),
      ),
    )

pub passed_chain : (f : List ℕ) (u : ℕ) (before : List ℕ) → RightChain f u
    → ((s : ℕ) → Memᴰ s (chain_of f u) → Memᴰ s before → ⊥)
    → chain_followed f u before ≡ passed (chain_of f u)
unfolding chain_of any_of
passed_chain f u before h apart =
    passed_follow f u (records_of f) before [] (head_of f u) (record {
      linked = h.linked;
      owner = h.owner;
      target = h.target;
      kind = h.kind;
      once = h.once;
      different = h.different;
      consistent = h.consistent;
      fresh = λ s m. rw (append-nil before) (member_not s before (apart s m));
      new = λ s m. refl;
      agreed = λ s m. refl;
    })

-- the chains of m parties from u on, one after another
unfoldable pub chains_from : List ℕ → ℕ → ℕ → List ℕ
chains_from f u zero = []
chains_from f u (suc m) = chain_of f u ++ chains_from f (suc u) m

pub chains_in : (f : List ℕ) (u m v s : ℕ) → u ≤ v → v < u + m → Memᴰ s (chain_of f v) → Memᴰ s (chains_from f u m)
unfolding chains_from
chains_in f u zero v s a b n = absurd (omega arith)
chains_in f u (suc m) v s a b n =
    by_cases (ℕ_discrete v u)
    (λ q. Memᴰ.append_left (chains_from f (suc u) m) (rw q at n))
    (λ q. Memᴰ.append_right (chain_of f u) (chains_in f (suc u) m v s (omega (arith, q)) (omega arith) n))

pub chains_out : (f : List ℕ) (u m : ℕ) {s : ℕ} → Memᴰ s (chains_from f u m)
    → (v : ℕ) × ((u ≤ v) × ((v < u + m) × Memᴰ s (chain_of f v)))
unfolding chains_from
chains_out f u zero n = absurd (Memᴰ.not-nil n)
chains_out f u (suc m) {s} n =
    by_append (chain_of f u) n
    (λ k. (u, (omega arith, (omega arith, k))))
    (λ k.
    let r = chains_out f (suc u) m k in
    (r.0, (omega (arith, r.1.0), (omega (arith, r.1.1.0), r.1.1.1))))

-- m parties from u on, after the records `before`
pub record RightChains (f : List ℕ) (u m : ℕ) (before : List ℕ) : Type 0 where
  pub chain : (v : ℕ) → u ≤ v → v < u + m → RightChain f v
  pub fresh : (v s : ℕ) → u ≤ v → v < u + m → Memᴰ s (chain_of f v) → Memᴰ s before → ⊥
  pub apart : (v w s : ℕ) → u ≤ v → v < w → w < u + m → Memᴰ s (chain_of f v) → Memᴰ s (chain_of f w) → ⊥

then_passed : (w : Followed) (g : List ℕ → Followed) {c : List ℕ} → and_then w g ≡ passed c
    → (d : List ℕ) × ((w ≡ passed d) × (g d ≡ passed c))
then_passed (stopped x) g e = unlike refl e
then_passed (passed d) g e = (d, (refl, e))

pub follows_passed : (f : List ℕ) (u m : ℕ) (before all : List ℕ) → follow_chains f u m before ≡ passed all
    → (all ≡ before ++ chains_from f u m) × RightChains f u m before
unfolding follow_chains chains_from
follows_passed f u zero before all e = (
  cc (append-nil before),
  record { chain = λ v a b. absurd (omega arith); fresh = λ v s a b. absurd (omega arith); apart = λ v w s a b d. absurd (omega arith) },
)
follows_passed f u (suc m) before all e =
    let t = then_passed (chain_followed f u before) (λ c. follow_chains f (suc u) m (before ++ c)) e in
    let p = chain_passed f u before t.0 t.1.0 in
    let i = follows_passed f (suc u) m (before ++ t.0) all t.1.1 in
    let h = i.1 in (
      i.0 ∙ append_assoc before t.0 (chains_from f (suc u) m) ∙ ap (λ (c : List ℕ). before ++ (c ++ chains_from f (suc u) m)) p.0,
      record {
        chain = λ v a b. by_cases (ℕ_discrete v u) (λ q. rw q p.1.0) (λ q. h.chain v (omega (arith, q)) (omega arith));
        fresh = λ v s a b n k. by_cases (ℕ_discrete v u)
            (λ q. p.1.1 s (rw q at n) k)
            (λ q. h.fresh v s (omega (arith, q)) (omega arith) n (Memᴰ.append_left t.0 k));
        apart = λ v w s a b d n k. by_cases (ℕ_discrete v u)
            (λ q. h.fresh w s (omega arith) (omega arith) k (Memᴰ.append_right before (rw p.0 (rw q at n))))
            (λ q. h.apart v w s (omega (arith, q)) b (omega arith) n k);
      },
    )

pub passed_follows : (f : List ℕ) (u m : ℕ) (before : List ℕ) → RightChains f u m before
    → follow_chains f u m before ≡ passed (before ++ chains_from f u m)
unfolding follow_chains chains_from
passed_follows f u zero before h = ap passed (sym (append-nil before))
passed_follows f u (suc m) before h =
    rw (passed_chain f u before (h.chain u (omega arith) (omega arith)) (λ s n. h.fresh u s (omega arith) (omega arith) n))
    (passed_follows f (suc u) m (before ++ chain_of f u) (record {
      chain = λ v a b. h.chain v (omega arith) (omega arith);
      fresh = λ v s a b n k.
          by_append before k
          (λ j. h.fresh v s (omega arith) (omega arith) n j)
          (λ j. h.apart u v s (omega arith) (omega arith) (omega arith) j n);
      apart = λ v w s a b d n k. h.apart v w s (omega arith) b (omega arith) n k;
    })
    ∙ ap passed (append_assoc before (chain_of f u) (chains_from f (suc u) m)))
