-- The symbols of a pair of parties: by the four kinds of a symbol. Assumes nothing.
use Rattle.std.proofs.Common.{◌≡◌, refl, ap, Bool, true, false, ◌&&◌, ℕ, zero, suc, ◌*◌, ◌/◌}
use Rattle.std.proofs.Common.{◌%◌, ◌≤◌, ◌<◌, arith, eqb, ltb, lt-ltb, le-ltb, eq-eqb, ne_eqb}
use Rattle.std.proofs.Math.Logic.{by_cases}
use Rattle.std.proofs.Math.Decide.{dec_lt}
use Rattle.lists.specs.Lists.{any_of, member}
use Rattle.lists.proofs.Cases.{by_test, and_false}
use Rattle.masks.specs.promises.Table.{mask_at}
use Rattle.masks.specs.declared.Table.{Table}
use Rattle.rebac.specs.Matter.{Matter}
use Rattle.rebac.specs.Symbols.{kinds, absent_edge, kind_holds, apart, in_language, holds}
use Rattle.graph.specs.declared.words.WordRule.{WordRule}
use Rattle.graph.specs.promises.Symbols.{absent_in, kind_in, symbol_in, Records}

-- the kinds of each language
pub kinds_0 : (k : ℕ) → k < 4 → eqb k 0 ≡ member k (kinds 0)
unfolding kinds any_of
kinds_0 zero h = refl
kinds_0 (suc k) h = by_test (eqb (suc k) 0) (λ q. rw q) (λ q. rw q)

pub kinds_1 : (k : ℕ) → k < 4 → ltb k 2 ≡ member k (kinds 1)
unfolding kinds any_of
kinds_1 zero h = refl
kinds_1 (suc zero) h = refl
kinds_1 (suc (suc zero)) h = refl
kinds_1 (suc (suc (suc zero))) h = refl
kinds_1 (suc (suc (suc (suc k)))) h = absurd (omega arith)

pub kinds_2 : (k : ℕ) → k < 4 → eqb (k % 2) 0 ≡ member k (kinds 2)
unfolding kinds any_of
kinds_2 zero h = refl
kinds_2 (suc zero) h = refl
kinds_2 (suc (suc zero)) h = refl
kinds_2 (suc (suc (suc zero))) h = refl
kinds_2 (suc (suc (suc (suc k)))) h = absurd (omega arith)

pub kinds_3 : (k : ℕ) → k < 4 → true ≡ member k (kinds 3)
unfolding kinds any_of
kinds_3 zero h = refl
kinds_3 (suc zero) h = refl
kinds_3 (suc (suc zero)) h = refl
kinds_3 (suc (suc (suc zero))) h = refl
kinds_3 (suc (suc (suc (suc k)))) h = absurd (omega arith)

-- a symbol by its kind
module _ (g out back s : ℕ) where
  pub symbol_not : member (s % 4) (kinds g) ≡ false → symbol_in g out back s ≡ false
  unfolding symbol_in
  symbol_not e = rw e

  module _ (m : member (s % 4) (kinds g) ≡ true) where
    pub symbol_kind : (k : ℕ) → s % 4 ≡ k → symbol_in g out back s ≡ kind_in out back (s / 4) k
    unfolding symbol_in
    symbol_kind k e = rw m (ap (kind_in out back (s / 4)) e)

-- the symbols that hold between two parties of the matter
module _ (M : Matter) (n : ℕ) (x : WordRule) (k : Table) (r : Records M n x k) (u v : ℕ) where
  same_absent : (x y l : ℕ) → l < M.labels → absent_in (mask_at k x y) l ≡ absent_edge M x y l
  same_absent x y l e = rw (r.edges x y l e, r.unknowns x y l e)

  same_kind : (l j : ℕ) → l < M.labels → kind_in (mask_at k u v) (mask_at k v u) l j ≡ kind_holds M u v l j
  unfolding kind_holds
  same_kind l zero e = r.edges u v l e
  same_kind l (suc zero) e = same_absent u v l e
  same_kind l (suc (suc zero)) e = r.edges v u l e
  same_kind l (suc (suc (suc j))) e = same_absent v u l e

  pub symbols_hold : u < M.parties → v < M.parties → (u ≡ v → ⊥)
      → (s : ℕ) → (ltb s (4 * x.labels) && symbol_in x.language (mask_at k u v) (mask_at k v u) s) ≡ holds M u v s
  unfolding holds apart in_language symbol_in
  symbols_hold a b ne s =
      rw (lt-ltb u M.parties a, lt-ltb v M.parties b, ne_eqb u v ne, r.labels, r.language)
      (by_cases (dec_lt (s / 4) M.labels)
      (λ l. rw (lt-ltb s (4 * M.labels) (omega arith), lt-ltb (s / 4) M.labels l)
      (ap (λ (x : Bool). member (s % 4) (kinds M.language) && x) (same_kind (s / 4) (s % 4) l)))
      (λ l. rw (le-ltb s (4 * M.labels) (omega arith), le-ltb (s / 4) M.labels (omega arith))))

-- nothing holds outside the parties, nor between a party and itself
pub holds_outside : (M : Matter) (u v s : ℕ) → apart M u v ≡ false → holds M u v s ≡ false
unfolding holds
holds_outside M u v s e = rw e

pub apart_first : (M : Matter) (u v : ℕ) → M.parties ≤ u → apart M u v ≡ false
unfolding apart
apart_first M u v h = rw (le-ltb u M.parties h)

pub apart_second : (M : Matter) (u v : ℕ) → M.parties ≤ v → apart M u v ≡ false
unfolding apart
apart_second M u v h = by_test (ltb u M.parties) (λ q. rw (q, le-ltb v M.parties h)) (λ q. rw q)

pub apart_self : (M : Matter) (u v : ℕ) → u ≡ v → apart M u v ≡ false
unfolding apart
apart_self M u v e = rw (eq-eqb u v e) (and_false (ltb u M.parties && ltb v M.parties) refl)
