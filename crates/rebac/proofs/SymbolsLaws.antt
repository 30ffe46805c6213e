-- The symbols that hold are those in a row of Table 1, by cases on kind and language; the alphabet lists the language.
use Rattle.std.proofs.Common.{◌≡◌, refl, sym, ◌∙◌, ◌⊎◌, inl, inr, ⊎_elim, true, false, not, ◌&&◌, List, [], ◌∷◌, map, ℕ}
use Rattle.std.proofs.Common.{zero, suc, ◌+◌, ◌*◌, ◌/◌, ◌%◌, ◌≤◌, ◌<◌, arith, eqb, ltb, ltb-true, lt-ltb, ne_eqb}
use Rattle.std.proofs.lemmas.Bool.{eqb-false, not-true}
use mathlib.Core.List.Memᴰ
use mathlib.Core.List.{Memᴰ}
use Rattle.lists.specs.Lists.{all_of, any_of, flat_map, member, up_from, range}
use Rattle.lists.specs.Order.{Ascending}
use Rattle.lists.proofs.Cases.{by_test, by_mem, clash, and_left, and_right}
use Rattle.lists.proofs.ListLaws.{all_in, flat_in, flat_out, map_in, map_out, member_in, member_out, range_in, range_out}
use Rattle.lists.proofs.OrderLaws.{ascending_append, range_ascending}
use Rattle.rebac.specs.Matter.{Matter}
use Rattle.rebac.specs.TriplePaths.{TableRow, plain, absent, inverse, absent_inverse, Held}
use Rattle.rebac.specs.Symbols.{kinds, absent_edge, kind_holds, apart, in_language, holds, alphabet, cap_of}

pub split_label : (l k : ℕ) → k < 4 → (4 * l + k) / 4 ≡ l
split_label l k h = omega arith

pub split_kind : (l k : ℕ) → k < 4 → (4 * l + k) % 4 ≡ k
split_kind l k h = omega arith

join_symbol : (s : ℕ) → s ≡ 4 * (s / 4) + s % 4
join_symbol s = omega arith

all_below : (g : ℕ) → all_of (λ k. ltb k 4) (kinds g) ≡ true
unfolding kinds all_of
all_below zero = refl
all_below (suc zero) = refl
all_below (suc (suc zero)) = refl
all_below (suc (suc (suc g))) = refl

kinds_below : (g : ℕ) {k : ℕ} → Memᴰ k (kinds g) → k < 4
kinds_below g {k} m = ltb-true k 4 (all_in (λ k. ltb k 4) (kinds g) (all_below g) m)

two_ascending : (x y : ℕ) → x < y → Ascending ltb (x ∷ y ∷ [])
two_ascending x y h = (
  λ z n. by_mem n (λ e. lt-ltb x z (omega arith)) (λ o. absurd (Memᴰ.not-nil o)),
  (λ z n. absurd (Memᴰ.not-nil n), tt),
)

kinds_ascending_lem : (g : ℕ) → Ascending ltb (kinds g)
unfolding kinds up_from range
kinds_ascending_lem zero = range_ascending 1
kinds_ascending_lem (suc zero) = range_ascending 2
kinds_ascending_lem (suc (suc zero)) = two_ascending 0 2 (omega arith)
kinds_ascending_lem (suc (suc (suc g))) = range_ascending 4

apart_out : (M : Matter) (u v : ℕ) → apart M u v ≡ true → (u < M.parties) × (v < M.parties) × (u ≡ v → ⊥)
unfolding apart
apart_out M u v e =
    let a : (ltb u M.parties && ltb v M.parties) ≡ true = and_left _ _ e in (
      ltb-true u M.parties (and_left _ _ a),
      ltb-true v M.parties (and_right (ltb u M.parties) _ a),
      eqb-false u v (not-true (eqb u v) (and_right (ltb u M.parties && ltb v M.parties) _ e)),
    )

-- Definition 4.3: between two different parties a symbol of the language holds as its kind says
pub holds_table : (M : Matter) (u v label kind : ℕ) → u < M.parties → v < M.parties → (u ≡ v → ⊥) → label < M.labels
    → Memᴰ kind (kinds M.language) → holds M u v (4 * label + kind) ≡ kind_holds M u v label kind
unfolding holds apart in_language
holds_table M u v label kind a b c d m =
    let k : kind < 4 = kinds_below M.language m in
    let used : member kind (kinds M.language) ≡ true = member_in kind (kinds M.language) m in
    rw (split_label label kind k, split_kind label kind k, lt-ltb u _ a, lt-ltb v _ b, ne_eqb u v c, lt-ltb label _ d, used)

-- Tables 1 and 2 agree: a language uses the kinds whose rows are ticked for it
pub plain_used : (g : ℕ) → Memᴰ 0 (kinds g)
unfolding kinds
plain_used zero = Memᴰ.head refl
plain_used (suc zero) = Memᴰ.head refl
plain_used (suc (suc zero)) = Memᴰ.head refl
plain_used (suc (suc (suc g))) = Memᴰ.head refl

all_used : (g : ℕ) → 3 ≤ g → kinds g ≡ 0 ∷ 1 ∷ 2 ∷ 3 ∷ []
unfolding kinds
all_used zero h = absurd (omega arith)
all_used (suc zero) h = absurd (omega arith)
all_used (suc (suc zero)) h = absurd (omega arith)
all_used (suc (suc (suc g))) h = refl

absent_used : (g : ℕ) → (g ≡ 1) ⊎ (3 ≤ g) → Memᴰ 1 (kinds g)
unfolding kinds any_of
absent_used g t = member_out 1 (kinds g) (⊎_elim (λ (q : g ≡ 1). rw q) (λ (q : 3 ≤ g). rw (all_used g q)) t)

inverse_used : (g : ℕ) → (g ≡ 2) ⊎ (3 ≤ g) → Memᴰ 2 (kinds g)
unfolding kinds any_of
inverse_used g t = member_out 2 (kinds g) (⊎_elim (λ (q : g ≡ 2). rw q) (λ (q : 3 ≤ g). rw (all_used g q)) t)

absent_inverse_used : (g : ℕ) → 3 ≤ g → Memᴰ 3 (kinds g)
unfolding any_of
absent_inverse_used g h = member_out 3 (kinds g) (rw (all_used g h))

-- a language with the absent inverse has the absent symbol
pub absent_with_inverse : (g k : ℕ) → member (suc (suc (suc k))) (kinds g) ≡ true → member 1 (kinds g) ≡ true
unfolding kinds any_of
absent_with_inverse zero k e = clash (sym (rw (ne_eqb (suc (suc (suc k))) 0 (omega arith)) at e))
absent_with_inverse (suc zero) k e = refl
absent_with_inverse (suc (suc zero)) k e =
    clash (sym (rw (ne_eqb (suc (suc (suc k))) 0 (omega arith), ne_eqb (suc (suc (suc k))) 2 (omega arith)) at e))
absent_with_inverse (suc (suc (suc g))) k e = refl

absent_ticked : (g : ℕ) → member 1 (kinds g) ≡ true → (g ≡ 1) ⊎ (3 ≤ g)
unfolding kinds any_of
absent_ticked zero e = clash (sym e)
absent_ticked (suc zero) e = inl refl
absent_ticked (suc (suc zero)) e = clash (sym e)
absent_ticked (suc (suc (suc g))) e = inr (omega arith)

inverse_ticked : (g : ℕ) → member 2 (kinds g) ≡ true → (g ≡ 2) ⊎ (3 ≤ g)
unfolding kinds any_of
inverse_ticked zero e = clash (sym e)
inverse_ticked (suc zero) e = clash (sym e)
inverse_ticked (suc (suc zero)) e = inl refl
inverse_ticked (suc (suc (suc g))) e = inr (omega arith)

absent_inverse_ticked : (g : ℕ) → member 3 (kinds g) ≡ true → 3 ≤ g
unfolding kinds any_of
absent_inverse_ticked zero e = clash (sym e)
absent_inverse_ticked (suc zero) e = clash (sym e)
absent_inverse_ticked (suc (suc zero)) e = clash (sym e)
absent_inverse_ticked (suc (suc (suc g))) e = omega arith

-- an absent edge is neither an edge nor unknown
pub absent_out : (M : Matter) (u v label : ℕ) → absent_edge M u v label ≡ true → (M.edge u v label ≡ false) × (M.unknown u v label ≡ false)
absent_out M u v label e = (not-true _ (and_left _ _ e), not-true _ (and_right (not (M.edge u v label)) _ e))

-- a symbol that holds is in the row of its kind
row_of : (M : Matter) (u v s label kind : ℕ) → label < M.labels → s ≡ 4 * label + kind → kind < 4
    → member kind (kinds M.language) ≡ true → kind_holds M u v label kind ≡ true → TableRow M u v s
unfolding kind_holds
row_of M u v s label zero l q k m e = plain label l q e
row_of M u v s label (suc zero) l q k m e =
    let a = absent_out M u v label e in absent label l q a.0 a.1 (absent_ticked M.language m)
row_of M u v s label (suc (suc zero)) l q k m e = inverse label l q e (inverse_ticked M.language m)
row_of M u v s label (suc (suc (suc zero))) l q k m e =
    let a = absent_out M v u label e in absent_inverse label l q a.0 a.1 (absent_inverse_ticked M.language m)
row_of M u v s label (suc (suc (suc (suc kind)))) l q k m e = absurd (omega arith)

pub holds_out : (M : Matter) (u v s : ℕ) → holds M u v s ≡ true → Held M u v s
unfolding holds in_language
holds_out M u v s e =
    let a = apart_out M u v (and_left (apart M u v) _ e) in
    let b = and_right (apart M u v) _ e in
    let l : in_language M s ≡ true = and_left (in_language M s) _ b in
    let below : s / 4 < M.labels = ltb-true (s / 4) M.labels (and_left (ltb (s / 4) M.labels) _ l) in
    let used : member (s % 4) (kinds M.language) ≡ true = and_right (ltb (s / 4) M.labels) _ l in
    record {
      first = a.0;
      second = a.1;
      different = a.2;
      row = row_of M u v s (s / 4) (s % 4) below (join_symbol s) (omega arith) used (and_right (in_language M s) _ b);
    }

-- and a symbol in a row holds
pub holds_in : (M : Matter) (u v s : ℕ) → Held M u v s → holds M u v s ≡ true
unfolding kind_holds
holds_in M u v s r = go r.row
  where
    kept : (label kind : ℕ) → label < M.labels → s ≡ 4 * label + kind
        → Memᴰ kind (kinds M.language) → kind_holds M u v label kind ≡ true → holds M u v s ≡ true
    kept label kind l q m e = rw q (holds_table M u v label kind r.first r.second r.different l m ∙ e)

    go : TableRow M u v s → holds M u v s ≡ true
    go (plain label l q e) = kept label 0 l q (plain_used M.language) e
    go (absent label l q e n t) = kept label 1 l q (absent_used M.language t) (rw (e, n))
    go (inverse label l q e t) = kept label 2 l q (inverse_used M.language t) e
    go (absent_inverse label l q e n t) = kept label 3 l q (absent_inverse_used M.language t) (rw (e, n))

-- no symbol holds between a party and itself
pub holds_loop : (M : Matter) (u s : ℕ) → holds M u u s ≡ false
holds_loop M u s = by_test (holds M u u s) (λ e. absurd ((holds_out M u u s e).different refl)) (λ e. e)

-- the alphabet lists the language's symbols
pub language_listed : (M : Matter) (s : ℕ) → in_language M s ≡ true → Memᴰ s (alphabet M.language M.labels)
unfolding in_language alphabet
language_listed M s e =
    let a : s / 4 < M.labels = ltb-true (s / 4) M.labels (and_left (ltb (s / 4) M.labels) _ e) in
    let b : Memᴰ (s % 4) (kinds M.language) = member_out (s % 4) (kinds M.language) (and_right (ltb (s / 4) M.labels) _ e) in
    let m : Memᴰ (4 * (s / 4) + s % 4) (alphabet M.language M.labels) =
    flat_in (λ l. map (λ k. 4 * l + k) (kinds M.language)) (range M.labels)
    (range_in M.labels (s / 4) a) (map_in (λ k. 4 * (s / 4) + k) (kinds M.language) b) in
    rw (← join_symbol s) at m

pub record InAlphabet (language labels s : ℕ) : Type 0 where
  pub label : ℕ
  pub kind : ℕ
  pub below : label < labels
  pub in_kinds : Memᴰ kind (kinds language)
  pub small : kind < 4
  pub joined : s ≡ 4 * label + kind

pub alphabet_out : (language labels : ℕ) {s : ℕ} → Memᴰ s (alphabet language labels) → InAlphabet language labels s
unfolding alphabet
alphabet_out language labels m =
    let r = flat_out (λ l. map (λ k. 4 * l + k) (kinds language)) (range labels) m in
    let t = map_out (λ k. 4 * r.0 + k) (kinds language) r.2 in
    record {
      label = r.0;
      kind = t.0;
      below = range_out labels r.1;
      in_kinds = t.1;
      small = kinds_below language t.1;
      joined = t.2;
    }

pub listed_language : (M : Matter) (s : ℕ) → Memᴰ s (alphabet M.language M.labels) → in_language M s ≡ true
unfolding in_language
listed_language M s m =
    let r = alphabet_out M.language M.labels m in
    let label = split_label r.label r.kind r.small in
    let kind = split_kind r.label r.kind r.small in
    rw (r.joined, label, kind, lt-ltb r.label M.labels r.below) (member_in r.kind (kinds M.language) r.in_kinds)

pub alphabet_below : (language labels : ℕ) {s : ℕ} → Memᴰ s (alphabet language labels) → s < 4 * labels
alphabet_below language labels m = let r = alphabet_out language labels m in omega (arith, r.below, r.small, r.joined)

-- a symbol that holds is of the alphabet
pub holds_listed : (M : Matter) (u v s : ℕ) → holds M u v s ≡ true → Memᴰ s (alphabet M.language M.labels)
unfolding holds
holds_listed M u v s e = language_listed M s (and_left (in_language M s) _ (and_right (apart M u v) _ e))

map_ascending : (f : ℕ → ℕ) → ((a b : ℕ) → a < b → f a < f b) → (l : List ℕ) → Ascending ltb l → Ascending ltb (map f l)
map_ascending f h [] a = tt
map_ascending f h (x ∷ l) a = (
  λ y n.
      let r = map_out f l n in
      rw r.2 (lt-ltb (f x) (f r.0) (h x r.0 (ltb-true x r.0 (a.0 r.0 r.1)))),
  map_ascending f h l a.1,
)

flat_ascending : (ks : List ℕ) → Ascending ltb ks → ((k : ℕ) → Memᴰ k ks → k < 4)
    → (ls : List ℕ) → Ascending ltb ls → Ascending ltb (flat_map (λ l. map (λ k. 4 * l + k) ks) ls)
unfolding flat_map
flat_ascending ks ak b [] al = tt
flat_ascending ks ak b (l ∷ ls) al =
    ascending_append ltb (map (λ k. 4 * l + k) ks) (flat_map (λ l. map (λ k. 4 * l + k) ks) ls)
    (map_ascending (λ k. 4 * l + k) (λ x y h. omega arith) ks ak) (flat_ascending ks ak b ls al.1)
    (λ x y m n.
    let r = map_out (λ k. 4 * l + k) ks m in
    let t = flat_out (λ l. map (λ k. 4 * l + k) ks) ls n in
    let z = map_out (λ k. 4 * t.0 + k) ks t.2 in
    let h : l < t.0 = ltb-true l t.0 (al.0 t.0 t.1) in
    lt-ltb x y (omega (arith, r.2, z.2, b r.0 r.1)))

pub alphabet_ascending : (language labels : ℕ) → Ascending ltb (alphabet language labels)
unfolding alphabet
alphabet_ascending language labels =
    flat_ascending (kinds language) (kinds_ascending_lem language) (λ k m. kinds_below language m) (range labels) (range_ascending labels)

-- an item may ask for one path in every language
pub cap_positive : (language : ℕ) → 1 ≤ cap_of language
cap_positive language = omega arith
