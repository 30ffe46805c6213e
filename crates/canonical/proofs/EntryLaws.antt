-- What the entries of a matter are: the kinds that it says, each once, by target and
-- then by kind byte; how many there can be. Assumes nothing.
use Rattle.std.proofs.Common.{◌≡◌, refl, sym, ap, ◌∙◌, ⊎_elim, Bool, true, false, List, [], ◌∷◌, ◌++◌, map, ℕ, ◌+◌, ◌*◌, ◌-◌, ◌≤◌, ◌<◌}
use Rattle.std.proofs.Common.{arith, mul-le-mul, eqb, ltb, ltb-true, length, length-append, lt-ltb, le-ltb, eq-eqb, ne_eqb}
use mathlib.Core.List.Memᴰ
use mathlib.Core.List.{Memᴰ}
use Rattle.lists.specs.Lists.{filter_by, range}
use Rattle.lists.specs.Order.{Ascending, Distinct}
use Rattle.lists.proofs.Cases.{by_test, by_append, by_last, both}
use Rattle.lists.proofs.ListLaws.{filter_in, filter_out, flat_in, flat_out, map_in, map_out, range_in, range_out, up_length}
use Rattle.lists.proofs.OrderLaws.{ascending_append, ascending_filter, ascending_distinct, ascending_map}
use Rattle.lists.proofs.OrderLaws.{range_ascending, rows_ascending, length_map}
use Rattle.lists.proofs.Pieces.{flat_bound, flat_skip}
use Rattle.lists.proofs.Pointwise.{filter_none, filter_length, filter_append, filter_apart, filter_map}
use Rattle.rebac.specs.Matter.{Matter, pair, IsPair}
use Rattle.rebac.proofs.LexOrder.{first_lower, first_same}
use Rattle.house_layout.specs.Layout.{unknown_from, unknown_kind, permit_kind}
use Rattle.house_layout.specs.Fields.{legal_kind}
use Rattle.house_layout.proofs.KindLaws.{kind_cases, label_legal, unknown_legal, permit_legal}
use Rattle.canonical.specs.Canonical.{Entry, entry, kind_bytes, says_kind, pair_entries, entries_of, entries_below, count_of}
use Rattle.canonical.specs.Shape.{InLimits, entry_before}

-- the kind bytes are the legal kinds, ascending
pub kind_listed : (labels k : ℕ) → legal_kind labels k ≡ true → Memᴰ k (kind_bytes labels)
unfolding kind_bytes
kind_listed labels k e =
    ⊎_elim
    (λ h. Memᴰ.append_left (map unknown_kind (range labels) ++ (permit_kind ∷ [])) (range_in labels k h))
    (λ t. Memᴰ.append_right (range labels)
    (⊎_elim
    (λ j.
    let here : Memᴰ k (map unknown_kind (range labels)) =
    rw j.1.1 (map_in unknown_kind (range labels) (range_in labels j.0 j.1.0)) in
    Memᴰ.append_left (permit_kind ∷ []) here)
    (λ h. Memᴰ.append_right (map unknown_kind (range labels)) (Memᴰ.head h))
    t))
    (kind_cases labels k e)

pub listed_kind_lem : (labels k : ℕ) → Memᴰ k (kind_bytes labels) → legal_kind labels k ≡ true
unfolding kind_bytes
listed_kind_lem labels k m =
    by_append (range labels) m
    (λ n. label_legal labels k (range_out labels n))
    (λ n. by_last (map unknown_kind (range labels)) n
    (λ o. let r = map_out unknown_kind (range labels) o in rw r.2 (unknown_legal labels r.0 (range_out labels r.1)))
    (λ e. rw e (permit_legal labels)))

pub kinds_ascending_lem : (labels : ℕ) → labels ≤ 8 → Ascending ltb (kind_bytes labels)
unfolding kind_bytes
kinds_ascending_lem labels h =
    ascending_append ltb (range labels) _ (range_ascending labels)
    (ascending_append ltb (map unknown_kind (range labels)) (permit_kind ∷ [])
    (ascending_map ltb ltb unknown_kind
    (λ x y t. lt-ltb (unknown_kind x) (unknown_kind y) (omega (arith, ltb-true x y t))) (range labels) (range_ascending labels))
    (λ y n. absurd (Memᴰ.not-nil n), tt)
    (λ x y m n.
    let r = map_out unknown_kind (range labels) m in
    rw (Memᴰ.eq_of_singleton n) (lt-ltb x permit_kind (omega (arith, r.2, range_out labels r.1)))))
    (λ x y m n. lt-ltb x y (by_last (map unknown_kind (range labels)) n
    (λ o. let r = map_out unknown_kind (range labels) o in omega (arith, r.2, range_out labels m))
    (λ e. omega (arith, e, range_out labels m))))

pub kinds_number : (labels : ℕ) → length (kind_bytes labels) ≡ 2 * labels + 1
unfolding kind_bytes range
kinds_number labels =
    omega (
      arith,
      length-append (range labels) (map unknown_kind (range labels) ++ (permit_kind ∷ [])),
      length-append (map unknown_kind (range labels)) (permit_kind ∷ []),
      length_map unknown_kind (range labels),
      up_length 0 labels,
    )

-- a relation's kind is its label, or 80 plus it where it is unknown
pub says_edge : (M : Matter) (u v l : ℕ) → l < unknown_from → says_kind M u v l ≡ M.edge u v l
unfolding says_kind
says_edge M u v l h = rw (ne_eqb l permit_kind (omega arith), lt-ltb l unknown_from h)

pub says_unknown : (M : Matter) (u v l : ℕ) → l ≤ 8 → says_kind M u v (unknown_kind l) ≡ M.unknown u v l
unfolding says_kind
says_unknown M u v l h =
    let back : unknown_kind l - unknown_from ≡ l = omega arith in
    rw (ne_eqb (unknown_kind l) permit_kind (omega arith), le-ltb (unknown_kind l) unknown_from (omega arith), back)

pub says_permit : (M : Matter) (u v : ℕ) → says_kind M u v permit_kind ≡ M.permit u v
unfolding says_kind
says_permit M u v = refl

-- the kinds that the matter says of u and v
abbrev kinds_said : Matter → ℕ → ℕ → List ℕ
kinds_said M u v = filter_by (says_kind M u v) (kind_bytes M.labels)

-- an entry of party u
pub record Says (M : Matter) (u : ℕ) (e : Entry) : Type 0 where
  pub owner : e.owner ≡ u
  pub target : e.target < M.parties
  pub legal : legal_kind M.labels e.kind ≡ true
  pub said : says_kind M u e.target e.kind ≡ true

module _ (M : Matter) (u : ℕ) where
  pub entry_in_lem : (v k : ℕ) → v < M.parties → legal_kind M.labels k ≡ true
      → says_kind M u v k ≡ true → Memᴰ (entry u v k) (entries_of M u)
  unfolding entries_of pair_entries
  entry_in_lem v k h l s =
      flat_in (pair_entries M u) (range M.parties) (range_in M.parties v h)
      (map_in (entry u v) (kinds_said M u v) (filter_in (says_kind M u v) (kind_bytes M.labels) (kind_listed M.labels k l) s))

  pub entry_out : (e : Entry) → Memᴰ e (entries_of M u) → Says M u e
  unfolding entries_of pair_entries
  entry_out e m =
      let r = flat_out (pair_entries M u) (range M.parties) m in
      let t = map_out (entry u r.0) (kinds_said M u r.0) r.2 in
      let q = filter_out (says_kind M u r.0) (kind_bytes M.labels) t.1 in
      rw t.2 (record {
        owner = refl;
        target = range_out M.parties r.1;
        legal = listed_kind_lem M.labels t.0 q.0;
        said = q.1;
      })

  pub entries_ascending : M.labels ≤ 8 → Ascending entry_before (entries_of M u)
  unfolding entries_of pair_entries
  entries_ascending h =
      rows_ascending entry_before (entry u)
      (λ a b x y l. first_lower a b (ltb x y) l)
      (λ a x y l. first_same a a (ltb x y) refl (lt-ltb x y l))
      (kinds_said M u) (λ v. ascending_filter ltb (says_kind M u v) (kind_bytes M.labels) (kinds_ascending_lem M.labels h))
      (range M.parties) (range_ascending M.parties)

  pub entries_distinct : M.labels ≤ 8 → Distinct (entries_of M u)
  entries_distinct h =
      ascending_distinct entry_before
      (λ e.
      let same : eqb e.target e.target ≡ true = eq-eqb e.target e.target refl in
      rw (le-ltb e.target e.target (omega arith), same, le-ltb e.kind e.kind (omega arith)))
      (entries_of M u) (entries_ascending h)

-- how many there can be, by the numbers of parties and labels alone
module _ (M : Matter) where
  pair_bounded : (u v : ℕ) → length (pair_entries M u v) ≤ 2 * M.labels + 1
  unfolding pair_entries
  pair_bounded u v =
      let bounded = filter_length (says_kind M u v) (kind_bytes M.labels) in
      omega (arith, length_map (entry u v) (kinds_said M u v), bounded, kinds_number M.labels)

  -- where nothing is unknown they are as 01 stood, the labels' and then the permit
  pub pair_as_listed : ((u v l : ℕ) → M.unknown u v l ≡ false) → M.labels ≤ 8 → (u v : ℕ)
      → pair_entries M u v ≡ map (entry u v) (filter_by (says_kind M u v) (range M.labels ++ (permit_kind ∷ [])))
  unfolding pair_entries kind_bytes
  pair_as_listed k few u v =
      let p : ℕ → Bool = says_kind M u v in
      let l : List ℕ = range M.labels in
      let none : filter_by p (map unknown_kind l) ≡ [] =
      filter_none p (map unknown_kind l) (λ x m.
      let r = map_out unknown_kind l m in rw r.2 (says_unknown M u v r.0 (omega (arith, range_out M.labels r.1)) ∙ k u v r.0)) in
      let rest = filter_append p (map unknown_kind l) (permit_kind ∷ []) ∙ ap (λ (x : List ℕ). x ++ filter_by p (permit_kind ∷ [])) none in
      ap (map (entry u v))
      (filter_append p l (map unknown_kind l ++ (permit_kind ∷ []))
      ∙ ap (λ (x : List ℕ). filter_by p l ++ x) rest
      ∙ sym (filter_append p l (permit_kind ∷ [])))

  -- 17,408 = 32 × 32 × 17
  pub count_bounded : M.parties ≤ 32 → M.labels ≤ 8 → count_of M ≤ 17408
  unfolding entries_below entries_of
  count_bounded n l =
      let c : ℕ = M.parties * (2 * M.labels + 1) in
      let b : count_of M ≤ M.parties * c = flat_bound (entries_of M) c M.parties
      (λ u h. flat_bound (pair_entries M u) (2 * M.labels + 1) M.parties (λ v g. pair_bounded u v)) in
      let d : c ≤ 544 = mul-le-mul {n₂ = 32} {m₂ = 17} n (omega arith) in
      let e : M.parties * c ≤ 17408 = mul-le-mul {n₂ = 32} {m₂ = 544} n d in
      omega arith

-- a matter in limits says nothing of a party and itself, nor outside its parties and labels
module _ (M : Matter) (i : InLimits M) where
  pub says_pair : (u v k : ℕ) → says_kind M u v k ≡ true → IsPair M.parties (pair u v)
  unfolding says_kind
  says_pair u v k s =
      by_test (eqb k permit_kind)
      (λ e. i.permits u v (rw e at s))
      (λ e. by_test (ltb k unknown_from)
      (λ g. (i.edges u v k (rw (e, g) at s)).0)
      (λ g. (i.unknowns u v (k - unknown_from) (rw (e, g) at s)).0))

  -- nor of a label that it is both an edge and unknown
  pub says_once : (u v l : ℕ) → l < M.labels → says_kind M u v l ≡ true → says_kind M u v (unknown_kind l) ≡ true → ⊥
  says_once u v l h s t =
      let small : M.labels ≤ 8 = i.limits.labels.1 in
      both (sym (says_edge M u v l (omega arith)) ∙ s) (i.consistent u v l (sym (says_unknown M u v l (omega arith)) ∙ t))

  -- so there are at most L + 1 entries of a pair
  pair_most : (u v : ℕ) → length (pair_entries M u v) ≤ M.labels + 1
  unfolding pair_entries kind_bytes range
  pair_most u v =
      let p : ℕ → Bool = says_kind M u v in
      let l : List ℕ = range M.labels in
      let apart =
      filter_apart p (λ x. p (unknown_kind x)) l (λ x m s t. says_once u v x (range_out M.labels m) s t) in
      let unknown = ap length (filter_map p unknown_kind l) ∙ length_map unknown_kind (filter_by (λ x. p (unknown_kind x)) l) in
      let split = ap length (filter_append p l (map unknown_kind l ++ (permit_kind ∷ []))) ∙ length-append (filter_by p l) _ in
      let rest =
      ap length (filter_append p (map unknown_kind l) (permit_kind ∷ [])) ∙ length-append (filter_by p (map unknown_kind l)) _ in
      omega (
        arith,
        length_map (entry u v) (kinds_said M u v),
        apart,
        unknown,
        split,
        rest,
        filter_length p (permit_kind ∷ []),
        up_length 0 M.labels,
      )

  pair_none : (u : ℕ) → length (pair_entries M u u) ≡ 0
  unfolding pair_entries
  pair_none u =
      let none : (k : ℕ) → says_kind M u u k ≡ false =
      λ k. by_test (says_kind M u u k) (λ e. absurd ((says_pair u u k e).different refl)) (λ e. e) in
      length_map (entry u u) (kinds_said M u u)
      ∙ ap length (filter_none (says_kind M u u) (kind_bytes M.labels) (λ k m. none k))

  -- at most n (n - 1) (L + 1) entries
  pub entries_most : count_of M ≤ M.parties * ((M.parties - 1) * (M.labels + 1))
  unfolding entries_below entries_of
  entries_most =
      flat_bound (entries_of M) ((M.parties - 1) * (M.labels + 1)) M.parties
      (λ u h. flat_skip (pair_entries M u) (M.labels + 1) M.parties u (λ v l. pair_most u v) h (pair_none u))

  pub entries_bounded : count_of M ≤ 8928
  entries_bounded =
      let n : M.parties ≤ 32 = i.limits.parties.1 in
      let l : M.labels ≤ 8 = i.limits.labels.1 in
      let a : (M.parties - 1) * (M.labels + 1) ≤ 279 = mul-le-mul {n₂ = 31} {m₂ = 9} (omega arith) (omega arith) in
      let b : M.parties * ((M.parties - 1) * (M.labels + 1)) ≤ 8928 = mul-le-mul {n₂ = 32} {m₂ = 279} n a in
      omega (arith, entries_most)
