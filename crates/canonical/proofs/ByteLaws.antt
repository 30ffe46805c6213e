-- The canonical file of a matter in limits is made of bytes: its numbers are small, and two-byte fields are below 65,536. Assumes nothing.
use Rattle.std.proofs.Math.Logic.{by_cases}
use mathlib.Core.List.Memᴰ
use Rattle.std.proofs.Common.{List, [], ◌∷◌, ◌++◌, ℕ, suc, ◌/◌, ◌%◌, ◌≤◌, ◌<◌, arith, eqb}
use mathlib.Core.List.{Memᴰ}
use Rattle.std.proofs.Math.Decide.{dec_lt}
use Rattle.lists.specs.Lists.{flat_map, range}
use Rattle.lists.proofs.Cases.{by_test, by_mem, by_append}
use Rattle.lists.proofs.ListLaws.{flat_out, range_out}
use Rattle.lists.proofs.Pointwise.{get_or_below}
use Rattle.fields.specs.Numbers.{u16_bytes, Bytes}
use Rattle.rebac.specs.Matter.{Matter}
use Rattle.house_layout.specs.Layout.{owner_in}
use Rattle.house_layout.specs.declared.record.Record.{Record}
use Rattle.house_layout.proofs.KindLaws.{kind_small}
use Rattle.house_file.specs.Meaning.{IsEdition}
use Rattle.canonical.specs.Canonical.{Entry, entries_of, count_of, first_of, link, records_for, header_bytes, heads_by}
use Rattle.canonical.specs.Canonical.{owner_bytes, record_bytes, header_for, canonical_of}
use Rattle.canonical.specs.Shape.{InLimits}
use Rattle.canonical.proofs.LayoutLaws.{first_most, linked_out}
use Rattle.canonical.proofs.EntryLaws.{entry_out, entries_bounded}
use Rattle.canonical.proofs.ChainLaws.{link_inside, link_past}

abbrev Small : List ℕ → Type 0
Small l = (x : ℕ) → Memᴰ x l → x < 256

small_nil : Small []
small_nil x m = absurd (Memᴰ.not-nil m)

small_cons : (y : ℕ) (l : List ℕ) → y < 256 → Small l → Small (y ∷ l)
small_cons y l h s x m = by_mem m (λ e. omega arith) (λ n. s x n)

small_append : (l k : List ℕ) → Small l → Small k → Small (l ++ k)
small_append l k s t x m = by_append l m (λ n. s x n) (λ n. t x n)

small_flat : {A : Type 0} (f : A → List ℕ) (l : List A) → ((y : A) → Memᴰ y l → Small (f y)) → Small (flat_map f l)
small_flat f l s x m = let r = flat_out f l m in s r.0 r.1 x r.2

small_u16 : (n : ℕ) → n < 65536 → Small (u16_bytes n)
unfolding u16_bytes
small_u16 n h = small_cons (n % 256) (n / 256 ∷ []) (omega arith) (small_cons (n / 256) [] (omega arith) small_nil)

link_below : (end r : ℕ) → link end r ≤ end
link_below end r = by_cases (dec_lt r end) (λ h. omega (arith, link_inside end r h)) (λ h. omega (arith, link_past end r (omega arith)))

module _ (d : ℕ) (known : IsEdition d) (M : Matter) (i : InLimits M) where
  end_small : (u : ℕ) → u < M.parties → first_of M (suc u) < 65536
  end_small u h = omega (arith, first_most M (suc u) h, entries_bounded M i)

  header_small : Small (header_bytes (header_for d M))
  unfolding header_bytes
  header_small =
      small_cons d _ (omega (arith, known.1))
      (small_cons M.parties _ (omega (arith, i.limits.parties.1))
      (small_cons M.labels _ (omega (arith, i.limits.labels.1))
      (small_cons M.language _ (omega (arith, i.limits.language))
      (small_cons M.longest _ (omega (arith, i.limits.longest.1))
      (small_cons 0 _ (omega arith)
      (small_u16 (count_of M) (omega (arith, entries_bounded M i))))))))

  head_small : (u : ℕ) → u < M.parties → Small (u16_bytes (link (first_of M (suc u)) (first_of M u)))
  head_small u h =
      small_u16 (link (first_of M (suc u)) (first_of M u))
      (omega (arith, link_below (first_of M (suc u)) (first_of M u), end_small u h))

  owner_small : (u : ℕ) → u < M.parties → Small (owner_bytes (owner_in d u))
  unfolding owner_in
  owner_small u h =
      by_test (eqb d 1) (λ q. rw q small_nil) (λ q. rw q (small_cons u [] (omega (arith, i.limits.parties.1)) small_nil))

  record_small : (u : ℕ) → u < M.parties → (x : Record) → Memᴰ x (records_for d M u) → Small (record_bytes x)
  unfolding records_for record_bytes
  record_small u h x m =
      let end : ℕ = first_of M (suc u) in
      let o = linked_out d end (first_of M u) (entries_of M u) x m in
      let e : Entry = o.1.0 in
      let s = entry_out M u e o.1.1.0 in
      rw o.1.1.1
      (small_cons e.target _ (omega (arith, s.target, i.limits.parties.1))
      (small_cons e.kind _ (kind_small M.labels i.limits.labels.1 e.kind s.legal)
      (small_append (u16_bytes (link end (suc o.0))) _
      (small_u16 (link end (suc o.0)) (omega (arith, link_below end (suc o.0), end_small u h)))
      (rw s.owner (owner_small u h)))))

  pub canonical_bytes : Bytes (canonical_of d M)
  unfolding canonical_of heads_by
  canonical_bytes =
      get_or_below 256 (omega arith) (canonical_of d M)
      (small_append (header_bytes (header_for d M)) _ header_small
      (small_append (heads_by (first_of M) M.parties) _
      (small_flat (λ u. u16_bytes (link (first_of M (suc u)) (first_of M u))) (range M.parties)
      (λ u m. head_small u (range_out M.parties m)))
      (small_flat record_bytes (flat_map (records_for d M) (range M.parties))
      (λ x m. let r = flat_out (records_for d M) (range M.parties) m in record_small r.0 (range_out M.parties r.1) x r.2))))
