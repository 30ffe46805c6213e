-- How many records there are: kinds place by place, entries target by target, parties one after
-- another. Each count grows by the piece at its place. Assumes nothing.
use Rattle.std.proofs.Common.{◌≡◌, refl, sym, ap, ◌∙◌, Bool, true, false, List, [], ◌∷◌, ◌++◌, map, ℕ, suc, ◌-◌}
use Rattle.std.proofs.Common.{◌+◌, ◌*◌, ◌≤◌, ◌<◌, add-one, arith, eqb, ltb, length, get_or, take, drop, set, length-append}
use Rattle.std.proofs.Common.{take-append-drop, take_all, get_or-set_same, get_or-set_other}
use Rattle.std.proofs.Common.{cond, zero, zero-add, Option, Some}
use Rattle.std.specs.Option.{unwrap_or, option_map}
use Rattle.std.proofs.lemmas.List.{ext_get_or, get_or-append-add}
use Rattle.std.specs.List.{count_by, sum_by}
use Rattle.std.proofs.lemmas.List.Sums.{sum_by-cons}
use Rattle.std.proofs.Math.Logic.{by_cases}
use Rattle.std.proofs.Math.Decide.{dec_lt}
use Rattle.std.proofs.Math.ListN.{get_or-append}
use Rattle.std.proofs.Math.Seq.{get_or_at}
use Rattle.lists.specs.Lists.{filter_by, flat_map, up_from, range}
use Rattle.lists.proofs.Cases.{by_test}
use Rattle.lists.proofs.Distinct.{get_or_in}
use Rattle.lists.proofs.ListLaws.{up_length}
use Rattle.lists.proofs.OrderLaws.{length_map}
use Rattle.lists.proofs.Pointwise.{filter_append, filter_length, filter_take_in, filter_take_out, filter_same, flat_same}
use Rattle.lists.proofs.Pieces.{get_or_map, up_at, flat_suc, flat_none, flat_most}
use Rattle.masks.specs.promises.Mask.{test_bit}
use Rattle.masks.specs.promises.Table.{no_row, mask_in, mask_at}
use Rattle.masks.specs.declared.Row.{Row}
use Rattle.masks.specs.declared.Table.{Table}
use Rattle.rebac.specs.Matter.{Matter}
use Rattle.house_layout.specs.Layout.{unknown_from, unknown_kind, permit_kind}
use Rattle.house_layout.specs.promises.Kinds.{bit_of}
use Rattle.house_layout.specs.declared.header.Header.{Header}
use Rattle.house_layout.proofs.KindLaws.{bit_small}
use Rattle.canonical.specs.Canonical.{Entry, entry, kind_bytes, says_kind, pair_entries, entries_of, entries_below, first_of}
use Rattle.canonical.specs.promises.Masks.{matter_in, kinds_in}
use Rattle.canonical.proofs.EntryLaws.{kinds_number, listed_kind_lem}
use Rattle.canonical.proofs.LayoutLaws.{first_step}

-- at a label's place the label
pub kind_label : (labels place : ℕ) → place < labels → get_or (kind_bytes labels) place 0 ≡ place
unfolding kind_bytes range
kind_label labels place h =
    get_or-append (up_from 0 labels) _ 0 place (omega (arith, up_length 0 labels))
    ∙ up_at 0 labels place 0 h
    ∙ omega arith

-- after them 80 plus each label
after_labels : (labels place : ℕ)
    → get_or (kind_bytes labels) (labels + place) 0 ≡ get_or (map unknown_kind (range labels) ++ (permit_kind ∷ [])) place 0
unfolding kind_bytes range
after_labels labels place =
    ap (λ (i : ℕ). get_or (kind_bytes labels) (i + place) 0) (sym (up_length 0 labels))
    ∙ get_or-append-add (up_from 0 labels) (map unknown_kind (range labels) ++ (permit_kind ∷ [])) place 0

unknown_places : (labels : ℕ) → length (map unknown_kind (up_from 0 labels)) ≡ labels
unknown_places labels = length_map unknown_kind (up_from 0 labels) ∙ up_length 0 labels

pub kind_unknown : (labels place : ℕ) → labels ≤ place → place < 2 * labels
    → get_or (kind_bytes labels) place 0 ≡ unknown_kind (place - labels)
unfolding range
kind_unknown labels place h l =
    let at : ℕ = place - labels in
    let e : place ≡ labels + at = omega arith in
    ap (λ (i : ℕ). get_or (kind_bytes labels) i 0) e
    ∙ after_labels labels at
    ∙ get_or-append (map unknown_kind (up_from 0 labels)) (permit_kind ∷ []) 0 at (omega (arith, unknown_places labels))
    ∙ get_or_map unknown_kind (up_from 0 labels) at 0 0 (omega (arith, up_length 0 labels))
    ∙ ap unknown_kind (up_at 0 labels at 0 (omega arith))
    ∙ omega arith

-- at the last place a permit's kind
pub kind_permit : (labels place : ℕ) → 2 * labels ≤ place → place ≤ 2 * labels → get_or (kind_bytes labels) place 0 ≡ permit_kind
unfolding range
kind_permit labels place h l =
    let e : place ≡ labels + labels = omega arith in
    ap (λ (i : ℕ). get_or (kind_bytes labels) i 0) e
    ∙ after_labels labels labels
    ∙ get_or_at (map unknown_kind (up_from 0 labels)) permit_kind [] 0 labels (unknown_places labels)

pub ruleset kind_laws = (kind_label, kind_unknown, kind_permit)

-- every kind in order is legal, so that its place in a mask is one
pub place_small : (labels place : ℕ) → labels ≤ 8 → place ≤ 2 * labels → bit_of (get_or (kind_bytes labels) place 0) < 32
place_small labels place few h =
    bit_small labels few _ (listed_kind_lem labels _ (get_or_in (kind_bytes labels) place 0 (omega (arith, kinds_number labels))))

-- a run's items count up from 0, where each place reads as its number
pub counts_up : (vs : List ℕ) (at : ℕ → Option ℕ) (len : ℕ) → len ≡ length vs
    → ((k d : ℕ) → k < len → option_map (λ y. y) (at k) ≡ Some (get_or vs k d))
    → ((k : ℕ) → k < len → option_map (λ y. y) (at k) ≡ Some (0 + k)) → (i : ℕ) → i < length vs → get_or vs i 0 ≡ i
counts_up vs at len n reads places i l =
    ap (λ (o : Option ℕ). unwrap_or o 0) (sym (reads i 0 (omega arith)) ∙ places i (omega arith)) ∙ zero-add i

-- as many pass as there are elements whose places pass
counted : (p q : ℕ → Bool) (ks l : List ℕ) → length ks ≡ length l → ((i : ℕ) → i < length l → p (get_or ks i 0) ≡ q (get_or l i 0))
    → count_by p ks ≡ length (filter_by q l)
unfolding filter_by
counted p q [] [] n h = refl
counted p q [] (x ∷ xs) n h = absurd (omega arith)
counted p q (k ∷ ks) [] n h = absurd (omega arith)
counted p q (k ∷ ks) (x ∷ xs) n h =
    let e : p k ≡ q x = h 0 (omega arith) in
    let more = counted p q ks xs (omega arith) (λ i l. h (suc i) (omega arith)) in
    let one = sum_by-cons (λ y. cond (p y) 1 0) k ks in
    by_test (q x)
    (λ t. let g = ap (λ (b : Bool). cond {A = ℕ} b 1 0) (e ∙ t) in rw (t, filter_by) (omega (arith, one, g, more)))
    (λ t. let g = ap (λ (b : Bool). cond {A = ℕ} b 1 0) (e ∙ t) in rw (t, filter_by) (omega (arith, one, g, more)))

-- the kinds of a mask at the places below one
unfoldable pub kinds_to : ℕ → ℕ → ℕ → List ℕ
kinds_to labels mask place = filter_by (λ k. test_bit mask (bit_of k)) (take place (kind_bytes labels))

module _ (labels mask : ℕ) where
  pub kinds_none : kinds_to labels mask 0 ≡ []
  unfolding kinds_to filter_by
  kinds_none = refl

  pub kinds_all : (place : ℕ) → 2 * labels < place → kinds_to labels mask place ≡ kinds_in labels mask
  unfolding kinds_to kinds_in
  kinds_all place h =
      ap (filter_by (λ k. test_bit mask (bit_of k))) (take_all place (kind_bytes labels) (omega (arith, kinds_number labels)))

  module _ (place : ℕ) (h : place ≤ 2 * labels) where
    pub kinds_more : test_bit mask (bit_of (get_or (kind_bytes labels) place 0)) ≡ true
        → kinds_to labels mask (place + 1) ≡ kinds_to labels mask place ++ (get_or (kind_bytes labels) place 0 ∷ [])
    unfolding kinds_to
    kinds_more t = filter_take_in (λ k. test_bit mask (bit_of k)) (kind_bytes labels) place 0 (omega (arith, kinds_number labels)) t

    pub kinds_same : test_bit mask (bit_of (get_or (kind_bytes labels) place 0)) ≡ false
        → kinds_to labels mask (place + 1) ≡ kinds_to labels mask place
    unfolding kinds_to
    kinds_same t = filter_take_out (λ k. test_bit mask (bit_of k)) (kind_bytes labels) place 0 (omega (arith, kinds_number labels)) t

  -- they are counted by a test of each place's kind
  pub kinds_count : (ks : List ℕ) → length ks ≡ 2 * labels + 1 → ((i : ℕ) → i < length ks → get_or ks i 0 ≡ i)
      → count_by (λ place. test_bit mask (bit_of (get_or (kind_bytes labels) place 0))) ks ≡ length (kinds_in labels mask)
  unfolding kinds_in
  kinds_count ks n h =
      let q : ℕ → Bool = λ k. test_bit mask (bit_of k) in
      let p : ℕ → Bool = λ place. q (get_or (kind_bytes labels) place 0) in
      counted p q ks (kind_bytes labels) (omega (arith, kinds_number labels))
      (λ i l. ap p (h i (omega (arith, n, kinds_number labels))))

  -- no more than there are kinds
  pub kinds_bounded : length (kinds_in labels mask) ≤ 2 * labels + 1
  unfolding kinds_in
  kinds_bounded = omega (arith, filter_length (λ k. test_bit mask (bit_of k)) (kind_bytes labels), kinds_number labels)

  pub kinds_most : (place : ℕ) → length (kinds_to labels mask place) ≤ length (kinds_in labels mask)
  unfolding kinds_to kinds_in
  kinds_most place =
      let p : ℕ → Bool = λ k. test_bit mask (bit_of k) in
      let l : List ℕ = kind_bytes labels in
      let e : filter_by p (take place l) ++ filter_by p (drop place l) ≡ filter_by p l =
      sym (filter_append p (take place l) (drop place l)) ∙ ap (filter_by p) (take-append-drop place l) in
      omega (arith, ap length e, length-append (filter_by p (take place l)) (filter_by p (drop place l)))

  -- where the kind at a place is one, the kinds before it are not all
  pub kinds_room : (place : ℕ) → place ≤ 2 * labels → test_bit mask (bit_of (get_or (kind_bytes labels) place 0)) ≡ true
      → length (kinds_to labels mask place) < length (kinds_in labels mask)
  kinds_room place h t =
      let kind : ℕ = get_or (kind_bytes labels) place 0 in
      omega (arith, ap length (kinds_more place h t), length-append (kinds_to labels mask place) (kind ∷ []), kinds_most (place + 1))

-- the masks say of a pair what its mask has
module _ (h : Header) (k : Table) (u v : ℕ) where
  pub says_mask : (b : ℕ) → says_kind (matter_in h k) u v b ≡ test_bit (mask_at k u v) (bit_of b)
  unfolding says_kind
  says_mask b =
      by_test (eqb b permit_kind) (λ e. rw e) (λ e. by_test (ltb b unknown_from) (λ g. rw (e, g)) (λ g. rw (e, g)))

  pair_kinds : pair_entries (matter_in h k) u v ≡ map (entry u v) (kinds_in h.labels (mask_at k u v))
  unfolding pair_entries kinds_in
  pair_kinds = ap (map (entry u v)) (filter_same (says_kind (matter_in h k) u v) _ (kind_bytes h.labels) (λ b m. says_mask b))

-- as many elements as the lists have, where g says how many each has
flat_count : (g : ℕ → ℕ) (f : ℕ → List Entry) → ((v : ℕ) → g v ≡ length (f v)) → (vs : List ℕ) → sum_by g vs ≡ length (flat_map f vs)
unfolding flat_map
flat_count g f h [] = refl
flat_count g f h (v ∷ vs) = omega (arith, sum_by-cons g v vs, h v, flat_count g f h vs, length-append (f v) (flat_map f vs))

-- a party's entries for the targets below v, by its row of masks
unfoldable pub row_to : ℕ → Row → ℕ → ℕ → List Entry
row_to labels row u v = flat_map (λ x. map (entry u x) (kinds_in labels (mask_in row x))) (range v)

module _ (labels : ℕ) (row : Row) (u : ℕ) where
  pub row_none : row_to labels row u 0 ≡ []
  unfolding row_to range up_from flat_map
  row_none = refl

  pub row_more : (v : ℕ) → row_to labels row u (v + 1) ≡ row_to labels row u v ++ map (entry u v) (kinds_in labels (mask_in row v))
  unfolding row_to
  row_more v = rw add-one (flat_suc (λ x. map (entry u x) (kinds_in labels (mask_in row x))) v)

  pub row_step : (v : ℕ) → length (row_to labels row u (v + 1)) ≡ length (row_to labels row u v) + length (kinds_in labels (mask_in row v))
  row_step v =
      ap length (row_more v)
      ∙ length-append (row_to labels row u v) (map (entry u v) (kinds_in labels (mask_in row v)))
      ∙ ap (λ (k : ℕ). length (row_to labels row u v) + k) (length_map (entry u v) (kinds_in labels (mask_in row v)))

  -- they are counted target by target
  pub row_count : (vs : List ℕ) → ((i : ℕ) → i < length vs → get_or vs i 0 ≡ i)
      → sum_by (λ v. length (kinds_in labels (mask_in row v))) vs ≡ length (row_to labels row u (length vs))
  unfolding row_to range
  row_count vs h =
      let f : ℕ → List Entry = λ x. map (entry u x) (kinds_in labels (mask_in row x)) in
      let e : vs ≡ up_from 0 (length vs) =
      ext_get_or 0 vs (up_from 0 (length vs)) (sym (up_length 0 (length vs)))
      (λ i l. h i l ∙ sym (zero-add i) ∙ sym (up_at 0 (length vs) i 0 l)) in
      flat_count (λ v. length (kinds_in labels (mask_in row v))) f (λ v. sym (length_map (entry u v) (kinds_in labels (mask_in row v)))) vs
      ∙ ap (λ (l : List ℕ). length (flat_map f l)) e

  -- a mask has at most seventeen
  pub row_bounded : labels ≤ 8 → (v : ℕ) → length (row_to labels row u v) ≤ 17 * v
  row_bounded few zero = omega (arith, ap length row_none)
  row_bounded few (suc v) =
      let more = ap (λ (k : ℕ). length (row_to labels row u k)) (add-one v) in
      omega (arith, more, row_step v, kinds_bounded labels (mask_in row v), row_bounded few v)

  row_most : (v n : ℕ) → v ≤ n → length (row_to labels row u v) ≤ length (row_to labels row u n)
  unfolding row_to
  row_most v n h = flat_most (λ x. map (entry u x) (kinds_in labels (mask_in row x))) v n h

-- all of them are the party's entries
pub row_all : (h : Header) (k : Table) (u : ℕ) → row_to h.labels (get_or k.rows u no_row) u h.parties ≡ entries_of (matter_in h k) u
unfolding row_to entries_of
row_all h k u =
    flat_same (λ x. map (entry u x) (kinds_in h.labels (mask_at k u x))) (pair_entries (matter_in h k) u) (range h.parties)
    (λ x m. sym (pair_kinds h k u x))

-- with the next target's they are no more than all
pub row_room : (h : Header) (k : Table) (u v : ℕ) → v < h.parties
    → length (row_to h.labels (get_or k.rows u no_row) u (v + 1)) ≤ length (entries_of (matter_in h k) u)
row_room h k u v l =
    let most = row_most h.labels (get_or k.rows u no_row) u (v + 1) h.parties (omega arith) in
    omega (arith, most, ap length (row_all h k u))

module _ (M : Matter) where
  -- the first numbers ascend by each party's records
  pub first_zero : first_of M 0 ≡ 1
  unfolding entries_below
  first_zero = ap suc (flat_none (entries_of M))

  -- the numbers stored for the parties up to u, of which `number` is the last
  pub record Numbered (numbers : List ℕ) (number u : ℕ) : Type 0 where
    pub last : number ≡ first_of M u
    pub stored : (x : ℕ) → x ≤ u → get_or numbers x 0 ≡ first_of M x

  pub numbered_zero : (rest : List ℕ) → Numbered (1 ∷ rest) 1 0
  numbered_zero rest = record { last = sym first_zero; stored = λ x l. let e : x ≡ 0 = omega arith in rw e (sym first_zero) }

  pub numbered_step : (numbers : List ℕ) (number u count : ℕ) → u + 1 < length numbers
      → count ≡ length (entries_of M u) → Numbered numbers number u
      → Numbered (set numbers (u + 1) (number + count)) (number + count) (u + 1)
  numbered_step numbers number u count h e w =
      let s : u + 1 ≡ suc u = add-one u in
      let n : number + count ≡ first_of M (u + 1) = omega (arith, w.last, first_step M u, ap (first_of M) s) in
      record {
        last = n;
        stored = λ x l.
            by_cases (dec_lt x (u + 1))
            (λ y. get_or-set_other numbers (u + 1) x (number + count) 0 (λ z. omega arith) ∙ w.stored x (omega arith))
            (λ y. let z : x ≡ u + 1 = omega arith in rw z (get_or-set_same numbers (u + 1) (number + count) 0 h ∙ n));
      }
