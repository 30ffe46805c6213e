-- The canonical file depends on the numbers and on what is said of legal kinds only, so the masks that stand for a matter have its file;
-- and how long a file is. Assumes nothing.
use Rattle.std.proofs.Common.{◌≡◌, sym, ap, ◌∙◌, true, List, map, ℕ, suc, ◌+◌, ◌*◌, ◌-◌, ◌≤◌, ◌<◌, arith, length, get_or, le-leb}
use Rattle.std.proofs.lemmas.Bool.{lt-leb}
use Rattle.lists.specs.Lists.{filter_by, flat_map, range}
use Rattle.lists.proofs.Pointwise.{filter_same, flat_same}
use Rattle.masks.specs.declared.Table.{Table}
use Rattle.rebac.specs.Matter.{Matter}
use Rattle.house_layout.specs.Layout.{record_size}
use Rattle.house_layout.specs.Fields.{legal_kind}
use Rattle.house_layout.specs.declared.header.Header.{Header}
use Rattle.house_layout.specs.declared.reply.Refusal.TheVariants.{Output}
use Rattle.canonical.specs.Canonical.{Entry, entry, kind_bytes, says_kind, pair_entries, entries_of, entries_below, count_of, first_of}
use Rattle.canonical.specs.Canonical.{records_for, header_bytes, heads_by, header_for, canonical_of}
use Rattle.canonical.specs.Calls.{refuses, writes, write_in}
use Rattle.canonical.specs.promises.Masks.{matter_in, FirstsOf, Stands}
use Rattle.canonical.specs.declared.count.Firsts.{Firsts}
use Rattle.canonical.proofs.CountLaws.{says_mask}
use Rattle.canonical.proofs.EntryLaws.{listed_kind_lem}
use Rattle.canonical.proofs.LayoutLaws.{heads_same, canonical_size}

-- two matters with the same numbers that say the same of legal kinds
module _ (N M : Matter) (parties : N.parties ≡ M.parties) (labels : N.labels ≡ M.labels)
    (says : (u v b : ℕ) → legal_kind M.labels b ≡ true → says_kind N u v b ≡ says_kind M u v b) where
  pair_same : (u v : ℕ) → pair_entries N u v ≡ pair_entries M u v
  unfolding pair_entries
  pair_same u v =
      ap (λ (l : ℕ). map (entry u v) (filter_by (says_kind N u v) (kind_bytes l))) labels
      ∙ ap (map (entry u v))
      (filter_same (says_kind N u v) (says_kind M u v) (kind_bytes M.labels)
      (λ b m. says u v b (listed_kind_lem M.labels b m)))

  entries_same : (u : ℕ) → entries_of N u ≡ entries_of M u
  unfolding entries_of
  entries_same u =
      ap (λ (n : ℕ). flat_map (pair_entries N u) (range n)) parties
      ∙ flat_same (pair_entries N u) (pair_entries M u) (range M.parties) (λ v m. pair_same u v)

  below_same : (u : ℕ) → entries_below N u ≡ entries_below M u
  unfolding entries_below
  below_same u = flat_same (entries_of N) (entries_of M) (range u) (λ x m. entries_same x)

  count_same : count_of N ≡ count_of M
  count_same = ap (λ (n : ℕ). length (entries_below N n)) parties ∙ ap length (below_same M.parties)

  records_same : (e u : ℕ) → records_for e N u ≡ records_for e M u
  unfolding records_for
  records_same e u = rw (below_same (suc u), below_same u, entries_same u)

  header_same : (e : ℕ) → N.language ≡ M.language → N.longest ≡ M.longest → header_for e N ≡ header_for e M
  header_same e language longest = λ i. record {
    edition = e;
    parties = parties i;
    labels = labels i;
    language = language i;
    longest = longest i;
    records = count_same i;
  }

  canonical_same : (e : ℕ) → N.language ≡ M.language → N.longest ≡ M.longest → canonical_of e N ≡ canonical_of e M
  unfolding canonical_of
  canonical_same e language longest =
      let header = ap header_bytes (header_same e language longest) in
      let heads =
      ap (heads_by (first_of N)) parties
      ∙ heads_same (first_of N) (first_of M) M.parties
      (λ u l. ap (λ (es : List Entry). suc (length es)) (below_same u)) in
      let records =
      ap (λ (n : ℕ). flat_map (records_for e N) (range n)) parties
      ∙ flat_same (records_for e N) (records_for e M) (range M.parties) (λ u m. records_same e u) in
      cc

-- the masks that stand for a matter have its file
pub stands_canonical : (e : ℕ) (M : Matter) (h : Header) (k : Table) → Stands M h k → canonical_of e (matter_in h k) ≡ canonical_of e M
stands_canonical e M h k S =
    canonical_same (matter_in h k) M S.parties S.labels (λ u v b l. says_mask h k u v b ∙ S.kinds u v b l)
    e S.language S.longest

-- the number past the last record
pub past_last : (M : Matter) (f : Firsts) → FirstsOf M f → get_or f.numbers M.parties 0 ≡ suc (count_of M)
past_last M f F = F M.parties (omega arith)

-- so the file's length follows from the numbers of the first records
pub stands_size : (e : ℕ) (M : Matter) (h : Header) (k : Table) (f : Firsts) → Stands M h k → FirstsOf (matter_in h k) f
    → length (canonical_of e M) ≡ 8 + 2 * h.parties + record_size e * (get_or f.numbers h.parties 0 - 1)
stands_size e M h k f S F =
    let n : get_or f.numbers h.parties 0 - 1 ≡ count_of (matter_in h k) = omega (arith, past_last (matter_in h k) f F) in
    rw n (ap length (sym (stands_canonical e M h k S)) ∙ canonical_size e (matter_in h k))

-- an output that is too short, and one that is long enough
module _ (file : List ℕ) (size : ℕ) where
  pub short_in : size < length file → write_in file size ≡ refuses Output
  unfolding write_in
  short_in h = rw (lt-leb (length file) size h)

  pub fits_in : length file ≤ size → write_in file size ≡ writes file
  unfolding write_in
  fits_in h = rw (le-leb (length file) size h)
