-- What an accepted file's decoded form says of its matter: its numbers are in 01's
-- limits, each label's bit is an edge, and each unknown label's an unknown relation. Assumes nothing.
use Rattle.std.proofs.Common.{◌≡◌, sym, ap, ◌∙◌, List, Ok, ℕ, ◌+◌, ◌≤◌, arith, lt-ltb}
use Rattle.masks.specs.promises.Mask.{test_bit}
use Rattle.masks.specs.promises.Table.{mask_at}
use Rattle.rebac.specs.Matter.{Matter}
use Rattle.rebac.specs.Symbols.{holds}
use Rattle.search.specs.declared.graph.Graph.{Graph}
use Rattle.house_layout.specs.Layout.{labels_of, unknown_kind}
use Rattle.house_file.specs.Check.{check_of}
use Rattle.house_file.specs.Meaning.{is_edge, is_unknown}
use Rattle.house_file.specs.promises.Decoded.{Decoded}
use Rattle.house_layout.specs.promises.Kinds.{unknown_bit, bit_of}
use Rattle.house_layout.specs.declared.header.Header.{Header}
use Rattle.house_file.specs.declared.decode.House.{House}
use Rattle.house_layout.proofs.KindLaws.{label_legal, unknown_legal, bit_label, bit_unknown}
use Rattle.house_file.proofs.WellFormedLaws.{framing}
use Rattle.graph.specs.declared.words.WordRule.{WordRule}
use Rattle.graph.specs.FileMatter.{matter_of, Limits}
use Rattle.graph.specs.promises.Shown.{ShowsAs}
use Rattle.graph.specs.promises.Symbols.{Records}

module _ (f : List ℕ) (e : check_of f ≡ Ok tt) where
  pub accepted_limits : Limits (matter_of f)
  unfolding matter_of
  accepted_limits =
      let h = (framing f e).fields in
      record { parties = h.parties; labels = h.labels; language = h.language; longest = h.longest }

  few : labels_of f ≤ 8
  few = (framing f e).fields.labels.1

  pub accepted_records : (h : House) → Decoded f h → (n : ℕ) (words : WordRule) → n ≡ h.header.parties → words.labels ≡ h.header.labels
      → words.language ≡ h.header.language → Records (matter_of f) n words h.kinds
  unfolding matter_of is_edge is_unknown
  accepted_records h d n words parties labels language = record {
    limits = accepted_limits;
    parties = parties ∙ ap (λ (x : Header). x.parties) d.header;
    labels = labels ∙ ap (λ (x : Header). x.labels) d.header;
    language = language ∙ ap (λ (x : Header). x.language) d.header;
    edges = λ u v l k.
        let b : bit_of l ≡ l = bit_label l (omega (arith, few)) in
        ap (test_bit (mask_at h.kinds u v)) (sym b) ∙ d.kinds u v l (label_legal (labels_of f) l k) ∙ rw (lt-ltb l (labels_of f) k);
    unknowns = λ u v l k.
        let b : bit_of (unknown_kind l) ≡ unknown_bit + l = bit_unknown l (omega (arith, few)) in
        ap (test_bit (mask_at h.kinds u v)) (sym b) ∙ d.kinds u v (unknown_kind l) (unknown_legal (labels_of f) l k)
        ∙ rw (lt-ltb l (labels_of f) k);
  }

  -- the enlarged graph of what was read stands for the file's matter
  pub accepted_shown : (h : House) → Decoded f h → (g : Graph) (words : WordRule) → g.parties ≡ h.header.parties
      → words.labels ≡ h.header.labels → words.language ≡ h.header.language → words.longest ≡ h.header.longest
      → ((M : Matter) → Records M g.parties words h.kinds → (u v s : ℕ) → test_bit (mask_at g.table u v) s ≡ holds M u v s)
      → ShowsAs (matter_of f) g words h.permits
  unfolding matter_of
  accepted_shown h d g words parties labels language longest graph =
      let r = accepted_records h d g.parties words parties labels language in record {
        limits = r.limits;
        parties = r.parties;
        labels = r.labels;
        language = r.language;
        longest = longest ∙ ap (λ (x : Header). x.longest) d.header;
        graph = graph _ r;
        permits = d.permits;
      }
