-- Lists and their bytes for a matter: legal words are its words, the mined list has bytes, and permit on them gives back the permit table.
use Rattle.std.proofs.Common.{Ok, ◌≡◌, refl, sym, ap, ◌∙◌, true, List, ◌↔◌, ℕ, ◌≤◌, ◌<◌, arith, length, leb, le-leb, leb-true}
use mathlib.Core.List.{Memᴰ}
use Rattle.lists.proofs.Cases.{and_left, and_right}
use Rattle.lists.proofs.ListLaws.{all_in, all_of_lem, map_out}
use Rattle.lists.proofs.OrderLaws.{length_map}
use Rattle.rebac.specs.Matter.{Matter, pair, permitted}
use Rattle.rebac.specs.Words.{Word}
use Rattle.rebac.specs.Symbols.{cap_of}
use Rattle.rebac.specs.Verdict.{convertible}
use Rattle.rebac.specs.Existence.{verdict_of, mined_list, MatterWord, permits_pair, Converts, plain_term, plain_list}
use Rattle.rebac.proofs.SymbolsLaws.{language_listed, listed_language}
use Rattle.rebac.proofs.PairsLaws.{pairs_in}
use Rattle.rebac.proofs.Conversion.{mined_converts, mined_terms_bounded, mined_items_bounded}
use Rattle.house_file.specs.Check.{check_of}
use Rattle.graph.specs.FileMatter.{matter_of}
use Rattle.graph.proofs.LoadLaws.{accepted_limits}
use Rattle.rule_bytes.specs.ListBytes.{encode_list, legal_word, LegalList}
use Rattle.graph.specs.Legal.{legal_symbol, is_pair}
use Rattle.rule_bytes.specs.promises.Reading.{IsList}
use Rattle.rule_bytes.proofs.PlaceLaws.{list_legal_fits}
use Rattle.rules.specs.Permit.{yes_or_no, permit_in, permit_call}
use Rattle.rule_bytes.proofs.RoundTrip.{decode_encode}
use Rattle.graph.proofs.LegalLaws.{pair_of, legal_symbol_lem}

-- a list that is legal for a matter
abbrev pub LegalFor : Matter → List (List Word) → Type 0
LegalFor M l = LegalList M.labels M.language M.longest l

module _ (M : Matter) where
  -- the legal words are the matter's words: 1 to D symbols of its language
  pub legal_words : (w : Word) → (legal_word M.labels M.language M.longest w ≡ true) ↔ MatterWord M w
  unfolding legal_word
  legal_words w = (
    λ h. let k = and_right (leb 1 (length w)) _ h in record {
      over = λ s m.
          language_listed M s (sym (legal_symbol_lem M s)
          ∙ all_in (legal_symbol M.labels M.language) w (and_right (leb (length w) M.longest) _ k) m);
      some = leb-true 1 (length w) (and_left _ _ h);
      short = leb-true (length w) M.longest (and_left _ _ k);
    },
    λ h.
        rw (le-leb 1 (length w) h.some, le-leb (length w) M.longest h.short)
        (all_of_lem (legal_symbol M.labels M.language) w (λ s m. legal_symbol_lem M s ∙ listed_language M s (h.over s m))),
  )

  -- a list that converts the matter is legal where its counts fit two bytes
  pub converts_legal : (r : List (List Word)) → Converts M r → length r < 65536
      → ((t : List Word) → Memᴰ t r → length t < 65536) → LegalFor M r
  converts_legal r c n k = record {
    fits = n;
    terms = λ t m. record { full = c.any.full t m; fits = k t m; words = λ w i. (legal_words w).1 (c.fits t m w i) };
  }

  -- and the mined list's do
  pub mined_legal : cap_of M.language ≡ 1 → M.parties ≤ 32 → verdict_of M ≡ convertible → LegalFor M (plain_list (mined_list M))
  mined_legal cap bounded v =
      converts_legal (plain_list (mined_list M)) (mined_converts M cap v)
      (omega (arith, length_map plain_term (mined_list M), mined_terms_bounded M bounded))
      (λ t m.
      let s = map_out plain_term (mined_list M) m in
      rw s.2 (omega (arith, length_map (λ i. i.word) s.0, mined_items_bounded M bounded s.0 s.1)))

-- the bytes of a legal list are a list for `meets_list` and `list_text`
pub legal_is_list : (M : Matter) → M.labels ≤ 8 → M.longest ≤ 31 → (l : List (List Word)) → LegalFor M l → IsList (encode_list l) l
legal_is_list M bounded short l h = record { bytes = refl; fits = list_legal_fits M.labels M.language M.longest bounded short l h }

-- the mined list's among them
pub mined_is_list : (f : List ℕ) → check_of f ≡ Ok tt → cap_of (matter_of f).language ≡ 1 → verdict_of (matter_of f) ≡ convertible
    → IsList (encode_list (plain_list (mined_list (matter_of f)))) (plain_list (mined_list (matter_of f)))
mined_is_list f e cap v =
    let k = accepted_limits f e in
    legal_is_list (matter_of f) k.labels.1 k.longest.1 (plain_list (mined_list (matter_of f)))
    (mined_legal (matter_of f) cap k.parties.1 v)

-- permit on the bytes of a legal list
pub permit_of_list : (f : List ℕ) → check_of f ≡ Ok tt → (l : List (List Word)) → LegalFor (matter_of f) l → (a b : ℕ)
    → is_pair (matter_of f).parties a b ≡ true → permit_call f (encode_list l) a b ≡ yes_or_no (permits_pair (matter_of f) l (pair a b))
unfolding permit_call permit_in
permit_of_list f e l h a b p = rw (e, p, decode_encode (matter_of f).labels (matter_of f).language (matter_of f).longest l h)

-- permit on the bytes of the mined list is the permit table
pub permit_of_mined : (f : List ℕ) → check_of f ≡ Ok tt → cap_of (matter_of f).language ≡ 1 → verdict_of (matter_of f) ≡ convertible
    → (a b : ℕ) → is_pair (matter_of f).parties a b ≡ true
    → permit_call f (encode_list (plain_list (mined_list (matter_of f)))) a b ≡ yes_or_no (permitted (matter_of f) (pair a b))
permit_of_mined f e cap v a b p =
    let q = pair_of (matter_of f).parties a b p in
    permit_of_list f e (plain_list (mined_list (matter_of f))) (mined_legal (matter_of f) cap (accepted_limits f e).parties.1 v) a b p
    ∙ ap yes_or_no ((mined_converts (matter_of f) cap v).any.exact (pair a b) (pairs_in (matter_of f).parties (pair a b) q))
