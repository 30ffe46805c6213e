-- "Same" and the verdict: a list that gets "same" converts the file, the mined list gets "same",
-- and no list does where the verdict is "not convertible".
use Rattle.std.proofs.Common.{◌≡◌, refl, sym, ap, ◌∙◌, ◌↔◌, List, ℕ, None, Ok}
use Rattle.lists.proofs.Cases.{clash}
use Rattle.rebac.specs.Matter.{Matter}
use Rattle.rebac.specs.Words.{Word}
use Rattle.rebac.specs.Existence.{Converts}
use Rattle.rebac.proofs.Conversion.{mined_converts}
use Rattle.rebac.proofs.PairsLaws.{pairs_in, pairs_out}
use Rattle.fields.specs.Numbers.{Bytes}
use Rattle.house_file.specs.Check.{check_of}
use Rattle.graph.specs.FileMatter.{matter_of}
use Rattle.graph.proofs.LegalLaws.{pair_is}
use Rattle.graph.proofs.LoadLaws.{accepted_limits}
use Rattle.rule_bytes.specs.ListBytes.{encode_list}
use Rattle.rule_bytes.proofs.RoundTrip.{decode_encode, encode_decode}
use Rattle.rules.specs.Permit.{yes_or_no}
use Rattle.rules.proofs.MatterLists.{LegalFor, legal_words, mined_legal, permit_of_list}
use Rattle.mining.specs.declared.build.Pair.{Pair as PairValue}
use Rattle.conversion.specs.Calls.{list_of, bytes_of, verdict_call}
use Rattle.conversion.specs.declared.verdict.Verdict.TheVariants.{Convertible, NoWord, Rival}
use Rattle.conversion.proofs.Demand3.{convertible_verdict, verdict_exact}
use Rattle.comparison.specs.Compare.{compare_call}
use Rattle.comparison.proofs.ReplyLaws.{agree_permits, same_exact}

module _ (f : List ℕ) (e : check_of f ≡ Ok tt) where
  -- the file's matter
  abbrev M : Matter
  M = matter_of f

  -- a legal list gets "same" exactly where it is one of those that demand 3 speaks of
  pub same_iff_converts : (l : List (List Word)) → LegalFor M l
      → (compare_call f (encode_list l) ≡ Ok None) ↔ Converts M l
  same_iff_converts l h =
      let d = decode_encode M.labels M.language M.longest l h in (
        λ r. record {
          any = record {
            full = λ t m. (h.terms t m).full;
            short = λ t m w i. ((legal_words M w).0 ((h.terms t m).words w i)).short;
            exact = λ p m.
                let k = pairs_out M.parties m in
                agree_permits f e (encode_list l) l d p k (((same_exact f e (encode_list l)).0 r).1.1 p k);
          };
          fits = λ t m w i. (legal_words M w).0 ((h.terms t m).words w i);
        },
        λ c. (same_exact f e (encode_list l)).1 (
          l,
          (
            d,
            λ p k.
                permit_of_list f e l h p.first p.second (pair_is M.parties p.first p.second k)
                ∙ ap yes_or_no (c.any.exact p (pairs_in M.parties p k)),
          ),
        ),
      )

  module _ (list : List ℕ) (bytes : Bytes list) (same : compare_call f list ≡ Ok None) where
    -- any bytes that get "same" are those of such a list
    pub same_converts : (l : List (List Word)) × ((encode_list l ≡ list) × Converts M l)
    same_converts =
        let r = (same_exact f e list).0 same in
        let k = encode_decode M.labels M.language M.longest list bytes r.0 r.1.0 in
        (r.0, (k.bytes, (same_iff_converts r.0 k.legal).0 (ap (compare_call f) k.bytes ∙ same)))

    -- so the file is convertible
    pub same_convertible : (k : ℕ) × (verdict_call f ≡ Ok (Convertible k))
    same_convertible = let r = same_converts in (verdict_exact f e).0 (r.0, r.1.1.any)

    -- where the verdict is "not convertible" no list gets "same"
    pub no_word_never : (x : PairValue) → verdict_call f ≡ Ok (NoWord x) → ⊥
    no_word_never x v = clash (cc (sym v ∙ same_convertible.1))

    pub rival_never : (x y : PairValue) → verdict_call f ≡ Ok (Rival x y) → ⊥
    rival_never x y v = clash (cc (sym v ∙ same_convertible.1))

  -- a convertible file's mined list gets "same"
  pub mined_same : (k : ℕ) → verdict_call f ≡ Ok (Convertible k) → compare_call f (bytes_of M) ≡ Ok None
  unfolding bytes_of list_of
  mined_same k v =
      let c = (convertible_verdict f e k v).0 in
      let h = mined_legal M refl (accepted_limits f e).parties.1 c in
      (same_iff_converts (list_of M) h).1 (mined_converts M refl c)
