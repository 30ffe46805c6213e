-- The first difference of a matter and a list, both ways: there is none exactly where they permit the same pairs,
-- and it is a pair exactly where only one of them permits it and they agree at every earlier one.
use Rattle.std.proofs.Common.{◌≡◌, refl, sym, ap, ◌∙◌, ◌↔◌, ⊎_elim, Bool, true, false, not, ◌&&◌, ◌||◌, List}
use Rattle.std.proofs.Math.Option.{none, some}
use Rattle.lists.proofs.Cases.{by_test, by_found, clash, both}
use Rattle.lists.proofs.ListLaws.{find_none, find_none_of, find_some, find_in}
use Rattle.lists.proofs.OrderLaws.{first_least}
use Rattle.rebac.specs.Matter.{Matter, Pair, IsPair, pairs_of, pair_before, permitted}
use Rattle.rebac.specs.Words.{Word}
use Rattle.rebac.specs.Existence.{permits_pair}
use Rattle.rebac.proofs.PairsLaws.{pairs_in, pairs_out, pairs_ascending, pair_one_way}
use Rattle.conversion.specs.Demands.{FirstPair}
use Rattle.comparison.specs.Compare.{only_file, only_list, differ, first_difference}

-- two answers of which only one is yes
apart : (s t : Bool) → (((s && not t) || (t && not s)) ≡ true) ↔ (t ≡ not s)
apart true true = (λ e. clash (sym e), λ e. clash e)
apart true false = (λ e. refl, λ e. refl)
apart false true = (λ e. refl, λ e. refl)
apart false false = (λ e. clash (sym e), λ e. clash (sym e))

together : (s t : Bool) → (((s && not t) || (t && not s)) ≡ false) ↔ (t ≡ s)
together true true = (λ e. refl, λ e. refl)
together true false = (λ e. clash e, λ e. clash (sym e))
together false true = (λ e. clash e, λ e. clash e)
together false false = (λ e. refl, λ e. refl)

module _ (M : Matter) (l : List (List Word)) where
  differ_apart : (p : Pair) → (differ M l p ≡ true) ↔ (permits_pair M l p ≡ not (permitted M p))
  unfolding differ only_file only_list
  differ_apart p = apart (permitted M p) (permits_pair M l p)

  differ_together : (p : Pair) → (differ M l p ≡ false) ↔ (permits_pair M l p ≡ permitted M p)
  unfolding differ only_file only_list
  differ_together p = together (permitted M p) (permits_pair M l p)

  pub no_difference : (first_difference M l ≡ none) ↔ ((p : Pair) → IsPair M.parties p → permits_pair M l p ≡ permitted M p)
  unfolding first_difference
  no_difference = (
    λ n p h. (differ_together p).0 (find_none (differ M l) (pairs_of M.parties) n (pairs_in M.parties p h)),
    λ a. find_none_of (differ M l) (pairs_of M.parties) (λ p m. (differ_together p).1 (a p (pairs_out M.parties m))),
  )

  -- the first difference is the first pair that only one of them permits
  pub first_apart : (p : Pair) → first_difference M l ≡ some p → FirstPair M (λ q. permits_pair M l q ≡ not (permitted M q)) p
  unfolding first_difference
  first_apart p s = record {
    is_pair = pairs_out M.parties (find_in (differ M l) (pairs_of M.parties) s);
    here = (differ_apart p).0 (find_some (differ M l) (pairs_of M.parties) s).here;
    first = λ x k g.
        first_least pair_before (differ M l) (pairs_of M.parties) (pairs_ascending M.parties) s
        (pairs_in M.parties x k) ((differ_apart x).1 g);
  }

  -- at every earlier pair they agree
  pub earlier_together : (p : Pair) → first_difference M l ≡ some p → (q : Pair) → IsPair M.parties q → pair_before q p ≡ true
      → permits_pair M l q ≡ permitted M q
  earlier_together p s q h b =
      by_test (differ M l q)
      (λ t. ⊎_elim
      (λ (z : p ≡ q). let c : pair_before q q ≡ true = rw z at b in absurd (pair_one_way q q c c))
      (λ (z : pair_before p q ≡ true). absurd (pair_one_way q p b z))
      ((first_apart p s).first q h ((differ_apart q).0 t)))
      (λ t. (differ_together q).0 t)

  -- and a pair that only one of them permits, where they agree at every earlier one, is the first difference
  pub apart_first : (p : Pair) → IsPair M.parties p → permits_pair M l p ≡ not (permitted M p)
      → ((q : Pair) → IsPair M.parties q → pair_before q p ≡ true → permits_pair M l q ≡ permitted M q) → first_difference M l ≡ some p
  unfolding first_difference
  apart_first p h here before =
      by_found (first_difference M l)
      (λ n. both ((differ_apart p).1 here) (find_none (differ M l) (pairs_of M.parties) n (pairs_in M.parties p h)))
      (λ q s.
      let a = first_apart q s in
      ⊎_elim
      (λ (z : q ≡ p). s ∙ ap some z)
      (λ (z : pair_before q p ≡ true). both ((differ_apart q).1 a.here) ((differ_together q).1 (before q a.is_pair z)))
      (a.first p h here))
