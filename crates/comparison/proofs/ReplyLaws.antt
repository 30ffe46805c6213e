-- What each reply of the call says of the permit call and of the table, both ways:
-- permit answers by the same list, and the reply names the first difference.
use Rattle.std.proofs.Common.{◌≡◌, refl, sym, ap, ◌∙◌, ◌↔◌, Bool, true, false, not, List}
use Rattle.std.proofs.Common.{ℕ, ◌≤◌, arith, Option, Some, None, Result, Ok, Err}
use Rattle.std.proofs.Math.Option.{Option as Sought, none, some}
use Rattle.lists.proofs.Cases.{by_test, by_found, clash}
use Rattle.rebac.specs.Matter.{Matter, Pair, pair, IsPair, permitted}
use Rattle.rebac.specs.Words.{Word}
use Rattle.rebac.specs.Existence.{permits_pair}
use Rattle.house_layout.specs.declared.reply.Refusal.{Refusal}
use Rattle.house_layout.specs.declared.reply.Refusal.TheVariants.{RuleList}
use Rattle.house_layout.proofs.RecordLaws.{by_check}
use Rattle.house_layout.proofs.RefusalNumbers.{refusal_said}
use Rattle.house_file.specs.Check.{check_of}
use Rattle.graph.specs.FileMatter.{matter_of}
use Rattle.graph.proofs.LegalLaws.{pair_is}
use Rattle.rule_bytes.specs.ListBytes.{encode_list}
use Rattle.rule_bytes.proofs.RoundTrip.{decode_encode}
use Rattle.rules.specs.Permit.{permit_call, permit_in, yes_or_no, answer_by}
use Rattle.rules.proofs.MatterLists.{LegalFor}
use Rattle.mining.specs.Values.{pair_value, pair_in}
use Rattle.mining.specs.declared.build.Pair.{Pair as PairValue}
use Rattle.conversion.specs.Demands.{FirstPair}
use Rattle.conversion.proofs.ReplyLaws.{pair_same}
use Rattle.comparison.specs.Compare.{first_difference, side_of, answer_for, comparison, compare_by, compare_in, compare_call, said_compare}
use Rattle.comparison.specs.Replies.{decoded_for, Agree, Parting}
use Rattle.comparison.specs.declared.call.Difference.{Difference}
use Rattle.comparison.specs.declared.call.Difference.TheVariants.{OnlyFile, OnlyList}
use Rattle.comparison.proofs.DifferenceLaws.{no_difference, first_apart, earlier_together, apart_first}

-- equal numbers and values mean equal replies
pub compare_said : (r s : Result (Option Difference) Refusal) → said_compare r ≡ said_compare s → r ≡ s
compare_said (Err x) (Err y) e = ap Err (refusal_said e)
compare_said (Err x) (Ok None) e = clash (cc e)
compare_said (Err x) (Ok (Some (OnlyFile p))) e = clash (cc e)
compare_said (Err x) (Ok (Some (OnlyList p))) e = clash (cc e)
compare_said (Ok None) (Err y) e = clash (cc e)
compare_said (Ok None) (Ok None) e = refl
compare_said (Ok None) (Ok (Some (OnlyFile p))) e = clash (cc e)
compare_said (Ok None) (Ok (Some (OnlyList p))) e = clash (cc e)
compare_said (Ok (Some (OnlyFile p))) (Err y) e = clash (cc e)
compare_said (Ok (Some (OnlyFile p))) (Ok None) e = clash (cc e)
compare_said (Ok (Some (OnlyFile p))) (Ok (Some (OnlyFile q))) e =
    ap (λ (x : PairValue). Ok (Some (OnlyFile x))) (pair_same p q (cc e) (cc e))
compare_said (Ok (Some (OnlyFile p))) (Ok (Some (OnlyList q))) e = clash (cc e)
compare_said (Ok (Some (OnlyList p))) (Err y) e = clash (cc e)
compare_said (Ok (Some (OnlyList p))) (Ok None) e = clash (cc e)
compare_said (Ok (Some (OnlyList p))) (Ok (Some (OnlyFile q))) e = clash (cc e)
compare_said (Ok (Some (OnlyList p))) (Ok (Some (OnlyList q))) e =
    ap (λ (x : PairValue). Ok (Some (OnlyList x))) (pair_same p q (cc e) (cc e))

-- the first difference behind a reply
module _ (M : Matter) where
  answer_same : (o : Sought Pair) → answer_for M o ≡ None → o ≡ none
  answer_same none e = refl
  answer_same (some p) e = clash (cc e)

  answer_side : (b : Bool) (o : Sought Pair) (x : PairValue) → answer_for M o ≡ Some (side_of b (pair_in x))
      → (o ≡ some (pair_in x)) × (permitted M (pair_in x) ≡ b)
  answer_side b none x e = clash (cc e)
  answer_side true (some p) x e =
      by_test (permitted M p)
      (λ t. let z : pair_value p ≡ x = cc (rw t at e) in rw (← z) (refl, t))
      (λ t. clash (cc (rw t at e)))
  answer_side false (some p) x e =
      by_test (permitted M p)
      (λ t. clash (cc (rw t at e)))
      (λ t. let z : pair_value p ≡ x = cc (rw t at e) in rw (← z) (refl, t))

-- yes and no
yes_no_same : (b c : Bool) → yes_or_no b ≡ yes_or_no c → b ≡ c
yes_no_same true true e = refl
yes_no_same true false e = clash (cc e)
yes_no_same false true e = clash (cc e)
yes_no_same false false e = refl

-- two truth values of which one is not the other
unlike : {G : Type 0} (s : Bool) → s ≡ not s → G
unlike true e = clash e
unlike false e = clash (sym e)

other : (s t : Bool) → (t ≡ s → ⊥) → t ≡ not s
other true true n = absurd (n refl)
other true false n = refl
other false true n = refl
other false false n = absurd (n refl)

no_refusal : {G : Type 0} {x : Refusal} (b : Bool) → yes_or_no b ≡ Err x → G
no_refusal true e = clash (cc e)
no_refusal false e = clash (cc e)

-- for every accepted file and any bytes
module _ (f : List ℕ) (e : check_of f ≡ Ok tt) (list : List ℕ) where
  -- the file's matter
  abbrev M : Matter
  M = matter_of f

  -- both calls by the list that the bytes are
  compare_by_lem : compare_call f list ≡ compare_by M (decoded_for f list)
  unfolding compare_call compare_in
  compare_by_lem = rw e

  permit_by : (p : Pair) → IsPair M.parties p
      → permit_call f list p.first p.second ≡ answer_by M p (decoded_for f list)
  unfolding permit_call permit_in
  permit_by p h = rw (e, pair_is M.parties p.first p.second h)

  module _ (l : List (List Word)) (d : decoded_for f list ≡ some l) where
    compare_of : compare_call f list ≡ Ok (answer_for M (first_difference M l))
    unfolding comparison
    compare_of = compare_by_lem ∙ ap (compare_by M) d

    permit_of : (p : Pair) → IsPair M.parties p
        → permit_call f list p.first p.second ≡ yes_or_no (permits_pair M l p)
    permit_of p h = permit_by p h ∙ ap (answer_by M p) d

    -- what permit says of a pair is what the list does with it
    permit_says : (p : Pair) → IsPair M.parties p → (b : Bool)
        → (permit_call f list p.first p.second ≡ yes_or_no b) ↔ (permits_pair M l p ≡ b)
    permit_says p h b = (λ r. yes_no_same _ b (sym (permit_of p h) ∙ r), λ r. permit_of p h ∙ ap yes_or_no r)

    pub agree_permits : (p : Pair) → IsPair M.parties p → Agree f list p
        → permits_pair M l p ≡ permitted M p
    agree_permits p h = (permit_says p h (permitted M p)).0

    -- bytes that decode are never refused
    pub decoded_answered : {G : Type 0} (x : Refusal) → compare_call f list ≡ Err x → G
    decoded_answered x r = clash (cc (sym compare_of ∙ r))

    -- where permit and the table part first, there is the first difference
    parting_difference : (b : Bool) (p : Pair) → Parting f list b p → first_difference M l ≡ some p
    parting_difference b p r =
        apart_first M l p r.is_pair
        ((permit_says p r.is_pair (not b)).0 r.permit ∙ ap not (sym r.table))
        (λ q h s. agree_permits q h (r.before q h s))

    side_exact : (b : Bool) (x : PairValue) → (compare_call f list ≡ Ok (Some (side_of b (pair_in x)))) ↔ Parting f list b (pair_in x)
    side_exact b x = (
      λ r.
          let k = answer_side M b (first_difference M l) x (cc (sym compare_of ∙ r)) in
          let a = first_apart M l (pair_in x) k.0 in
          record {
            is_pair = a.is_pair;
            table = k.1;
            permit = (permit_says (pair_in x) a.is_pair (not b)).1 (a.here ∙ ap not k.1);
            before = λ q h s. (permit_says q h (permitted M q)).1 (earlier_together M l (pair_in x) k.0 q h s);
          },
      λ r.
          compare_of ∙ ap (λ (o : Sought Pair). Ok (answer_for M o)) (parting_difference b (pair_in x) r)
          ∙ ap (λ (c : Bool). Ok (Some (side_of c (pair_in x)))) r.table,
    )

    parting_here : (b : Bool) (p : Pair) → Parting f list b p → FirstPair M (λ q. Agree f list q → ⊥) p
    parting_here b p r =
        let a = first_apart M l p (parting_difference b p r) in
        record {
          is_pair = a.is_pair;
          here = λ g. unlike _ (sym (agree_permits p a.is_pair g) ∙ a.here);
          first = λ x k g. a.first x k (other _ _ (λ z. g ((permit_says x k (permitted M x)).1 z)));
        }

  -- 9 exactly where the bytes are no legal list
  pub nine_exact : (compare_call f list ≡ Err RuleList) ↔ (decoded_for f list ≡ none)
  nine_exact = (
    λ r. by_found (decoded_for f list) (λ d. d) (λ l d. decoded_answered l d RuleList r),
    λ d. compare_by_lem ∙ ap (compare_by M) d,
  )

  -- which is where permit answers 9 for a pair
  pub nine_as_permit : (p : Pair) → IsPair M.parties p
      → (compare_call f list ≡ Err RuleList) ↔ (permit_call f list p.first p.second ≡ Err RuleList)
  nine_as_permit p h = (
    λ r. permit_by p h ∙ ap (answer_by M p) (nine_exact.0 r),
    λ r. by_found (decoded_for f list) nine_exact.1 (λ l d. no_refusal (permits_pair M l p) (sym (permit_of l d p h) ∙ r)),
  )

  -- there is no other refusal
  pub only_nine : (x : Refusal) → compare_call f list ≡ Err x → x ≡ RuleList
  only_nine x r =
      by_found (decoded_for f list)
      (λ d. let z : Err x ≡ Err RuleList = sym r ∙ nine_exact.1 d in cc)
      (λ l d. decoded_answered l d x r)

  -- "same" exactly where the bytes are a legal list and permit answers for every pair as the table has it
  pub same_exact : (compare_call f list ≡ Ok None)
      ↔ ((l : List (List Word)) × ((decoded_for f list ≡ some l) × ((p : Pair) → IsPair M.parties p → Agree f list p)))
  same_exact = (
    λ r. by_found (decoded_for f list)
        (λ d. clash (cc (sym (nine_exact.1 d) ∙ r)))
        (λ l d.
        let n = answer_same M (first_difference M l) (cc (sym (compare_of l d) ∙ r)) in
        (l, (d, λ p h. (permit_says l d p h (permitted M p)).1 ((no_difference M l).0 n p h)))),
    λ r.
        let n = (no_difference M r.0).1 (λ p h. agree_permits r.0 r.1.0 p h (r.1.1 p h)) in
        compare_of r.0 r.1.0 ∙ ap (λ (o : Sought Pair). Ok (answer_for M o)) n,
  )

  -- bytes for which permit says yes or no decode
  permit_decodes : (p : Pair) → IsPair M.parties p → (b : Bool) → permit_call f list p.first p.second ≡ yes_or_no b
      → (l : List (List Word)) × (decoded_for f list ≡ some l)
  permit_decodes p h b r =
      by_found (decoded_for f list)
      (λ d. no_refusal b (sym r ∙ permit_by p h ∙ ap (answer_by M p) d))
      (λ l d. (l, d))

  parting_exact : (b : Bool) (x : PairValue) → (compare_call f list ≡ Ok (Some (side_of b (pair_in x)))) ↔ Parting f list b (pair_in x)
  parting_exact b x = (
    λ r. by_found (decoded_for f list)
        (λ d. clash (cc (sym (nine_exact.1 d) ∙ r)))
        (λ l d. (side_exact l d b x).0 r),
    λ r. let o = permit_decodes (pair_in x) r.is_pair (not b) r.permit in (side_exact o.0 o.1 b x).1 r,
  )

  -- a pair with the file: the first that differs, where the table has it and permit says no
  pub only_file_exact : (x : PairValue) → (compare_call f list ≡ Ok (Some (OnlyFile x))) ↔ Parting f list true (pair_in x)
  only_file_exact x = parting_exact true x

  -- a pair with the list: the first that differs, where the table doesn't have it and permit says yes
  pub only_list_exact : (x : PairValue) → (compare_call f list ≡ Ok (Some (OnlyList x))) ↔ Parting f list false (pair_in x)
  only_list_exact x = parting_exact false x

  -- the pair of a reply is the first in pair order at which permit and the table differ, in demand 3's sense of the first
  pub parting_first : (b : Bool) (p : Pair) → Parting f list b p → FirstPair M (λ q. Agree f list q → ⊥) p
  parting_first b p r = let o = permit_decodes p r.is_pair (not b) r.permit in parting_here o.0 o.1 b p r

-- "same" exactly where permit answers for every pair as the table has it, in a file that has a pair
pub same_as_permit : (f : List ℕ) → check_of f ≡ Ok tt → 2 ≤ (matter_of f).parties → (list : List ℕ)
    → (compare_call f list ≡ Ok None) ↔ ((p : Pair) → IsPair (matter_of f).parties p → Agree f list p)
same_as_permit f e n list =
    let p = pair 0 1 in
    let h : IsPair (matter_of f).parties p =
    record { first = omega (arith, n); second = omega (arith, n); different = λ z. omega (arith, z) } in (
      λ r. ((same_exact f e list).0 r).1.1,
      λ a.
          let o = permit_decodes f e list p h (permitted (matter_of f) p) (a p h) in
          (same_exact f e list).1 (o.0, (o.1, a)),
    )

-- the file's refusals come first
pub file_first : (f list : List ℕ) (x : Refusal) → check_of f ≡ Err x → compare_call f list ≡ Err x
unfolding compare_call
file_first f list x c = rw c

permit_file_first : (f list : List ℕ) (a b : ℕ) (x : Refusal) → check_of f ≡ Err x → permit_call f list a b ≡ Err x
unfolding permit_call
permit_file_first f list a b x c = rw c

-- "It refuses as the permit call does, without the pair": for any bytes, exactly where permit refuses for a pair, by the same number
pub refuses_as_permit : (f list : List ℕ) (p : Pair) → IsPair (matter_of f).parties p → (x : Refusal)
    → (compare_call f list ≡ Err x) ↔ (permit_call f list p.first p.second ≡ Err x)
refuses_as_permit f list p h x =
    by_check (check_of f)
    (λ e. (
      λ r. let z : x ≡ RuleList = only_nine f e list x r in rw z ((nine_as_permit f e list p h).0 (rw z at r)),
      λ r. by_found (decoded_for f list)
          (λ d.
          let z : Err x ≡ Err RuleList = sym r ∙ (nine_as_permit f e list p h).0 ((nine_exact f e list).1 d) in
          let y : x ≡ RuleList = cc in
          rw y ((nine_exact f e list).1 d))
          (λ l d. no_refusal (permits_pair (matter_of f) l p) (sym (permit_of f e list l d p h) ∙ r)),
    ))
    (λ y c.
    let k = file_first f list y c in
    let j = permit_file_first f list p.first p.second y c in (
      λ r. let z : Err y ≡ Err x = sym k ∙ r in let w : y ≡ x = cc in j ∙ ap Err w,
      λ r. let z : Err y ≡ Err x = sym j ∙ r in let w : y ≡ x = cc in k ∙ ap Err w,
    ))

-- "It takes whatever list is right, shorter than ours or longer": every list that is legal for the file
pub legal_answered : (f : List ℕ) → check_of f ≡ Ok tt → (l : List (List Word)) → LegalFor (matter_of f) l
    → compare_call f (encode_list l) ≡ Ok (comparison (matter_of f) l)
legal_answered f e l h =
    let d = decode_encode (matter_of f).labels (matter_of f).language (matter_of f).longest l h in
    compare_by_lem f e (encode_list l) ∙ ap (compare_by (matter_of f)) d
