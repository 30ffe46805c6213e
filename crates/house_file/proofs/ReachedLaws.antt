-- Every record was reached exactly where no mark is 0. Assumes nothing.
use Rattle.std.proofs.Common.{◌≡◌, sym, ap, ◌∙◌, Bool, true, false, not, List, ℕ, suc, ◌-◌, ◌≤◌, ◌<◌, arith}
use Rattle.std.proofs.Common.{eqb, get_or, length, take, length-take, eq-eqb, ne_eqb, eqb-true}
use Rattle.std.proofs.lemmas.List.{get_or-take}
use Rattle.std.specs.List.{IsAnyAnswer}
use Rattle.lists.specs.Lists.{member, up_from}
use Rattle.lists.proofs.Cases.{by_test, both}
use Rattle.lists.proofs.ListLaws.{all_in, all_of_lem, up_in, up_out}
use Rattle.house_file.specs.Check.{every_reached}
use Rattle.house_file.specs.promises.Reading.{RecordMarks}

module _ (marks seen : List ℕ) (m : RecordMarks marks seen) (records : ℕ) where
  pub one_missing : (i : ℕ) → i < records → get_or marks i 0 ≡ 0 → every_reached records seen ≡ false
  one_missing i h e =
      let k : suc i - 1 ≡ i = omega arith in
      let n : member (suc i) seen ≡ false = sym (m (suc i) (omega arith)) ∙ rw k (ap not (eq-eqb (get_or marks i 0) 0 e)) in
      let listed = up_in 1 records (suc i) (omega arith) (omega arith) in
      by_test (every_reached records seen) (λ t. both (all_in (λ s. member s seen) (up_from 1 records) t listed) n) (λ f. f)

  pub none_missing : ((i : ℕ) → i < records → get_or marks i 0 ≡ 0 → ⊥) → every_reached records seen ≡ true
  none_missing f =
      all_of_lem (λ s. member s seen) (up_from 1 records) (λ s n.
      let b = up_out 1 records n in
      sym (m s b.0) ∙ ap not (ne_eqb (get_or marks (s - 1) 0) 0 (f (s - 1) (omega (arith, b.0, b.1)))))

  -- by the search for a 0 among the marks of the records
  pub reached_where : records ≤ length marks → (missing : Bool) → IsAnyAnswer (λ y b. eqb y 0 ≡ b) (take records marks) missing
      → not missing ≡ every_reached records seen
  reached_where h true (k, l, e) =
      let n : k < records = omega (arith, length-take records marks) in
      sym (one_missing k n (eqb-true _ 0 (rw (get_or-take records marks k 0 n) at (e 0))))
  reached_where h false a =
      sym (none_missing (λ i l z.
      let k : i < length (take records marks) = omega (arith, length-take records marks) in
      let f : eqb (get_or marks i 0) 0 ≡ false = rw (← get_or-take records marks i 0 l) (a i 0 (omega arith) k) in
      let t : eqb (get_or marks i 0) 0 ≡ true = eq-eqb _ 0 z in
      cc))
