-- What stands for some matter stands for the matter that it says: symbol 4 * label of two parties is their relation, with 4 * label + 1
-- it says what is unknown, and the other symbols follow from these. Assumes nothing.
use Rattle.std.proofs.Common.{◌≡◌, refl, sym, ◌∙◌, Bool, true, false, not, ◌&&◌, ℕ, zero, suc, ◌+◌}
use Rattle.std.proofs.Common.{◌*◌, ◌/◌, ◌%◌, ◌<◌, ltb, eqb, arith, lt-ltb, ltb-true, ne_eqb}
use Rattle.std.proofs.lemmas.Bool.{eqb-false, not-true}
use Rattle.lists.specs.Lists.{member}
use Rattle.lists.proofs.Cases.{by_test, and_left, and_right}
use Rattle.lists.proofs.ListLaws.{member_in}
use Rattle.masks.specs.declared.Row.{Row}
use Rattle.rebac.specs.Matter.{Matter}
use Rattle.rebac.specs.Symbols.{kinds, absent_edge, kind_holds, apart, in_language, holds}
use Rattle.rebac.proofs.SymbolsLaws.{plain_used, absent_with_inverse}
use Rattle.rebac.proofs.UnknownLaws.{same_apart, same_language}
use Rattle.search.specs.declared.graph.Graph.{Graph}
use Rattle.graph.specs.declared.words.WordRule.{WordRule}
use Rattle.graph.specs.declared.archive.Archive.{Archive}
use Rattle.graph.specs.promises.Shown.{ShowsAs, Shown, matter_in}
use Rattle.graph.specs.promises.Archive.{Shows}

-- absent are those that are no edge and not unknown, where unknown are those that are neither an edge nor absent
absent_again : (e n : Bool) → (not e && not (not e && not (not e && not n))) ≡ (not e && not n)
absent_again true n = refl
absent_again false true = refl
absent_again false false = refl

module _ {M : Matter} {g : Graph} {rule : WordRule} {row : Row} (h : ShowsAs M g rule row) where
  N : Matter
  N = matter_in g rule row

  same_edge : (u v l : ℕ) → apart M u v ≡ true → l < M.labels → N.edge u v l ≡ M.edge u v l
  unfolding N holds in_language kind_holds
  same_edge u v l a k =
      let d : 4 * l / 4 ≡ l = omega arith in
      let e : 4 * l % 4 ≡ 0 = omega arith in
      h.graph u v (4 * l) ∙ rw (a, d, e, lt-ltb l M.labels k, member_in 0 (kinds M.language) (plain_used M.language)) refl

  swapped : (u v : ℕ) → apart M u v ≡ true → apart M v u ≡ true
  unfolding apart
  swapped u v a =
      let n = M.parties in
      let below = and_left (ltb u n && ltb v n) _ a in
      let other : eqb v u ≡ false = ne_eqb v u (λ e. eqb-false u v (not-true (eqb u v) (and_right (ltb u n && ltb v n) _ a)) (sym e)) in
      rw (and_right (ltb u n) _ below, and_left (ltb u n) _ below, other) refl

  absent_said : (u v l : ℕ) → apart M u v ≡ true → l < M.labels → member 1 (kinds M.language) ≡ true
      → absent_edge N u v l ≡ absent_edge M u v l
  unfolding N holds in_language kind_holds
  absent_said u v l a k m =
      let d : (4 * l + 1) / 4 ≡ l = omega arith in
      let e : (4 * l + 1) % 4 ≡ 1 = omega arith in
      let absent = h.graph u v (4 * l + 1) ∙ rw (a, d, e, lt-ltb l M.labels k, m) refl in
      rw (same_edge u v l a k, absent) (absent_again (M.edge u v l) (M.unknown u v l))

  same_kind : (u v l k : ℕ) → apart M u v ≡ true → l < M.labels → member k (kinds M.language) ≡ true
      → kind_holds N u v l k ≡ kind_holds M u v l k
  unfolding kind_holds
  same_kind u v l zero a s m = same_edge u v l a s
  same_kind u v l (suc zero) a s m = absent_said u v l a s m
  same_kind u v l (suc (suc zero)) a s m = same_edge v u l (swapped u v a) s
  same_kind u v l (suc (suc (suc k))) a s m = absent_said v u l (swapped u v a) s (absent_with_inverse M.language k m)

  label_below : (s : ℕ) → in_language M s ≡ true → s / 4 < M.labels
  unfolding in_language
  label_below s e = ltb-true (s / 4) M.labels (and_left (ltb (s / 4) M.labels) _ e)

  kind_used : (s : ℕ) → in_language M s ≡ true → member (s % 4) (kinds M.language) ≡ true
  unfolding in_language
  kind_used s e = and_right (ltb (s / 4) M.labels) _ e

  same_holds : (u v s : ℕ) → holds N u v s ≡ holds M u v s
  unfolding holds N
  same_holds u v s = rw (same_apart N M h.parties h.labels h.language u v, same_language N M h.parties h.labels h.language s)
      (by_test (apart M u v)
      (λ a. by_test (in_language M s)
      (λ e. rw (a, e) (same_kind u v (s / 4) (s % 4) a (label_below s e) (kind_used s e)))
      (λ e. rw (a, e) refl))
      (λ a. rw a refl))

  pub shown_own : Shown g rule row
  unfolding N
  shown_own = record {
    limits = record {
      parties = rw h.parties h.limits.parties;
      labels = rw h.labels h.limits.labels;
      language = rw h.language h.limits.language;
      longest = rw h.longest h.limits.longest;
    };
    parties = refl;
    labels = refl;
    language = refl;
    longest = refl;
    graph = λ u v s. h.graph u v s ∙ sym (same_holds u v s);
    permits = λ u v. refl;
  }

-- an archive stands for a matter
pub shown_by : (a : Archive) → (M : Matter) × Shows M a
shown_by a = (matter_in a.graph a.words a.permits, a.shown)
