-- The last two steps: a candidate leads on where it is neither visited nor the target and has a last step. Assumes nothing.
use Rattle.std.proofs.Common.{◌≡◌, ℕ, zero, suc, ◌+◌, ◌/◌, ◌%◌, ◌^◌, ◌<◌, true, false, not, ◌&&◌}
use Rattle.std.proofs.Common.{eqb, List, [], ◌∷◌, get_or, set, replicate, sym, refl, ap, ◌∙◌, mod-lt}
use Rattle.std.proofs.Common.{arith, lit<, length-set, get_or-set_same, bit_or, bit_xor, Ok}
use Rattle.std.proofs.Math.Logic.{by_cases}
use Rattle.std.proofs.Math.Option.{none, some}
use Rattle.std.proofs.Math.Decide.{ℕ_discrete}
use Rattle.std.proofs.lemmas.Nat.{or_shr, or_mod, xor_shr, xor_mod}
use Rattle.limits.specs.Limits.{most_parties}
use Rattle.lists.proofs.Cases.{by_test, both, and_false, and_left, and_right}
use Rattle.masks.specs.promises.Mask.{bit_at, test_bit, with_bit}
use Rattle.masks.specs.promises.Table.{no_row, mask_at}
use Rattle.masks.specs.declared.Table.{Table}
use Rattle.masks.proofs.BitLaws.{test_with_same, test_with_other}
use Rattle.rebac.specs.promises.Forms.{Place}
use Rattle.rebac.specs.promises.Marked.{prepend}
use Rattle.search.specs.promises.Search.{place_on, place_at, places_from, search_from, FoundAs}
use Rattle.search.specs.promises.Walk.{NoStep, StepsFirst}
use Rattle.search.specs.promises.Last.{without, last_place, Ends}
use Rattle.search.specs.promises.Onward.{search_on}
use Rattle.search.specs.declared.path.Path.{Path}
use Rattle.search.specs.declared.search.Search.{Search}
use Rattle.search.proofs.SearchLaws.{through, search_last, search_none, search_hit, places_two, path_last, path_onto}
use Rattle.search.proofs.SearchLaws.{through_visited, through_not, through_lost, through_on, through_target}

less_bit : (a b k : ℕ) → bit_at (without a b) k ≡ bit_xor (bit_or (bit_at a k) (bit_at b k)) (bit_at b k)
less_bit a b k =
    ap (λ (x : ℕ). x % 2) (xor_shr (bit_or a b) b k ∙ ap (λ (x : ℕ). bit_xor x (b / 2 ^ k)) (or_shr a b k))
    ∙ xor_mod (bit_or (a / 2 ^ k) (b / 2 ^ k)) (b / 2 ^ k) 1
    ∙ ap (λ (x : ℕ). bit_xor x (bit_at b k)) (or_mod (a / 2 ^ k) (b / 2 ^ k) 1)

less_digit : (x y : ℕ) → x < 2 → y < 2 → eqb (without x y) 1 ≡ (eqb x 1 && not (eqb y 1))
less_digit zero zero h l = refl
less_digit zero (suc zero) h l = refl
less_digit (suc zero) zero h l = refl
less_digit (suc zero) (suc zero) h l = refl
less_digit zero (suc (suc y)) h l = absurd (omega arith)
less_digit (suc zero) (suc (suc y)) h l = absurd (omega arith)
less_digit (suc (suc x)) y h l = absurd (omega arith)

pub test_without : (a b k : ℕ) → test_bit (without a b) k ≡ (test_bit a k && not (test_bit b k))
unfolding test_bit
test_without a b k =
    ap (λ (x : ℕ). eqb x 1) (less_bit a b k)
    ∙ less_digit (bit_at a k) (bit_at b k) (mod-lt (a / 2 ^ k) (lit< tt)) (mod-lt (b / 2 ^ k) (lit< tt))

-- the last two steps from party u, along x and y
pub record TwoSteps (n : ℕ) (t : Table) (visited target : ℕ) (y : Place) (ends : ℕ) : Type 0 where
  pub end : target < n
  pub unvisited : test_bit visited target ≡ false
  pub last : Ends n t target y ends

module _ {n : ℕ} {t : Table} {visited target : ℕ} {y : Place} {ends : ℕ} (f : TwoSteps n t visited target y ends) (u : ℕ) (x : Place) where
  -- a candidate beyond which the last step fails or leads to the target
  failing : (c : ℕ) → c < n → test_bit ends c ≡ false → through n t visited u target x (y ∷ []) c ≡ none
  failing c h e =
      through_lost n t visited u target x (y ∷ []) c
      (search_last n t (with_bit visited c) c target f.end y
      ∙ rw (sym (f.last c h) ∙ e, and_false (not (test_bit (with_bit visited c) target)) refl))

  leading : (c : ℕ) → c < n → test_bit visited c ≡ false → (c ≡ target → ⊥) → test_bit ends c ≡ true → place_on x (mask_at t u c) ≡ true
      → through n t visited u target x (y ∷ []) c ≡ some (c ∷ target ∷ [])
  leading c h e d o s =
      let on : search_from n t (with_bit visited c) c target (y ∷ []) ≡ some (target ∷ []) =
      search_last n t (with_bit visited c) c target f.end y
      ∙ rw (test_with_other visited c target (λ q. d (sym q)) ∙ f.unvisited, sym (f.last c h) ∙ o) in
      through_on n t visited u target x (y ∷ []) c e s ∙ ap (prepend c) on

  abbrev open_ends : ℕ
  open_ends = without ends (with_bit visited target)

  -- the candidates before the first in the mask lead nowhere
  before : (k : ℕ) → NoStep x (get_or t.rows u no_row) open_ends n k → (c : ℕ) → c < n → c < k
      → through n t visited u target x (y ∷ []) c ≡ none
  before k s c h l =
      by_test (test_bit visited c) (λ e. through_visited n t visited u target x (y ∷ []) c e)
      (λ e. by_cases (ℕ_discrete c target)
      (λ q. rw q (through_target n t visited u target x y (y ∷ []) [] refl f.end))
      (λ q. by_test (test_bit ends c)
      (λ o. through_not n t visited u target x (y ∷ []) c
      (s c h l (test_without ends (with_bit visited target) c ∙ rw (o, test_with_other visited target c q ∙ e))))
      (λ o. failing c h o)))

  pub two_none : NoStep x (get_or t.rows u no_row) open_ends n n → search_from n t visited u target (x ∷ y ∷ []) ≡ none
  two_none s = search_none n t visited u target x (y ∷ []) (λ c h. before n s c h h)

  pub two_found : (r : ℕ) → StepsFirst x (get_or t.rows u no_row) open_ends n r
      → search_from n t visited u target (x ∷ y ∷ []) ≡ some (r ∷ target ∷ [])
  two_found r s =
      let on : (test_bit ends r && not (test_bit (with_bit visited target) r)) ≡ true =
      sym (test_without ends (with_bit visited target) r) ∙ s.on in
      let off : test_bit (with_bit visited target) r ≡ false = by_test (test_bit (with_bit visited target) r)
      (λ e. both (and_right (test_bit ends r) _ on) (ap not e)) (λ e. e) in
      let d : (r ≡ target → ⊥) = λ q. both (test_with_same visited target) (rw q at off) in
      let l : r < n = s.within in
      search_hit n t visited u target x (y ∷ []) r (r ∷ target ∷ []) l (λ c h. before r s.before c (omega arith) h)
      (leading r l (sym (test_with_other visited target r d) ∙ off) d (and_left (test_bit ends r) _ on) s.step)

-- the same of a search of which two places are left
module _ (s : Search) (at visited : ℕ) (two : at + 2 ≡ s.form.word.word.len) (e : test_bit visited s.target ≡ false) (u : ℕ) where
  abbrev steps : TwoSteps s.graph.parties s.graph.table visited s.target (last_place s.form.word.word s.form.fixed) s.ends
  steps = record { end = s.end; unvisited = e; last = s.last }

  abbrev here : Place
  here = place_at s.form.word.word s.form.fixed at

  abbrev mask : ℕ
  mask = without s.ends (with_bit visited s.target)

  places : places_from s.form.word.word s.form.fixed at ≡ here ∷ last_place s.form.word.word s.form.fixed ∷ []
  places = places_two s.form.word.short s.form.fixed at two

  pub two_fails : NoStep here (get_or s.graph.table.rows u no_row) mask s.graph.parties s.graph.parties → search_on s at u visited ≡ none
  two_fails n = ap (search_from s.graph.parties s.graph.table visited u s.target) places ∙ two_none steps u here n

  pub two_leads : {r : ℕ} → StepsFirst here (get_or s.graph.table.rows u no_row) mask s.graph.parties r
      → (p : Path) → p.visited ≡ with_bit (with_bit visited r) s.target
      → p.parties ≡ set (set (replicate most_parties 0) (at + 2) s.target) (at + 1) r
      → FoundAs at visited (search_on s at u visited) (Ok p)
  two_leads {r} l p v q =
      let zeros : List ℕ = replicate 32 0 in
      let more : ℕ = with_bit visited r in
      let beyond : Path = record { visited = with_bit more s.target; parties = set zeros (at + 2) s.target } in
      let d : at + 1 + 1 ≡ at + 2 = omega arith in
      let room : at + 2 < 32 = omega (arith, two, s.form.word.short.len) in
      let written = get_or-set_same zeros (at + 2) s.target 0 room in (
        r ∷ s.target ∷ [],
        (
          ap (search_from s.graph.parties s.graph.table visited u s.target) places ∙ two_found steps u here r l,
          path_onto at visited r (s.target ∷ []) beyond p (omega arith)
              (path_last (at + 1) more s.target beyond refl (length-set zeros (at + 2) s.target) (rw d written)) v q,
        ),
      )
