-- The loop over a party's candidates: where it stands, and what one candidate adds. Assumes nothing.
use Rattle.std.proofs.Common.{◌≡◌, ℕ, ◌+◌, ◌<◌, ◌≤◌, Bool, true, false, not, List, ◌∷◌}
use Rattle.std.proofs.Common.{set, sym, refl, ap, ◌∙◌, arith, Result, Ok, Err, Option as Maybe, Some, None, MatchOption, IfSome}
use Rattle.std.proofs.lemmas.Bool.{not-true}
use Rattle.std.proofs.Math.Option.{Option, none}
use Rattle.lists.proofs.Cases.{both}
use Rattle.masks.specs.promises.Mask.{test_bit, with_bit}
use Rattle.masks.specs.promises.Table.{mask_at}
use Rattle.masks.proofs.BitLaws.{test_with_other}
use Rattle.rebac.specs.promises.Forms.{Place}
use Rattle.rebac.specs.promises.Marked.{prepend}
use Rattle.search.specs.promises.Search.{place_on, place_at, places_from, search_from, FoundAs}
use Rattle.search.specs.promises.Onward.{search_on, SearchQuery, CoversFrom}
use Rattle.search.specs.declared.path.NoPath.{NoPath}
use Rattle.search.specs.declared.path.Path.{Path}
use Rattle.search.specs.declared.search.Search.{Search}
use Rattle.search.proofs.SearchLaws.{through, onwards, search_start, onwards_end, onwards_skip, onwards_hit}
use Rattle.search.proofs.SearchLaws.{through_visited, through_not, through_lost, through_on, through_target, places_cons}
use Rattle.search.proofs.SearchLaws.{short_fits, path_onto}

-- the place at which a candidate stands, and the places after it
abbrev pub here : Search → ℕ → Place
here s at = place_at s.form.word.word s.form.fixed at

abbrev pub after : Search → ℕ → List Place
after s at = places_from s.form.word.word s.form.fixed (at + 1)

-- what candidate v gives, and what the candidates from v on give
abbrev pub leads : Search → ℕ → ℕ → ℕ → ℕ → Option (List ℕ)
leads s at u visited = through s.graph.parties s.graph.table visited u s.target (here s at) (after s at)

abbrev leads_from : Search → ℕ → ℕ → ℕ → ℕ → Option (List ℕ)
leads_from s at u visited = onwards s.graph.parties s.graph.table visited u s.target (here s at) (after s at)

-- where the loop stands: the candidates before v lead nowhere, and once walks were looked at, a party that `onward` lacks has no path along
-- the places after this one
pub record Turn (s : Search) (at u visited : ℕ) (onward : Maybe ℕ) (v : ℕ) : Type 0 where
  pub covers : IfSome onward (CoversFrom s (at + 1) visited)
  pub rest : search_on s at u visited ≡ leads_from s at u visited v

-- before the first candidate
pub turn_start : {s : Search} {at u visited : ℕ} → SearchQuery s at u visited → Turn s at u visited None 0
turn_start {s} {at} {u} {visited} p = record {
  covers = tt;
  rest = ap (search_from s.graph.parties s.graph.table visited u s.target)
      (places_cons s.form.word.word s.form.fixed at (omega (arith, p.places)) (short_fits s.form.word.short))
      ∙ search_start s.graph.parties s.graph.table visited u s.target (here s at) (after s at);
}

module _ {s : Search} {at u visited v : ℕ} {onward : Maybe ℕ} (h : Turn s at u visited onward v) where
  -- after the last candidate
  pub turn_end : s.graph.parties ≤ v → search_on s at u visited ≡ none
  turn_end l = h.rest ∙ onwards_end s.graph.parties s.graph.table visited u s.target (here s at) (after s at) v l

  -- a candidate that leads nowhere is passed
  pub turn_skip : v < s.graph.parties → {more : Maybe ℕ} → IfSome more (CoversFrom s (at + 1) visited) → leads s at u visited v ≡ none
      → Turn s at u visited more (v + 1)
  turn_skip l g e = record {
    covers = g;
    rest = h.rest ∙ onwards_skip s.graph.parties s.graph.table visited u s.target (here s at) (after s at) v l e;
  }

  -- a candidate leads nowhere that is visited, that may not stand at the place, or that the mask of walks lacks
  pub turn_visited : test_bit visited v ≡ true → leads s at u visited v ≡ none
  turn_visited = through_visited s.graph.parties s.graph.table visited u s.target (here s at) (after s at) v

  pub turn_barred : place_on (here s at) (mask_at s.graph.table u v) ≡ false → leads s at u visited v ≡ none
  turn_barred = through_not s.graph.parties s.graph.table visited u s.target (here s at) (after s at) v

  pub turn_lost : v < s.graph.parties → {r : Bool} → MatchOption onward (r ≡ false) (λ mask. r ≡ not (test_bit mask v)) → r ≡ true
      → test_bit visited v ≡ false → leads s at u visited v ≡ none
  turn_lost l {r} f y off = lost onward h.covers f
    where
      lost : (o : Maybe ℕ) → IfSome o (CoversFrom s (at + 1) visited) → MatchOption o (r ≡ false) (λ mask. r ≡ not (test_bit mask v))
          → leads s at u visited v ≡ none
      lost None g e = both y e
      lost (Some mask) g e =
          through_lost s.graph.parties s.graph.table visited u s.target (here s at) (after s at) v
          (g v l (not-true (test_bit mask v) (sym e ∙ y)) visited (λ d k. k) off)

-- the target leads nowhere, while places are left
pub target_nowhere : {s : Search} {at u visited : ℕ} → SearchQuery s at u visited → leads s at u visited s.target ≡ none
target_nowhere {s} {at} {u} {visited} p =
    through_target s.graph.parties s.graph.table visited u s.target (here s at) _ (after s at) _
    (places_cons s.form.word.word s.form.fixed (at + 1) (omega (arith, p.places)) (short_fits s.form.word.short)) s.end

-- a candidate that was tried: not visited, it may stand at the place, and f was found beyond it
pub record Tried (s : Search) (at u visited : ℕ) (onward : Maybe ℕ) (v : ℕ) (f : Result Path NoPath) : Type 0 where
  pub query : SearchQuery s at u visited
  pub turn : Turn s at u visited onward v
  pub party : v < s.graph.parties
  pub off : test_bit visited v ≡ false
  pub on : place_on (here s at) (mask_at s.graph.table u v) ≡ true
  pub beyond : FoundAs (at + 1) (with_bit visited v) (search_on s (at + 1) v (with_bit visited v)) f

-- out of what the code tests and the calls give, where `more` are the parties visited with it
pub tried : {s : Search} {at u visited v more : ℕ} {onward : Maybe ℕ} {f : Result Path NoPath} {has allowed : Bool}
    → SearchQuery s at u visited → Turn s at u visited onward v → v < s.graph.parties → has ≡ test_bit visited v → has ≡ false
    → allowed ≡ place_on (here s at) (mask_at s.graph.table u v) → allowed ≡ true → more ≡ with_bit visited v
    → FoundAs (at + 1) more (search_on s (at + 1) v more) f → Tried s at u visited onward v f
tried p h l d off e y m g = record {
  query = p;
  turn = h;
  party = l;
  off = sym d ∙ off;
  on = sym e ∙ y;
  beyond = rw (← m) g;
}

-- the target is not visited by a step to another party
pub target_open : (visited v target : ℕ) {more : ℕ} → more ≡ with_bit visited v → (v ≡ target → ⊥) → test_bit visited target ≡ false
    → test_bit more target ≡ false
target_open visited v target m d o = rw m (test_with_other visited v target (λ q. d (sym q)) ∙ o)

-- the path with the candidate written in front of the parties beyond it
abbrev pub put : Path → ℕ → ℕ → Path
put p at v = record { visited = p.visited; parties = set p.parties (at + 1) v }

module _ {s : Search} {at u visited v : ℕ} {onward : Maybe ℕ} {f : Result Path NoPath} (c : Tried s at u visited onward v f) where
  is_onward : leads s at u visited v ≡ prepend v (search_on s (at + 1) v (with_bit visited v))
  is_onward = through_on s.graph.parties s.graph.table visited u s.target (here s at) (after s at) v c.off c.on

  pub tried_failed : {e : NoPath} → f ≡ Err e → leads s at u visited v ≡ none
  tried_failed e = is_onward ∙ ap (prepend v) (rw e at c.beyond)

  pub tried_found : {p : Path} → f ≡ Ok p → FoundAs at visited (search_on s at u visited) (Ok (put p at v))
  tried_found {p} e =
      let o : FoundAs (at + 1) (with_bit visited v) (search_on s (at + 1) v (with_bit visited v)) (Ok p) = rw e at c.beyond in
      let q = is_onward ∙ ap (prepend v) o.1.0 in (
        v ∷ o.0,
        (
          c.turn.rest ∙ onwards_hit s.graph.parties s.graph.table visited u s.target (here s at) (after s at) v (v ∷ o.0) c.party q,
          path_onto at visited v o.0 p (put p at v) (omega (arith, c.query.places, s.form.word.short.len)) o.1.1 refl refl,
        ),
      )
