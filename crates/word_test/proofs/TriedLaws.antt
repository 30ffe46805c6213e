-- A candidate that is tried: a mask has the candidates beyond it, and the loop goes on with what was found there. Assumes nothing.
use Rattle.std.proofs.Common.{◌≡◌, ℕ, ◌+◌, ◌-◌, ◌^◌, ◌<◌, ◌≤◌, max, Bool, true, ◌&&◌, ltb, get_or, sym, ◌∙◌, subst, arith}
use Rattle.std.proofs.Common.{Option, IfSome}
use Rattle.masks.specs.promises.Mask.{test_bit, with_bit}
use Rattle.word_test.specs.promises.Backward.{may_stand, CandidateQuery, FoundBack, Seconds}
use Rattle.word_test.specs.promises.Last.{LastThree}
use Rattle.word_test.specs.promises.Steps.{StepsTo}
use Rattle.word_test.specs.promises.Walk.{Look}
use Rattle.word_test.specs.declared.back.Back.{Back}
use Rattle.word_test.specs.declared.back.Position.{Position}
use Rattle.word_test.specs.declared.back.SearchBack.{SearchBack}
use Rattle.word_test.proofs.BackLaws.{Turn, seconds_deeper, three_at, no_candidate, tried_on, tried_skips, tried_full}
use Rattle.word_test.proofs.StepLaws.{stands_to}

abbrev pub passing : Position → ℕ → ℕ
passing p v = with_bit p.visited v

-- a candidate of the mask, and in the mask `next` those that may stand before it, where `more` are the parties visited with it
pub record Trying (s : SearchBack) (p : Position) (onward : Option ℕ) (count depth v more next : ℕ) : Type 0 where
  pub query : CandidateQuery s p
  pub turn : Turn s p onward count depth v
  pub party : v < s.graph.parties
  pub on : test_bit p.mask v ≡ true
  pub visited : more ≡ passing p v
  pub fits : more < 2 ^ 32
  pub steps : StepsTo s.graph.parties s.graph.table (get_or s.word.word.symbols (p.at - 1) 0) v (4294967295 - more) next

pub trying : {s : SearchBack} {p : Position} {onward : Option ℕ} {count depth v more next symbol : ℕ} {has : Bool} → CandidateQuery s p
    → Turn s p onward count depth v → v < s.graph.parties → has ≡ test_bit p.mask v → has ≡ true → more ≡ passing p v → more < 2 ^ 32
    → symbol ≡ get_or s.word.word.symbols (p.at - 1) 0 → StepsTo s.graph.parties s.graph.table symbol v (4294967295 - more) next
    → Trying s p onward count depth v more next
trying q turn l h on m fits e f = record {
  query = q;
  turn = turn;
  party = l;
  on = sym h ∙ on;
  visited = m;
  fits = fits;
  steps = rw e at f;
}

module _ {s : SearchBack} {p : Position} {onward : Option ℕ} {count depth v more next : ℕ}
    (k : Trying s p onward count depth v more next) where
  -- what was gathered, with the depth so far
  beyond : Seconds s.graph.parties s.graph.table s.word.word s.starts depth s.seconds
  beyond = seconds_deeper k.query.seconds k.turn.sums.known

  -- the mask has the candidates
  abbrev Stand : ℕ → Type 0
  Stand visited =
      (y : ℕ) → test_bit next y ≡ (ltb y s.graph.parties && may_stand s.graph.table s.word.word visited v (p.at - 1) y)

  stand : Stand more
  stand = stands_to s.graph.parties s.graph.table s.word.word more v (p.at - 1) next s.graph.within k.fits k.steps

  stand_passing : Stand (passing p v)
  stand_passing = subst Stand k.visited stand

  -- a search from it on may begin
  pub query_on : (p.at ≡ 3 → ⊥)
      → CandidateQuery s (record { cap = p.cap - count; at = p.at - 1; u = v; mask = next; visited = more; deep = depth })
  query_on d = record {
    some = omega (arith, k.turn.sums.below);
    three = omega (arith, d, k.query.three);
    place = omega (arith, k.query.place);
    candidates = stand;
    seconds = beyond;
  }

  -- what was found beyond it: by the last three steps, by a search, or where it has no candidate
  abbrev pub Beyond : ℕ → Back → Type 0
  Beyond visited = FoundBack s (p.cap - count) (p.at - 1) v visited depth

  abbrev Three : Back → ℕ → Type 0
  Three r visited = LastThree next s.seconds visited s.starts (p.cap - count) s.graph.parties s.word.word.len depth r

  pub by_three : p.at ≡ 3 → {f r : Back} → f ≡ r → Three r more → Beyond (passing p v) f
  by_three e {r = r} q g =
      rw q
      (three_at s v (passing p v) beyond (omega (arith, k.query.place)) (omega (arith, e)) next stand_passing
      (subst (Three r) k.visited g))

  pub by_party : {f r : Back} → f ≡ r → Beyond more r → Beyond (passing p v) f
  by_party {r = r} q h = rw q (subst (λ (m : ℕ). Beyond m r) k.visited h)

  pub by_none : next ≡ 0 → {f r : Back} → f ≡ r → r.count ≡ 0 → r.depth ≡ max depth (s.word.word.len - (p.at - 1 + 1))
      → Beyond (passing p v) f
  by_none z q none d =
      rw q
      (no_candidate s.graph.parties s.graph.table s.word.word s.starts (passing p v) v (p.at - 1) (omega (arith, k.query.three)) next
      stand_passing z (s.word.word.len - (p.at - 1 + 1)) none d)

  -- after it the search goes on, with a mask of those that have to be tried, or there are ways enough
  module _ {f : Back} (h : Beyond (passing p v) f) where
    pub goes_on : count + f.count < p.cap → (onward' : Option ℕ)
        → IfSome onward' (Look s.graph.parties s.graph.table s.word.word p.at p.visited s.starts f.depth)
        → Turn s p onward' (count + f.count) f.depth (v + 1)
    goes_on = tried_on k.query k.turn k.party k.on h

    pub still : IfSome onward (Look s.graph.parties s.graph.table s.word.word p.at p.visited s.starts f.depth)
    still = tried_skips k.query k.turn k.party k.on h

    pub enough : p.cap ≤ count + f.count → (entered : ℕ)
        → FoundBack s p.cap p.at p.u p.visited p.deep (record { count = count + f.count; depth = depth; tried = entered })
    enough = tried_full k.query k.turn k.party k.on h
