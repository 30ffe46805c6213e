-- The search over the enlarged graph as masks, from the first party on: the first symbols of a word are fixed, each later one is a floor.
use Rattle.std.specs.Prelude.{◌≡◌, ℕ, zero, suc, ◌+◌, ◌-◌, ◌/◌, ◌^◌, ◌<◌, Bool}
use Rattle.std.specs.Prelude.{true, false, not, List, [], ◌∷◌, length, drop, ◌==◌, nat_lt, slice_index, Result, MatchResult}
use Rattle.std.proofs.Math.Option.{Option, none, some}
use Rattle.limits.specs.Limits.{most_parties}
use Rattle.masks.specs.promises.Mask.{test_bit, with_bit}
use Rattle.masks.specs.promises.Table.{mask_at}
use Rattle.masks.specs.declared.Table.{Table}
use Rattle.rebac.specs.Paths.{Graph}
use Rattle.rebac.specs.promises.Forms.{Place, exactly, from}
use Rattle.rebac.specs.promises.Marked.{least_marked}
use Rattle.search.specs.Word.{symbols_in}
use Rattle.search.specs.declared.word.Word.{Word}
use Rattle.search.specs.declared.path.NoPath.{NoPath}
use Rattle.search.specs.declared.path.Path.{Path}

-- some symbol of the mask may stand at the place: tested by shift
abbrev pub place_on : Place → ℕ → Bool
place_on (exactly s) mask = test_bit mask s
place_on (from f) mask = not (mask / 2 ^ f == 0)

-- the place `at` of a form: a symbol below `fixed` is fixed, a later one a floor
abbrev pub pick_place : Bool → ℕ → Place
pick_place true s = exactly s
pick_place false s = from s

abbrev pub place_at : Word → ℕ → ℕ → Place
place_at w fixed at = pick_place (nat_lt at fixed) (slice_index w.symbols at)

-- the graph of a table of masks, its edges labelled by places
abbrev pub mask_graph : ℕ → Table → Graph Place
mask_graph n t = record { parties = n; edge = λ u v x. place_on x (mask_at t u v) }

-- the first symbols fixed, each later one a floor
unfoldable pub form_of : ℕ → List ℕ → List Place
form_of fixed [] = []
form_of zero (s ∷ w) = from s ∷ form_of zero w
form_of (suc fixed) (s ∷ w) = exactly s ∷ form_of fixed w

-- the parties after u of the least path onward to the target, past no visited party
unfoldable pub search_from : ℕ → Table → ℕ → ℕ → ℕ → List Place → Option (List ℕ)
search_from n t visited u target xs = least_marked (mask_graph n t) (λ c v. test_bit v c) (λ c v. with_bit v c) visited u target xs

-- the places from `at` on
abbrev pub places_from : Word → ℕ → ℕ → List Place
places_from w fixed at = form_of (fixed - at) (drop at (symbols_in w))

-- the mask with these parties visited too
unfoldable pub visit_all : ℕ → List ℕ → ℕ
visit_all visited [] = visited
visit_all visited (c ∷ l) = visit_all (with_bit visited c) l

-- the parties `l`, passed after those of the mask before, are visited, and written from place at + 1 on
pub record PathAs (at before : ℕ) (l : List ℕ) (p : Path) : Type 0 where
  pub visited : p.visited ≡ visit_all before l
  pub full : length p.parties ≡ most_parties
  pub parties : (i : ℕ) → i < length l → slice_index p.parties (at + suc i) ≡ slice_index l i

-- what a search from place `at` found, where a definition gives `o`
abbrev pub FoundAs : ℕ → ℕ → Option (List ℕ) → Result Path NoPath → Type 0
FoundAs at visited o r = MatchResult r (λ p. (l : List ℕ) × ((o ≡ some l) × PathAs at visited l p)) (λ _. o ≡ none)
