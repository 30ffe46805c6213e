-- Words of two graphs that hold alike at each place are had by the same pairs: by induction on the words. And each symbol of a word
-- that some pair has holds for some parties.
use Rattle.std.proofs.Common.{◌≡◌, refl, sym, ap, ◌∙◌, Bool, true, not, ◌&&◌, List, [], ◌∷◌, ℕ, suc, ◌<◌, length}
use mathlib.Core.List.Memᴰ
use mathlib.Core.List.{Memᴰ}
use Rattle.lists.specs.Lists.{any_of, member, range}
use Rattle.lists.proofs.Cases.{by_mem, and_left}
use Rattle.lists.proofs.ListLaws.{any_same, range_out}
use Rattle.rebac.specs.Matter.{Pair}
use Rattle.rebac.specs.Paths.{Graph, Walk, has}
use Rattle.rebac.specs.promises.Telling.{tells}
use Rattle.rebac.proofs.Reach.{reach, has_reach, has_walk}

module _ {S T : Type 0} (g : Graph S) (h : Graph T) where
  -- at each place the two symbols hold for the same parties
  abbrev pub HoldAlike : List S → List T → Type 0
  HoldAlike [] [] = Unit {0}
  HoldAlike [] (r ∷ v) = ⊥
  HoldAlike (s ∷ w) [] = ⊥
  HoldAlike (s ∷ w) (r ∷ v) = ((x y : ℕ) → x < g.parties → y < g.parties → g.edge x y s ≡ h.edge x y r) × HoldAlike w v

  pub alike_length : (w : List S) (v : List T) → HoldAlike w v → length w ≡ length v
  alike_length [] [] k = refl
  alike_length [] (r ∷ v) k = absurd k
  alike_length (s ∷ w) [] k = absurd k
  alike_length (s ∷ w) (r ∷ v) k = ap suc (alike_length w v k.1)

  module _ (same : g.parties ≡ h.parties) where
    reach_alike : (w : List S) (v : List T) → HoldAlike w v
        → (seen : List ℕ) (a b : ℕ) → a < g.parties → reach g seen a b w ≡ reach h seen a b v
    unfolding reach
    reach_alike [] [] k seen a b l = refl
    reach_alike [] (r ∷ v) k seen a b l = absurd k
    reach_alike (s ∷ w) [] k seen a b l = absurd k
    reach_alike (s ∷ w) (r ∷ v) k seen a b l =
        let onward : ℕ → Bool = λ c. not (member c seen) && (h.edge a c r && reach h (c ∷ seen) c b v) in
        any_same _ onward (range g.parties)
        (λ c m.
        let i = range_out g.parties m in
        rw (k.0 a c l i, reach_alike w v k.1 (c ∷ seen) c b i))
        ∙ ap (λ n. any_of onward (range n)) same

    pub has_alike : (p : Pair) → p.first < g.parties → (w : List S) (v : List T) → HoldAlike w v → has g p w ≡ has h p v
    has_alike p l w v k =
        has_reach g p w ∙ reach_alike w v k (p.first ∷ []) p.first p.second l ∙ sym (has_reach h p v)

module _ (g h : Graph ℕ) (same : g.parties ≡ h.parties) where
  -- so they tell the same pairs from one another
  pub tells_alike : (p q : Pair) → p.first < g.parties → q.first < g.parties
      → (w v : List ℕ) → HoldAlike g h w v → tells g p q w ≡ tells h p q v
  unfolding tells
  tells_alike p q l m w v k = rw (has_alike g h same p l w v k, has_alike g h same q m w v k)

module _ {S : Type 0} (g : Graph S) where
  -- the symbol holds for some parties
  pub record InUse (s : S) : Type 0 where
    pub from : ℕ
    pub to : ℕ
    pub start : from < g.parties
    pub end : to < g.parties
    pub holds : g.edge from to s ≡ true

  walk_in_use : (a b : ℕ) (via : List ℕ) (w : List S) → a < g.parties → Walk g a via w b → (s : S) → Memᴰ s w → InUse s
  walk_in_use a b [] [] l k s m = absurd (Memᴰ.not-nil m)
  walk_in_use a b [] (r ∷ w) l k s m = absurd k
  walk_in_use a b (c ∷ via) [] l k s m = absurd k
  walk_in_use a b (c ∷ via) (r ∷ w) l k s m =
      by_mem m
      (λ e. rw e (record { from = a; to = c; start = l; end = k.0; holds = k.1 }))
      (λ n. walk_in_use c b via w k.0 k.2 s n)

  pub has_in_use : (p : Pair) → p.first < g.parties → (w : List S) → has g p w ≡ true → (s : S) → Memᴰ s w → InUse s
  has_in_use p l w e = let r = has_walk g p w e in walk_in_use p.first p.second r.0 w l r.1.walk

-- a word that tells a pair from another is had by it
pub tells_has : (g : Graph ℕ) (p q : Pair) (w : List ℕ) → tells g p q w ≡ true → has g p w ≡ true
unfolding tells
tells_has g p q w e = and_left (has g p w) _ e
