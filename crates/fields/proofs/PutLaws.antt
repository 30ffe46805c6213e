-- Writing piece after piece is writing the pieces joined. Assumes nothing.
use Rattle.std.proofs.Common.{◌≡◌, sym, ap, ◌∙◌, List, [], ◌∷◌, ◌++◌, append_assoc, ℕ, ◌+◌, ◌-◌, ◌≤◌, ◌<◌}
use Rattle.std.proofs.Common.{arith, add-one, length, take, drop, set, length-append, length-drop, take-append-drop}
use Rattle.std.proofs.Common.{length-take-le, take_at, drop_at, drop-drop, take-take}
use Rattle.std.proofs.Math.Seq.{set_split, take-append-le}
use Rattle.fields.specs.promises.Writing.{put}

-- the part before and the part written, and what is kept behind
put_split : (b : List ℕ) (at : ℕ) (x : List ℕ) → put b at x ≡ (take at b ++ x) ++ drop (at + length x) b
unfolding put
put_split b at x = sym (append_assoc (take at b) x (drop (at + length x) b))

front_length : (b : List ℕ) (at : ℕ) (x : List ℕ) → at ≤ length b → length (take at b ++ x) ≡ at + length x
front_length b at x h = omega (arith, length-append (take at b) x, length-take-le at b h)

pub put_nil : (b : List ℕ) (at : ℕ) → put b at [] ≡ b
unfolding put
put_nil b at = let z : at + 0 ≡ at = omega arith in rw z (take-append-drop at b)

pub put_one : (b : List ℕ) (at v : ℕ) → at < length b → set b at v ≡ put b at (v ∷ [])
unfolding put
put_one b at v h = set_split b at v h ∙ ap (λ (n : ℕ). take at b ++ (v ∷ drop n b)) (sym (add-one at))

-- what stands before, from and behind the piece written at a place of the slice
module _ (b : List ℕ) (at : ℕ) (x : List ℕ) (h : at ≤ length b) where
  put_until : (k : ℕ) → k ≤ at → take k (put b at x) ≡ take k b
  unfolding put
  put_until k l =
      take-append-le k (take at b) (x ++ drop (at + length x) b) (omega (arith, length-take-le at b h)) ∙ take-take k at b (omega arith)

  put_from : drop at (put b at x) ≡ x ++ drop (at + length x) b
  unfolding put
  put_from = drop_at (take at b) (x ++ drop (at + length x) b) at (length-take-le at b h)

  put_front : take (at + length x) (put b at x) ≡ take at b ++ x
  put_front =
      ap (take (at + length x)) (put_split b at x)
      ∙ take_at (take at b ++ x) (drop (at + length x) b) (at + length x) (front_length b at x h)

  put_back : drop (at + length x) (put b at x) ≡ drop (at + length x) b
  put_back =
      ap (drop (at + length x)) (put_split b at x)
      ∙ drop_at (take at b ++ x) (drop (at + length x) b) (at + length x) (front_length b at x h)

  put_behind : (k : ℕ) → at + length x ≤ k → drop k (put b at x) ≡ drop k b
  put_behind k l =
      let end : ℕ = at + length x in
      let n : end + (k - end) ≡ k = omega arith in
      ap (λ (m : ℕ). drop m (put b at x)) (sym n)
      ∙ sym (drop-drop (k - end) end (put b at x))
      ∙ ap (drop (k - end)) put_back
      ∙ drop-drop (k - end) end b
      ∙ ap (λ (m : ℕ). drop m b) n

pub put_length : (b : List ℕ) (at : ℕ) (x : List ℕ) → at + length x ≤ length b → length (put b at x) ≡ length b
put_length b at x h =
    let rest : List ℕ = drop (at + length x) b in
    let f : length (take at b ++ x) ≡ at + length x = front_length b at x (omega arith) in
    ap length (put_split b at x) ∙ omega (arith, length-append (take at b ++ x) rest, f, length-drop (at + length x) b)

-- a piece after another
pub put_put : (b : List ℕ) (at : ℕ) (x y : List ℕ) → at ≤ length b → put (put b at x) (at + length x) y ≡ put b at (x ++ y)
unfolding put
put_put b at x y h =
    let rest : List ℕ = drop (at + length (x ++ y)) b in
    let n : at + length x + length y ≡ at + length (x ++ y) = omega (arith, length-append x y) in
    let r : drop (at + length x + length y) (put b at x) ≡ rest =
    put_behind b at x h (at + length x + length y) (omega arith) ∙ ap (λ (k : ℕ). drop k b) n in
    rw (put_front b at x h, r)
    (append_assoc (take at b) x (y ++ rest) ∙ ap (λ (l : List ℕ). take at b ++ l) (sym (append_assoc x y rest)))

-- a piece written at the start
pub put_first : (b x : List ℕ) → put b 0 x ≡ x ++ drop (length x) b
unfolding put
put_first b x = let z : 0 + length x ≡ length x = omega arith in rw z

-- one byte after a piece
pub put_more : (b : List ℕ) (at : ℕ) (x : List ℕ) (v : ℕ) → at + length x < length b
    → set (put b at x) (at + length x) v ≡ put b at (x ++ (v ∷ []))
put_more b at x v h =
    let l : at + length x < length (put b at x) = omega (arith, put_length b at x (omega arith)) in
    put_one (put b at x) (at + length x) v l ∙ put_put b at x (v ∷ []) (omega arith)

-- two and three bytes one after another
pub put_two : (b : List ℕ) (at u v : ℕ) → at + 1 < length b → set (set b at u) (at + 1) v ≡ put b at (u ∷ v ∷ [])
put_two b at u v h = ap (λ (l : List ℕ). set l (at + 1) v) (put_one b at u (omega arith)) ∙ put_more b at (u ∷ []) v h

pub put_three : (b : List ℕ) (at u v w : ℕ) → at + 2 < length b → set (set (set b at u) (at + 1) v) (at + 2) w ≡ put b at (u ∷ v ∷ w ∷ [])
put_three b at u v w h = ap (λ (l : List ℕ). set l (at + 2) w) (put_two b at u v (omega arith)) ∙ put_more b at (u ∷ v ∷ []) w h

-- what was written keeps the length
pub put_kept : (b out : List ℕ) (at : ℕ) (x : List ℕ) → out ≡ put b at x → at + length x ≤ length b → length out ≡ length b
put_kept b out at x o h = ap length o ∙ put_length b at x h

-- bytes after a piece
module _ (b : List ℕ) (at : ℕ) (x out : List ℕ) (end : ℕ) (o : out ≡ put b at x) (e : end ≡ at + length x) where
  pub then_put : (y : List ℕ) → at ≤ length b → put out end y ≡ put b at (x ++ y)
  then_put y h = rw (o, e) (put_put b at x y h)

  pub then_one : (v : ℕ) → end < length b → set out end v ≡ put b at (x ++ (v ∷ []))
  then_one v h = rw (o, e) (put_more b at x v (omega arith))

  pub then_three : (u v w : ℕ) → end + 2 < length b → set (set (set out end u) (end + 1) v) (end + 2) w ≡ put b at (x ++ (u ∷ v ∷ w ∷ []))
  then_three u v w h =
      let l : end + 2 < length out = omega (arith, ap length o, put_length b at x (omega arith)) in
      put_three out end u v w l ∙ rw (o, e) (put_put b at x (u ∷ v ∷ w ∷ []) (omega arith))

-- a piece written before what stands after it already: a count after its words
pub put_before : (b : List ℕ) (at : ℕ) (x y : List ℕ) → at + length x + length y ≤ length b
    → put (put b (at + length x) y) at x ≡ put b at (x ++ y)
unfolding put
put_before b at x y h =
    let end : ℕ = at + length x in
    let n : end + length y ≡ at + length (x ++ y) = omega (arith, length-append x y) in
    let t : take at (put b end y) ≡ take at b = put_until b end y (omega arith) at (omega arith) in
    let d : drop end (put b end y) ≡ y ++ drop (at + length (x ++ y)) b =
    put_from b end y (omega arith) ∙ ap (λ (k : ℕ). y ++ drop k b) n in
    rw (t, d) (ap (λ (l : List ℕ). take at b ++ l) (sym (append_assoc x y (drop (at + length (x ++ y)) b))))

-- a piece written over a shorter one leaves nothing of it
pub put_over : (b : List ℕ) (at : ℕ) (x y : List ℕ) → at ≤ length b → length x ≤ length y → put (put b at x) at y ≡ put b at y
unfolding put
put_over b at x y h k = rw (put_until b at x h at (omega arith), put_behind b at x h (at + length y) (omega arith))

-- what follows a count is kept where the count is written anew
pub put_recount : (b : List ℕ) (at : ℕ) (x z y : List ℕ) → length x ≡ length z
    → at + length x + length y ≤ length b → put (put b at (x ++ y)) at z ≡ put b at (z ++ y)
put_recount b at x z y e h =
    let p : put b at (x ++ y) ≡ put (put b at x) (at + length z) y =
    sym (put_put b at x y (omega arith)) ∙ ap (λ (k : ℕ). put (put b at x) (at + k) y) e in
    ap (λ (l : List ℕ). put l at z) p
    ∙ put_before (put b at x) at z y (omega (arith, put_length b at x (omega arith)))
    ∙ put_over b at x (z ++ y) (omega arith) (omega (arith, length-append z y))
