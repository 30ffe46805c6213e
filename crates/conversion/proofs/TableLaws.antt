-- The bytes of a row of masks one after another, and which they are for the marks of a list.
use Rattle.std.proofs.Common.{◌≡◌, refl, sym, ap, ◌∙◌, Bool, true, false, List, [], ◌∷◌, ◌++◌, map, ℕ, zero, suc, ◌+◌, ◌/◌, ◌%◌, ◌<◌, arith}
use Rattle.std.proofs.Common.{length, drop, set, replicate}
use Rattle.std.specs.Int.{from_bool}
use Rattle.lists.specs.Lists.{range, up_from}
use Rattle.lists.proofs.OrderLaws.{length_map}
use Rattle.lists.proofs.Pointwise.{up_append, map_same, map_append}
use Rattle.masks.specs.promises.Mask.{test_bit}
use Rattle.masks.specs.promises.Table.{mask_in}
use Rattle.masks.specs.declared.Row.{Row}
use Rattle.masks.proofs.MaskLaws.{zero_bit}
use Rattle.fields.specs.promises.Writing.{put}
use Rattle.fields.proofs.PutLaws.{put_more, put_first}
use Rattle.conversion.specs.Calls.{one_if, clear_table}
use Rattle.conversion.specs.promises.Passes.{row_bytes}
use Rattle.lists.proofs.ListLaws.{up_length}

-- the byte of number k
abbrev pub byte_at : Row → ℕ → ℕ
byte_at r k = one_if (test_bit (mask_in r (k / 32)) (k % 32))

-- the first k bytes
unfoldable pub bytes_to : Row → ℕ → List ℕ
bytes_to r k = map (byte_at r) (range k)

pub bytes_length : (r : Row) (k : ℕ) → length (bytes_to r k) ≡ k
unfolding bytes_to range
bytes_length r k = length_map (byte_at r) (up_from 0 k) ∙ up_length 0 k

bytes_more : (r : Row) (k : ℕ) → bytes_to r (k + 1) ≡ bytes_to r k ++ (byte_at r k ∷ [])
unfolding bytes_to range up_from
bytes_more r k =
    let z : 0 + k ≡ k = omega arith in
    ap (map (byte_at r)) (up_append 0 k 1)
    ∙ map_append (byte_at r) (up_from 0 k) (up_from (0 + k) 1)
    ∙ ap (λ (i : ℕ). map (byte_at r) (up_from 0 k) ++ (byte_at r i ∷ [])) z

pub bit_byte : (b : Bool) → from_bool b ≡ one_if b
bit_byte true = refl
bit_byte false = refl

pub table_start : (b : List ℕ) (r : Row) → b ≡ put b 0 (bytes_to r 0)
unfolding bytes_to range up_from put
table_start b r = refl

pub table_more : (b out : List ℕ) (r : Row) (k v : ℕ) → k < length b → out ≡ put b 0 (bytes_to r k) → v ≡ byte_at r k
    → set out k v ≡ put b 0 (bytes_to r (k + 1))
table_more b out r k v h e q =
    let n = bytes_length r k in
    ap (λ (l : List ℕ). set l k v) e
    ∙ ap (λ (i : ℕ). set (put b 0 (bytes_to r k)) i v) (omega (arith, n))
    ∙ put_more b 0 (bytes_to r k) v (omega (arith, n, h))
    ∙ ap (λ (i : ℕ). put b 0 (bytes_to r k ++ (i ∷ []))) q
    ∙ ap (put b 0) (sym (bytes_more r k))

pub table_end : (b out : List ℕ) (r : Row) (k : ℕ) → k ≡ 1024 → out ≡ put b 0 (bytes_to r k) → out ≡ row_bytes r ++ drop 1024 b
unfolding bytes_to row_bytes
table_end b out r k end e = rw end at e ∙ put_first b (bytes_to r 1024) ∙ ap (λ (i : ℕ). bytes_to r 1024 ++ drop i b) (bytes_length r 1024)

-- a row of no marks is 1,024 bytes 0
zeros_of : (r : Row) → ((v : ℕ) → mask_in r v ≡ 0) → (a k : ℕ) → map (byte_at r) (up_from a k) ≡ replicate k 0
unfolding up_from
zeros_of r h a zero = refl
zeros_of r h a (suc k) = let e : byte_at r a ≡ 0 = rw (h (a / 32), zero_bit (a % 32)) refl in rw (e, zeros_of r h (suc a) k) refl

pub clear_bytes : (r : Row) → ((v : ℕ) → mask_in r v ≡ 0) → row_bytes r ≡ clear_table
unfolding row_bytes clear_table range
clear_bytes r h = zeros_of r h 0 1024

-- the bytes of marks, by what they are marks of
pub marks_bytes : (r : Row) (f : ℕ → Bool) → ((k : ℕ) → test_bit (mask_in r (k / 32)) (k % 32) ≡ f k)
    → row_bytes r ≡ map (λ k. one_if (f k)) (range 1024)
unfolding row_bytes
marks_bytes r f h = map_same (byte_at r) (λ k. one_if (f k)) (range 1024) (λ k m. ap one_if (h k))

-- by these, goals of `put_table` are found
pub ruleset table_laws = (table_start, table_more, bit_byte)
