-- A record's size and owner by its edition, and that each record stands within the file's length: by the two editions. Assumes nothing.
use Rattle.std.proofs.Common.{◌≡◌, List, ◌⊎◌, inl, inr, ⊎_elim, ℕ, ◌+◌, ◌*◌, ◌/◌, ◌%◌, ◌-◌, ◌≤◌, ◌<◌, arith, eqb, length, Some, None}
use Rattle.lists.proofs.Cases.{by_test}
use Rattle.house_layout.specs.promises.Places.{RecordThere}
use Rattle.house_layout.specs.declared.header.Header.{Header}
use Rattle.house_layout.specs.Layout.{edition_of, records_of, record_size, owner_in, size_of, place_of}

size_cases : (e : ℕ) → (record_size e ≡ 4) ⊎ (record_size e ≡ 5)
unfolding record_size
size_cases e = by_test (eqb e 1) (λ q. inl (rw q)) (λ q. inr (rw q))

pub size_most : (e r : ℕ) → record_size e * r ≤ 5 * r
size_most e r = ⊎_elim (λ q. rw q (omega arith)) (λ q. rw q (omega arith)) (size_cases e)

pub size_least : (e : ℕ) → 4 ≤ record_size e
size_least e = ⊎_elim (λ q. rw q (omega arith)) (λ q. rw q (omega arith)) (size_cases e)

pub record_inside : (f : List ℕ) (r : ℕ) → 1 ≤ r → r ≤ records_of f → place_of f r + record_size (edition_of f) ≤ size_of f
record_inside f r a b = ⊎_elim (λ q. rw q (omega arith)) (λ q. rw q (omega arith)) (size_cases (edition_of f))

-- a record ends within a file that has it
pub record_ends : (f : List ℕ) (h : Header) (r s : ℕ) → RecordThere f h r → s ≡ record_size h.edition
    → 8 + 2 * h.parties + s * (r - 1) + s ≤ length f
record_ends f h r s p e = rw e (rw (p.numbers, p.size) (record_inside _ _ p.first p.last))

-- what `read_record` rests on
pub ruleset record_laws = (record_ends, size_least)

-- a place among so many records is a record's and one within it
pub piece_of : (e r i : ℕ) → i < record_size e * r → (q : ℕ) × ((j : ℕ) × ((q < r) × ((j < record_size e) × (record_size e * q + j ≡ i))))
piece_of e r i h =
    ⊎_elim
    (λ s. rw s (i / 4, (i % 4, (omega (arith, rw s at h), (omega arith, omega arith)))))
    (λ s. rw s (i / 5, (i % 5, (omega (arith, rw s at h), (omega arith, omega arith)))))
    (size_cases e)

-- equal owners were written as one byte, where there is one
pub owner_apart : (e u v : ℕ) → 4 < record_size e → owner_in e u ≡ owner_in e v → u ≡ v
unfolding record_size owner_in
owner_apart e u v s h =
    by_test (eqb e 1)
    (λ q. let n : 4 < 4 = rw q at s in absurd (omega arith))
    (λ q. let n : Some u ≡ Some v = rw q at h in cc)

-- an owner that is named is the one written
pub owner_named : (e u p : ℕ) → owner_in e u ≡ Some p → p ≡ u
unfolding owner_in
owner_named e u p h =
    by_test (eqb e 1)
    (λ q. let n : None ≡ Some p = rw q at h in cc)
    (λ q. let n : Some u ≡ Some p = rw q at h in cc)
