-- What an accepted file's records say of their owner: the chain's party, by the byte that the edition has or has not. Assumes nothing.
use Rattle.std.proofs.Common.{◌≡◌, ap, List, Ok, Some, ℕ, ◌+◌, ◌<◌, eqb}
use mathlib.Core.List.{Memᴰ}
use Rattle.lists.proofs.Cases.{by_test}
use Rattle.fields.specs.Numbers.{byte_at}
use Rattle.house_layout.specs.Layout.{edition_of, parties_of, place_of, record_of, owner_in}
use Rattle.house_file.specs.Check.{check_of}
use Rattle.house_file.specs.Meaning.{chain_of}
use Rattle.house_file.proofs.LinkedLaws.{records_right}
use Rattle.house_file.proofs.WellFormedLaws.{accepted_iff_well_formed}

module _ (f : List ℕ) (a : check_of f ≡ Ok tt) (u r : ℕ) (l : u < parties_of f) (m : Memᴰ r (chain_of f u)) where
  -- an owner byte names u
  named : (p : ℕ) → (record_of f r).owner ≡ Some p → p ≡ u
  named = (records_right f ((accepted_iff_well_formed f).0 a)).owner u r l m

  -- the owner that a record of u's chain says, in either edition
  pub owner_said : (record_of f r).owner ≡ owner_in (edition_of f) u
  unfolding record_of owner_in
  owner_said =
      by_test (eqb (edition_of f) 1) (λ q. rw q) (λ q. rw q (ap Some (named (byte_at f (place_of f r + 4)) (rw q))))

  -- in edition 2 a record of u's chain has owner u
  pub owner_byte : edition_of f ≡ 2 → byte_at f (place_of f r + 4) ≡ u
  unfolding record_of owner_in
  owner_byte e = named (byte_at f (place_of f r + 4)) (rw e)
