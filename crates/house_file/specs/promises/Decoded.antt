-- What a decoded file holds: the header's numbers, the kinds recorded for each pair, and the permit table.
use Rattle.std.specs.Prelude.{ℕ, ◌≡◌, true, List, Result, Ok, Err}
use Rattle.masks.specs.promises.Mask.{test_bit}
use Rattle.masks.specs.promises.Table.{mask_in, mask_at}
use Rattle.house_layout.specs.Layout.{header_of, labels_of}
use Rattle.house_layout.specs.Fields.{legal_kind}
use Rattle.house_layout.specs.promises.Kinds.{bit_of}
use Rattle.house_file.specs.Check.{check_of}
use Rattle.house_file.specs.Meaning.{recorded, is_permitted}
use Rattle.house_file.specs.declared.decode.House.{House}
use Rattle.house_layout.specs.declared.reply.Refusal.{Refusal}

pub record Decoded (f : List ℕ) (h : House) : Type 0 where
  pub header : h.header ≡ header_of f
  pub kinds : (u v k : ℕ) → legal_kind (labels_of f) k ≡ true → test_bit (mask_at h.kinds u v) (bit_of k) ≡ recorded f u v k
  pub permits : (u v : ℕ) → test_bit (mask_in h.permits u) v ≡ is_permitted f u v

-- what reading any bytes gives: the house where the check accepts, otherwise its refusal
abbrev pub ReadAs : List ℕ → Result House Refusal → Type 0
ReadAs f (Ok h) = (check_of f ≡ Ok tt) × Decoded f h
ReadAs f (Err x) = check_of f ≡ Err x
