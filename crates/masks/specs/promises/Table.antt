-- Rows of masks: a mask for each ordered pair of parties.
use Rattle.std.specs.Prelude.{ℕ, [], get_or}
use Rattle.masks.specs.declared.Row.{Row}
use Rattle.masks.specs.declared.Table.{Table}

abbrev pub no_row : Row
no_row = record { masks = [] }

-- the mask of party v in a row; 0 past its end
abbrev pub mask_in : Row → ℕ → ℕ
mask_in r v = get_or r.masks v 0

-- the mask of the pair (u, v); 0 outside the table
abbrev pub mask_at : Table → ℕ → ℕ → ℕ
mask_at t u v = mask_in (get_or t.rows u no_row) v
