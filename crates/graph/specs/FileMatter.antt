-- The matter that a house file says, and 01's limits of its numbers.
use Rattle.std.specs.Prelude.{ℕ, ◌≤◌, List}
use Rattle.limits.specs.Limits.{most_parties, most_labels, last_language, longest_word}
use Rattle.rebac.specs.Matter.{Matter}
use Rattle.house_layout.specs.Layout.{parties_of, labels_of, language_of, longest_of}
use Rattle.house_file.specs.Meaning.{is_edge, is_unknown, is_permitted}

-- the matter of an accepted file
unfoldable pub matter_of : List ℕ → Matter
matter_of f = record {
  parties = parties_of f;
  labels = labels_of f;
  language = language_of f;
  longest = longest_of f;
  edge = is_edge f;
  unknown = is_unknown f;
  permit = is_permitted f;
}

-- 01's limits of a file's numbers
pub record Limits (M : Matter) : Type 0 where
  pub parties : (1 ≤ M.parties) × (M.parties ≤ most_parties)
  pub labels : (1 ≤ M.labels) × (M.labels ≤ most_labels)
  pub language : M.language ≤ last_language
  pub longest : (1 ≤ M.longest) × (M.longest ≤ longest_word)
