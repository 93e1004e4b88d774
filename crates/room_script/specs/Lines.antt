-- Texts cut into lines, lines cut into parts, and where they stand.
use Rattle.std.specs.Prelude.{◌≡◌, ℕ, ◌+◌, ◌≤◌, ◌==◌, Bool, List, [], ◌∷◌, length, map, slice_range, All, if◌then◌else◌}
use Rattle.std.specs.List.{slice_split}
use Rattle.room_script.specs.declared.pieces.Piece.{Piece}

-- the byte between lines
abbrev pub is_newline : ℕ → Bool
is_newline byte = byte == 10

-- the byte between parts
abbrev pub is_space : ℕ → Bool
is_space byte = byte == 32

-- the parts, without an empty one at the end
abbrev pub without_empty_end : List (List ℕ) → List (List ℕ)
without_empty_end [] = []
without_empty_end (part ∷ []) = if length part == 0 then [] else part ∷ []
without_empty_end (part ∷ next ∷ more) = part ∷ without_empty_end (next ∷ more)

-- the lines of a text: it is cut at each newline; a newline that ends the text begins no further line,
-- and a text without bytes has none. An empty line before the last newline is a line.
abbrev pub lines_of : List ℕ → List (List ℕ)
lines_of text = without_empty_end (slice_split is_newline text)

-- the parts of a line: it is cut at each space
abbrev pub parts_of : List ℕ → List (List ℕ)
parts_of line = slice_split is_space line

-- the bytes of a text at a piece
abbrev pub bytes_at : List ℕ → Piece → List ℕ
bytes_at text piece = slice_range text piece.from piece.to

-- the piece is a range of the text
pub record IsRange (text : List ℕ) (piece : Piece) : Type 0 where
  pub ordered : piece.from ≤ piece.to
  pub within : piece.to ≤ length text

-- where these parts stand from a place on, with one byte between each and the next
abbrev pub places_of : ℕ → List (List ℕ) → List Piece
places_of at [] = []
places_of at (part ∷ more) =
    record { from = at; to = at + length part } ∷ places_of (at + length part + 1) more

-- these parts of a text stand at these pieces, one after another from a place on
pub record StandAt (text : List ℕ) (start : ℕ) (parts : List (List ℕ)) (pieces : List Piece) : Type 0 where
  pub bytes : map (bytes_at text) pieces ≡ parts
  pub places : pieces ≡ places_of start parts
  pub within : All (IsRange text) pieces
