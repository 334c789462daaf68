-- What is gathered of a note's text.
use Rattle.std.specs.Prelude.{ℕ, ◌+◌, ◌≤◌, List, take}
use Rattle.listing.specs.declared.pieces.Piece.{Piece}

-- the text of a piece
abbrev pub gathered : Piece → List ℕ
gathered p = take p.len p.bytes

-- the text of any byte still fits
abbrev pub HasRoom : Piece → Type 0
HasRoom p = p.len + 4 ≤ 64
