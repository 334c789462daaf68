use Rattle.std.proofs.Common.{ℕ, List, ◌≡◌, ◌∷◌, ◌++◌, take}
use Rattle.std.specs.Fmt.{HasWritten, IsPlainFormatter}
use Rattle.std.specs.List.{flat_map}
use Rattle.listing.specs.Pieces.{gathered}
use Rattle.listing.specs.Words.{escaped}
use Rattle.listing.proofs.words.QuotedDisplay.fmt.Given as goal

-- the quotation mark and some of the text of the bytes so far are written, and the rest of that text is gathered
abbrev pub invariant-loop-byte : goal.invariant-loop-byte
invariant-loop-byte g l =
    IsPlainFormatter l.fn.f → (w : List ℕ) × HasWritten g.W.Write.write_str_gives l.fn.f (34 ∷ w) l.f × (w ++ gathered l.piece ≡ flat_map escaped (take l.byte-index l.byte-items))
