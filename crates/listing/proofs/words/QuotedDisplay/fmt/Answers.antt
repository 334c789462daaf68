use Rattle.std.proofs.Common.{◌++◌, arith}
use Rattle.std.proofs.lemmas.Grind.{common_steps}
use Rattle.listing.specs.Pieces.{gathered}
use Rattle.listing.proofs.words.QuotedDisplay.fmt.Goals as goal
use Rattle.listing.proofs.words.QuotedDisplay.fmt.Goals.{then-has_room, else-has_room+in_ok-write_str-2}

pub loop-byte-preserved : goal.loop-byte-preserved
loop-byte-preserved g c = λ plain.
    let i = c.loop-byte.invariant plain in
    elim c.if-has_room.branch [
      | then-has_room w ↦ (i.0, grind (arith, i.1, w.f-is), grind (arith, common_steps, i.2, w.piece-is))
      | else-has_room+in_ok-write_str-2 w ↦ (i.0 ++ gathered c.loop-byte.piece, grind (arith, common_steps, i.1, w.f-is), grind (arith, common_steps, i.2, w.piece-is))
    ]

pub returns-clause-writes : goal.returns-clause-writes
returns-clause-writes g c = λ plain ok.
    let i = c.loop-byte.invariant plain in
    grind (arith, common_steps, i.1, i.2)
