use Rattle.std.proofs.Common.{take, arith}
use Rattle.std.proofs.lemmas.Str.{IsUtf8-from_ascii, IsAscii-take}
use Rattle.listing.proofs.pieces.Piece.as_str.Goals as goal

pub returns : goal.returns
returns c =
    let p = c.args.self.now in
    let valid = IsUtf8-from_ascii (take p.len p.bytes) (IsAscii-take p.bytes p.len p.ascii) in
    grind (arith, valid)
