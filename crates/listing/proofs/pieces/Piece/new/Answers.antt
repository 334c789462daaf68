use Rattle.std.proofs.Common.{◌<◌, replicate, lit<}
use Rattle.std.proofs.lemmas.List.Elements.{All-replicate}
use Rattle.std.proofs.lemmas.Str.Ascii.{IsAscii-from_all}
use Rattle.listing.proofs.pieces.Piece.new.Goals as goal

pub invariant_of-result-clause-ascii : goal.invariant_of-result-clause-ascii
invariant_of-result-clause-ascii c = IsAscii-from_all (replicate 64 0) (All-replicate (λ b. b < 128) 64 0 (lit< tt))
