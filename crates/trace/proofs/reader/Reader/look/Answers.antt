use Rattle.trace.proofs.Tiling.{placed}
use Rattle.trace.proofs.reader.Reader.look.Goals as goal

pub returns-in-Ok-clause-reads : goal.returns-in-Ok-clause-reads
returns-in-Ok-clause-reads c = placed _ _ _ c.args.self.now.within c.in-Ok.ensures.0 c.in-Ok.ensures.1
