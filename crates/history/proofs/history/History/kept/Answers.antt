use Rattle.std.proofs.Common.{◌≡◌, sym, subst, rules}
use Rattle.history.specs.Order.{Precedes}
use Rattle.history.specs.Recorded.{log}
use Rattle.history.specs.Table.{row}
use Rattle.history.proofs.Tables.{kept_exact}
use Rattle.history.proofs.history.History.kept.Goals as goal

pub returns-clause-exact : goal.returns-clause-exact
returns-clause-exact c =
    let h = c.args.self.now in
    let bits : c.unwrap_or_default.result.bits ≡ row h.before c.args.y = search rules in
    subst (Precedes (log h) c.args.y) (sym bits) (kept_exact (log h) h.before h.ascending h.keeps h.only c.args.y)
