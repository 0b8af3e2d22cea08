use borrow.Author.Rules.{rules}
use Rattle.w83782d_events.proofs.Looks.{look_claims}
use Rattle.w83782d.proofs.Wrappers.{looks}
use Rattle.w83782d.proofs.Monitor.look.Goals as goal

pub returns : goal.returns
returns c = record { equation = search (rules, looks); claims = look_claims }
