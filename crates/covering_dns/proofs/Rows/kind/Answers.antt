use Rattle.covering_dns.proofs.Laws.{kind_at_law}
use Rattle.covering_dns.proofs.Rows.kind.Goals as goal

pub returns : goal.returns
returns c = kind_at_law _ _ c.args.self.names_at
