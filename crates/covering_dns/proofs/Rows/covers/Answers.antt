use Rattle.covering_dns.proofs.Laws.{kind_dns, kind_no_dns}
use Rattle.covering_dns.proofs.Rows.covers.Goals as goal

pub returns-then-kind-eq0 : goal.returns-then-kind-eq0
returns-then-kind-eq0 c = kind_dns _ _ _ _ _ c.kind.ensures c.if-kind-eq0.true (rw (← c.text.ensures) c.dns_covers.ensures)

pub returns : goal.returns
returns c = kind_no_dns _ _ _ _ _ c.kind.ensures c.if-kind-eq0.false
