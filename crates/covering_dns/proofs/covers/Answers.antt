use Rattle.sans.proofs.Laws.{dns_and_law, kind_then, kind_other}
use Rattle.covering_dns.specs.Covers.{over_dns}
use Rattle.covering_dns.proofs.covers.Goals as goal

pub returns-then-is_kind : goal.returns-then-is_kind
unfolding over_dns
returns-then-is_kind c = kind_then (dns_and_law _ _ _ _) c.is_kind.ensures c.if-is_kind.true (rw (← c.name_text.ensures) c.dns_covers.ensures)

pub returns : goal.returns
unfolding over_dns
returns c = kind_other (dns_and_law _ _ _ _) c.is_kind.ensures c.if-is_kind.false
