use Rattle.sans.proofs.Laws.{dns_and_law, kind_then, kind_other}
use Rattle.hosts.proofs.dns_names.Goals as goal

pub returns-then-is_kind : goal.returns-then-is_kind
returns-then-is_kind c = kind_then (dns_and_law _ _ _ _) c.is_kind.ensures c.if-is_kind.true (rw (← c.name_text.ensures) c.names_host.ensures)

pub returns : goal.returns
returns c = kind_other (dns_and_law _ _ _ _) c.is_kind.ensures c.if-is_kind.false
