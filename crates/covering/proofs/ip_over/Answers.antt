use Rattle.sans.proofs.Laws.{ip_and_law, kind_then, kind_other}
use Rattle.covering.specs.Covers.{over_ip}
use Rattle.covering.proofs.ip_over.Goals as goal

pub returns-then-is_kind : goal.returns-then-is_kind
unfolding over_ip
returns-then-is_kind c = kind_then (ip_and_law _ _ _ _) c.is_kind.ensures c.if-is_kind.true (rw (← c.name_text.ensures) c.ip_addr_in_range.ensures)

pub returns : goal.returns
unfolding over_ip
returns c = kind_other (ip_and_law _ _ _ _) c.is_kind.ensures c.if-is_kind.false
