use Rattle.constrained_c.proofs.Laws.{valid_dns, valid_other}
use Rattle.constrained_c.proofs.rule16.valid_if_dns.Goals as goal

pub returns-then-is_kind : goal.returns-then-is_kind
returns-then-is_kind c = valid_dns _ _ _ c.is_kind.ensures c.if-is_kind.true (rw (← c.name_text.ensures) c.valid_name_constraint.ensures)

pub returns : goal.returns
returns c = valid_other _ _ _ c.is_kind.ensures c.if-is_kind.false
