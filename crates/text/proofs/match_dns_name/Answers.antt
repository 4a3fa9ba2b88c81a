use Rattle.text.proofs.Laws.{match_empty, match_other, match_same, match_dot}
use Rattle.text.proofs.match_dns_name.Goals as goal

pub returns-then-k-eq0 : goal.returns-then-k-eq0
returns-then-k-eq0 c = match_empty _ _ c.if-k-eq0.true

pub returns-then-not-ends_with : goal.returns-then-not-ends_with
returns-then-not-ends_with c = match_other _ _ c.if-k-eq0.false c.ends_with.ensures c.if-not-ends_with.true

pub returns-then-name-k : goal.returns-then-name-k
returns-then-name-k c = match_same _ _ c.if-k-eq0.false c.ends_with.ensures c.if-not-ends_with.false c.if-name-k.true

pub returns : goal.returns
returns c = match_dot _ _ c.if-k-eq0.false c.ends_with.ensures c.if-not-ends_with.false c.if-name-k.false c.class_of.ensures c.class_of-2.ensures
