use Rattle.laws.proofs.Tests.{and_then, and_stop}
use Rattle.key_ids.specs.KeyIds.{check_auth_subject_key_id}
use Rattle.key_ids.proofs.Laws.{from_two, below_two}
use Rattle.key_ids.proofs.check_auth_subject_key_id.Goals as goal

pub returns-then-version-ge2 : goal.returns-then-version-ge2
unfolding check_auth_subject_key_id
returns-then-version-ge2 c = and_then c.ids_not_critical.ensures c.if-ids_not_critical.true (from_two _ _ _ c.cert_word-version.ensures c.if-version-ge2.true c.has_key_ids.ensures)

pub returns-then-ids_not_critical : goal.returns-then-ids_not_critical
unfolding check_auth_subject_key_id
returns-then-ids_not_critical c = and_then c.ids_not_critical.ensures c.if-ids_not_critical.true (below_two _ _ _ c.cert_word-version.ensures c.if-version-ge2.false c.has_no_parts.ensures)

pub returns : goal.returns
unfolding check_auth_subject_key_id
returns c = and_stop c.ids_not_critical.ensures _ c.if-ids_not_critical.false
