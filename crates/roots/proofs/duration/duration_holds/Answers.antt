use Rattle.roots.specs.Duration.{is_known_root}
use Rattle.roots.proofs.Laws.{lasts_well, lasts_long}
use Rattle.roots.proofs.duration.duration_holds.Goals as goal

pub returns-then-leaf_duration_valid : goal.returns-then-leaf_duration_valid
returns-then-leaf_duration_valid c = lasts_well _ _ _ c.leaf_duration_valid.ensures c.if-leaf_duration_valid.true

pub returns : goal.returns
unfolding is_known_root
returns c = lasts_long _ _ _ c.leaf_duration_valid.ensures c.if-leaf_duration_valid.false c.is_listed.ensures
