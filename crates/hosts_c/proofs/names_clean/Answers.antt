use Rattle.text.specs.Texts.{taken, lowered}
use Rattle.hosts_c.proofs.Laws.{clean_equals, clean_matches}
use Rattle.hosts_c.proofs.names_clean.Goals as goal

pub returns-then-exact : goal.returns-then-exact
unfolding taken lowered
returns-then-exact c = clean_equals _ _ _ c.clean_name-part.ensures c.if-exact.true c.same_lowered.ensures

pub returns : goal.returns
unfolding taken lowered
returns c = clean_matches _ _ _ c.clean_name-part.ensures c.if-exact.false c.match_name.ensures
