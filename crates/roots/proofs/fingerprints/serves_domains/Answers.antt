use mathlib.Core.Path.{ap}
use mathlib.Core.Bool.{not}
use Rattle.laws.proofs.Tests.{or_then, or_stop}
use Rattle.roots.specs.Fingerprints.{serves_domains}
use Rattle.roots.proofs.fingerprints.serves_domains.Goals as goal

pub returns-then-in_list : goal.returns-then-in_list
unfolding serves_domains
returns-then-in_list c = or_then (ap not c.in_list.ensures) (ap not c.if-in_list.true) c.matches.ensures

pub returns : goal.returns
unfolding serves_domains
returns c = or_stop (ap not c.in_list.ensures) _ (ap not c.if-in_list.false)
