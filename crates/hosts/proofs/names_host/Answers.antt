use Rattle.laws.proofs.Tests.{and_then, and_stop}
use Rattle.text.specs.Texts.{taken, lowered}
use Rattle.hosts.specs.Hostname.{names_host}
use Rattle.hosts.proofs.names_host.Goals as goal

pub returns-then-check_valid_pattern : goal.returns-then-check_valid_pattern
unfolding names_host taken lowered
returns-then-check_valid_pattern c = and_then c.check_valid_pattern.ensures c.if-check_valid_pattern.true c.match_name.ensures

pub returns : goal.returns
unfolding names_host
returns c = and_stop c.check_valid_pattern.ensures _ c.if-check_valid_pattern.false
