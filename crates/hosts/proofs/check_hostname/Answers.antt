use mathlib.Core.Path.{ap}
use mathlib.Core.Bool.{not}
use Rattle.laws.proofs.Tests.{and_then, and_stop, or_then, or_stop}
use Rattle.hosts.specs.Hostname.{check_hostname}
use Rattle.hosts.proofs.check_hostname.Goals as goal

pub returns-then-san_names : goal.returns-then-san_names
unfolding check_hostname
returns-then-san_names c = or_stop c.san_names.ensures _ c.if-san_names.true

pub returns-then-check_san_has_dns : goal.returns-then-check_san_has_dns
unfolding check_hostname
returns-then-check_san_has_dns c = or_then c.san_names.ensures c.if-san_names.false (and_stop (ap not c.check_san_has_dns.ensures) _ (ap not c.if-check_san_has_dns.true))

pub returns : goal.returns
unfolding check_hostname
returns c = or_then c.san_names.ensures c.if-san_names.false (and_then (ap not c.check_san_has_dns.ensures) (ap not c.if-check_san_has_dns.false) c.subject_names.ensures)
