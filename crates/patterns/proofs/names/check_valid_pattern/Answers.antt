use mathlib.Core.Path.{sym, ◌∙◌}
use Rattle.patterns.proofs.Hosts.{valid_plain, valid_star, valid_none, two_bytes}
use Rattle.patterns.proofs.names.check_valid_pattern.Goals as goal

pub returns-then-not-starts_with : goal.returns-then-not-starts_with
returns-then-not-starts_with c = valid_plain _ c.starts_with.ensures c.if-not-starts_with.true c.host_text.ensures

pub slice_bounds-tail-count : goal.slice_bounds-tail-count
slice_bounds-tail-count c = two_bytes _ (sym c.starts_with.ensures ∙ c.if-not-starts_with.false)

pub slice_bounds-tail-start : goal.slice_bounds-tail-start
slice_bounds-tail-start c = two_bytes _ (sym c.starts_with.ensures ∙ c.if-not-starts_with.false)

pub returns-then-host_text : goal.returns-then-host_text
returns-then-host_text c = valid_star _ c.starts_with.ensures c.if-not-starts_with.false c.host_text-2.ensures c.if-host_text.true c.has_class.ensures

pub returns-else-host_text : goal.returns-else-host_text
returns-else-host_text c = valid_none _ c.starts_with.ensures c.if-not-starts_with.false c.host_text-2.ensures c.if-host_text.false
