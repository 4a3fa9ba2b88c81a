use mathlib.Core.Path.{sym, ◌∙◌}
use Rattle.patterns.proofs.Hosts.{name_plain, name_bare, name_apex, name_under, two_bytes}
use Rattle.patterns.proofs.names.match_name.Goals as goal

pub returns-then-not-starts_with : goal.returns-then-not-starts_with
returns-then-not-starts_with c = name_plain _ _ _ c.starts_with.ensures c.if-not-starts_with.true c.same_lowered.ensures

pub slice_bounds-apex-count : goal.slice_bounds-apex-count
slice_bounds-apex-count c = two_bytes _ (sym c.starts_with.ensures ∙ c.if-not-starts_with.false)

pub slice_bounds-apex-start : goal.slice_bounds-apex-start
slice_bounds-apex-start c = two_bytes _ (sym c.starts_with.ensures ∙ c.if-not-starts_with.false)

pub returns-then-same_lowered : goal.returns-then-same_lowered
returns-then-same_lowered c = name_apex _ _ _ c.starts_with.ensures c.if-not-starts_with.false c.is_empty.ensures c.if-not-is_empty.true c.same_lowered-then-not-is_empty.ensures c.if-same_lowered.true

pub returns-else-same_lowered : goal.returns-else-same_lowered
returns-else-same_lowered c =
    name_under _ _ _ c.starts_with.ensures c.if-not-starts_with.false c.is_empty.ensures c.if-not-is_empty.true c.same_lowered-then-not-is_empty.ensures c.if-same_lowered.false c.one_label.ensures

pub returns-else-not-is_empty : goal.returns-else-not-is_empty
returns-else-not-is_empty c = name_bare _ _ _ c.starts_with.ensures c.if-not-starts_with.false c.is_empty.ensures c.if-not-is_empty.false
