use Rattle.sans.proofs.Laws.{directory_and_law, kind_then, kind_other}
use Rattle.covering.specs.Covers.{over_directory}
use Rattle.covering.proofs.directory_over.Goals as goal

pub returns-then-is_kind : goal.returns-then-is_kind
unfolding over_directory
returns-then-is_kind c = kind_then (directory_and_law _ _ _ _) c.is_kind.ensures c.if-is_kind.true (rw (← c.name_range.ensures) c.is_subtree_of.ensures)

pub returns : goal.returns
unfolding over_directory
returns c = kind_other (directory_and_law _ _ _ _) c.is_kind.ensures c.if-is_kind.false
