use Rattle.sections.proofs.Each.{each_then}
use Rattle.search.specs.Found.{found_in}
use Rattle.lines.specs.Tables.{lists_out, entries_high}
use Rattle.lines.proofs.policy_wrong.Goals as goal

pub returns : goal.returns
returns c = each_then (found_in _ _) lists_out entries_high _ c.lists_out-f.ensures c.entries_high.ensures
