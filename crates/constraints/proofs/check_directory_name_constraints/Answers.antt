-- Assumes nothing.
use Rattle.std.proofs.Common.{rules}
use Rattle.covering.specs.Covers.{over_directory}
use Rattle.model.specs.Decode.{name_in}
use Rattle.constraints.specs.Match.{check_directory_name_constraints}
use Rattle.constraints.proofs.check_directory_name_constraints.Goals as goal

pub returns : goal.returns
unfolding check_directory_name_constraints
returns c = c.allowed.ensures (over_directory (name_in c.args.chain.words.now c.args.chain.bytes.now c.args.name)) (λ r b f. search rules)
