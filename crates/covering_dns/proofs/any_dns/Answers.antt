use Rattle.model.specs.Decode.{generals_in}
use Rattle.covering_dns.proofs.any_dns.Goals as goal

pub returns-then-fits-2 : goal.returns-then-fits-2
unfolding generals_in
returns-then-fits-2 c = c.any.ensures
