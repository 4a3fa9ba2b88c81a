use Rattle.std.proofs.Common.{rules}
use Rattle.ascii.specs.Bytes.{lower_byte}
use Rattle.ascii.proofs.lower.Goals as goal

pub returns : goal.returns
unfolding lower_byte
returns c = search rules
