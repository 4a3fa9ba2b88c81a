use native.Mathlib.Omega.{arith}
use Rattle.ascii.proofs.Chars.{entry_class}
use Rattle.ascii.proofs.class_in.Goals as goal

pub returns : goal.returns
returns c e = entry_class _ (omega arith) _ e c.entry_in.ensures
