use native.Mathlib.Omega.{arith}
use Rattle.certs.proofs.TwosComplement.{signed_small, lacks_fits, signed_large}
use Rattle.certs.proofs.signed.Goals as goal

pub returns-then-word-lt9223372036854775808 : goal.returns-then-word-lt9223372036854775808
returns-then-word-lt9223372036854775808 c = signed_small _ c.if-word-lt9223372036854775808.true

pub overflow_sub-result-2 : goal.overflow_sub-result-2
overflow_sub-result-2 c = lacks_fits _ c.if-word-lt9223372036854775808.false (omega arith)

pub returns : goal.returns
returns c = signed_large _ c.if-word-lt9223372036854775808.false (omega arith)
