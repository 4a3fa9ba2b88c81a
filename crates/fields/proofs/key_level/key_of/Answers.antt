-- Assumes nothing.
use native.Mathlib.Omega.{arith}
use Rattle.fields.proofs.Laws.{key_rsa, key_dsa, key_other}
use Rattle.fields.proofs.key_level.key_of.Goals as goal

pub returns-in-0 : goal.returns-in-0
returns-in-0 c = key_rsa _ c.cert_word.ensures c.in-0.is c.cert_word-in-0.ensures

pub returns-in-1 : goal.returns-in-1
returns-in-1 c = key_dsa _ c.cert_word.ensures c.in-1.is

pub returns-in_default : goal.returns-in_default
returns-in_default c = key_other _ c.cert_word.ensures (λ e. omega arith) (λ e. omega arith)
