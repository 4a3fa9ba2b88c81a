use native.Mathlib.Omega.{arith}
use Rattle.model.specs.Sections.{chain_header, certs}
use Rattle.quick_certs.proofs.Steps.{placed_lies, rows_as, certs_out, certs_in}
use Rattle.quick_certs.proofs.certs_fine.Goals as goal

pub returns-then-is_misplaced : goal.returns-then-is_misplaced
returns-then-is_misplaced c = λ b. certs_out _ b c.is_misplaced.ensures c.if-is_misplaced.true

pub certs_fit-requires : goal.certs_fit-requires
certs_fit-requires c = omega (arith, placed_lies chain_header _ certs c.is_misplaced.ensures c.if-is_misplaced.false, c.offset.ensures, c.count-5.ensures)

pub returns : goal.returns
returns c = λ b. certs_in _ b c.is_misplaced.ensures c.if-is_misplaced.false (rows_as _ b certs certs.count c.offset.ensures c.count-5.ensures (c.certs_fit.ensures b))
