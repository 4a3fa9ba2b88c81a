use mathlib.Core.Path.{refl}
use Rattle.std.proofs.Common.{rules, ◌+◌, ◌*◌}
use Rattle.std.proofs.lemmas.Iterator.{YieldsList-from_range}
use Rattle.laws.proofs.Chains.{all_over}
use Rattle.model.specs.Sections.{certs}
use Rattle.lines.specs.Tables.{chain_lines}
use Rattle.quick_certs.specs.Asked.{row_fine, lines_of}
use Rattle.quick_certs.proofs.certs_fit.Goals as goal

pub returns : goal.returns
returns c = λ b. all_over (λ i. row_fine c.args.counts.words.now b (lines_of certs.count chain_lines) (c.args.at + certs.size * i)) (λ i. i) _ _ _ c.all.ensures.ran (YieldsList-from_range _ _ _ refl refl) (λ x r f k. search rules)
