use mathlib.Core.Path.{ap₂}
use mathlib.Core.Bool.{◌||◌}
use Rattle.std.proofs.Common.{rules}
use Rattle.sound.specs.declared.Bundle.TheVariants.{Chain}
use Rattle.sound.specs.Answer.{ChainVerdict}
use Rattle.sound.proofs.Stated.{chain_known}
use Rattle.sound.proofs.Verdicts.{answer_first, answer_fine, answer_section, answer_line}
use Rattle.sound.proofs.check_chain.Goals as goal

pub returns-in_err-clear_of : goal.returns-in_err-clear_of
unfolding ChainVerdict
returns-in_err-clear_of c = answer_first (chain_known _ _) Chain (ap₂ ◌||◌ c.is_too_large.ensures c.has_too_many.ensures) c.first_word_fault.ensures c.clear_of.ensures c.in_err-clear_of.was (search rules)

pub returns-then-chain_fine : goal.returns-then-chain_fine
unfolding ChainVerdict
returns-then-chain_fine c = answer_fine (chain_known _ _) Chain (ap₂ ◌||◌ c.is_too_large.ensures c.has_too_many.ensures) c.first_word_fault.ensures c.clear_of.ensures c.in_ok-clear_of.was c.chain_fine.ensures c.if-chain_fine.true

pub returns-in_err-clear_of-2 : goal.returns-in_err-clear_of-2
unfolding ChainVerdict
returns-in_err-clear_of-2 c = answer_section (chain_known _ _) Chain (ap₂ ◌||◌ c.is_too_large.ensures c.has_too_many.ensures) c.first_word_fault.ensures c.clear_of.ensures c.in_ok-clear_of.was c.chain_misplaced.ensures c.clear_of-2.ensures c.in_err-clear_of-2.was (search rules)

pub returns : goal.returns
unfolding ChainVerdict
returns c = answer_line (chain_known _ _) Chain (ap₂ ◌||◌ c.is_too_large.ensures c.has_too_many.ensures) c.first_word_fault.ensures c.clear_of.ensures c.in_ok-clear_of.was c.chain_misplaced.ensures c.clear_of-2.ensures c.in_ok-clear_of-2.was c.chain_wrong.ensures c.clear_of-3.ensures
