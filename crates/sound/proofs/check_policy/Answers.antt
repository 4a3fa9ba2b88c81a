use Rattle.std.proofs.Common.{rules}
use Rattle.sound.specs.declared.Bundle.TheVariants.{Policy}
use Rattle.sound.specs.Answer.{PolicyVerdict}
use Rattle.sound.proofs.Stated.{policy_known}
use Rattle.sound.proofs.Verdicts.{answer_first, answer_section, answer_line}
use Rattle.sound.proofs.check_policy.Goals as goal

pub returns-in_err-clear_of : goal.returns-in_err-clear_of
unfolding PolicyVerdict
returns-in_err-clear_of c = answer_first (policy_known _ _) Policy c.is_too_large-is_too_large.ensures c.first_word_fault.ensures c.clear_of.ensures c.in_err-clear_of.was (search rules)

pub returns-in_err-clear_of-2 : goal.returns-in_err-clear_of-2
unfolding PolicyVerdict
returns-in_err-clear_of-2 c = answer_section (policy_known _ _) Policy c.is_too_large-is_too_large.ensures c.first_word_fault.ensures c.clear_of.ensures c.in_ok-clear_of.was c.policy_misplaced.ensures c.clear_of-2.ensures c.in_err-clear_of-2.was (search rules)

pub returns : goal.returns
unfolding PolicyVerdict
returns c = answer_line (policy_known _ _) Policy c.is_too_large-is_too_large.ensures c.first_word_fault.ensures c.clear_of.ensures c.in_ok-clear_of.was c.policy_misplaced.ensures c.clear_of-2.ensures c.in_ok-clear_of-2.was c.policy_wrong.ensures c.clear_of-3.ensures
