use Rattle.row_tests.proofs.Reasons.{name_text_law, name_directory, name_unread}
use Rattle.row_tests.proofs.Row.name_out.Goals as goal

pub returns-in-0 : goal.returns-in-0
returns-in-0 c = name_text_law _ _ c.word-kind.ensures c.in-0.is c.no_string.ensures

pub returns-in-1 : goal.returns-in-1
returns-in-1 c = name_directory _ _ c.word-kind.ensures c.in-1.is c.no_range.ensures

pub returns-in_default : goal.returns-in_default
returns-in_default c = name_unread _ _ c.word-kind.ensures c.in_default.in_default-own.rest.0.1 c.in_default.in_default-own.rest.1
