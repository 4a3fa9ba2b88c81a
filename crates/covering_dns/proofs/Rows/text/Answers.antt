use Rattle.covering_dns.proofs.Laws.{text_at, string_at}
use Rattle.covering_dns.proofs.Rows.text.Goals as goal

pub returns-then-x-self : goal.returns-then-x-self
returns-then-x-self c = text_at _ _ c.args.self.names_at _ (string_at _ _ _ c.args.self.strings_at c.cut.ensures)

pub returns : goal.returns
returns c = text_at _ _ c.args.self.names_at _ c.string.ensures
