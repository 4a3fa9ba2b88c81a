use Rattle.quick.proofs.Rows.{no_host_row, host_row}
use Rattle.quick.proofs.Readable.header_fine.Goals as goal

pub returns-then-host-eq0 : goal.returns-then-host-eq0
returns-then-host-eq0 c = no_host_row _ _ c.word-host.ensures c.word-purpose.ensures c.if-host-eq0.true

pub returns : goal.returns
returns c = host_row _ _ c.word-host.ensures c.word-purpose.ensures c.args.self.counted c.if-host-eq0.false c.is_ascii.ensures
