use mathlib.Core.Path.{refl}
use Rattle.table.specs.Table.{word}
use Rattle.quick.proofs.Rows.{dns_row, directory_row, ip_row, other_row}
use Rattle.quick.proofs.Readable.name_fits.Goals as goal

pub returns-in-0 : goal.returns-in-0
unfolding word
returns-in-0 c = dns_row _ _ _ refl c.args.self.counted c.in-0.is c.is_ascii.ensures

pub returns-in-1 : goal.returns-in-1
unfolding word
returns-in-1 c = directory_row _ _ _ refl c.requires.1 c.in-1.is c.ends_past.ensures

pub returns-in-2 : goal.returns-in-2
unfolding word
returns-in-2 c = ip_row _ _ _ refl c.args.self.counted c.in-2.is

pub returns-in_default : goal.returns-in_default
unfolding word
returns-in_default c = other_row _ _ _ refl c.in_default.in_default-own.rest.0.0.1 c.in_default.in_default-own.rest.0.1 c.in_default.in_default-own.rest.1
