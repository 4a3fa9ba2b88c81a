use Rattle.quick.proofs.Chain.{strings_lie, attributes_lie, rdns_lie, names_lie, usages_lie, chain_rows}
use Rattle.quick.proofs.chain_rows_fine.Goals as goal

pub attributes_fine-requires : goal.attributes_fine-requires
attributes_fine-requires c = attributes_lie _ c.requires.0

pub invariant_of-readable : goal.invariant_of-readable
invariant_of-readable c = record { lie = strings_lie _ c.requires.0 _ c.requires.1; counted = c.count-strings.ensures }

pub rdns_fine-requires : goal.rdns_fine-requires
rdns_fine-requires c = rdns_lie _ c.requires.0

pub names_fine-requires : goal.names_fine-requires
names_fine-requires c = names_lie _ c.requires.0

pub usages_fine-requires : goal.usages_fine-requires
usages_fine-requires c = usages_lie _ c.requires.0

pub returns : goal.returns
returns c = chain_rows _ _ c.requires.0 c.requires.1 c.attributes_fine.ensures (c.rdns_fine.ensures _) c.names_fine.ensures (c.usages_fine.ensures _) (c.certs_fine.ensures _) c.header_fine.ensures
