use Rattle.patterns.proofs.Hosts.{permitted}
use Rattle.patterns.proofs.names.permit_name.Goals as goal

pub returns : goal.returns
returns c = permitted _ _ c.clean_name.ensures c.match_dns_name.ensures
