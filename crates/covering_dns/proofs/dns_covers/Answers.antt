use Rattle.covering_dns.proofs.Laws.{lowered_covers, cleaned_covers}
use Rattle.covering_dns.proofs.dns_covers.Goals as goal

pub returns-in-Lowered : goal.returns-in-Lowered
returns-in-Lowered c = lowered_covers _ _ _ c.in-Lowered.is c.match_dns_name.ensures

pub returns-in-Cleaned : goal.returns-in-Cleaned
returns-in-Cleaned c = cleaned_covers _ _ _ c.in-Cleaned.is c.permit_name.ensures
