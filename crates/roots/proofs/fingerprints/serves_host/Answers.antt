use Rattle.roots.proofs.Laws.{india_allows, india_forbids}
use Rattle.roots.proofs.fingerprints.serves_host.Goals as goal

pub returns-then-serves_domains : goal.returns-then-serves_domains
returns-then-serves_domains c = india_allows _ _ _ c.cert_string-fingerprint.ensures c.serves_domains.ensures c.if-serves_domains.true c.serves_domains-then-serves_domains.ensures

pub returns : goal.returns
returns c = india_forbids _ _ _ c.cert_string-fingerprint.ensures c.serves_domains.ensures c.if-serves_domains.false
