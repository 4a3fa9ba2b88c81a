-- Which DNS names a constraint covers (the body of `is_general_subtree_of` in openssl.rs). Assumes nothing.
use Rattle.std.specs.Prelude.{Bool}
use Rattle.text.specs.Texts.{lowered, match_dns_name}
use Rattle.patterns.specs.Patterns.{permit_name}
use Rattle.model.specs.Model.{Bytes, GeneralName}
use Rattle.sans.specs.Sans.{dns_and}
use Rattle.covering_dns.specs.declared.Covering.{Covering}
use Rattle.covering_dns.specs.declared.Covering.TheVariants.{Lowered, Cleaned}

-- the DNS constraint c covers the DNS name n: OpenSSL lowers both; Chrome cleans the constraint, and n comes cleaned
unfoldable pub dns_covers : Covering → Bytes → Bytes → Bool
dns_covers Lowered c n = match_dns_name c n
dns_covers Cleaned c n = permit_name c (lowered n)

-- a constraint covers the DNS name n: it is a DNS name, and covers it
unfoldable pub over_dns : Covering → Bytes → GeneralName → Bool
over_dns v n = dns_and (λ c. dns_covers v c n)
