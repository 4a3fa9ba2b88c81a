-- What a certificate is called: names by their kind, the DNS names of its SAN, the common names of its subject. Assumes nothing.
use Rattle.std.specs.Prelude.{ℕ, Bool, false, not, ◌&&◌, ◌||◌, eqb}
use Rattle.laws.specs.Lists.{any, all, eq_list}
use Rattle.laws.specs.Optional.{there_and}
use Rattle.text.specs.Texts.{quoted}
use Rattle.model.specs.Model.{Bytes, Attribute, Name, GeneralName, dns, directory, ip, other, unsupported, San, Cert}
use Rattle.sans.specs.declared.Kind.{Kind}
use Rattle.sans.specs.declared.Kind.TheVariants.{Dns, Directory, Ip}

-- the number that document 01 gives a kind
abbrev pub number_of : Kind → ℕ
number_of Dns = 0
number_of Directory = 1
number_of Ip = 2

-- the number of a name's kind
abbrev pub kind_no : GeneralName → ℕ
kind_no (dns s) = 0
kind_no (directory n) = 1
kind_no (ip a) = 2
kind_no other = 3
kind_no unsupported = 4

-- the name is of the kind
unfoldable pub is_kind : Kind → GeneralName → Bool
is_kind k n = eqb (kind_no n) (number_of k)

-- a DNS name that passes
unfoldable pub dns_and : (Bytes → Bool) → GeneralName → Bool
dns_and p (dns s) = p s
dns_and p (directory n) = false
dns_and p (ip a) = false
dns_and p other = false
dns_and p unsupported = false

-- a directory name that passes
unfoldable pub directory_and : (Name → Bool) → GeneralName → Bool
directory_and p (dns s) = false
directory_and p (directory n) = p n
directory_and p (ip a) = false
directory_and p other = false
directory_and p unsupported = false

-- an IP address, or a range of them, that passes
unfoldable pub ip_and : (Bytes → Bool) → GeneralName → Bool
ip_and p (dns s) = false
ip_and p (directory n) = false
ip_and p (ip a) = p a
ip_and p other = false
ip_and p unsupported = false

-- the SAN is there, and some name in it is a DNS name
unfoldable pub check_san_has_dns : Cert → Bool
check_san_has_dns c = there_and (λ (s : San). any (is_kind Dns) s.names) c.san

-- the attribute is a common name: its OID is 2.5.4.3, byte for byte
unfoldable pub is_common : Attribute → Bool
is_common a = eq_list a.oid (quoted "2.5.4.3")

-- a common name whose value, taken as it stands, passes
unfoldable pub common_and : (Bytes → Bool) → Attribute → Bool
common_and p a = is_common a && p a.value

-- no common name, or one whose value, taken as it stands, passes
unfoldable pub if_common : (Bytes → Bool) → Attribute → Bool
if_common p a = not (is_common a) || p a.value

-- some common name of a distinguished name passes
unfoldable pub some_common : (Bytes → Bool) → Name → Bool
some_common p = any (any (common_and p))

-- each common name of a distinguished name passes
unfoldable pub each_common : (Bytes → Bool) → Name → Bool
each_common p = all (all (if_common p))
