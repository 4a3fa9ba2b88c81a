-- Which directory names and IP addresses a constraint covers (the body of `is_general_subtree_of` in openssl.rs). Assumes nothing.
use Rattle.std.specs.Prelude.{Bool}
use Rattle.patterns.specs.Address.{ip_addr_in_range}
use Rattle.model.specs.Model.{Bytes, Name, GeneralName}
use Rattle.names.specs.Names.{is_subtree_of}
use Rattle.names.specs.declared.Values.TheVariants.{Normalised}
use Rattle.sans.specs.Sans.{directory_and, ip_and}

-- a constraint covers the directory name n: it is a directory name under which n lies, values compared in normal form
unfoldable pub over_directory : Name → GeneralName → Bool
over_directory n = directory_and (λ c. is_subtree_of Normalised c n)

-- a constraint covers the IP address a: it is an IP range that holds a
unfoldable pub over_ip : Bytes → GeneralName → Bool
over_ip a = ip_and (λ c. ip_addr_in_range c a)
