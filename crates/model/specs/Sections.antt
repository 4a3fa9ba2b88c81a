-- How the two bundles are laid out: the header's words, the sections, the words of a row (document 01, "Bundles"). Assumes nothing.
use Rattle.std.specs.Prelude.{ℕ, ◌+◌, ◌*◌}
use Rattle.table.specs.declared.Section.{Section}

-- ---- the chain bundle
-- the words of its header
abbrev pub chain_header : ℕ
chain_header = 16

-- the words of a certificate's row
abbrev pub cert_words : ℕ
cert_words = 41

-- A, attributes: the string numbers of OID and value
abbrev pub attributes : Section
attributes = record { count = 3; size = 2 }

-- R, RDNs: first attribute, count
abbrev pub rdns : Section
rdns = record { count = 5; size = 2 }

-- G, names: kind, x, y
abbrev pub names : Section
names = record { count = 7; size = 3 }

-- U, usages
abbrev pub usages : Section
usages = record { count = 9; size = 1 }

-- C, certificates
abbrev pub certs : Section
certs = record { count = 11; size = cert_words }

-- the words of the header after the sections
abbrev pub host_word : ℕ
host_word = 13

abbrev pub purpose_word : ℕ
purpose_word = 14

abbrev pub now_word : ℕ
now_word = 15

-- ---- the policy bundle
-- how many lists it has
abbrev pub list_count : ℕ
list_count = 9

-- the word of its header at which the ranges of the lists begin: two words each
abbrev pub lists_from : ℕ
lists_from = 5

-- the words of its header
abbrev pub policy_header : ℕ
policy_header = lists_from + 2 * list_count

-- L: string numbers
abbrev pub entries : Section
entries = record { count = 3; size = 1 }
