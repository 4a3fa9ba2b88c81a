-- The tables by which the code looks for refusals 5 to 8: a refusal's number, the rows, the word of the row, and the test. That they know what document 01 says is proved in `sound`. Assumes nothing.
use Rattle.std.specs.Prelude.{ℕ, List, [], ◌∷◌, ◌++◌}
use Rattle.table.specs.Table.{strings}
use Rattle.model.specs.Sections.{attributes, rdns, names, usages, certs, entries}
use Rattle.search.specs.declared.Block.{Block}
use Rattle.search.specs.declared.Block.TheVariants.{Header, All, Listed}
use Rattle.row_tests.specs.declared.Test.{Test}
use Rattle.row_tests.specs.declared.Test.TheVariants.{StringOut, NumberOut, OptionalOut, RangeOut, NameOut, PartNumber, PartOptional, PartRange, Over, PartOver, Extensions, NumberHigh, DnsHigh, OptionalHigh, NotZero}
use Rattle.search.specs.declared.Line.{Line}

abbrev pub line : ℕ → Block → ℕ → Test → Line
line n rows j t = record { number = n; block = rows; word = j; test = t }

abbrev pub cert : ℕ → ℕ → Test → Line
cert n j t = line n (All certs) j t

-- ---- the chain bundle
-- 5: a string, number or range ends outside its section or the bytes. The header and the tables
abbrev pub tables_out : List Line
tables_out =
    -- the host
    line 5 Header 13 OptionalOut
    -- a string, in the bytes
    ∷ line 5 (All strings) 0 StringOut
    -- an attribute's OID and value
    ∷ line 5 (All attributes) 0 NumberOut
    ∷ line 5 (All attributes) 1 NumberOut
    -- an RDN's attributes
    ∷ line 5 (All rdns) 0 (RangeOut attributes)
    -- a name's x, and y, by its kind
    ∷ line 5 (All names) 1 NameOut
    ∷ []

-- 5: the strings of a certificate
abbrev pub cert_strings_out : List Line
cert_strings_out =
    -- fingerprint, serial, outer and inner signature bytes
    cert 5 0 NumberOut
    ∷ cert 5 2 NumberOut
    ∷ cert 5 3 NumberOut
    ∷ cert 5 4 NumberOut
    -- issuer UID and subject UID
    ∷ cert 5 13 OptionalOut
    ∷ cert 5 14 OptionalOut
    -- the AKI's key id, issuer and serial
    ∷ cert 5 16 (PartOptional 15)
    ∷ cert 5 17 (PartOptional 15)
    ∷ cert 5 18 (PartOptional 15)
    -- the SKI's key id
    ∷ cert 5 20 (PartNumber 19)
    ∷ []

-- 5: the ranges of a certificate
abbrev pub cert_ranges_out : List Line
cert_ranges_out =
    -- issuer and subject
    cert 5 7 (RangeOut rdns)
    ∷ cert 5 9 (RangeOut rdns)
    -- the EKU's usages
    ∷ cert 5 22 (PartRange 21 usages)
    -- the SAN's names
    ∷ cert 5 31 (PartRange 30 names)
    -- the NC's permitted and excluded names
    ∷ cert 5 34 (PartRange 33 names)
    ∷ cert 5 36 (PartRange 33 names)
    ∷ []

-- 6: a code above its range
abbrev pub codes_over : List Line
codes_over =
    -- a name's kind, a usage
    line 6 (All names) 0 (Over 4)
    ∷ line 6 (All usages) 0 (Over 7)
    -- the version, of 32 bits, and the key's kind
    ∷ cert 6 1 (Over 4294967295)
    ∷ cert 6 11 (Over 2)
    -- the BC's CA and path length present
    ∷ cert 6 25 (PartOver 24 1)
    ∷ cert 6 26 (PartOver 24 1)
    -- the KU's bits
    ∷ cert 6 29 (PartOver 28 511)
    -- any extensions
    ∷ cert 6 40 Extensions
    ∷ []

-- 6: the marks of AKI, SKI, EKU, BC, KU, SAN, NC, policies and AIA
abbrev pub marks_over : List Line
marks_over =
    cert 6 15 (Over 3)
    ∷ cert 6 19 (Over 3)
    ∷ cert 6 21 (Over 3)
    ∷ cert 6 24 (Over 3)
    ∷ cert 6 28 (Over 3)
    ∷ cert 6 30 (Over 3)
    ∷ cert 6 33 (Over 3)
    ∷ cert 6 38 (Over 3)
    ∷ cert 6 39 (Over 3)
    ∷ []

-- 7: a byte over 127 in the host, an attribute's value, a DNS name. 8: a purpose that is not 0
abbrev pub names_high : List Line
names_high =
    line 7 Header 13 OptionalHigh
    ∷ line 7 (All attributes) 1 NumberHigh
    ∷ line 7 (All names) 1 DnsHigh
    ∷ line 8 Header 14 NotZero
    ∷ []

abbrev pub chain_lines : List Line
chain_lines = tables_out ++ (cert_strings_out ++ (cert_ranges_out ++ (codes_over ++ (marks_over ++ names_high))))

-- ---- the policy bundle
-- 5: a string, in the bytes, an entry of L, and the ranges of the nine lists
abbrev pub lists_out : List Line
lists_out =
    line 5 (All strings) 0 StringOut
    ∷ line 5 (All entries) 0 NumberOut
    ∷ line 5 Header 5 (RangeOut entries)
    ∷ line 5 Header 7 (RangeOut entries)
    ∷ line 5 Header 9 (RangeOut entries)
    ∷ line 5 Header 11 (RangeOut entries)
    ∷ line 5 Header 13 (RangeOut entries)
    ∷ line 5 Header 15 (RangeOut entries)
    ∷ line 5 Header 17 (RangeOut entries)
    ∷ line 5 Header 19 (RangeOut entries)
    ∷ line 5 Header 21 (RangeOut entries)
    ∷ []

-- 7: a byte over 127 in an entry of public_suffix, india_domains or anssi_domains
abbrev pub entries_high : List Line
entries_high =
    line 7 (Listed 5) 0 NumberHigh
    ∷ line 7 (Listed 17) 0 NumberHigh
    ∷ line 7 (Listed 21) 0 NumberHigh
    ∷ []

abbrev pub policy_lines : List Line
policy_lines = lists_out ++ entries_high
