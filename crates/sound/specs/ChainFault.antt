-- The refusals of a chain bundle, line by line (document 01, "What the judge says"): n is the number, p the word that is named. All rows are asked, used or not. Assumes nothing.
use Rattle.std.specs.Prelude.{ℕ, ◌-◌, ◌<◌, ◌≤◌, ◌≡◌, List, length}
use Rattle.table.specs.Table.{word, count_of}
use Rattle.model.specs.Sections.{chain_header, attributes, rdns, names, usages, certs, host_word, purpose_word}
use Rattle.sections.specs.Placed.{chain_sections}
use Rattle.sound.specs.Limits.{most_certs}
use Rattle.sound.specs.Where.{RowWord, CertWord, PartWord, NameWord, NoString, NoOptional, NoRange, There, High}
use Rattle.sound.specs.Shared.{SharedFault}

-- the words that mark the nine parts of a certificate
pub data MarkWord (m : ℕ) : Type 0 where
  aki : m ≡ 15 → MarkWord m
  ski : m ≡ 19 → MarkWord m
  eku : m ≡ 21 → MarkWord m
  bc : m ≡ 24 → MarkWord m
  ku : m ≡ 28 → MarkWord m
  san : m ≡ 30 → MarkWord m
  nc : m ≡ 33 → MarkWord m
  policies : m ≡ 38 → MarkWord m
  aia : m ≡ 39 → MarkWord m

pub data ChainFault (w b : List ℕ) (n p : ℕ) : Type 0 where
  -- ---- 2 to 4, and a string that ends outside the bytes: what both bundles share
  shared : SharedFault chain_header chain_sections w b n p → ChainFault w b n p
  -- ---- 2, at word 0
  -- too many certificates, which only a whole header counts
  many_certs : n ≡ 2 → p ≡ 0 → chain_header ≤ length w → most_certs < count_of w certs → ChainFault w b n p
  -- ---- 5, at the number's word or the range's first
  -- the host
  host_out : n ≡ 5 → p ≡ host_word → NoOptional w p → ChainFault w b n p
  -- an attribute's OID and value
  oid_out : n ≡ 5 → RowWord w attributes 0 p → NoString w p → ChainFault w b n p
  value_out : n ≡ 5 → RowWord w attributes 1 p → NoString w p → ChainFault w b n p
  -- an RDN's attributes
  rdn_out : n ≡ 5 → RowWord w rdns 0 p → NoRange w attributes p → ChainFault w b n p
  -- x of a DNS name, x and y of a directory name, x of an IP name; no other kind is read
  dns_out : n ≡ 5 → NameWord w 0 1 p → NoString w p → ChainFault w b n p
  directory_out : n ≡ 5 → NameWord w 1 1 p → NoRange w rdns p → ChainFault w b n p
  ip_out : n ≡ 5 → NameWord w 2 1 p → NoString w p → ChainFault w b n p
  -- a certificate's fingerprint, serial, outer and inner signature bytes
  fingerprint_out : n ≡ 5 → CertWord w 0 p → NoString w p → ChainFault w b n p
  serial_out : n ≡ 5 → CertWord w 2 p → NoString w p → ChainFault w b n p
  outer_signature_out : n ≡ 5 → CertWord w 3 p → NoString w p → ChainFault w b n p
  inner_signature_out : n ≡ 5 → CertWord w 4 p → NoString w p → ChainFault w b n p
  -- issuer and subject
  issuer_out : n ≡ 5 → CertWord w 7 p → NoRange w rdns p → ChainFault w b n p
  subject_out : n ≡ 5 → CertWord w 9 p → NoRange w rdns p → ChainFault w b n p
  -- issuer UID and subject UID
  issuer_uid_out : n ≡ 5 → CertWord w 13 p → NoOptional w p → ChainFault w b n p
  subject_uid_out : n ≡ 5 → CertWord w 14 p → NoOptional w p → ChainFault w b n p
  -- the AKI's key id, issuer and serial
  aki_key_id_out : n ≡ 5 → PartWord w 15 16 p → NoOptional w p → ChainFault w b n p
  aki_issuer_out : n ≡ 5 → PartWord w 15 17 p → NoOptional w p → ChainFault w b n p
  aki_serial_out : n ≡ 5 → PartWord w 15 18 p → NoOptional w p → ChainFault w b n p
  -- the SKI's key id
  ski_key_id_out : n ≡ 5 → PartWord w 19 20 p → NoString w p → ChainFault w b n p
  -- the EKU's usages
  eku_usages_out : n ≡ 5 → PartWord w 21 22 p → NoRange w usages p → ChainFault w b n p
  -- the SAN's names
  san_names_out : n ≡ 5 → PartWord w 30 31 p → NoRange w names p → ChainFault w b n p
  -- the NC's permitted and excluded names
  permitted_out : n ≡ 5 → PartWord w 33 34 p → NoRange w names p → ChainFault w b n p
  excluded_out : n ≡ 5 → PartWord w 33 36 p → NoRange w names p → ChainFault w b n p
  -- ---- 6, at the code's word
  -- a name's kind, a usage
  kind_over : n ≡ 6 → RowWord w names 0 p → 4 < word w p → ChainFault w b n p
  usage_over : n ≡ 6 → RowWord w usages 0 p → 7 < word w p → ChainFault w b n p
  -- a certificate's version, of more than 32 bits
  version_over : n ≡ 6 → CertWord w 1 p → 4294967295 < word w p → ChainFault w b n p
  -- its key
  key_over : n ≡ 6 → CertWord w 11 p → 2 < word w p → ChainFault w b n p
  -- the mark of a part
  mark_over : (m : ℕ) → MarkWord m → n ≡ 6 → CertWord w m p → 3 < word w p → ChainFault w b n p
  -- the BC's CA, and whether it has a path length
  ca_over : n ≡ 6 → PartWord w 24 25 p → 1 < word w p → ChainFault w b n p
  has_length_over : n ≡ 6 → PartWord w 24 26 p → 1 < word w p → ChainFault w b n p
  -- the KU's bits
  ku_bits_over : n ≡ 6 → PartWord w 28 29 p → 511 < word w p → ChainFault w b n p
  -- word 40, any extensions: above 1, or 0 beside a present part
  extensions_over : n ≡ 6 → CertWord w 40 p → 1 < word w p → ChainFault w b n p
  extensions_denied : (m : ℕ) → MarkWord m → n ≡ 6 → PartWord w m 40 p → word w p ≡ 0 → ChainFault w b n p
  -- ---- 7, at the word that names the string: a byte over 127
  -- in the host, if there is one
  host_high : n ≡ 7 → p ≡ host_word → There w p → High w b (word w p - 1) → ChainFault w b n p
  -- in an attribute's value, in a DNS name
  value_high : n ≡ 7 → RowWord w attributes 1 p → High w b (word w p) → ChainFault w b n p
  dns_high : n ≡ 7 → NameWord w 0 1 p → High w b (word w p) → ChainFault w b n p
  -- ---- 8, at word 14: a purpose that isn't 0
  other_purpose : n ≡ 8 → p ≡ purpose_word → There w p → ChainFault w b n p
