-- The decoded model: what a chain bundle and a policy bundle say, without a word of how they are laid out. Assumes nothing.
use Rattle.std.specs.Prelude.{ℕ, List, Bool, ℤ}
use Rattle.std.proofs.Math.Option.{Option}

abbrev pub Bytes : Type 0
Bytes = List ℕ

pub record Attribute : Type 0 where
  pub oid : Bytes
  pub value : Bytes

-- an RDN is its attributes in order
abbrev pub Rdn : Type 0
Rdn = List Attribute

-- a distinguished name is its RDNs in order
abbrev pub Name : Type 0
Name = List Rdn

pub data GeneralName : Type 0 where
  dns : Bytes → GeneralName
  directory : Name → GeneralName
  ip : Bytes → GeneralName
  other : GeneralName
  unsupported : GeneralName

-- whether a part is marked critical: no mark, marked not critical, marked critical
pub data Mark : Type 0 where
  no_mark : Mark
  not_critical : Mark
  critical : Mark

-- an RSA key with its bits, a DSA key, any other key
pub data Key : Type 0 where
  rsa : ℕ → Key
  dsa : Key
  other_key : Key

-- the usages, in the order of `ExtendedKeyUsageType`
pub data Usage : Type 0 where
  server_auth : Usage
  client_auth : Usage
  code_signing : Usage
  email_protection : Usage
  time_stamping : Usage
  ocsp_signing : Usage
  any_usage : Usage
  other_usage : Usage

-- AKI, the authority's key identifier
pub record Aki : Type 0 where
  pub mark : Mark
  pub key_id : Option Bytes
  pub issuer : Option Bytes
  pub serial : Option Bytes

-- SKI, the subject's key identifier
pub record Ski : Type 0 where
  pub mark : Mark
  pub key_id : Bytes

-- EKU, the extended key usage
pub record Eku : Type 0 where
  pub mark : Mark
  pub usages : List Usage

-- BC, the basic constraints
pub record Bc : Type 0 where
  pub mark : Mark
  pub ca : Bool
  pub path_length : Option ℤ

-- KU, the key usage: one bit each
pub record Ku : Type 0 where
  pub mark : Mark
  pub digital_signature : Bool
  pub non_repudiation : Bool
  pub key_encipherment : Bool
  pub data_encipherment : Bool
  pub key_agreement : Bool
  pub key_cert_sign : Bool
  pub crl_sign : Bool
  pub encipher_only : Bool
  pub decipher_only : Bool

-- SAN, the subject's other names
pub record San : Type 0 where
  pub mark : Mark
  pub names : List GeneralName

-- NC, the name constraints
pub record Nc : Type 0 where
  pub mark : Mark
  pub permitted : List GeneralName
  pub excluded : List GeneralName

-- whether a certificate has extensions at all
pub data Extensions : Type 0 where
  no_extensions : Extensions
  some_extensions : Extensions

-- a certificate; beside each field the words of its row
pub record Cert : Type 0 where
  -- 0
  pub fingerprint : Bytes
  -- 1
  pub version : ℕ
  -- 2
  pub serial : Bytes
  -- 3 and 4
  pub outer_signature : Bytes
  pub inner_signature : Bytes
  -- 5 and 6
  pub not_before : ℕ
  pub not_after : ℕ
  -- 7 and 8, 9 and 10
  pub issuer : Name
  pub subject : Name
  -- 11 and 12
  pub key : Key
  -- 13 and 14
  pub issuer_uid : Option Bytes
  pub subject_uid : Option Bytes
  -- 15 to 18
  pub aki : Option Aki
  -- 19 and 20
  pub ski : Option Ski
  -- 21 to 23
  pub eku : Option Eku
  -- 24 to 27
  pub bc : Option Bc
  -- 28 and 29
  pub ku : Option Ku
  -- 30 to 32
  pub san : Option San
  -- 33 to 37
  pub nc : Option Nc
  -- 38 and 39: only their marks are kept
  pub policies : Option Mark
  pub aia : Option Mark
  -- 40
  pub extensions : Extensions

-- what the judge is asked: the host, if there is one, and the time
pub record Task : Type 0 where
  pub host : Option Bytes
  pub now : ℕ

-- a chain: how many certificates, and the one at each position, 0 being the leaf
pub record Chain : Type 0 where
  pub task : Task
  pub count : ℕ
  pub cert : ℕ → Cert

-- the nine lists of Chrome's `Policy`, in its order
pub record Lists : Type 0 where
  pub public_suffix : List Bytes
  pub crl : List Bytes
  pub known_roots : List Bytes
  pub symantec_roots : List Bytes
  pub symantec_exceptions : List Bytes
  pub india_trusted : List Bytes
  pub india_domains : List Bytes
  pub anssi_trusted : List Bytes
  pub anssi_domains : List Bytes
