-- The refusals of a policy bundle, line by line (document 01, "What the judge says"): n is the number, p the word that is named. Assumes nothing.
use Rattle.std.specs.Prelude.{ℕ, ◌<◌, ◌≡◌, List}
use Rattle.table.specs.Table.{word}
use Rattle.model.specs.Sections.{policy_header, list_count, entries}
use Rattle.model.specs.Decode.{list_word}
use Rattle.sections.specs.Placed.{policy_sections}
use Rattle.sound.specs.Where.{RowWord, EntryWord, NoString, NoRange, High}
use Rattle.sound.specs.Shared.{SharedFault}

pub data PolicyFault (w b : List ℕ) (n p : ℕ) : Type 0 where
  -- ---- 2 to 4, and a string that ends outside the bytes: what both bundles share
  shared : SharedFault policy_header policy_sections w b n p → PolicyFault w b n p
  -- ---- 5
  -- an entry of L, in a list or not, at its word
  entry_out : n ≡ 5 → RowWord w entries 0 p → NoString w p → PolicyFault w b n p
  -- one of the nine lists, at the first word of its range
  list_out : (k : ℕ) → k < list_count → n ≡ 5 → p ≡ list_word k → NoRange w entries p → PolicyFault w b n p
  -- ---- 7, at the entry's word in L: a byte over 127 in an entry of public_suffix, india_domains or anssi_domains
  public_suffix_high : n ≡ 7 → EntryWord w 0 p → High w b (word w p) → PolicyFault w b n p
  india_domain_high : n ≡ 7 → EntryWord w 6 p → High w b (word w p) → PolicyFault w b n p
  anssi_domain_high : n ≡ 7 → EntryWord w 8 p → High w b (word w p) → PolicyFault w b n p
