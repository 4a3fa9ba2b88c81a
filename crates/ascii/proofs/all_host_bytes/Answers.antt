use Prim.Native.Nat.{ℕ}
use mathlib.Core.Path.{◌∙◌}
use mathlib.Core.Bool.{◌&&◌}
use lib.Dec.{leb}
use Rattle.std.proofs.Common.{rules}
use Rattle.std.proofs.lemmas.Iterator.{YieldsList-from_slice}
use Rattle.std.proofs.lemmas.Iterator.Search.{all_from_yields_List}
use Rattle.laws.proofs.Meaning.{all_agree}
use Rattle.ascii.specs.Bytes.{letter, dot, class_of}
use Rattle.ascii.proofs.Chains.{all_of_list}
use Rattle.ascii.proofs.Chars.{class_host}
use Rattle.ascii.proofs.all_host_bytes.Goals as goal

pub returns : goal.returns
returns c = all_from_yields_List (λ (x : ℕ). leb letter (class_of x) && leb (class_of x) dot) _ _ _ c.all.ensures.ran (YieldsList-from_slice _ c.iter.ensures.rest) (λ x b q k. search (rules, c.whole-table.ensures)) ∙ all_of_list _ _ ∙ all_agree class_host _
