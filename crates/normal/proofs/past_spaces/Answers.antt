use mathlib.Core.Bool.{not}
use Rattle.std.proofs.Common.{rules}
use Rattle.std.proofs.lemmas.Iterator.{YieldsList-from_slice}
use Rattle.std.proofs.lemmas.Iterator.Search.{position_from_yields_List}
use Rattle.ascii.specs.Bytes.{is_space}
use Rattle.normal.proofs.Forms.{past_front}
use Rattle.normal.proofs.past_spaces.Goals as goal

pub returns : goal.returns
returns c = past_front _ _ c.unwrap_or-k.ensures (position_from_yields_List (λ x. not (is_space x)) _ _ _ c.position.ensures.ran (YieldsList-from_slice _ c.iter.ensures.rest) (λ x b q k. search rules))
