-- What a list of the policy says of a text. Assumes nothing.
use Rattle.std.specs.Prelude.{List, Bool}
use Rattle.laws.specs.Lists.{any, eq_list}
use Rattle.patterns.specs.Patterns.{match_name}
use Rattle.model.specs.Model.{Bytes}

-- some entry of the list is the text, byte for byte
unfoldable pub listed : List Bytes → Bytes → Bool
listed l s = any (λ e. eq_list e s) l

-- some entry of the list, taken as it stands, matches the name
unfoldable pub matched : List Bytes → Bytes → Bool
matched l n = any (λ e. match_name e n) l
