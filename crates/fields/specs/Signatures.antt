-- Rule 3: the signature bytes stand twice. Assumes nothing.
use Rattle.std.specs.Prelude.{Bool}
use Rattle.laws.specs.Lists.{eq_list}
use Rattle.model.specs.Model.{Cert}

-- inner and outer signature bytes are equal
unfoldable pub outer_inner_sig_match : Cert → Bool
outer_inner_sig_match c = eq_list c.inner_signature c.outer_signature
