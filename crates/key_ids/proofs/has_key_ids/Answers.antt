use Rattle.laws.specs.Optional.{is_there}
use Rattle.model.specs.Model.{Aki}
use Rattle.model.specs.Decode.{optional_string}
use Rattle.key_ids.specs.KeyIds.{has_key_ids}
use Rattle.model.proofs.Optional.{is_there_law, there_passes}
use Rattle.key_ids.proofs.Laws.{unless_both}
use Rattle.key_ids.proofs.has_key_ids.Goals as goal

pub returns : goal.returns
unfolding has_key_ids optional_string
returns c = unless_both c.args.root c.args.leaf (there_passes _ _ c.cert_word.ensures (λ (a : Aki). is_there a.key_id) (is_there_law _ _ c.cert_word-2.ensures)) (is_there_law _ _ c.cert_word-3.ensures)
