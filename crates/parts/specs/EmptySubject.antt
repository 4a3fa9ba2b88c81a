-- Rule 12: a certificate without a subject. Assumes nothing.
use Rattle.std.specs.Prelude.{Bool, not, ◌||◌}
use Rattle.laws.specs.Lists.{is_empty}
use Rattle.laws.specs.Optional.{there_and}
use Rattle.model.specs.Model.{Cert, San}
use Rattle.model.specs.Marks.{is_critical}

-- an empty subject, one without an RDN, needs a critical SAN
unfoldable pub empty_subject_implies_critical_san : Cert → Bool
empty_subject_implies_critical_san c = not (is_empty c.subject) || there_and (λ (s : San). is_critical s.mark) c.san
