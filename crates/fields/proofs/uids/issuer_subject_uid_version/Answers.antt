use Rattle.model.specs.Decode.{optional_string}
use Rattle.fields.specs.Uids.{issuer_subject_uid_version}
use Rattle.fields.proofs.Laws.{version_fits}
use Rattle.fields.proofs.uids.issuer_subject_uid_version.Goals as goal

pub returns : goal.returns
unfolding issuer_subject_uid_version optional_string
returns c = version_fits _ _ _ _ _ c.cert_word-version.ensures c.cert_word.ensures c.cert_word-2.ensures
