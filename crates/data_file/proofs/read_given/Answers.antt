use Rattle.data_file.proofs.Laws.{begins}
use Rattle.data_file.proofs.read_given.Goals as goal

pub returns : goal.returns
returns g c =
    let words = c.in_ok-size_within.ensures in
    let bytes = c.in_ok-size_within-2.ensures in
    (begins _ c.read_words.ensures words.0 words.1, begins _ c.read_bytes.ensures bytes.0 bytes.1)
