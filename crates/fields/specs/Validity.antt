-- Rule 2: a certificate is in date. Assumes nothing.
use Rattle.std.specs.Prelude.{Bool, ◌&&◌, leb}
use Rattle.model.specs.Model.{Cert, Task}

-- not before ≤ now ≤ not after; both ends count
unfoldable pub check_cert_time : Task → Cert → Bool
check_cert_time t c = leb c.not_before t.now && leb t.now c.not_after
