-- Rule 17: under a known root a leaf doesn't last too long. Assumes nothing.
use Rattle.std.specs.Prelude.{Bool, not, ◌||◌}
use Rattle.lists.specs.Listed.{listed}
use Rattle.model.specs.Model.{Cert, Lists}
use Rattle.calendar.specs.Spans.{span_valid}

-- the root's fingerprint is in known_roots
unfoldable pub is_known_root : Lists → Cert → Bool
is_known_root l root = listed l.known_roots root.fingerprint

-- the leaf lasts no longer than the calendar allows
unfoldable pub leaf_duration_valid : Cert → Bool
leaf_duration_valid leaf = span_valid leaf.not_before leaf.not_after

-- if the root is known, that
unfoldable pub duration_holds : Lists → Cert → Cert → Bool
duration_holds l leaf root = not (is_known_root l root) || leaf_duration_valid leaf
