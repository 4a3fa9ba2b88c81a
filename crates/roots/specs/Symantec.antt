-- Rule 20: roots of Symantec. It alone takes the whole chain. Assumes nothing.
use Rattle.std.specs.Prelude.{◌-◌, Bool, not, ◌||◌}
use Rattle.laws.specs.Lists.{any, rows}
use Rattle.lists.specs.Listed.{listed}
use Rattle.model.specs.Model.{Cert, Chain, Lists}

-- the root's fingerprint is in symantec_roots
unfoldable pub is_symantec_root : Lists → Cert → Bool
is_symantec_root l root = listed l.symantec_roots root.fingerprint

-- the certificate's fingerprint is in symantec_exceptions
unfoldable pub is_exception : Lists → Cert → Bool
is_exception l c = listed l.symantec_exceptions c.fingerprint

-- such a root needs an exception at some position from 1 to n - 2
unfoldable pub symantec_holds : Lists → Chain → Bool
symantec_holds l c =
    not (is_symantec_root l (c.cert (c.count - 1))) || any (is_exception l) (rows c.cert 1 (c.count - 1))
