-- Assumes nothing.
use Prim.Native.Nat.{◌<◌}
use Rattle.std.proofs.Common.{rules}
use native.Mathlib.Omega.{arith}
use mathlib.Core.Path.{refl, sym}
use Rattle.constraints.proofs.Laws.{match_dns, match_directory, match_ip, match_rest}
use Rattle.constraints.proofs.nc_match.Goals as goal

pub returns-in-Ok-Dns : goal.returns-in-Ok-Dns
returns-in-Ok-Dns c = match_dns _ _ _ _ _ _ c.kind.ensures _ (search rules) c.check_dns_name_constraints.ensures (rw (← c.name_text.ensures, ← c.asked_name-name.ensures) refl)

pub returns-in-Ok-Directory : goal.returns-in-Ok-Directory
returns-in-Ok-Directory c = match_directory _ _ _ _ _ _ c.kind.ensures (search rules) (rw (← c.name_range.ensures) c.check_directory_name_constraints.ensures)

pub returns-in-Ok-Ip : goal.returns-in-Ok-Ip
returns-in-Ok-Ip c = match_ip _ _ _ _ _ _ c.kind.ensures (search rules) (rw (← c.name_text-in-Ok-Ip.ensures) c.check_ip_addr_name_constraints.ensures)

pub returns-in-Err : goal.returns-in-Err
returns-in-Err c =
    let far : 2 < c.kind.result = c.in-Err.ensures.1 in
    rw c.in-Err.ensures.0 (match_rest _ _ _ _ _ _ c.kind.ensures (λ e. omega (arith, far, e)) (λ e. omega (arith, far, e)) (λ e. omega (arith, far, e)))
