use Rattle.purpose.proofs.Laws.{server_only, server_or_any}
use Rattle.purpose.proofs.serves.Goals as goal

pub returns-in-Server : goal.returns-in-Server
returns-in-Server c = server_only _ _ c.in-Server.is

pub returns-in-ServerOrAny : goal.returns-in-ServerOrAny
returns-in-ServerOrAny c = server_or_any _ _ c.in-ServerOrAny.is
