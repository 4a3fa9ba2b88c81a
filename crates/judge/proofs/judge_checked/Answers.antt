use mathlib.Core.Path.{refl}
use Rattle.judge.proofs.Laws.{sound_outcome, refused_outcome}
use Rattle.judge.proofs.judge_checked.Goals as goal

pub judge_sound-requires : goal.judge_sound-requires
judge_sound-requires c = c.requires c.in-Ok.is

pub returns-in-Ok : goal.returns-in-Ok
returns-in-Ok c = sound_outcome _ _ _ c.in-Ok.is c.judge_sound.ensures

pub returns-in-Err : goal.returns-in-Err
returns-in-Err c = refused_outcome _ _ _ _ c.in-Err.is c.from.ensures refl
