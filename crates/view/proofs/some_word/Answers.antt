use mathlib.Core.Path.{refl}
use Rattle.view.specs.Shown.{some_word}
use Rattle.view.proofs.Laws.{found, ended, shorter, left}
use Rattle.view.proofs.some_word.Goals as goal

pub loop-v-init : goal.loop-v-init
unfolding some_word
loop-v-init c = rw c.over-v.ensures (record { words = refl; section = refl; end = refl; answer = refl })

pub returns-then-word-x : goal.returns-then-word-x
returns-then-word-x c = found _ _ _ _ _ _ c.loop-v.v c.loop-v.invariant c.loop-v-test.true c.word.ensures c.if-word-x.true

pub loop-v-smaller : goal.loop-v-smaller
loop-v-smaller c = shorter _ _ _ _ _ _ c.loop-v.v c.loop-v.invariant c.next-v.result c.next-v.ensures c.loop-v-test.true

pub loop-v-preserved : goal.loop-v-preserved
loop-v-preserved c = left _ _ _ _ _ _ c.loop-v.v c.loop-v.invariant c.next-v.result c.next-v.ensures c.loop-v-test.true c.word.ensures c.if-word-x.false

pub returns : goal.returns
returns c = ended _ _ _ _ _ _ c.loop-v.v c.loop-v.invariant c.loop-v-test.false
