use Rattle.table.specs.Table.{word}
use Rattle.table.proofs.Laws.{word_past}
use borrow.Author.Rules.{rules}
use Rattle.table.proofs.word.Goals as goal

pub returns-then-at-words : goal.returns-then-at-words
unfolding word
returns-then-at-words c = search rules

pub returns-else-at-words : goal.returns-else-at-words
returns-else-at-words c = word_past _ _ c.if-at-words.false
