-- `parse` meets its contract: by the first word, nothing or a row of the table. Assumes nothing.
use borrow.Author.Tests.{eq-eqb, ne_eqb}
use Rattle.std.specs.Prelude.{None, Ok}
use Rattle.line.proofs.WordLaws.{word_is, word_end_is}
use Rattle.command.proofs.FormLaws.{parses_ends, table_is, line_nothing, line_remark, line_command}
use Rattle.command.proofs.parse.Goals as goal

pub returns-in_default : goal.returns-in_default
returns-in_default c =
    let q = c.args in
    rw (line_nothing q.line.now (word_end_is c.next_word.ensures c.in_default.is)) (parses_ends q.numbers.now (Ok None))

pub returns-then-line-word-eq35 : goal.returns-then-line-word-eq35
returns-then-line-word-eq35 c =
    let q = c.args in
    rw (line_remark (word_is c.next_word.ensures c.in-Some.is) (eq-eqb _ _ c.if-line-word-eq35.true)) (parses_ends q.numbers.now (Ok None))

pub returns : goal.returns
returns c = rw (line_command (word_is c.next_word.ensures c.in-Some.is) (ne_eqb _ _ c.if-line-word-eq35.false), ← table_is) c.by_table.ensures
