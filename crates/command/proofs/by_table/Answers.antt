-- `by_table` meets its contract: among the rows that are left, and nothing is laid before one is found. Assumes nothing.
use mathlib.Core.Path.{sym, ap, ◌∙◌}
use native.Mathlib.Omega.{arith}
use Rattle.std.specs.Prelude.{Err}
use Rattle.line.specs.Words.{word_at, words_at}
use Rattle.line.specs.declared.Place.{Place}
use Rattle.line.proofs.WordLaws.{word_is, word_end_is}
use Rattle.command.specs.Forms.{ends}
use Rattle.command.specs.declared.Fault.TheVariants.{NotACommand}
use Rattle.command.proofs.FormLaws.{named, place_at, parses_ends, no_row, no_form, row_here, row_on}
use Rattle.command.proofs.by_table.Goals as goal

pub returns-in_default : goal.returns-in_default
returns-in_default c =
    let q = c.args in
    let l = c.loop-name in
    let e = sym l.invariant.2 ∙ no_row (word_at q.line.now q.word.from q.word.to) (words_at q.line.now q.word.to) l.row (word_end_is c.next_word.ensures c.in_default.is) ∙ ap (λ (p : Place). ends (Err (NotACommand p))) (place_at q.line.now q.word c.requires.0 c.requires.1) in
    rw (e, ← l.invariant.0) (parses_ends l.numbers (Err (NotACommand q.word)))

pub returns-in_default-next_word : goal.returns-in_default-next_word
returns-in_default-next_word c =
    let q = c.args in
    let l = c.loop-name in
    let e = sym l.invariant.2 ∙ no_form (word_at q.line.now q.word.from q.word.to) (words_at q.line.now q.word.to) l.row (word_is c.next_word.ensures c.in-Some.is) (word_end_is c.next_word-in-Some.ensures c.in_default-next_word.is) ∙ ap (λ (p : Place). ends (Err (NotACommand p))) (place_at q.line.now q.word c.requires.0 c.requires.1) in
    rw (e, ← l.invariant.0) (parses_ends l.numbers (Err (NotACommand q.word)))

pub returns-then-same : goal.returns-then-same
returns-then-same c =
    let q = c.args in
    let l = c.loop-name in
    let e = sym l.invariant.2 ∙ row_here (word_at q.line.now q.word.from q.word.to) (words_at q.line.now q.word.to) l.row (word_is c.next_word.ensures c.in-Some.is) (word_is c.next_word-in-Some.ensures c.in-Some-next_word.is) (named q.line.now _ q.word.from q.word.to _ c.same.ensures (omega arith) c.if-same.true) in
    rw (e, ← c.verb_at.ensures, ← l.invariant.0) c.lay_line.ensures

pub loop-name-preserved : goal.loop-name-preserved
loop-name-preserved c =
    let q = c.args in
    let l = c.loop-name in
    let w = word_is c.next_word.ensures c.in-Some.is in
    let v = word_is c.next_word-in-Some.ensures c.in-Some-next_word.is in
    (l.invariant.0, omega arith, sym (row_on (word_at q.line.now q.word.from q.word.to) (words_at q.line.now q.word.to) l.row w v (named q.line.now _ q.word.from q.word.to _ c.same.ensures (omega arith) c.if-same.false)) ∙ l.invariant.2)
