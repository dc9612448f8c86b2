-- `records_in` meets its contract: the records so far are those of the file. Assumes nothing.
use Rattle.watchlog.specs.Places.{ReadIn}
use Rattle.watchlog.proofs.records_in.Given as goal

abbrev pub invariant-loop-i : goal.invariant-loop-i
invariant-loop-i l = ReadIn l.file l.i l.records
