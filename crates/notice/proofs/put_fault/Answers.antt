-- `put_fault` meets its contract: case by case. Assumes nothing.
use Rattle.notice.proofs.put_fault.Goals as goal

pub returns-in-NotACommand : goal.returns-in-NotACommand
returns-in-NotACommand c = rw c.in-NotACommand.is c.put_wrong.ensures

pub returns-in-WordCount : goal.returns-in-WordCount
returns-in-WordCount c = rw c.in-WordCount.is c.bytes.ensures

pub returns-in-NotSuch : goal.returns-in-NotSuch
returns-in-NotSuch c = rw c.in-NotSuch.is c.put_not_such.ensures

pub returns-in-Misshapen : goal.returns-in-Misshapen
returns-in-Misshapen c = rw c.in-Misshapen.is c.put_wrong-in-Misshapen.ensures
