-- The measure of `Page::natural`: the number. Assumes nothing.
use Rattle.text.proofs.Page.+natural.Given as goal

abbrev pub decreases-natural : goal.decreases-natural
decreases-natural l = l.n
