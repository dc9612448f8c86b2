-- `figures_in` meets its contract: word by word. Assumes nothing.
use Rattle.handed.proofs.figures_in.Goals as goal

pub returns : goal.returns
returns c =
    rw (c.signed_word-5.ensures, c.signed_word-4.ensures, c.signed_word-3.ensures, c.signed_word-2.ensures, c.signed_word.ensures)
