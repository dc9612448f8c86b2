-- A field at the front of a list, once the code has tested it: what the list comes to then. Assumes nothing.
use Rattle.watchfile.proofs.FieldLaws.{cut, wrong, right, none}

pub ruleset tested = (cut, wrong, right, none)
