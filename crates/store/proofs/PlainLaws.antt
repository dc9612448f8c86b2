-- Whether what hearing comes to returns nothing besides its number: all but 19 and 11 do.
use Rattle.std.specs.Prelude.{Bool, true, false, Result, Ok, Err}
use Rattle.store.specs.declared.HearingRefusal.{HearingRefusal}
use Rattle.store.specs.declared.HearingRefusal.TheVariants.{Message, Repeated, Late, OutsideDial, NoCourse, OutsideAnemometer, NoStore}

abbrev pub is_plain : Result (Unit {0}) HearingRefusal → Bool
is_plain (Ok u) = true
is_plain (Err (Message r)) = true
is_plain (Err Repeated) = true
is_plain (Err (Late minutes)) = false
is_plain (Err OutsideDial) = true
is_plain (Err (NoCourse m)) = false
is_plain (Err OutsideAnemometer) = true
is_plain (Err NoStore) = true
