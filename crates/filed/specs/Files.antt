-- A watch file as C is told it: what reading, writing and listing one come to.
use Rattle.std.specs.Prelude.{cond, ℕ, eqb, get_or}
use Rattle.number.specs.Refusal.{Numbered, Answer, refused, given}
use Rattle.filed.specs.declared.FileTold.{FileTold}
use Rattle.filed.specs.declared.WriteTold.{WriteTold}
use Rattle.filed.specs.declared.PlaceTold.{PlaceTold}
use Rattle.filed.specs.declared.ListTold.{ListTold}

-- A good file has so many records; 18 also returns the place.
abbrev pub file_in : Answer Numbered ℕ → FileTold
file_in (refused r) = record { number = r.number; place = get_or r.extra 0 0; count = 0 }
file_in (given n) = record { number = 0; place = 0; count = n }

-- 16 also returns an index, 17 the bytes needed; a good write tells the bytes of the file.
abbrev pub write_in : Answer Numbered ℕ → WriteTold
write_in (refused r) =
    record { number = r.number; index = cond (eqb r.number 16) (get_or r.extra 0 0) 0; bytes = cond (eqb r.number 16) 0 (get_or r.extra 0 0) }
write_in (given n) = record { number = 0; index = 0; bytes = n }

-- 16 also returns an index, 17 the bytes needed, 18 the place; a good placing tells the bytes of the file.
abbrev pub place_in : Answer Numbered ℕ → PlaceTold
place_in (refused r) =
    record {
      number = r.number;
      index = cond (eqb r.number 16) (get_or r.extra 0 0) 0;
      place = cond (eqb r.number 18) (get_or r.extra 0 0) 0;
      bytes = cond (eqb r.number 17) (get_or r.extra 0 0) 0;
    }
place_in (given n) = record { number = 0; index = 0; place = 0; bytes = n }

-- 17 also returns the bytes needed; a good listing tells the bytes of the text.
abbrev pub list_in : Answer Numbered ℕ → ListTold
list_in (refused r) = record { number = r.number; bytes = get_or r.extra 0 0 }
list_in (given n) = record { number = 0; bytes = n }
