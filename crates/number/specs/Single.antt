-- What it means that a contract allows a single answer.
use Rattle.std.specs.Prelude.{◌≡◌, List, ℕ}

-- Of a contract's `ensures`, as the check reads it (`Reads.Post`): over lifetimes, arguments, the result and the parameters at
-- exit, any two results that it allows for the same arguments are equal.
abbrev pub Single : {L : Type 0} {A R S : L → Type 0} → ((κs : L) → A κs → R κs → S κs → Type 0) → Type 0
Single {L} {A} {R} {S} Post = (κs : L) (a : A κs) (r r' : R κs) (s s' : S κs) → Post κs a r s → Post κs a r' s' → r ≡ r'

-- And any two lists of words that it leaves in lent memory, which `left` reads off the parameters at exit.
abbrev pub SingleLeft : {L : Type 0} {A R S : L → Type 0} → ((κs : L) → A κs → R κs → S κs → Type 0) → ((κs : L) → S κs → List ℕ) → Type 0
SingleLeft {L} {A} {R} {S} Post left =
    (κs : L) (a : A κs) (r r' : R κs) (s s' : S κs) → Post κs a r s → Post κs a r' s' → left κs s ≡ left κs s'
