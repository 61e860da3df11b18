-- A deque that is cut in two.
use Rattle.std.specs.Prelude.{◌≡◌, ℕ, Option, None, List, [], ◌∷◌, ◌++◌, map}
use Rattle.deque_machine.specs.Moments.{Moment, deque_of}
use Rattle.deque_machine.specs.Machine.{Setting}
use Rattle.moment_shown.specs.Parts.{Thread, Deque, Parts, deque_shown}
use Rattle.moment_shown.specs.Standing.{Shows}

abbrev pub deque_with : ℕ → Option ℕ → List Thread → Deque
deque_with id owner threads = record { id = id; owner = owner; threads = threads }

-- Where a deque of two is cut in two, the lower one without an owner, the parts show the moment whose deque is cut so.
abbrev pub SettingAsideShows : Setting → Type 0
SettingAsideShows s = (m : Moment) (parts : Parts) (left right : List Deque) (id new : ℕ) (owner : Option ℕ) (top bottom : Thread)
    → Shows s.quota s.list parts m → parts.deques ≡ left ++ deque_with id owner (top ∷ bottom ∷ []) ∷ right
    → Shows s.quota s.list
    (record parts { deques = left ++ deque_with id owner (top ∷ []) ∷ deque_with new None (bottom ∷ []) ∷ right })
    (record m {
      deques = map deque_shown left ++ deque_of id owner (top.label ∷ []) ∷ deque_of new None (bottom.label ∷ []) ∷ map deque_shown right;
    })
