-- What each lawful moment says about the actions and the deques that are left.
use Rattle.std.specs.Prelude.{◌≡◌, ℕ, ◌+◌, ◌<◌, ◌≤◌, [], length}
use Rattle.deque_machine.specs.Books.{booked}
use Rattle.deque_machine.specs.Moments.{Moment, done_at, threads_in}
use Rattle.deque_machine.specs.Machine.{Setting, does, May, HasEnded}
use Rattle.deque_machine.specs.LawfulOrder.{IsLawful}

-- What is done and one more action for each thread of a deque, its End, are actions of the list.
abbrev pub AllAreWithin : Setting → Type 0
AllAreWithin s = (m : Moment) → IsLawful s m → length (booked m.books) + length (threads_in m.deques) ≤ length s.list

-- each deque holds a thread
abbrev pub DequesHoldThreads : Setting → Type 0
DequesHoldThreads s = (m : Moment) → IsLawful s m → length m.deques ≤ length (threads_in m.deques)

-- after the End of the root no deque is left
abbrev pub EndedHasNoDeques : Setting → Type 0
EndedHasNoDeques s = (m : Moment) → IsLawful s m → HasEnded s m [] → m.deques ≡ []

-- an action is done at the moment after it
abbrev pub ActionsAreDone : Setting → Type 0
ActionsAreDone s = (m after : Moment) (worker place : ℕ) → May s m worker (does place) after → 0 < done_at after place
