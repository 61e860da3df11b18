-- How it is with a seat that makes a bounded number of tries.
use Rattle.std.specs.Prelude.{◌≡◌, ◌⊎◌, ℕ, zero, suc, ◌+◌, ◌<◌, None, Some, List, ◌++◌, length}
use Rattle.play_rules.specs.declared.stop.Stop.{Stop}
use Rattle.worker_entry.specs.declared.hall.Hall.{Hall}
use Rattle.worker_entry.specs.declared.seat.Seat.{Seat}
use Rattle.worker_entry.specs.declared.refused.EventRefused.TheVariants as why
use Rattle.hall_slots.specs.declared.event.Event.{Event}
use Rattle.hall_threads.specs.declared.answer.Answer.{Answer}
use Rattle.hall_threads.specs.declared.answer.Answer.TheVariants as answers
use Rattle.hall_threads.specs.declared.bounded.WorkSome.{WorkSome}
use Rattle.hall_threads.specs.declared.bounded.WorkSome.TheVariants.{Spent, Refused, Over}
use Rattle.hall_threads.specs.Trying.{Tries, draws}
use Rattle.hall_threads.specs.Working.{HasSeen}

-- an event was done, or a stop was found
abbrev pub TriesWell : Hall → (word : ℕ) → Seat → Seat → Type 0
TriesWell hall word before after =
    ((event : Event) × Tries hall word before after (answers.Did event)) ⊎ ((stop : Stop) × Tries hall word before after (answers.Found stop))

-- So many tries one after the other, each of which did an event or found a stop. They drew so many of the words that came.
abbrev pub MakesTries : Hall → (words : ℕ → ℕ) → (tries drawn : ℕ) → Seat → Seat → Type 0
MakesTries hall words zero drawn before after = (drawn ≡ 0) × (after ≡ before)
MakesTries hall words (suc tries) drawn before after = (earlier : ℕ) × (middle : Seat) × MakesTries hall words tries earlier before middle
    × TriesWell hall (words earlier) middle after × (drawn ≡ earlier + draws middle)

-- the seat notes so many events more
abbrev pub Adds : (done : ℕ) → Seat → Seat → Type 0
Adds done before after = (events : List Event) × (length events ≡ done)
    × (after.place.hand.note.mine ≡ before.place.hand.note.mine ++ events)

-- each of so many tries did an event; or the last of them found a stop, and the others did one each
abbrev pub CountsTries : (tries done : ℕ) → Seat → Seat → Type 0
CountsTries tries done before after = ((done ≡ tries) × (after.stop ≡ before.stop))
    ⊎ ((done + 1 ≡ tries) × (before.stop ≡ None) × ((stop : Stop) × (after.stop ≡ Some stop)))

-- the words that come are those that came, without so many
abbrev pub AreLater : (drawn : ℕ) → (words later : ℕ → ℕ) → Type 0
AreLater drawn words later = (i : ℕ) → later i ≡ words (i + drawn)

-- After fewer tries than were allowed, one got this answer.
pub record EndsAt (hall : Hall) (tries : ℕ) (words later : ℕ → ℕ) (before after : Seat) (answer : Answer) : Type 0 where
  pub made : ℕ
  pub few : made < tries
  pub drawn : ℕ
  pub middle : Seat
  pub makes : MakesTries hall words made drawn before middle
  pub ends : Tries hall (words drawn) middle after answer
  pub are_later : AreLater (drawn + draws middle) words later

-- How a call ends: all tries were made, and the seat notes its events; or a try was refused, and so it is too; or a try was answered an end,
-- by an event or by the stop that the seat kept.
abbrev pub WorksSome : Hall → (tries : ℕ) → (words later : ℕ → ℕ) → Seat → Seat → WorkSome → Type 0
WorksSome hall tries words later before after (Spent done) = (drawn : ℕ) × MakesTries hall words tries drawn before after
    × AreLater drawn words later × Adds done before after × CountsTries tries done before after
WorksSome hall tries words later before after (Refused done why) =
    EndsAt hall tries words later before after (answers.Refused why) × Adds done before after
WorksSome hall tries words later before after (Over end) =
    EndsAt hall tries words later before after (answers.Over end) × HasSeen after end

-- no slot was refused to it: if a try was refused, there was nothing to steal
abbrev pub IsNeverHeld : WorkSome → Type 0
IsNeverHeld (Spent done) = Unit {0}
IsNeverHeld (Refused done reason) = reason ≡ why.Nothing
IsNeverHeld (Over end) = Unit {0}
