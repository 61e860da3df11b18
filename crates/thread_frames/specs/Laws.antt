-- What the calls of a thread are on the parts.
use Rattle.std.specs.Prelude.{◌≡◌, ℕ, suc, true, false, List, [], ◌∷◌, ◌++◌}
use Rattle.dag_order.specs.declared.thread_id.ThreadId.{ThreadId}
use Rattle.dag_order.specs.LabelOrder.{fork_of}
use Rattle.thread_state.specs.Passed.States.{Setting}
use Rattle.thread_state.specs.Passed.Run.{list_of}
use Rattle.moment_shown.specs.Parts as parts
use Rattle.moment_shown.specs.Events as events
use Rattle.thread_frames.specs.Actions as frames
use Rattle.thread_frames.specs.Actions.{IsOfTheList, deed_of, is_there}
use Rattle.thread_frames.specs.Children.{IsAwaited, with_delivered}
use Rattle.thread_frames.specs.Views.{Child, children_of, label_of, forks_of, newest}
use Rattle.thread_frames.specs.declared.ended.Ended.{Ended}
use Rattle.thread_frames.specs.declared.next.Next.{Next}
use Rattle.thread_frames.specs.declared.thread.Thread.{Thread}
use Rattle.thread_frames.specs.Shown.{child_shown, thread_shown}

-- the action of the list that a thread does next is the next one of the part that it is
abbrev pub NextActionsStand : Type 0
NextActionsStand = (c : Setting) (x : Thread) (next : Next) (is : IsOfTheList c x next)
    → events.IsNextOf (list_of c) (thread_shown x) (IsOfTheList.place is) (deed_of x next)

-- a thread that acted alone has acted, with the same children
abbrev pub ActionsAreActed : Type 0
ActionsAreActed = (before after : Thread) → frames.HasActed before after
    → events.HasActed (thread_shown before) (thread_shown after)
    × (parts.Thread.children (thread_shown after) ≡ parts.Thread.children (thread_shown before))

-- a thread that forked has one child more, the newest
abbrev pub ForksAreForked : Type 0
ForksAreForked = (id : ThreadId) (before after child : Thread) → frames.HasForked id before after child
    → events.HasActed (thread_shown before) (thread_shown after)
    × (parts.Thread.children (thread_shown after)
    ≡ record { id = child.id; ordinal = suc (forks_of before); func = child.func; delivered = false } ∷ parts.Thread.children (thread_shown before))
    × (parts.Thread.children (thread_shown child) ≡ [])
    × (label_of child ≡ fork_of (label_of before) (suc (forks_of before)))

-- a thread that joined has its newest child no more, which was delivered
abbrev pub JoinsAreJoined : Type 0
JoinsAreJoined = (words : ℕ) (before after : Thread) (joined : frames.HasJoined words before after) → is_there (newest (children_of before)) ≡ true
    → events.HasActed (thread_shown before) (thread_shown after)
    × (parts.Thread.children (thread_shown before) ≡ child_shown (frames.HasJoined.joined joined) ∷ parts.Thread.children (thread_shown after))
    × (Child.delivered (frames.HasJoined.joined joined) ≡ true)

-- a result that a thread waits for is handed over to one of its children
abbrev pub HandsOverTo : Thread → Ended → List parts.Child → Type 0
HandsOverTo x ended after =
    (front : List parts.Child) × (back : List parts.Child) × (child : parts.Child)
    × (parts.Thread.children (thread_shown x) ≡ front ++ child ∷ back) × (child.id ≡ ended.id)
    × (after ≡ front ++ record { id = child.id; ordinal = child.ordinal; func = child.func; delivered = true } ∷ back)

abbrev pub DeliveriesHandOver : Type 0
DeliveriesHandOver = (before after : Thread) (ended : Ended) → IsAwaited (label_of before) ended (children_of before)
    → children_of after ≡ with_delivered ended.id (children_of before)
    → HandsOverTo before ended (parts.Thread.children (thread_shown after))
