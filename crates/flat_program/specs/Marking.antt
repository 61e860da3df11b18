-- Where the frames of a thread are those of a mark.
use Rattle.std.specs.Prelude.{◌≡◌, ℕ, List, ◌∷◌, ◌++◌, reverse}
use Rattle.thread_stack.specs.declared.frame.Frame.{Frame}
use Rattle.flat_code.specs.Passed.Flat.{frames_at}
use Rattle.flat_code.specs.Shown.{flat_shown}
use Rattle.flat_program.specs.declared.flat_list.FlatList.{FlatList}

-- A thread's next frame, with a stack of those after it, the last one of which comes first, has the frames of the mark of a place, and after
-- them those that are left on the stack.
abbrev pub IsMarkOn : FlatList → (place : ℕ) → (next : Frame) → (stack left : List Frame) → Type 0
IsMarkOn l place next stack left = next ∷ reverse stack ≡ frames_at (flat_shown l.places.items) place ++ reverse left
