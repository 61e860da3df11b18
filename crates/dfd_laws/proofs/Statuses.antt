-- Statuses and their numbers.
use Rattle.std.proofs.Common.{◌≡◌, ◌⊎◌, inl, inr, ℕ, [], ◌∷◌, get_or, arith, refl, sym, ap, ◌∙◌}
use Rattle.deque_machine.specs.Play.{Stop, arena_full, steps_spent, deques_full}
use Rattle.dfd_plays.specs.Play.{stop_status}
use Rattle.dfd_plays.specs.Status.{code_of}
use Rattle.dfd_plays.specs.declared.status.Status.{Status}
use Rattle.dfd_plays.specs.declared.status.Status.TheVariants.{Done, Usage, ReadFault, WriteFault, Syntax, Check, UserFault, StepsSpent, ArenaFull, DequesFull, OutOfMemory, TrailRefused}

-- two statuses of one number are one
abbrev with_code : ℕ → Status
with_code code = get_or
    (Done ∷ Usage ∷ ReadFault ∷ WriteFault ∷ Syntax ∷ Check ∷ UserFault ∷ StepsSpent ∷ ArenaFull ∷ DequesFull ∷ OutOfMemory ∷ TrailRefused ∷ []) code Done

code_back : (s : Status) → with_code (code_of s) ≡ s
code_back Done = refl
code_back Usage = refl
code_back ReadFault = refl
code_back WriteFault = refl
code_back Syntax = refl
code_back Check = refl
code_back UserFault = refl
code_back StepsSpent = refl
code_back ArenaFull = refl
code_back DequesFull = refl
code_back OutOfMemory = refl
code_back TrailRefused = refl

pub same_status : (s s' : Status) → code_of s ≡ code_of s' → s ≡ s'
same_status s s' same = sym (code_back s) ∙ ap with_code same ∙ code_back s'

-- the status of a play that was stopped is not that of one that ended
pub not_stopped : (status : Status) (stop : Stop) → status ≡ stop_status stop → (status ≡ Done) ⊎ (status ≡ UserFault) → ⊥
not_stopped status (arena_full live asked) is (inl other) = omega (arith, ap code_of (sym is ∙ other))
not_stopped status (arena_full live asked) is (inr other) = omega (arith, ap code_of (sym is ∙ other))
not_stopped status (steps_spent limit) is (inl other) = omega (arith, ap code_of (sym is ∙ other))
not_stopped status (steps_spent limit) is (inr other) = omega (arith, ap code_of (sym is ∙ other))
not_stopped status (deques_full deques) is (inl other) = omega (arith, ap code_of (sym is ∙ other))
not_stopped status (deques_full deques) is (inr other) = omega (arith, ap code_of (sym is ∙ other))
