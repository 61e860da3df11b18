-- What is recorded of a play of the core is the trail of the play of the program, and what is told of a trail.
use Rattle.std.proofs.Common.{◌≡◌, ℕ, List, Some, ap, ◌∙◌, sym, subst}
use Rattle.std.proofs.Math.Logic.{∥∥₁_map}
use Rattle.std.specs.Prelude.{Result, Ok, Err}
use Rattle.command_line.specs.declared.command.Command.{Command}
use Rattle.play_rules.specs.declared.stop.Stop.{Stop}
use Rattle.play_rules.specs.declared.stop.Stop.TheVariants.{ArenaFull, DequesFull, StepsSpent, OutOfMemory}
use Rattle.dag_order.specs.declared.finish.Finish.{Finish}
use Rattle.depth_first_run.specs.States.{Setting}
use Rattle.deque_machine.specs.Moments.{Moment}
use Rattle.deque_machine.specs.Play.{finished}
use Rattle.deque_machine.specs.Runs.{Pair}
use Rattle.deque_machine.specs.Terms.{Terms}
use Rattle.trail_record.specs.Passed.Cores.{IsAt, end_of}
use Rattle.trail_record.specs.Passed.Core.{Core}
use Rattle.play_rules.specs.declared.ends.RunEnd.TheVariants.{Finished, Stopped}
use Rattle.trail_check.specs.Told.{events_in_trail}
use Rattle.par_ownership.specs.Ownership.{Ownership}
use Rattle.par_ownership.proofs.Law.{tells_program}
use Rattle.par_text.specs.Judging.{IsText}
use Rattle.par_tree.specs.Tree.{Program}
use Rattle.trail_check.specs.declared.verify_fail.VerifyFail.{VerifyFail}
use Rattle.trail_check.specs.declared.verify_fail.VerifyFail.TheVariants.{LongRun, BadEvent, NotEnded, WrongNumbers, OutOfMemory as NoRoom}
use Rattle.trail_meaning.specs.Shown.{TrailShown}
use Rattle.trail_meaning.specs.declared.trail_event.TrailEvent.{TrailEvent}
use Rattle.dfd_plays.specs.CorePlays.{Played, PlayedAs}
use Rattle.dfd_plays.specs.Peak.{finish_status}
use Rattle.dfd_plays.specs.Play.{TellsPlay, play_setting, play_terms, seeded_words}
use Rattle.dfd_plays.specs.Sources.{SourceGives}
use Rattle.dfd_plays.specs.Trails.{Records, TellsCheck, VerifyMakes}
use Rattle.dfd_plays.specs.declared.status.Status.{Status}
use Rattle.dfd_plays.specs.declared.status.Status.TheVariants.{Done, Usage, ReadFault, WriteFault, Syntax, Check, UserFault, StepsSpent as LimitSpent, ArenaFull as ArenaStatus, DequesFull as DequesStatus, OutOfMemory as NoMemory, TrailRefused}

pub recorded_makes : (command : Command) (bytes : List ℕ) (p : Program) (after : Core) (finish : Finish) (events : List TrailEvent) (status : Status)
    (text : List ℕ) → PlayedAs (play_setting command p) (play_terms command) (seeded_words command.seed) after (Finished finish) events
    → end_of after ≡ Some (Finished finish) → status ≡ finish_status finish
    → ((c : Setting) (run : List Pair) (m : Moment) → IsAt c after run m → events ≡ events_in_trail run → Records command bytes c run m text)
    → TellsPlay (Records command bytes) command p status text
recorded_makes command bytes p after finish events status text plays end is records = ∥∥₁_map plays.1 (λ w. (
  w.0.later,
  w.0.last,
  finished,
  w.0.plays,
  (is ∙ ap finish_status (w.0.is_at.finished finish end).1, records _ w.0.later w.0.last w.0.is_at w.1),
))

-- what is recorded of a play is left out
pub played_by : (c : Setting) (terms : Terms) (words : ℕ → ℕ) (after : Core) (stop : Stop) (events : List TrailEvent)
    → PlayedAs c terms words after (Stopped stop) events → Played c terms words after (Stopped stop)
played_by c terms words after (ArenaFull live asked) events plays = (plays.0, ∥∥₁_map plays.1 (λ w. w.0))
played_by c terms words after (DequesFull deques) events plays = (plays.0, ∥∥₁_map plays.1 (λ w. w.0))
played_by c terms words after (StepsSpent limit) events plays = (plays.0, ∥∥₁_map plays.1 (λ w. w.0))
played_by c terms words after OutOfMemory events plays = (plays.0, ∥∥₁_map plays.1 (λ w. w.0))

-- what is told of an answer to a trail is not the refusal of a source
HasAnswer : Status → Type 0
HasAnswer Syntax = ⊥
HasAnswer Check = ⊥
HasAnswer other = Unit {0}

told_status : (t : TrailShown) (answer : Result ℕ VerifyFail) (status : Status) (text : List ℕ) → TellsCheck t answer status text → HasAnswer status
unfolding HasAnswer
told_status t (Ok actions) status text told = subst HasAnswer (sym told.0) tt
told_status t (Err (LongRun limit)) status text told = subst HasAnswer (sym told.0) tt
told_status t (Err (BadEvent event)) status text told = subst HasAnswer (sym told.0) tt
told_status t (Err (NotEnded events)) status text told = subst HasAnswer (sym told.0) tt
told_status t (Err (WrongNumbers numbers)) status text told = subst HasAnswer (sym told.0) tt
told_status t (Err NoRoom) status text told = absurd told

-- what is made of a trail and the program of its source is made of the trail
pub source_of_trail : (t : TrailShown) (p : Program) (status : Status) (text : List ℕ) → IsText t.source p → Ownership p → VerifyMakes t p status text
    → SourceGives (VerifyMakes t) t.source status text
unfolding HasAnswer
source_of_trail t p Done text is own makes = (p, (is, ((tells_program p).complete own, makes)))
source_of_trail t p Usage text is own makes = (p, (is, ((tells_program p).complete own, makes)))
source_of_trail t p ReadFault text is own makes = (p, (is, ((tells_program p).complete own, makes)))
source_of_trail t p WriteFault text is own makes = (p, (is, ((tells_program p).complete own, makes)))
source_of_trail t p Syntax text is own makes = absurd (told_status t makes.0 Syntax text makes.1.1)
source_of_trail t p Check text is own makes = absurd (told_status t makes.0 Check text makes.1.1)
source_of_trail t p UserFault text is own makes = (p, (is, ((tells_program p).complete own, makes)))
source_of_trail t p LimitSpent text is own makes = (p, (is, ((tells_program p).complete own, makes)))
source_of_trail t p ArenaStatus text is own makes = (p, (is, ((tells_program p).complete own, makes)))
source_of_trail t p DequesStatus text is own makes = (p, (is, ((tells_program p).complete own, makes)))
source_of_trail t p NoMemory text is own makes = (p, (is, ((tells_program p).complete own, makes)))
source_of_trail t p TrailRefused text is own makes = (p, (is, ((tells_program p).complete own, makes)))
