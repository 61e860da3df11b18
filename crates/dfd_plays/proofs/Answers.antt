-- The answer of a command is the answer of its call, and a front of an answer's text ends a call at a fault.
use Rattle.std.proofs.Common.{◌≡◌, ℕ, List, length, take, Option, ap, refl, sym, ◌∙◌, subst, inl, inr}
use Rattle.std.proofs.Math.Logic.{∥∥₁_elim}
use Rattle.std.proofs.lemmas.Bool.{false≢true}
use Rattle.std.proofs.lemmas.Result.{IfOk-weaker}
use Rattle.std.specs.Prelude.{Result, Ok, Err, IfOk}
use Rattle.std.specs.declared.alloc.AllocError.{AllocError}
use Rattle.accepted_source.specs.Sources.{ReadsSource}
use Rattle.accepted_source.specs.declared.source_fail.SourceFail.{SourceFail}
use Rattle.command_line.specs.Arguments.{IsCommand, wants_groups}
use Rattle.command_line.specs.declared.command.Command.{Command}
use Rattle.command_line.specs.declared.command_kind.CommandKind.{CommandKind}
use Rattle.command_line.specs.declared.command_kind.CommandKind.TheVariants.{Play, Async, Run, Peak, Check as Checks, Make, Loops, Expand, Trail, Verify}
use Rattle.dag_order.specs.declared.finish.Finish.{Finish}
use Rattle.dag_order.specs.declared.finish.Finish.TheVariants.{Done as EndDone, Faulted}
use Rattle.depth_first_run.specs.States.{Setting as RunSetting}
use Rattle.deque_machine.specs.Moments.{Moment}
use Rattle.deque_machine.specs.Play.{Stop, arena_full, steps_spent, deques_full, Ending, finished, stopped}
use Rattle.deque_machine.specs.Runs.{Pair}
use Rattle.depth_first_run.specs.Run.{finish_of_run}
use Rattle.loop_expand.specs.declared.expand_fail.ExpandFail.{ExpandFail}
use Rattle.par_tree.specs.Tree.{Program}
use Rattle.dfd_plays.specs.Counts.{Counts}
use Rattle.dfd_plays.specs.Expanding.{OfExpansion, ExpandMakes}
use Rattle.dfd_plays.specs.Make.{Summarizes, source_of}
use Rattle.dfd_plays.specs.Peak.{PeakMakes, finish_status}
use Rattle.dfd_plays.specs.Async.{IsAsyncPlay}
use Rattle.dfd_plays.specs.Play.{IsPlay, TellsRun, TellsEnding, Reports, PlayMakes, play_setting, stop_status}
use Rattle.dfd_plays.specs.Threads.{IsRunByThreads, RunMakes}
use Rattle.dfd_plays.specs.Trails.{TellsCheck, VerifyMakes, VerifyGives, Records}
use Rattle.trail_check.specs.declared.verify_fail.VerifyFail.{VerifyFail}
use Rattle.trail_check.specs.declared.verify_fail.VerifyFail.TheVariants.{LongRun, BadEvent, NotEnded, WrongNumbers, OutOfMemory as NoMemory}
use Rattle.trail_meaning.specs.Shown.{TrailShown}
use Rattle.dfd_plays.specs.Answer.{most_read, CheckMakes, KindGives, BytesGive, ReadGives, KindAnswers, CommandGives, CallGives, Ends}
use Rattle.dfd_plays.specs.Sources.{RefusalGives, SourceGives}
use Rattle.byte_streams.specs.Sink.{Takes}
use Rattle.byte_streams.specs.Source.{IsRead}
use Rattle.dfd_plays.specs.declared.answer.Answer.{Answer}
use Rattle.dfd_plays.specs.declared.status.Status.{Status}
use Rattle.dfd_plays.specs.declared.status.Status.TheVariants.{Done, Usage, ReadFault, WriteFault, Syntax, Check, UserFault, StepsSpent, ArenaFull, DequesFull, OutOfMemory, TrailRefused}

-- a refusal is the answer of each command that reads a program that keeps the rules
pub source_of_refusal :
    (makes : Program → Status → List ℕ → Type 0) (bytes : List ℕ) (status : Status) (text : List ℕ) →
    RefusalGives bytes status text → SourceGives makes bytes status text
source_of_refusal makes bytes Done text gives = absurd gives
source_of_refusal makes bytes Usage text gives = absurd gives
source_of_refusal makes bytes ReadFault text gives = absurd gives
source_of_refusal makes bytes WriteFault text gives = absurd gives
source_of_refusal makes bytes Syntax text gives = gives
source_of_refusal makes bytes Check text gives = gives
source_of_refusal makes bytes UserFault text gives = absurd gives
source_of_refusal makes bytes StepsSpent text gives = absurd gives
source_of_refusal makes bytes ArenaFull text gives = absurd gives
source_of_refusal makes bytes DequesFull text gives = absurd gives
source_of_refusal makes bytes OutOfMemory text gives = absurd gives
source_of_refusal makes bytes TrailRefused text gives = absurd gives

pub refused_source :
    (makes : Program → Status → List ℕ → Type 0) (bytes : List ℕ) (fail : SourceFail) (result : Result Answer AllocError) →
    ReadsSource bytes (Err fail) →
    IfOk result (λ answer. (other : List ℕ) → ReadsSource other (Err fail) → RefusalGives other answer.status answer.text.items) →
    IfOk result (λ answer. SourceGives makes bytes answer.status answer.text.items)
refused_source makes bytes fail result reads gives =
    IfOk-weaker result _ _ (λ answer refuses. source_of_refusal makes bytes answer.status answer.text.items (refuses bytes reads)) gives

-- the statuses of a run
abbrev IsOfARun : Status → Type 0
IsOfARun Done = Unit {0}
IsOfARun Usage = ⊥
IsOfARun ReadFault = ⊥
IsOfARun WriteFault = ⊥
IsOfARun Syntax = ⊥
IsOfARun Check = ⊥
IsOfARun UserFault = Unit {0}
IsOfARun StepsSpent = Unit {0}
IsOfARun ArenaFull = Unit {0}
IsOfARun DequesFull = Unit {0}
IsOfARun OutOfMemory = ⊥
IsOfARun TrailRefused = ⊥

of_finish : (finish : Finish) → IsOfARun (finish_status finish)
of_finish EndDone = tt
of_finish (Faulted at) = tt

of_stop : (stop : Stop) → IsOfARun (stop_status stop)
of_stop (arena_full live asked) = tt
of_stop (steps_spent limit) = tt
of_stop (deques_full deques) = tt

of_play : (tells : List Pair → Moment → List ℕ → Type 0) (c : RunSetting) (run : List Pair) (last : Moment) (ending : Ending)
    (status : Status) (text : List ℕ) → TellsEnding tells c run last ending status text → IsOfARun status
of_play tells c run last finished status text told = subst IsOfARun (sym told.0) (of_finish (finish_of_run c))
of_play tells c run last (stopped stop) status text told = subst IsOfARun (sym told.0) (of_stop stop)

pub not_of_a_play : (IsRun : Command → Program → List Pair → Moment → Ending → Type 0) (tells : RunSetting → List Pair → Moment → List ℕ → Type 0)
    (command : Command) (p : Program) (status : Status) (text : List ℕ) → ¬ IsOfARun status → ¬ TellsRun IsRun tells command p status text
not_of_a_play IsRun tells command p status text not makes =
    ∥∥₁_elim makes (λ x y. absurd x)
    (λ w. not (of_play (tells (play_setting command p)) (play_setting command p) w.0 w.1 w.2 status text w.4))

-- the statuses that no bytes bring about
abbrev pub IsOfNoBytes : Status → Type 0
IsOfNoBytes Done = ⊥
IsOfNoBytes Usage = Unit {0}
IsOfNoBytes ReadFault = Unit {0}
IsOfNoBytes WriteFault = Unit {0}
IsOfNoBytes Syntax = ⊥
IsOfNoBytes Check = ⊥
IsOfNoBytes UserFault = ⊥
IsOfNoBytes StepsSpent = ⊥
IsOfNoBytes ArenaFull = ⊥
IsOfNoBytes DequesFull = ⊥
IsOfNoBytes OutOfMemory = Unit {0}
IsOfNoBytes TrailRefused = ⊥

-- and that no run has
not_of_a_run : (status : Status) → IsOfNoBytes status → ¬ IsOfARun status
not_of_a_run Done none = absurd none
not_of_a_run Usage none = λ is. is
not_of_a_run ReadFault none = λ is. is
not_of_a_run WriteFault none = λ is. is
not_of_a_run Syntax none = absurd none
not_of_a_run Check none = absurd none
not_of_a_run UserFault none = absurd none
not_of_a_run StepsSpent none = absurd none
not_of_a_run ArenaFull none = absurd none
not_of_a_run DequesFull none = absurd none
not_of_a_run OutOfMemory none = λ is. is
not_of_a_run TrailRefused none = absurd none

-- nor bytes whose program brings none about
not_of_a_source :
    (makes : Program → Status → List ℕ → Type 0) (bytes text : List ℕ) →
    ((p : Program) (status : Status) → IsOfNoBytes status → ¬ makes p status text) → (status : Status) → IsOfNoBytes status →
    ¬ SourceGives makes bytes status text
not_of_a_source makes bytes text not Done none gives = absurd none
not_of_a_source makes bytes text not Usage none gives = not gives.0 Usage tt gives.1.1.1
not_of_a_source makes bytes text not ReadFault none gives = not gives.0 ReadFault tt gives.1.1.1
not_of_a_source makes bytes text not WriteFault none gives = not gives.0 WriteFault tt gives.1.1.1
not_of_a_source makes bytes text not Syntax none gives = absurd none
not_of_a_source makes bytes text not Check none gives = absurd none
not_of_a_source makes bytes text not UserFault none gives = absurd none
not_of_a_source makes bytes text not StepsSpent none gives = absurd none
not_of_a_source makes bytes text not ArenaFull none gives = absurd none
not_of_a_source makes bytes text not DequesFull none gives = absurd none
not_of_a_source makes bytes text not OutOfMemory none gives = not gives.0 OutOfMemory tt gives.1.1.1
not_of_a_source makes bytes text not TrailRefused none gives = absurd none

not_of_a_played_source :
    (IsRun : Command → Program → List Pair → Moment → Ending → Type 0) (tells : RunSetting → List Pair → Moment → List ℕ → Type 0)
    (command : Command) (bytes text : List ℕ) (status : Status) →
    IsOfNoBytes status → ¬ SourceGives (TellsRun IsRun tells command) bytes status text
not_of_a_played_source IsRun tells command bytes text status none =
    not_of_a_source (TellsRun IsRun tells command) bytes text
    (λ p s no. not_of_a_play IsRun tells command p s text (not_of_a_run s no)) status none

not_of_a_peak : (k limit : ℕ) (text : List ℕ) (p : Program) (status : Status) → IsOfNoBytes status → ¬ PeakMakes k limit p status text
not_of_a_peak k limit text p Done none = absurd none
not_of_a_peak k limit text p Usage none = λ makes. makes
not_of_a_peak k limit text p ReadFault none = λ makes. makes
not_of_a_peak k limit text p WriteFault none = λ makes. makes
not_of_a_peak k limit text p Syntax none = absurd none
not_of_a_peak k limit text p Check none = absurd none
not_of_a_peak k limit text p UserFault none = absurd none
not_of_a_peak k limit text p StepsSpent none = absurd none
not_of_a_peak k limit text p ArenaFull none = absurd none
not_of_a_peak k limit text p DequesFull none = absurd none
not_of_a_peak k limit text p OutOfMemory none = λ makes. makes
not_of_a_peak k limit text p TrailRefused none = absurd none

not_of_a_check : (text : List ℕ) (p : Program) (status : Status) → IsOfNoBytes status → ¬ CheckMakes p status text
not_of_a_check text p Done none = absurd none
not_of_a_check text p Usage none = λ makes. makes
not_of_a_check text p ReadFault none = λ makes. makes
not_of_a_check text p WriteFault none = λ makes. makes
not_of_a_check text p Syntax none = λ makes. makes
not_of_a_check text p Check none = λ makes. makes
not_of_a_check text p UserFault none = λ makes. makes
not_of_a_check text p StepsSpent none = λ makes. makes
not_of_a_check text p ArenaFull none = λ makes. makes
not_of_a_check text p DequesFull none = λ makes. makes
not_of_a_check text p OutOfMemory none = λ makes. makes
not_of_a_check text p TrailRefused none = λ makes. makes

not_of_an_expansion :
    (makes : List ℕ → Status → List ℕ → Type 0) (text : List ℕ) (status : Status) → IsOfNoBytes status →
    ((expanded : List ℕ) → ¬ makes expanded status text) → (answer : Result (List ℕ) ExpandFail) → ¬ OfExpansion makes answer status text
not_of_an_expansion makes text status none not (Ok expanded) gives = not expanded gives
not_of_an_expansion makes text status none not (Err fail) gives = subst IsOfNoBytes gives.0 none

-- nor one that is told of a trail
not_of_a_verdict : (t : TrailShown) (text : List ℕ) (status : Status) → IsOfNoBytes status → (answer : Result ℕ VerifyFail) → ¬ TellsCheck t answer status text
not_of_a_verdict t text status none (Ok actions) told = subst IsOfNoBytes told.0 none
not_of_a_verdict t text status none (Err (LongRun limit)) told = subst IsOfNoBytes told.0 none
not_of_a_verdict t text status none (Err (BadEvent event)) told = subst IsOfNoBytes told.0 none
not_of_a_verdict t text status none (Err (NotEnded events)) told = subst IsOfNoBytes told.0 none
not_of_a_verdict t text status none (Err (WrongNumbers numbers)) told = subst IsOfNoBytes told.0 none
not_of_a_verdict t text status none (Err NoMemory) told = told

not_of_a_trail : (bytes text : List ℕ) (status : Status) → IsOfNoBytes status → ¬ VerifyGives bytes status text
not_of_a_trail bytes text status none (inl refused) = subst IsOfNoBytes refused.1.1.0 none
not_of_a_trail bytes text status none (inr of) =
    not_of_a_source (VerifyMakes of.0) of.0.source text (λ p s no makes. not_of_a_verdict of.0 text s no makes.0 makes.1.1) status none of.1.1

not_given : (kind : CommandKind) (command : Command) (bytes text : List ℕ) (status : Status) → IsOfNoBytes status →
    ¬ KindGives kind command bytes status text
not_given Play command bytes text status none gives = not_of_a_played_source IsPlay Reports command bytes text status none gives
not_given Async command bytes text status none gives = not_of_a_played_source IsAsyncPlay Reports command bytes text status none gives
not_given Run command bytes text status none gives = not_of_a_played_source IsRunByThreads Reports command bytes text status none gives
not_given Peak command bytes text status none gives =
    not_of_a_source (PeakMakes command.k command.steps) bytes text (not_of_a_peak command.k command.steps text) status none gives
not_given Checks command bytes text status none gives = not_of_a_source CheckMakes bytes text (not_of_a_check text) status none gives
not_given Make command bytes text status none gives =
    not_of_a_played_source IsPlay (Summarizes (length bytes)) command bytes text status none gives
not_given Loops command bytes text status none gives =
    not_of_an_expansion (SourceGives (PlayMakes command)) text status none
    (λ expanded. not_of_a_played_source IsPlay Reports command expanded text status none) gives.0 gives.2
not_given Expand command bytes text status none gives =
    not_of_an_expansion ExpandMakes text status none (λ expanded made. subst IsOfNoBytes made.0 none) gives.0 gives.2
not_given Trail command bytes text status none gives = not_of_a_played_source IsPlay (Records command bytes) command bytes text status none gives
not_given Verify command bytes text status none gives = not_of_a_trail bytes text status none gives

-- what is made of bytes ends a call with its text
pub ends_at_text : (command : Command) (bytes : List ℕ) (taken taken' : Option (List ℕ)) (status : Status) (text : List ℕ) →
    BytesGive command bytes status text → Takes taken taken' text → Ends (BytesGive command bytes) taken taken' status
ends_at_text command bytes taken taken' Done text gives takes = (text, (gives, takes))
ends_at_text command bytes taken taken' Usage text gives takes = (text, (gives, takes))
ends_at_text command bytes taken taken' ReadFault text gives takes = (text, (gives, takes))
ends_at_text command bytes taken taken' WriteFault text gives takes = absurd (not_given command.kind command bytes text WriteFault tt gives)
ends_at_text command bytes taken taken' Syntax text gives takes = (text, (gives, takes))
ends_at_text command bytes taken taken' Check text gives takes = (text, (gives, takes))
ends_at_text command bytes taken taken' UserFault text gives takes = (text, (gives, takes))
ends_at_text command bytes taken taken' StepsSpent text gives takes = (text, (gives, takes))
ends_at_text command bytes taken taken' ArenaFull text gives takes = (text, (gives, takes))
ends_at_text command bytes taken taken' DequesFull text gives takes = (text, (gives, takes))
ends_at_text command bytes taken taken' OutOfMemory text gives takes = tt
ends_at_text command bytes taken taken' TrailRefused text gives takes = (text, (gives, takes))

-- it is no want of memory
pub has_memory : (command : Command) (bytes : List ℕ) (status : Status) (text : List ℕ) → BytesGive command bytes status text →
    status ≡ OutOfMemory → ⊥
has_memory command bytes status text gives is =
    not_given command.kind command bytes text OutOfMemory tt (subst (λ (s : Status). BytesGive command bytes s text) is gives)

-- and no fault of a stream
pub counts_none : (command : Command) (bytes : List ℕ) (status : Status) (text : List ℕ) → BytesGive command bytes status text →
    (reads writes writes' : ℕ) → writes' ≡ writes → Counts status reads reads writes writes'
counts_none command bytes Done text gives reads writes writes' same = (refl, same)
counts_none command bytes Usage text gives reads writes writes' same = (refl, same)
counts_none command bytes ReadFault text gives reads writes writes' same =
    absurd (not_given command.kind command bytes text ReadFault tt gives)
counts_none command bytes WriteFault text gives reads writes writes' same =
    absurd (not_given command.kind command bytes text WriteFault tt gives)
counts_none command bytes Syntax text gives reads writes writes' same = (refl, same)
counts_none command bytes Check text gives reads writes writes' same = (refl, same)
counts_none command bytes UserFault text gives reads writes writes' same = (refl, same)
counts_none command bytes StepsSpent text gives reads writes writes' same = (refl, same)
counts_none command bytes ArenaFull text gives reads writes writes' same = (refl, same)
counts_none command bytes DequesFull text gives reads writes writes' same = (refl, same)
counts_none command bytes OutOfMemory text gives reads writes writes' same = (refl, same)
counts_none command bytes TrailRefused text gives reads writes writes' same = (refl, same)

-- what a command makes of the bytes that it read is what it answers where it reads
pub read_of_kind :
    (command : Command) (failed : Type 0) (left left' : Option (List ℕ)) (bytes : List ℕ) (status : Status) (text : List ℕ) →
    IsRead (most_read command.kind) left left' bytes → BytesGive command bytes status text →
    ReadGives command failed left left' status text
read_of_kind command failed left left' bytes Done text read gives = (bytes, (read, gives))
read_of_kind command failed left left' bytes Usage text read gives = (bytes, (read, gives))
read_of_kind command failed left left' bytes ReadFault text read gives =
    absurd (not_given command.kind command bytes text ReadFault tt gives)
read_of_kind command failed left left' bytes WriteFault text read gives = (bytes, (read, gives))
read_of_kind command failed left left' bytes Syntax text read gives = (bytes, (read, gives))
read_of_kind command failed left left' bytes Check text read gives = (bytes, (read, gives))
read_of_kind command failed left left' bytes UserFault text read gives = (bytes, (read, gives))
read_of_kind command failed left left' bytes StepsSpent text read gives = (bytes, (read, gives))
read_of_kind command failed left left' bytes ArenaFull text read gives = (bytes, (read, gives))
read_of_kind command failed left left' bytes DequesFull text read gives = (bytes, (read, gives))
read_of_kind command failed left left' bytes OutOfMemory text read gives = (bytes, (read, gives))
read_of_kind command failed left left' bytes TrailRefused text read gives = (bytes, (read, gives))

-- what `run` makes of bytes is what its command makes of them
pub bytes_of_run : (command : Command) (bytes : List ℕ) (result : Result Answer AllocError) → command.kind ≡ Run →
    IfOk result (λ answer. SourceGives (RunMakes command) bytes answer.status answer.text.items) →
    IfOk result (λ answer. BytesGive command bytes answer.status answer.text.items)
bytes_of_run command bytes result runs gives =
    subst (λ (k : CommandKind). IfOk result (λ answer. KindGives k command bytes answer.status answer.text.items)) (sym runs) gives

-- `run` is not `make`
pub run_is_not_made : (kind : CommandKind) → kind ≡ Run → ¬ (kind ≡ Make)
run_is_not_made kind runs made = false≢true (ap wants_groups (sym runs ∙ made))

-- and a command that is not `make` reads
pub command_of_read :
    (kind : CommandKind) (command : Command) (failed : Type 0) (left left' : Option (List ℕ)) → ¬ (kind ≡ Make) →
    (status : Status) (text : List ℕ) → ReadGives command failed left left' status text → KindAnswers kind command failed left left' status text
command_of_read Play command failed left left' reads status text gives = gives
command_of_read Async command failed left left' reads status text gives = gives
command_of_read Run command failed left left' reads status text gives = gives
command_of_read Peak command failed left left' reads status text gives = gives
command_of_read Checks command failed left left' reads status text gives = gives
command_of_read Make command failed left left' reads status text gives = absurd (reads refl)
command_of_read Loops command failed left left' reads status text gives = gives
command_of_read Expand command failed left left' reads status text gives = gives
command_of_read Trail command failed left left' reads status text gives = gives
command_of_read Verify command failed left left' reads status text gives = gives

-- `make` answers what it makes of its made source
pub command_of_made :
    (kind : CommandKind) (command : Command) (failed : Type 0) (left left' : Option (List ℕ)) → kind ≡ Make →
    (status : Status) (text : List ℕ) → BytesGive command (source_of command) status text → KindAnswers kind command failed left left' status text
command_of_made kind command failed left left' made status text gives =
    subst (λ (k : CommandKind). KindAnswers k command failed left left' status text) (sym made) gives

-- no usage line is an answer of a command
no_usage : (kind : CommandKind) (command : Command) (failed : Type 0) (left left' : Option (List ℕ)) (text : List ℕ) →
    ¬ KindAnswers kind command failed left left' Usage text
no_usage Play command failed left left' text gives = not_given command.kind command gives.0 text Usage tt gives.1.1
no_usage Async command failed left left' text gives = not_given command.kind command gives.0 text Usage tt gives.1.1
no_usage Run command failed left left' text gives = not_given command.kind command gives.0 text Usage tt gives.1.1
no_usage Peak command failed left left' text gives = not_given command.kind command gives.0 text Usage tt gives.1.1
no_usage Checks command failed left left' text gives = not_given command.kind command gives.0 text Usage tt gives.1.1
no_usage Make command failed left left' text gives = not_given command.kind command (source_of command) text Usage tt gives
no_usage Loops command failed left left' text gives = not_given command.kind command gives.0 text Usage tt gives.1.1
no_usage Expand command failed left left' text gives = not_given command.kind command gives.0 text Usage tt gives.1.1
no_usage Trail command failed left left' text gives = not_given command.kind command gives.0 text Usage tt gives.1.1
no_usage Verify command failed left left' text gives = not_given command.kind command gives.0 text Usage tt gives.1.1

-- what a command gives is what its call gives
pub call_of_command :
    (words : List (List ℕ)) (command : Command) (failed : Type 0) (left left' : Option (List ℕ)) → IsCommand words command →
    (status : Status) (text : List ℕ) → CommandGives command failed left left' status text → CallGives words failed left left' status text
call_of_command words command failed left left' is Done text gives = (command, (is, gives))
call_of_command words command failed left left' is Usage text gives =
    absurd (no_usage command.kind command failed left left' text gives)
call_of_command words command failed left left' is ReadFault text gives = (command, (is, gives))
call_of_command words command failed left left' is WriteFault text gives = (command, (is, gives))
call_of_command words command failed left left' is Syntax text gives = (command, (is, gives))
call_of_command words command failed left left' is Check text gives = (command, (is, gives))
call_of_command words command failed left left' is UserFault text gives = (command, (is, gives))
call_of_command words command failed left left' is StepsSpent text gives = (command, (is, gives))
call_of_command words command failed left left' is ArenaFull text gives = (command, (is, gives))
call_of_command words command failed left left' is DequesFull text gives = (command, (is, gives))
call_of_command words command failed left left' is OutOfMemory text gives = (command, (is, gives))
call_of_command words command failed left left' is TrailRefused text gives = (command, (is, gives))

pub ends_at_fault :
    (gives : Status → List ℕ → Type 0) (taken taken' : Option (List ℕ)) (status : Status) (text : List ℕ) →
    gives status text → (count : ℕ) × Takes taken taken' (take count text) → Ends gives taken taken' WriteFault
ends_at_fault gives taken taken' status text given front = (status, (text, (front.0, (given, front.1))))

-- a call ends as one ends that has more answers
pub ends_more :
    (gives gives' : Status → List ℕ → Type 0) (taken taken' : Option (List ℕ)) (status : Status) →
    ((s : Status) (text : List ℕ) → gives s text → gives' s text) → Ends gives taken taken' status → Ends gives' taken taken' status
ends_more gives gives' taken taken' Done more ends = (ends.0, (more Done ends.0 ends.1.0, ends.1.1))
ends_more gives gives' taken taken' Usage more ends = (ends.0, (more Usage ends.0 ends.1.0, ends.1.1))
ends_more gives gives' taken taken' ReadFault more ends = (ends.0, (more ReadFault ends.0 ends.1.0, ends.1.1))
ends_more gives gives' taken taken' WriteFault more ends =
    (ends.0, (ends.1.0, (ends.1.1.0, (more ends.0 ends.1.0 ends.1.1.1.0, ends.1.1.1.1))))
ends_more gives gives' taken taken' Syntax more ends = (ends.0, (more Syntax ends.0 ends.1.0, ends.1.1))
ends_more gives gives' taken taken' Check more ends = (ends.0, (more Check ends.0 ends.1.0, ends.1.1))
ends_more gives gives' taken taken' UserFault more ends = (ends.0, (more UserFault ends.0 ends.1.0, ends.1.1))
ends_more gives gives' taken taken' StepsSpent more ends = (ends.0, (more StepsSpent ends.0 ends.1.0, ends.1.1))
ends_more gives gives' taken taken' ArenaFull more ends = (ends.0, (more ArenaFull ends.0 ends.1.0, ends.1.1))
ends_more gives gives' taken taken' DequesFull more ends = (ends.0, (more DequesFull ends.0 ends.1.0, ends.1.1))
ends_more gives gives' taken taken' OutOfMemory more ends = tt
ends_more gives gives' taken taken' TrailRefused more ends = (ends.0, (more TrailRefused ends.0 ends.1.0, ends.1.1))
