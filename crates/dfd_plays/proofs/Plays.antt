-- What the play of the core comes to is told as the play of the program.
use Rattle.std.proofs.Common.{◌≡◌, ℕ, ℤ, List, Some, pos, Result, Ok, Err, IfOk, refl, sym, ap, ◌∙◌}
use Rattle.std.proofs.Math.Logic.{∥∥₁_map}
use Rattle.std.specs.declared.alloc.AllocError.{AllocError}
use Rattle.command_line.specs.declared.command.Command.{Command}
use Rattle.play_rules.specs.declared.stop.Stop.{Stop}
use Rattle.play_rules.specs.declared.stop.Stop.TheVariants.{ArenaFull, DequesFull, StepsSpent, OutOfMemory}
use Rattle.dag_order.specs.declared.finish.Finish.{Finish}
use Rattle.depth_first_run.specs.States.{Setting}
use Rattle.deque_machine.specs.Moments.{Moment}
use Rattle.deque_machine.specs.Play.{Ending, finished, stopped, arena_full, steps_spent, deques_full}
use Rattle.deque_machine.specs.Runs.{Pair}
use Rattle.trail_record.specs.Passed.Cores.{IsAt, end_of}
use Rattle.trail_record.specs.Passed.Core.{Core}
use Rattle.play_rules.specs.declared.ends.RunEnd.TheVariants.{Finished, Stopped}
use Rattle.node_table.specs.Programs.{IsTableOf}
use Rattle.node_table.specs.Table.{Table}
use Rattle.par_ownership.specs.Ownership.{Ownership}
use Rattle.par_ownership.proofs.Law.{tells_program}
use Rattle.par_text.specs.Judging.{IsText}
use Rattle.par_tree.specs.Tree.{Program}
use Rattle.run_report.specs.Texts.{report_text, summary_text}
use Rattle.thread_state.specs.Settings.{IsSettingOf}
use Rattle.dfd_plays.specs.Sources.{SourceGives}
use Rattle.dfd_plays.specs.CorePlays.{Played}
use Rattle.dfd_plays.specs.Peak.{finish_status}
use Rattle.dfd_plays.specs.Play.{TellsRun, TellsPlay, play_setting, play_terms, seeded_words}
use Rattle.dfd_plays.specs.Stops.{TellsStop}
use Rattle.dfd_plays.specs.declared.answer.Answer.{Answer}
use Rattle.dfd_plays.specs.declared.status.Status.{Status}
use Rattle.dfd_plays.specs.declared.status.Status.TheVariants.{Done, Usage, ReadFault, WriteFault, Syntax, Check, UserFault, StepsSpent as LimitSpent, ArenaFull as ArenaStatus, DequesFull as DequesStatus, OutOfMemory as NoMemory, TrailRefused}
use Rattle.dfd_plays.proofs.Answers.{not_of_a_play}

-- a table of the program with the quota of the command is of its setting
pub setting_of_table : (command : Command) (p : Program) (t : Table) (k : ℕ) → Ownership p → IsTableOf p t → k ≡ command.k →
    IsSettingOf t k (play_setting command p)
setting_of_table command p t k owned table quota =
    record { owned = owned; table = table; quota = sym quota; calls = refl; turns = refl; forks = refl }

pub finished_makes : (tells : Setting → List Pair → Moment → List ℕ → Type 0) (command : Command) (p : Program) (after : Core) (finish : Finish) (status : Status) (text : List ℕ) →
    Played (play_setting command p) (play_terms command) (seeded_words command.seed) after (Finished finish) →
    end_of after ≡ Some (Finished finish) → status ≡ finish_status finish →
    ((c : Setting) (run : List Pair) (m : Moment) → IsAt c after run m → tells c run m text) → TellsPlay tells command p status text
finished_makes tells command p after finish status text plays end is reports =
    ∥∥₁_map plays.1 (λ w. (w.later, w.last, finished, w.plays, (is ∙ ap finish_status (w.is_at.finished finish end).1, reports _ w.later w.last w.is_at)))

pub stopped_makes : (tells : Setting → List Pair → Moment → List ℕ → Type 0) (command : Command) (p : Program) (after : Core) (stop : Stop) (status : Status) (text : List ℕ) →
    Played (play_setting command p) (play_terms command) (seeded_words command.seed) after (Stopped stop) →
    TellsStop stop status text → TellsPlay tells command p status text
stopped_makes tells command p after (ArenaFull live asked) status text plays told =
    ∥∥₁_map plays.1 (λ w. (w.later, w.last, stopped (arena_full (pos live) asked), w.plays, told))
stopped_makes tells command p after (DequesFull deques) status text plays told =
    ∥∥₁_map plays.1 (λ w. (w.later, w.last, stopped (deques_full deques), w.plays, told))
stopped_makes tells command p after (StepsSpent limit) status text plays told =
    ∥∥₁_map plays.1 (λ w. (w.later, w.last, stopped (steps_spent limit), w.plays, told))
stopped_makes tells command p after OutOfMemory status text plays told = absurd told

-- what is made of the program of the bytes is made of the bytes
pub source_of_play : (IsRun : Command → Program → List Pair → Moment → Ending → Type 0) (tells : Setting → List Pair → Moment → List ℕ → Type 0)
    (command : Command) (bytes : List ℕ) (p : Program) (status : Status) (text : List ℕ) → IsText bytes p → Ownership p →
    TellsRun IsRun tells command p status text → SourceGives (TellsRun IsRun tells command) bytes status text
source_of_play IsRun tells command bytes p Done text is own makes = (p, (is, ((tells_program p).complete own, makes)))
source_of_play IsRun tells command bytes p Usage text is own makes = (p, (is, ((tells_program p).complete own, makes)))
source_of_play IsRun tells command bytes p ReadFault text is own makes = (p, (is, ((tells_program p).complete own, makes)))
source_of_play IsRun tells command bytes p WriteFault text is own makes = (p, (is, ((tells_program p).complete own, makes)))
source_of_play IsRun tells command bytes p Syntax text is own makes = absurd (not_of_a_play IsRun tells command p Syntax text (λ no. no) makes)
source_of_play IsRun tells command bytes p Check text is own makes = absurd (not_of_a_play IsRun tells command p Check text (λ no. no) makes)
source_of_play IsRun tells command bytes p UserFault text is own makes = (p, (is, ((tells_program p).complete own, makes)))
source_of_play IsRun tells command bytes p LimitSpent text is own makes = (p, (is, ((tells_program p).complete own, makes)))
source_of_play IsRun tells command bytes p ArenaStatus text is own makes = (p, (is, ((tells_program p).complete own, makes)))
source_of_play IsRun tells command bytes p DequesStatus text is own makes = (p, (is, ((tells_program p).complete own, makes)))
source_of_play IsRun tells command bytes p NoMemory text is own makes = (p, (is, ((tells_program p).complete own, makes)))
source_of_play IsRun tells command bytes p TrailRefused text is own makes = (p, (is, ((tells_program p).complete own, makes)))

-- the report of equal parts
pub same_report : (lines lines' : List ℤ) (finish finish' : Finish) (periods periods' ahead ahead' high : ℕ) → lines ≡ lines' →
    finish ≡ finish' → periods ≡ periods' → ahead ≡ ahead' →
    report_text (record { lines = lines; finish = finish; periods = periods; ahead = ahead; high = high })
    ≡ report_text (record { lines = lines'; finish = finish'; periods = periods'; ahead = ahead'; high = high })
same_report lines lines' finish finish' periods periods' ahead ahead' high same_lines same_finish same_periods same_ahead =
    ap (λ x. report_text (record { lines = x; finish = finish; periods = periods; ahead = ahead; high = high })) same_lines
    ∙ ap (λ x. report_text (record { lines = lines'; finish = x; periods = periods; ahead = ahead; high = high })) same_finish
    ∙ ap (λ x. report_text (record { lines = lines'; finish = finish'; periods = x; ahead = ahead; high = high })) same_periods
    ∙ ap (λ x. report_text (record { lines = lines'; finish = finish'; periods = periods'; ahead = x; high = high })) same_ahead

-- the summary of equal parts
pub same_summary : (bytes lines lines' : ℕ) (total total' : ℤ) (actions actions' periods periods' ahead ahead' high : ℕ) → lines ≡ lines' →
    total ≡ total' → actions ≡ actions' → periods ≡ periods' → ahead ≡ ahead' →
    summary_text (record { bytes = bytes; lines = lines; total = total; actions = actions; periods = periods; ahead = ahead; high = high })
    ≡ summary_text (record { bytes = bytes; lines = lines'; total = total'; actions = actions'; periods = periods'; ahead = ahead'; high = high })
same_summary bytes lines lines' total total' actions actions' periods periods' ahead ahead' high is_lines is_total is_actions is_periods is_ahead =
    ap (λ x. summary_text (record { bytes = bytes; lines = x; total = total; actions = actions; periods = periods; ahead = ahead; high = high }))
    is_lines
    ∙ ap (λ x. summary_text (record { bytes = bytes; lines = lines'; total = x; actions = actions; periods = periods; ahead = ahead; high = high }))
    is_total
    ∙ ap (λ x. summary_text (record { bytes = bytes; lines = lines'; total = total'; actions = x; periods = periods; ahead = ahead; high = high }))
    is_actions
    ∙ ap (λ x. summary_text (record { bytes = bytes; lines = lines'; total = total'; actions = actions'; periods = x; ahead = ahead; high = high }))
    is_periods
    ∙ ap (λ x. summary_text (record { bytes = bytes; lines = lines'; total = total'; actions = actions'; periods = periods'; ahead = x; high = high }))
    is_ahead

-- two facts of one answer
pub both_ok : (result : Result Answer AllocError) (P Q R : Answer → Type 0) → IfOk result P → IfOk result Q →
    ((answer : Answer) → P answer → Q answer → R answer) → IfOk result R
both_ok (Ok answer) P Q R p q both = both answer p q
both_ok (Err error) P Q R p q both = tt
