-- A command has an answer to the bytes of a source.
use Rattle.std.proofs.Common.{◌≡◌, ℕ, ℤ, pos, negsuc, ◌≤◌, length, arith, Bool, true, false, List, Option, Some, None, ap, sym, refl, subst, inl, inr}
use Rattle.std.specs.Prelude.{nat_le, ◌≤ℤ◌, Result, Ok, Err}
use Rattle.std.proofs.lemmas.Int.{ints}
use borrow.Author.Tests.{leb-true, leb-false}
use Rattle.canonical_text.specs.Canonical.{canonical}
use Rattle.command_line.specs.declared.command.Command.{Command}
use Rattle.command_line.specs.declared.command_kind.CommandKind.{CommandKind}
use Rattle.command_line.specs.declared.command_kind.CommandKind.TheVariants.{Play, Async, Run, Peak, Check as Checks, Make, Loops, Expand, Trail, Verify}
use Rattle.dag_order.specs.declared.fault.FaultAt.{FaultAt}
use Rattle.command_line.specs.declared.setting.Setting.TheVariants.{Quota, Workers}
use Rattle.depth_first_list.specs.Actions.{peak}
use Rattle.depth_first_list.proofs.Peak.{peak_is_highest}
use Rattle.depth_first_run.proofs.Built.{whole_is_depth_first}
use Rattle.depth_first_run.specs.States.{Item, Setting}
use Rattle.depth_first_run.specs.Run.{whole, actions_of, first_fault, lines_of, list_of, finish_of}
use Rattle.serial_meaning.specs.Settings.{setting_of}
use Rattle.loop_expand.specs.Expansion.{LexedExpand, Expands}
use Rattle.loop_expand.specs.declared.expand_fail.ExpandFail.{ExpandFail}
use Rattle.loop_expand.specs.declared.expand_fail.ExpandFail.TheVariants.{Refused, BadLoop, NameTaken, OutOfMemory as NoMemory}
use Rattle.loop_expand.proofs.Answered.{has_answer}
use Rattle.deque_machine.proofs.Playing.{plays_end}
use Rattle.deque_machine.specs.Moments.{Moment}
use Rattle.deque_machine.specs.Play.{Ending, finished, stopped, arena_full, steps_spent, deques_full}
use Rattle.deque_machine.specs.Runs.{Pair, moves, high_water_mark}
use Rattle.par_ownership.specs.Accepted.{IsAccepted}
use Rattle.par_ownership.specs.Walk.{Refusal, program_refusal}
use Rattle.par_text.specs.Judging.{IsText, Verdict, Judges, tree, refusal}
use Rattle.par_text.specs.Lexing.{Lexed, text_tokens}
use Rattle.par_text.proofs.Verdicts.{has_verdict}
use Rattle.par_tree.specs.Tree.{Program}
use Rattle.run_report.specs.Texts.{peak_text}
use Rattle.dfd_plays.specs.Answer.{CheckMakes, KindGives, BytesGive, HasRanges}
use Rattle.dfd_plays.specs.Sources.{SourceGives}
use Rattle.dfd_plays.specs.Expanding.{ExpansionGives, ExpandMakes}
use Rattle.trail_check.specs.CheckLaws.{IsAnswer}
use Rattle.trail_check.specs.declared.verify_fail.VerifyFail.{VerifyFail}
use Rattle.trail_check.specs.declared.verify_fail.VerifyFail.TheVariants.{LongRun, BadEvent, NotEnded, WrongNumbers, OutOfMemory as NoRoom}
use Rattle.trail_check.proofs.Outcomes.{an_answer as a_trail_has_an_answer}
use Rattle.trail_meaning.specs.Shown.{TrailShown}
use Rattle.trail_text.proofs.Deciding.{each_read}
use Rattle.dfd_plays.specs.TrailMessages.{not_trail_text, long_run_text, bad_event_text, not_ended_text, wrong_numbers_text, trail_ok_text}
use Rattle.dfd_plays.specs.Trails.{Records, TrailMakes, VerifyMakes, VerifyGives}
use Rattle.dfd_plays.specs.Messages.{syntax_text, bad_loop_text, name_taken_text, check_text, spent_text, arena_text, deques_text}
use Rattle.dfd_plays.specs.Make.{MakeMakes, Summarizes}
use Rattle.dfd_plays.specs.Peak.{RunText, PeakMakes, finish_status}
use Rattle.ready_machine.proofs.Playing.{plays_end as ready_plays_end}
use Rattle.dfd_plays.specs.Async.{IsAsyncPlay, AsyncMakes, async_terms, async_machine}
use Rattle.dfd_plays.specs.Play.{IsPlay, TellsRun, TellsPlay, Reports, PlayMakes, play_setting, play_terms, play_machine, seeded_words}
use Rattle.dfd_plays.specs.Threads.{IsRunByThreads, RunMakes}
use Rattle.dfd_plays.specs.declared.status.Status.{Status}
use Rattle.dfd_plays.specs.declared.status.Status.TheVariants.{Done, Syntax, Check, UserFault, StepsSpent, ArenaFull, DequesFull, TrailRefused}
use Rattle.dfd_laws.proofs.ThreadPlays.{plays_in_threads}

abbrev Some_answer : (Status → List ℕ → Type 0) → Type 0
Some_answer gives = (s : Status) × ((t : List ℕ) × gives s t)

-- what is not refused is made of the program
source_by_rules :
    (makes : Program → Status → List ℕ → Type 0) (bytes : List ℕ) (p : Program) → IsText bytes p →
    (IsAccepted p → Some_answer (SourceGives makes bytes)) →
    (o : Option Refusal) → program_refusal p ≡ o → Some_answer (SourceGives makes bytes)
source_by_rules makes bytes p is finish None e = finish e
source_by_rules makes bytes p is finish (Some r) e = (Check, (check_text r, (p, (is, (r, (e, refl))))))

source_by_verdict :
    (makes : Program → Status → List ℕ → Type 0) (bytes : List ℕ) →
    ((p : Program) → IsText bytes p → IsAccepted p → Some_answer (SourceGives makes bytes)) →
    (v : Verdict) → Judges bytes v → Some_answer (SourceGives makes bytes)
source_by_verdict makes bytes finish (refusal e) r = (Syntax, (syntax_text e, (e, (r, refl))))
source_by_verdict makes bytes finish (tree p) is = source_by_rules makes bytes p is (finish p is) (program_refusal p) refl

source_answer :
    (makes : Program → Status → List ℕ → Type 0) (bytes : List ℕ) →
    ((p : Program) → IsText bytes p → IsAccepted p → Some_answer (SourceGives makes bytes)) → Some_answer (SourceGives makes bytes)
source_answer makes bytes finish = let v = has_verdict bytes in source_by_verdict makes bytes finish v.0 v.1

-- `check`
check_answer : (bytes : List ℕ) → Some_answer (SourceGives CheckMakes bytes)
check_answer bytes = source_answer CheckMakes bytes (λ p is own. (Done, (canonical p, (p, (is, (own, refl))))))

-- `peak`: the peak of a list is a number of words
number_of : (z : ℤ) → pos 0 ≤ℤ z → (n : ℕ) × (pos n ≡ z)
number_of (pos n) h = (n, refl)
number_of (negsuc n) h = absurd (omega (arith, ints, h))

text_of_run : (items : List Item) → (t : List ℕ) × RunText items t
text_of_run items =
    let high : (n : ℕ) × (pos n ≡ peak (actions_of items)) = number_of (peak (actions_of items)) ((peak_is_highest (actions_of items)).never_above 0) in
    (peak_text (lines_of items) (finish_of (first_fault items)) (length (actions_of items)) high.0, (high.0, (high.1, refl)))

peak_by_fault :
    (k limit : ℕ) (bytes : List ℕ) (p : Program) → IsText bytes p → IsAccepted p →
    length (actions_of (whole (setting_of p k)).items) ≤ limit →
    (o : Option FaultAt) → first_fault (whole (setting_of p k)).items ≡ o → Some_answer (SourceGives (PeakMakes k limit) bytes)
peak_by_fault k limit bytes p is own within None e =
    let t = text_of_run (whole (setting_of p k)).items in (Done, (t.0, (p, (is, (own, (within, (e, t.1)))))))
peak_by_fault k limit bytes p is own within (Some fault) e =
    let t = text_of_run (whole (setting_of p k)).items in (UserFault, (t.0, (p, (is, (own, (within, ((fault, e), t.1)))))))

peak_by_limit :
    (k limit : ℕ) (bytes : List ℕ) (p : Program) → IsText bytes p → IsAccepted p →
    (b : Bool) → nat_le (length (actions_of (whole (setting_of p k)).items)) limit ≡ b → Some_answer (SourceGives (PeakMakes k limit) bytes)
peak_by_limit k limit bytes p is own true e =
    peak_by_fault k limit bytes p is own (leb-true (length (actions_of (whole (setting_of p k)).items)) limit e) (first_fault (whole (setting_of p k)).items) refl
peak_by_limit k limit bytes p is own false e =
    (StepsSpent, (spent_text limit, (p, (is, (own, (leb-false (length (actions_of (whole (setting_of p k)).items)) limit e, refl))))))

peak_answer : (k limit : ℕ) (bytes : List ℕ) → Some_answer (SourceGives (PeakMakes k limit) bytes)
peak_answer k limit bytes =
    source_answer (PeakMakes k limit) bytes
    (λ p is own. peak_by_limit k limit bytes p is own (nat_le (length (actions_of (whole (setting_of p k)).items)) limit) refl)

-- `play` and `make`: something is told of each run
number_of_words : (c : Setting) (run : List Pair) → (n : ℕ) × (pos n ≡ high_water_mark (list_of c) run)
number_of_words c run = number_of (high_water_mark (list_of c) run) ((peak_is_highest (moves (list_of c) run)).never_above 0)

some_report : (c : Setting) (run : List Pair) (last : Moment) → (t : List ℕ) × Reports c run last t
some_report c run last = let high = number_of_words c run in (_, (high.0, (high.1, refl)))

some_summary : (bytes : ℕ) (c : Setting) (run : List Pair) (last : Moment) → (t : List ℕ) × Summarizes bytes c run last t
some_summary bytes c run last = let high = number_of_words c run in (_, (high.0, (high.1, refl)))

module _ (IsRun : Command → Program → List Pair → Moment → Ending → Type 0) (tells : Setting → List Pair → Moment → List ℕ → Type 0)
    (some : (c : Setting) (run : List Pair) (last : Moment) → (t : List ℕ) × tells c run last t)
    (command : Command) (bytes : List ℕ) (p : Program) (is : IsText bytes p) (own : IsAccepted p) where
  by_fault : (run : List Pair) (last : Moment) → IsRun command p run last finished →
      (o : Option FaultAt) → first_fault (whole (play_setting command p)).items ≡ o → Some_answer (SourceGives (TellsRun IsRun tells command) bytes)
  by_fault run last plays None e =
      let t = some (play_setting command p) run last in
      (Done, (t.0, (p, (is, (own, ∣ (run, last, finished, plays, (sym (ap (λ f. finish_status (finish_of f)) e), t.1)) ∣₁)))))
  by_fault run last plays (Some fault) e =
      let t = some (play_setting command p) run last in
      (UserFault, (t.0, (p, (is, (own, ∣ (run, last, finished, plays, (sym (ap (λ f. finish_status (finish_of f)) e), t.1)) ∣₁)))))

  by_ending : (run : List Pair) (last : Moment) (ending : Ending) → IsRun command p run last ending →
      Some_answer (SourceGives (TellsRun IsRun tells command) bytes)
  by_ending run last finished plays = by_fault run last plays (first_fault (whole (play_setting command p)).items) refl
  by_ending run last (stopped (arena_full live asked)) plays =
      (ArenaFull, (arena_text live asked, (p, (is, (own, ∣ (run, last, stopped (arena_full live asked), plays, (refl, refl)) ∣₁)))))
  by_ending run last (stopped (steps_spent limit)) plays =
      (StepsSpent, (spent_text limit, (p, (is, (own, ∣ (run, last, stopped (steps_spent limit), plays, (refl, refl)) ∣₁)))))
  by_ending run last (stopped (deques_full deques)) plays =
      (DequesFull, (deques_text deques, (p, (is, (own, ∣ (run, last, stopped (deques_full deques), plays, (refl, refl)) ∣₁)))))

module _ (tells : Setting → List Pair → Moment → List ℕ → Type 0)
    (some : (c : Setting) (run : List Pair) (last : Moment) → (t : List ℕ) × tells c run last t)
    (command : Command) (ranges : HasRanges command) (bytes : List ℕ) (p : Program) (is : IsText bytes p) (own : IsAccepted p) where
  play_made : Some_answer (SourceGives (TellsPlay tells command) bytes)
  play_made =
      let played = plays_end (play_machine command p) (omega (arith, (ranges.numbers Quota).0)) (whole_is_depth_first (play_setting command p))
      (omega (arith, (ranges.numbers Quota).0)) (omega (arith, (ranges.numbers Workers).0)) (play_terms command).limits
      (seeded_words command.seed) in
      by_ending IsPlay tells some command bytes p is own played.0 played.1 played.2 played.3

  -- threads may come to the run of a play
  run_made : Some_answer (SourceGives (TellsRun IsRunByThreads tells command) bytes)
  run_made =
      let played = plays_end (play_machine command p) (omega (arith, (ranges.numbers Quota).0)) (whole_is_depth_first (play_setting command p))
      (omega (arith, (ranges.numbers Quota).0)) (omega (arith, (ranges.numbers Workers).0)) (play_terms command).limits
      (seeded_words command.seed) in
      by_ending IsRunByThreads tells some command bytes p is own played.0 played.1 played.2
      (plays_in_threads command p ranges played.0 played.1 played.2 played.3)

  async_made : Some_answer (SourceGives (TellsRun IsAsyncPlay tells command) bytes)
  async_made =
      let played = ready_plays_end (async_machine command p) (omega (arith, (ranges.numbers Quota).0)) (whole_is_depth_first (play_setting command p))
      (omega (arith, (ranges.numbers Quota).0)) (omega (arith, (ranges.numbers Workers).0)) (async_terms command).limits
      (seeded_words command.seed) in
      by_ending IsAsyncPlay tells some command bytes p is own played.0 played.1 played.2 played.3

-- `loops` and `expand`: bytes have an expansion, or a refusal with a line
no_want : (bytes : List ℕ) → ¬ Expands bytes (Err NoMemory)
no_want bytes = by_tokens (text_tokens bytes)
  where
    IsWant : Result (List ℕ) ExpandFail → Type 0
    IsWant (Ok expanded) = ⊥
    IsWant (Err (Refused e)) = ⊥
    IsWant (Err (BadLoop at)) = ⊥
    IsWant (Err (NameTaken at)) = ⊥
    IsWant (Err NoMemory) = Unit {0}

    by_tokens : (l : Lexed) → ¬ LexedExpand bytes l (Err NoMemory)
    by_tokens (Ok ts) is = is
    by_tokens (Err e) is = subst IsWant is tt

expansion_answer :
    (makes : List ℕ → Status → List ℕ → Type 0) → ((expanded : List ℕ) → Some_answer (makes expanded)) → (bytes : List ℕ) →
    Some_answer (ExpansionGives makes bytes)
expansion_answer makes some bytes = let a = has_answer bytes in by_answer a.0 a.1
  where
    by_answer : (answer : Result (List ℕ) ExpandFail) → Expands bytes answer → Some_answer (ExpansionGives makes bytes)
    by_answer (Ok expanded) is = let made = some expanded in (made.0, (made.1.0, (Ok expanded, is, made.1.1)))
    by_answer (Err (Refused e)) is = (Syntax, (syntax_text e, (Err (Refused e), is, (refl, refl))))
    by_answer (Err (BadLoop at)) is = (Syntax, (bad_loop_text at, (Err (BadLoop at), is, (refl, refl))))
    by_answer (Err (NameTaken at)) is = (Syntax, (name_taken_text at, (Err (NameTaken at), is, (refl, refl))))
    by_answer (Err NoMemory) is = absurd (no_want bytes is)

play_answer : (command : Command) → HasRanges command → (bytes : List ℕ) → Some_answer (SourceGives (PlayMakes command) bytes)
play_answer command ranges bytes = source_answer (PlayMakes command) bytes (play_made Reports some_report command ranges bytes)

some_record : (command : Command) (bytes : List ℕ) (c : Setting) (run : List Pair) (last : Moment) → (t : List ℕ) × Records command bytes c run last t
some_record command bytes c run last = let high = number_of_words c run in (_, (high.0, (high.1, refl)))

-- `verify`: bytes are a trail or refused, and a trail has an answer
told_answer : (t : TrailShown) (p : Program) → IsText t.source p → IsAccepted p → (answer : Result ℕ VerifyFail) → IsAnswer (setting_of p t.k) t answer →
    Some_answer (SourceGives (VerifyMakes t) t.source)
told_answer t p is own (Ok actions) a = (Done, (trail_ok_text t.numbers actions, (p, (is, (own, (Ok actions, (a.1, (refl, refl))))))))
told_answer t p is own (Err (LongRun limit)) a =
    (TrailRefused, (long_run_text limit, (p, (is, (own, (Err (LongRun limit), (a.1, (refl, refl))))))))
told_answer t p is own (Err (BadEvent event)) a =
    (TrailRefused, (bad_event_text event, (p, (is, (own, (Err (BadEvent event), (a.1, (refl, refl))))))))
told_answer t p is own (Err (NotEnded events)) a =
    (TrailRefused, (not_ended_text events, (p, (is, (own, (Err (NotEnded events), (a.1, (refl, refl))))))))
told_answer t p is own (Err (WrongNumbers numbers)) a =
    (TrailRefused, (wrong_numbers_text numbers, (p, (is, (own, (Err (WrongNumbers numbers), (a.1, (refl, refl))))))))
told_answer t p is own (Err NoRoom) a = absurd (a.0 refl)

pub verify_answer : (bytes : List ℕ) → Some_answer (VerifyGives bytes)
verify_answer bytes = elim (each_read bytes) [
  | inl trail ↦
      let t = trail.0 in let least = trail.1.0.setting.quota.0 in
      let given = source_answer (VerifyMakes t) t.source (λ p is own.
      let a = a_trail_has_an_answer (setting_of p t.k) t (omega (arith, least)) in told_answer t p is own a.0 a.1) in
      (given.0, (given.1.0, inr (t, (trail.1, given.1.1))))
  | inr refused ↦ (TrailRefused, (not_trail_text refused.0, inl (refused.0, (refused.1, (refl, refl)))))
]

kind_answer : (kind : CommandKind) (command : Command) → HasRanges command → (bytes : List ℕ) → Some_answer (KindGives kind command bytes)
kind_answer Play command ranges bytes = play_answer command ranges bytes
kind_answer Async command ranges bytes = source_answer (AsyncMakes command) bytes (async_made Reports some_report command ranges bytes)
kind_answer Run command ranges bytes = source_answer (RunMakes command) bytes (run_made Reports some_report command ranges bytes)
kind_answer Peak command ranges bytes = peak_answer command.k command.steps bytes
kind_answer Checks command ranges bytes = check_answer bytes
kind_answer Make command ranges bytes =
    source_answer (MakeMakes command bytes) bytes (play_made (Summarizes (length bytes)) (some_summary (length bytes)) command ranges bytes)
kind_answer Loops command ranges bytes = expansion_answer (SourceGives (PlayMakes command)) (play_answer command ranges) bytes
kind_answer Expand command ranges bytes = expansion_answer ExpandMakes (λ expanded. (Done, (expanded, (refl, refl)))) bytes
kind_answer Trail command ranges bytes =
    source_answer (TrailMakes command bytes) bytes (play_made (Records command bytes) (some_record command bytes) command ranges bytes)
kind_answer Verify command ranges bytes = verify_answer bytes

pub an_answer : (command : Command) (bytes : List ℕ) → HasRanges command → Some_answer (BytesGive command bytes)
an_answer command bytes ranges = kind_answer command.kind command ranges bytes
