-- What `make` answers: never a refusal of its source, and never a fault.
use Rattle.std.proofs.Common.{◌≡◌, ◌⊎◌, inl, inr, ℕ, zero, suc, ◌+◌, ◌-◌, ◌*◌, ◌<◌, ◌≤◌, ◌^◌, List, [], length, Option, Some, None, refl, sym, ap, ◌∙◌, subst, arith, mul-suc}
use Rattle.std.specs.Prelude.{pos, ◌+ℤ◌, FitsSigned}
use Rattle.std.specs.Int.{w64, int_wrapping_add}
use Rattle.std.specs.List.{flat_map, range_with_len}
use Rattle.std.proofs.Math.Logic.{∥∥₁_elim, ∥∥₁_map}
use Rattle.std.proofs.Math.Nat.{suc-mul, mul-le-mul_left}
use Rattle.std.proofs.lemmas.Grind.{div_ceil_times}
use Rattle.std.proofs.lemmas.Int.{ints, wrapping_add_is, int_wrap_fits}
use Rattle.byte_streams.specs.Faults.{Rose}
use Rattle.command_line.specs.Arguments.{IsCommand, wants_groups, number_of, values_of}
use Rattle.command_line.specs.declared.command.Command.{Command}
use Rattle.command_line.specs.declared.command_kind.CommandKind.TheVariants.{Make}
use Rattle.command_line.proofs.Commands.{one_command, sets_in_range, groups_in_range}
use Rattle.depth_first_list.specs.Passed.FinishVariants as finishes
use Rattle.depth_first_run.specs.States.{Setting, State}
use Rattle.depth_first_run.specs.Run.{whole, lines_of, finish_of_run}
use Rattle.deque_machine.specs.Moments.{Moment}
use Rattle.deque_machine.specs.Play.{Stop, arena_full, steps_spent, deques_full, Ending, finished, stopped}
use Rattle.deque_machine.specs.Runs.{Pair}
use Rattle.deque_machine.specs.Books.{booked, periods_marked}
use Rattle.par_tree.specs.Tree.{Program}
use Rattle.par_text.specs.declared.syntax_error.SyntaxError.{SyntaxError}
use Rattle.par_text.specs.Judging.{IsText, IsRefused, Verdict, tree, refusal}
use Rattle.par_text.proofs.Verdicts.{one_verdict}
use Rattle.par_ownership.specs.Accepted.{IsAccepted}
use Rattle.par_ownership.specs.Walk.{Refusal, program_refusal}
use Rattle.par_ownership.proofs.Law.{tells_program}
use Rattle.made_source.specs.MadeSource.{made_source}
use Rattle.made_laws.specs.MadeProgram.{made_program}
use Rattle.made_laws.specs.MadeRun.{twice, made_lines, AllowsGroups}
use Rattle.made_laws.proofs.Texts.{made_sources_are_texts}
use Rattle.made_laws.proofs.Rules.{made_programs_keep_the_rules}
use Rattle.made_laws.proofs.Runs.{made_programs_print_twice}
use Rattle.made_laws.proofs.Sums.{product, lines_are_many}
use Rattle.serial_meaning.specs.Settings.{setting_of}
use Rattle.run_report.specs.declared.summary.Summary.{Summary}
use Rattle.dfd_plays.specs.Answer.{BytesGive, CallGives, CommandGives, Ends, HasRanges, KindAnswers, KindGives}
use Rattle.dfd_plays.specs.Make.{MakeMakes, Summarizes, sum_with, sum_of, source_of}
use Rattle.dfd_plays.specs.Peak.{finish_status}
use Rattle.dfd_plays.specs.Play.{TellsEnding, play_setting, stop_status}
use Rattle.dfd_plays.specs.Sources.{SourceGives}
use Rattle.dfd_plays.specs.declared.status.Status.{Status}
use Rattle.dfd_plays.specs.declared.status.Status.TheVariants.{Done, Usage, ReadFault, WriteFault, Syntax, Check, UserFault, StepsSpent, ArenaFull}
use Rattle.dfd_plays.specs.declared.status.Status.TheVariants.{DequesFull, OutOfMemory, TrailRefused}
use Rattle.dfd_laws.specs.MakeLaws.{IsMadeSummary, MadeSourcesAreAccepted, MadeSummariesAddUp, MakesMeetNoFault}
use Rattle.dfd_laws.proofs.Statuses.{not_stopped}

-- the statuses of a play that meets no fault

Possible : Status → Type 0
Possible Done = Unit {0}
Possible Usage = ⊥
Possible ReadFault = ⊥
Possible WriteFault = ⊥
Possible Syntax = ⊥
Possible Check = ⊥
Possible UserFault = ⊥
Possible StepsSpent = Unit {0}
Possible ArenaFull = Unit {0}
Possible DequesFull = Unit {0}
Possible OutOfMemory = ⊥
Possible TrailRefused = ⊥

one_of : (status : Status) → Possible status → (status ≡ Done) ⊎ ((status ≡ StepsSpent) ⊎ ((status ≡ ArenaFull) ⊎ (status ≡ DequesFull)))
unfolding Possible
one_of Done h = inl refl
one_of Usage h = absurd h
one_of ReadFault h = absurd h
one_of WriteFault h = absurd h
one_of Syntax h = absurd h
one_of Check h = absurd h
one_of UserFault h = absurd h
one_of StepsSpent h = inr (inl refl)
one_of ArenaFull h = inr (inr (inl refl))
one_of DequesFull h = inr (inr (inr refl))
one_of OutOfMemory h = absurd h
one_of TrailRefused h = absurd h

plainly : (status : Status) → ∥ Possible status ∥₁ → Possible status
unfolding Possible
plainly Done h = tt
plainly Usage h = ∥∥₁_elim h (λ x y. absurd x) (λ x. x)
plainly ReadFault h = ∥∥₁_elim h (λ x y. absurd x) (λ x. x)
plainly WriteFault h = ∥∥₁_elim h (λ x y. absurd x) (λ x. x)
plainly Syntax h = ∥∥₁_elim h (λ x y. absurd x) (λ x. x)
plainly Check h = ∥∥₁_elim h (λ x y. absurd x) (λ x. x)
plainly UserFault h = ∥∥₁_elim h (λ x y. absurd x) (λ x. x)
plainly StepsSpent h = tt
plainly ArenaFull h = tt
plainly DequesFull h = tt
plainly OutOfMemory h = ∥∥₁_elim h (λ x y. absurd x) (λ x. x)
plainly TrailRefused h = ∥∥₁_elim h (λ x y. absurd x) (λ x. x)

-- the sum wraps nowhere
no_wrap : (x y : ℕ) → x + y < 2 ^ 62 → int_wrapping_add w64 (pos x) (pos y) ≡ pos (x + y)
no_wrap x y small =
    let fits : FitsSigned w64 (pos x) = omega (arith, ints, small) in
    let fits' : FitsSigned w64 (pos y) = omega (arith, ints, small) in
    let both : FitsSigned w64 (pos x +ℤ pos y) = omega (arith, ints, small) in
    wrapping_add_is w64 (pos x) (pos y) fits fits' ∙ int_wrap_fits w64 (pos x +ℤ pos y) both
    ∙ (let e : (pos x +ℤ pos y) ≡ pos (x + y) = omega (arith, ints) in e)

sums : (x a n : ℕ) → x + (n * (n - 1) + 2 * (a * n)) < 2 ^ 62 → sum_with (pos x) (flat_map twice (range_with_len a n)) ≡ pos (x + (n * (n - 1) + 2 * (a * n)))
sums x a zero small = ap pos (let e : x ≡ x + (0 * (0 - 1) + 2 * (a * 0)) = omega arith in e)
sums x a (suc n) small =
    let one = suc-mul a n in
    let next : (a + 1) * n ≡ suc a * n = ap (λ (k : ℕ). k * n) (let e : a + 1 ≡ suc a = omega arith in e) in
    let both = mul-suc a n in
    let square = product n in
    let less : suc n * (suc n - 1) ≡ suc n * n = ap (λ (k : ℕ). suc n * k) (let e : suc n - 1 ≡ n = omega arith in e) in
    let same : x + (suc n * (suc n - 1) + 2 * (a * suc n)) ≡ ((x + a) + a) + (n * (n - 1) + 2 * ((a + 1) * n)) =
    omega (arith, one, next, both, square, less) in
    ap (λ z. sum_with (int_wrapping_add w64 z (pos a)) (flat_map twice (range_with_len (a + 1) n))) (no_wrap x a (omega (arith, same, small)))
    ∙ ap (λ z. sum_with z (flat_map twice (range_with_len (a + 1) n))) (no_wrap (x + a) a (omega (arith, same, small)))
    ∙ sums ((x + a) + a) (a + 1) n (omega (arith, same, small))
    ∙ ap pos (sym same)

few : (n : ℕ) → n ≤ 8000 → n * (n - 1) < 2 ^ 62
few n most = let a = mul-le-mul_left n (let e : n - 1 ≤ 8000 = omega (arith, most) in e) in omega (arith, a, most)

sum_is : (n : ℕ) → n ≤ 8000 → sum_of (made_lines n) ≡ pos (n * (n - 1))
sum_is n most =
    let zero_times : 2 * (0 * n) ≡ 0 = omega arith in
    let small : n * (n - 1) < 2 ^ 62 = few n most in
    sums 0 0 n (omega (arith, zero_times, small)) ∙ ap pos (let e : 0 + (n * (n - 1) + 2 * (0 * n)) ≡ n * (n - 1) = omega (arith, zero_times) in e)

-- the verdict on a made source

tree_of : Verdict → Program
tree_of (tree p) = p
tree_of (refusal e) = []

-- a play of the made program that does not end well is stopped
left_to : (status : Status) (stop : Stop) → status ≡ stop_status stop → Possible status
unfolding Possible
left_to status (arena_full live asked) is = subst Possible (sym is) tt
left_to status (steps_spent limit) is = subst Possible (sym is) tt
left_to status (deques_full deques) is = subst Possible (sym is) tt

module _ (command : Command) (ranges : HasRanges command) (is_make : command.kind ≡ Make) where
  abbrev n : ℕ
  n = command.groups

  most : n ≤ 8000
  most = (ranges.groups (ap wants_groups is_make)).1

  is_made : (p : Program) → IsText (made_source n) p → p ≡ made_program n
  unfolding tree_of
  is_made p is_text = ap tree_of (one_verdict (made_source n) (tree p) (tree (made_program n)) is_text (made_sources_are_texts n most))

  not_refused : (e : SyntaxError) → IsRefused (made_source n) e → ⊥
  not_refused e refused = never (one_verdict (made_source n) (tree (made_program n)) (refusal e) (made_sources_are_texts n most) refused)
    where
      never : tree (made_program n) ≡ refusal e → ⊥
      never h = cc

  keeps : (p : Program) → IsText (made_source n) p → (r : Refusal) → program_refusal p ≡ Some r → ⊥
  keeps p is_text r refused =
      never (sym (subst (λ q. program_refusal q ≡ None) (sym (is_made p is_text))
      ((tells_program (made_program n)).complete (made_programs_keep_the_rules n most))) ∙ refused)
    where
      never : None ≡ Some r → ⊥
      never h = cc

  room : (k : ℕ) (p : Program) → AllowsGroups n (setting_of p k)
  room k p = let bounds = div_ceil_times n 64 (omega arith) in record { calls = omega arith; turns = omega (arith, bounds.1, most); forks = omega arith }

  runs : (p : Program) → IsText (made_source n) p
      → (lines_of (State.items (whole (play_setting command p))) ≡ made_lines n) × (finish_of_run (play_setting command p) ≡ finishes.Done)
  runs p is_text = made_programs_print_twice (play_setting command p) n most (is_made p is_text) (room command.k p)

  told : (p : Program) → IsText (made_source n) p → (run : List Pair) (last : Moment) (ending : Ending) (status : Status) (text : List ℕ)
      → TellsEnding (Summarizes (length (made_source n)) (play_setting command p)) (play_setting command p) run last ending status text → Possible status
  unfolding Possible
  told p is_text run last finished status text tells = subst Possible (sym (tells.0 ∙ ap finish_status (runs p is_text).1)) tt
  told p is_text run last (stopped stop) status text tells = left_to status stop tells.0

  abbrev Makes : Status → List ℕ → Type 0
  Makes status text = (p : Program) × (IsText (made_source n) p × (IsAccepted p × MakeMakes command (made_source n) p status text))

  played : (status : Status) (text : List ℕ) → Makes status text → Possible status
  played status text (p, (is_text, (accepted, makes))) = plainly status (∥∥₁_map makes (λ w. told p is_text w.0 w.1 w.2 status text w.4))

  possible : (status : Status) (text : List ℕ) → SourceGives (MakeMakes command (made_source n)) (made_source n) status text → Possible status
  possible Syntax text (e, (refused, line)) = absurd (not_refused e refused)
  possible Check text (p, (is_text, (r, (refused, line)))) = absurd (keeps p is_text r refused)
  possible Done text gives = played Done text gives
  possible Usage text gives = played Usage text gives
  possible ReadFault text gives = played ReadFault text gives
  possible WriteFault text gives = played WriteFault text gives
  possible UserFault text gives = played UserFault text gives
  possible StepsSpent text gives = played StepsSpent text gives
  possible ArenaFull text gives = played ArenaFull text gives
  possible DequesFull text gives = played DequesFull text gives
  possible OutOfMemory text gives = played OutOfMemory text gives
  possible TrailRefused text gives = played TrailRefused text gives

  of_bytes : (status : Status) (text : List ℕ) → BytesGive command (source_of command) status text
      → SourceGives (MakeMakes command (made_source n)) (made_source n) status text
  of_bytes status text gives = subst (λ kind. KindGives kind command (made_source n) status text) is_make gives

  summed_up : (p : Program) → IsText (made_source n) p → (run : List Pair) (last : Moment) (ending : Ending) (text : List ℕ)
      → TellsEnding (Summarizes (length (made_source n)) (play_setting command p)) (play_setting command p) run last ending Done text
      → (shown : Summary) × IsMadeSummary n text shown
  summed_up p is_text run last (stopped stop) text tells = absurd (not_stopped Done stop tells.0 (inl refl))
  summed_up p is_text run last finished text tells =
      let c : Setting = play_setting command p in
      let lines : lines_of (State.items (whole c)) ≡ made_lines n = (runs p is_text).0 in (
        record {
          bytes = length (made_source n);
          lines = length (lines_of (State.items (whole c)));
          total = sum_of (lines_of (State.items (whole c)));
          actions = length (booked last.books);
          periods = length last.books;
          ahead = periods_marked last.books;
          high = tells.1.0;
        },
        record {
          is = tells.1.1.1;
          lines = ap (λ vs. length vs) lines ∙ lines_are_many n;
          total = ap sum_of lines ∙ sum_is n most;
        },
      )

  summary : (text : List ℕ) → Makes Done text → ∥ ((shown : Summary) × IsMadeSummary n text shown) ∥₁
  summary text (p, (is_text, (accepted, makes))) = ∥∥₁_map makes (λ w. summed_up p is_text w.0 w.1 w.2 text w.4)

pub made_sources_are_accepted : MadeSourcesAreAccepted
made_sources_are_accepted command status text ranges is_make gives =
    one_of status (possible command ranges is_make status text (of_bytes command ranges is_make status text gives))

pub made_summaries_add_up : MadeSummariesAddUp
made_summaries_add_up command text ranges is_make gives = summary command ranges is_make text (of_bytes command ranges is_make Done text gives)

-- a whole call

has_ranges : (words : List (List ℕ)) (command : Command) → IsCommand words command → HasRanges command
has_ranges words command is = record {
  numbers = λ s. sets_in_range command.kind s (values_of s is.items) (number_of command s) (is.sets s);
  groups = groups_in_range words command is;
}

module _ (words : List (List ℕ)) (command : Command) (faults faults' : ℕ) (left left' taken taken' : Option (List ℕ))
    (is_command : IsCommand words command) (is_make : command.kind ≡ Make) where
  abbrev Answers : Status → List ℕ → Type 0
  Answers status text = (other : Command) × (IsCommand words other × CommandGives other (Rose faults faults') left left' status text)

  answers : (status : Status) (text : List ℕ) → Answers status text → Possible status
  answers status text (other, (is_other, gives)) =
      let same : other ≡ command = one_command words command other is_command is_other in
      let mine : CommandGives command (Rose faults faults') left left' status text = subst
      (λ c. CommandGives c (Rose faults faults') left left' status text) same gives in
      let made : BytesGive command (source_of command) status text = subst
      (λ kind. KindAnswers kind command (Rose faults faults') left left' status text) is_make mine in
      let ranges = has_ranges words command is_command in
      possible command ranges is_make status text (of_bytes command ranges is_make status text made)

  abbrev EndsSo : Status → Type 0
  EndsSo status = Ends (CallGives words (Rose faults faults') left left') taken taken' status

  no_syntax : EndsSo Syntax → ⊥
  unfolding Possible
  no_syntax (text, (gives, takes)) = answers Syntax text gives

  no_check : EndsSo Check → ⊥
  unfolding Possible
  no_check (text, (gives, takes)) = answers Check text gives

  no_fault : EndsSo UserFault → ⊥
  unfolding Possible
  no_fault (text, (gives, takes)) = answers UserFault text gives

pub makes_meet_no_fault : MakesMeetNoFault
makes_meet_no_fault words command faults faults' left left' taken taken' status is_command is_make ends =
    let So : Status → Type 0 = λ s. Ends (CallGives words (Rose faults faults') left left') taken taken' s in (
      λ is. no_syntax words command faults faults' left left' taken taken' is_command is_make (subst So is ends),
      λ is. no_check words command faults faults' left left' taken taken' is_command is_make (subst So is ends),
      λ is. no_fault words command faults faults' left left' taken taken' is_command is_make (subst So is ends),
    )
