-- Recorded trails are accepted, and accepted trails are bounded.
use Rattle.std.proofs.Common.{◌≡◌, ℕ, List, inl, inr, refl, sym, ap, subst, arith, ◌⊎◌}
use Rattle.std.specs.Prelude.{Result, Ok, Err}
use Rattle.std.proofs.Math.Logic.{∥∥₁_elim}
use denote.Struct.Props.{props}
use Rattle.command_line.specs.declared.command.Command.{Command}
use Rattle.command_line.specs.declared.command_kind.CommandKind.TheVariants.{Trail}
use Rattle.command_line.specs.declared.setting.Setting.TheVariants.{Quota, Workers, Arena, Steps, Deques}
use Rattle.deque_machine.specs.Moments.{Moment}
use Rattle.deque_machine.specs.Play.{Ending, finished, stopped}
use Rattle.deque_machine.specs.Runs.{Pair}
use Rattle.par_ownership.specs.Accepted.{IsAccepted}
use Rattle.par_text.specs.Judging.{IsText}
use Rattle.par_tree.specs.Tree.{Program}
use Rattle.serial_meaning.specs.Settings.{setting_of}
use Rattle.trail_check.specs.Checking.{ChecksTrail}
use Rattle.trail_check.specs.declared.verify_fail.VerifyFail.{VerifyFail}
use Rattle.trail_check.specs.declared.verify_fail.VerifyFail.TheVariants.{LongRun, BadEvent, NotEnded, WrongNumbers, OutOfMemory as NoRoom}
use Rattle.trail_check.proofs.Outcomes as checks
use Rattle.trail_meaning.specs.Ranges.{FitSetting}
use Rattle.trail_meaning.specs.Shown.{TrailShown}
use Rattle.trail_text.specs.TrailText.{IsTrail}
use Rattle.dfd_laws.specs.RecordedTrails.{IsOfPlay}
use Rattle.dfd_laws.proofs.Accepted as laws
use Rattle.dfd_plays.specs.Answer.{BytesGive, HasRanges}
use Rattle.dfd_laws.specs.Laws.{RecordedTrailsAreAccepted, VerifiedTrailsAreBounded}
use Rattle.dfd_plays.specs.Play.{IsPlay, TellsEnding, TellsPlay, play_setting, seeded_words}
use Rattle.dfd_plays.specs.Status.{code_of}
use Rattle.dfd_plays.specs.Trails.{Records, TellsCheck, VerifyGives, trail_of}
use Rattle.dfd_plays.specs.declared.status.Status.{Status}
use Rattle.dfd_plays.specs.declared.status.Status.TheVariants.{Done, UserFault, TrailRefused}
use Rattle.dfd_plays.specs.TrailMessages.{trail_ok_text}
use Rattle.dfd_laws.proofs.AnAnswer.{verify_answer}
use Rattle.dfd_laws.proofs.OneAnswer.{one_trail_answer}
use Rattle.dfd_laws.proofs.Statuses.{same_status, not_stopped}
use Rattle.dfd_plays.proofs.Sums.{short_text}

module _ (command : Command) (bytes trail : List ℕ) (ranges : HasRanges (record command { kind = Trail })) (p : Program) (is : IsText bytes p)
    (own : IsAccepted p) where
  fits : FitSetting command.k command.p command.arena command.steps command.deques
  fits =
      let k = ranges.numbers Quota in let w = ranges.numbers Workers in let a = ranges.numbers Arena in
      let s = ranges.numbers Steps in let d = ranges.numbers Deques in record {
        quota = (k.0, k.1);
        quota_whole = k.2;
        workers = (w.0, w.1);
        arena = (a.0, a.1);
        arena_whole = a.2;
        steps = (s.0, s.1);
        deques = (d.0, d.1);
      }

  -- the trail of the play is accepted
  verified : (run : List Pair) (last : Moment) → IsPlay command p run last finished → Records command bytes (play_setting command p) run last trail
      → (text : List ℕ) × VerifyGives trail Done text
  verified run last plays records =
      let t : TrailShown = trail_of command bytes run last records.0 in
      let o : IsOfPlay (setting_of p command.k) t = record {
        quota = refl;
        setting = fits;
        source = short_text bytes p is;
        words = seeded_words command.seed;
        run = run;
        last = last;
        plays = plays;
        events = refl;
        numbers = record { periods = refl; ahead = refl; high = records.1.0 };
      } in
      let a = laws.trails_of_plays_check (setting_of p command.k) t o in (
        trail_ok_text t.numbers a.1.0,
        inr (t, (subst (λ b. IsTrail b t) (sym records.1.1) a.0, (p, (is, (own, (Ok a.1.0, (a.1.1, (refl, refl)))))))),
      )

  verified_status : (status : Status) → (status ≡ Done) ⊎ (status ≡ UserFault) → TellsPlay (Records command bytes) command p status trail
      → (s : Status) (text : List ℕ) → VerifyGives trail s text → s ≡ Done
  verified_status status ended makes s text gives = same_status s Done
      (∥∥₁_elim makes (search props) (λ w. ap code_of (by_ending w.0 w.1 w.2 w.3 w.4)))
    where
      by_ending : (run : List Pair) (last : Moment) (ending : Ending) → IsPlay command p run last ending
          → TellsEnding (Records command bytes (play_setting command p)) (play_setting command p) run last ending status trail → s ≡ Done
      by_ending run last finished plays told =
          let v = verified run last plays told.1 in (one_trail_answer trail s Done text v.0 gives v.1).0
      by_ending run last (stopped stop) plays told = absurd (not_stopped status stop told.0 ended)

  accepted : (status : Status) → (status ≡ Done) ⊎ (status ≡ UserFault) → TellsPlay (Records command bytes) command p status trail
      → (text : List ℕ) × VerifyGives trail Done text
  accepted status ended makes =
      let v = verify_answer trail in
      (v.1.0, subst (λ s. VerifyGives trail s v.1.0) (verified_status status ended makes v.0 v.1.0 v.1.1) v.1.1)

pub recorded_trails_are_accepted : RecordedTrailsAreAccepted
recorded_trails_are_accepted command bytes trail status ranges gives (inl done) =
    let g = subst (λ s. BytesGive (record command { kind = Trail }) bytes s trail) done gives in
    accepted command bytes trail ranges g.0 g.1.0 g.1.1.0 Done (inl refl) g.1.1.1
recorded_trails_are_accepted command bytes trail status ranges gives (inr fault) =
    let g = subst (λ s. BytesGive (record command { kind = Trail }) bytes s trail) fault gives in
    accepted command bytes trail ranges g.0 g.1.0 g.1.1.0 UserFault (inr refl) g.1.1.1

done_or_refused : Done ≡ TrailRefused → ⊥
done_or_refused same = omega (arith, ap code_of same)

-- a trail of which is told that it is accepted has such an answer
accepted_answer : (t : TrailShown) (p : Program) (text : List ℕ) (answer : Result ℕ VerifyFail) → ChecksTrail (setting_of p t.k) t answer → TellsCheck t answer Done text
    → (actions : ℕ) × ChecksTrail (setting_of p t.k) t (Ok actions)
accepted_answer t p text (Ok actions) is told = (actions, is)
accepted_answer t p text (Err (LongRun limit)) is told = absurd (done_or_refused told.0)
accepted_answer t p text (Err (BadEvent event)) is told = absurd (done_or_refused told.0)
accepted_answer t p text (Err (NotEnded events)) is told = absurd (done_or_refused told.0)
accepted_answer t p text (Err (WrongNumbers numbers)) is told = absurd (done_or_refused told.0)
accepted_answer t p text (Err NoRoom) is told = absurd told

pub verified_trails_are_bounded : VerifiedTrailsAreBounded
verified_trails_are_bounded command bytes text (inl none) = absurd (done_or_refused none.1.1.0)
verified_trails_are_bounded command bytes text (inr of) =
    let t = of.0 in let p = of.1.1.0 in let least = of.1.0.0.setting.quota.0 in
    let m = of.1.1.1.1.1 in
    let a = accepted_answer t p text m.0 m.1.0 m.1.1 in
    (t, p, of.1.0, of.1.1.1.0, of.1.1.1.1.0, checks.accepted_trails_are_bounded (setting_of p t.k) t a.0 (omega (arith, least)) a.1)
