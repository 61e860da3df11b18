-- A checker follows the events of a trail.
use Rattle.std.proofs.Common.{◌≡◌, ℕ, suc, ◌+◌, ◌<◌, List, [], ◌∷◌, ◌++◌, length, take, drop, true, refl, sym, ap, subst, ◌∙◌, arith, append_assoc}
use Rattle.std.specs.Prelude.{slice_get, Option, Some}
use Rattle.std.proofs.lemmas.List.{take_more, take-append-drop, length-take-le}
use Rattle.std.proofs.lemmas.Option.{slice_get_within, get_or_from_slice_get}
use Rattle.depth_first_run.specs.States as program
use Rattle.depth_first_run.specs.Run.{list_of}
use Rattle.depth_first_run.proofs.Built.{whole_is_depth_first}
use Rattle.deque_machine.specs.Machine.{Setting, Event}
use Rattle.deque_machine.specs.Moments.{Moment, opening}
use Rattle.deque_machine.specs.Play.{Limits}
use Rattle.deque_machine.specs.Runs.{Pair}
use Rattle.trail_check.specs.Following.{Leads, pair_of, Follows, stays, goes_on}
use Rattle.trail_check.specs.Verdicts.{LeadsNowhere, bad_event, IsVerdict, is_bad}
use Rattle.serial_journal.specs.declared.action.Action.{Action}
use Rattle.trail_meaning.specs.Shown.{TrailShown}
use Rattle.trail_meaning.specs.Ranges.{HasTrailRanges}
use Rattle.trail_meaning.specs.declared.trail_event.TrailEvent.{TrailEvent}
use Rattle.trail_meaning.specs.declared.trail_numbers.TrailNumbers.{TrailNumbers}
use Rattle.trail_check.specs.Listed.{AreListed}
use Rattle.trail_check.specs.Partners.{ArePartners}
use Rattle.trail_check.specs.Given.{IsGiven}
use Rattle.trail_check.specs.Standing.{StandsFor, IsStanding}
use Rattle.trail_check.specs.Steps.{Followed}
use Rattle.trail_check.specs.declared.checker.Checker.{Checker}
use Rattle.trail_check.specs.declared.terms.Terms.{Terms}
use Rattle.trail_check.specs.Checking.{trail_terms, trail_machine}
use Rattle.trail_check.specs.Judging.{IsListOf, HasFollowed}

-- the terms of a trail, as a checker takes them
abbrev pub terms_of : TrailShown → Terms
terms_of t = record { quota = t.k; workers = t.p; arena = t.arena; steps = t.steps; deques = t.deques }

-- a written list is that of some quota and births
pub listed : (c : program.Setting) (k : ℕ) (actions : List Action) → IsListOf c k actions → AreListed (list_of c) actions
listed c k actions list = record { quota = c.quota; depth_first = whole_is_depth_first c; births = list.births; actions = list.shows }

pub given : (c : program.Setting) (t : TrailShown) (actions : List Action) (partners : List (Option ℕ)) → HasTrailRanges t → IsListOf c t.k actions
    → ArePartners (list_of c) partners → IsGiven (trail_machine c t) (trail_terms t).limits actions partners (terms_of t)
given c t actions partners ranges list are = let least = ((ranges.setting).quota).0 in let same = list.quota in record {
  some = omega (arith, least, same);
  depth_first = whole_is_depth_first c;
  births = list.births;
  shows = list.shows;
  are = are;
  quota = list.quota;
  workers = refl;
  capacity = refl;
  steps = refl;
  most = refl;
}

-- before the first event
pub none_followed : (s : Setting) (limits : Limits) (checker : Checker) → StandsFor s limits [] opening checker → HasFollowed s limits [] checker
none_followed s limits checker stands = record { run = []; moment = opening; follows = stays opening; stands = stands }

-- one event more
follows_more : (s : Setting) (limits : Limits) (first m next : Moment) (events : List TrailEvent) (run : List Pair) (told : TrailEvent) (event : Event)
    → Follows s limits first events run m → Leads s limits m told event next
    → Follows s limits first (events ++ told ∷ []) (run ++ pair_of told.worker event ∷ []) next
follows_more s limits first m next [] run told event (stays a) leads = goes_on first next next told event [] [] leads (stays next)
follows_more s limits first m next (e ∷ events) run told event (goes_on a b last e' event' later run' leads' rest) leads =
    goes_on first b next e event' (events ++ told ∷ []) (run' ++ pair_of told.worker event ∷ []) leads' (follows_more s limits b m next events run' told event rest leads)

-- a run has as many events as the trail
as_long : (s : Setting) (limits : Limits) (first last : Moment) (events : List TrailEvent) (run : List Pair) → Follows s limits first events run last
    → length run ≡ length events
as_long s limits first last [] run (stays a) = refl
as_long s limits first last (e ∷ events) run (goes_on a next b e' event later run' leads rest) = ap suc (as_long s limits next last events run' rest)

pub standing : (s : Setting) (limits : Limits) (events : List TrailEvent) (i : ℕ) (checker : Checker) → i < length events → length events < 4294967296
    → HasFollowed s limits (take i events) checker → IsStanding checker
standing s limits events i checker inside short had =
    let long = as_long s limits opening had.moment (take i events) had.run had.follows in let few = length-take-le i events (omega (arith, inside)) in
    (s, limits, had.run, had.moment, had.stands, omega (arith, long, few, inside, short))

-- the events up to one of them, and with it
up_to : (events : List TrailEvent) (i : ℕ) (told : TrailEvent) → slice_get events i ≡ Some told → take (i + 1) events ≡ take i events ++ told ∷ []
up_to events i told at =
    take_more events i told (slice_get_within events i told at) ∙ ap (λ e. take i events ++ e ∷ []) (get_or_from_slice_get events i told told at)

cut : (events : List TrailEvent) (i : ℕ) (told : TrailEvent) → slice_get events i ≡ Some told → events ≡ take i events ++ told ∷ drop (i + 1) events
cut events i told at =
    sym (take-append-drop (i + 1) events) ∙ ap (λ t. t ++ drop (i + 1) events) (up_to events i told at) ∙ append_assoc (take i events) (told ∷ []) (drop (i + 1) events)

pub followed : (s : Setting) (limits : Limits) (events : List TrailEvent) (i : ℕ) (told : TrailEvent) (checker after : Checker) → slice_get events i ≡ Some told
    → (had : HasFollowed s limits (take i events) checker) → Followed s limits had.run had.moment told true after → HasFollowed s limits (take (i + 1) events) after
followed s limits events i told checker after at had more = record {
  run = had.run ++ pair_of told.worker more.0 ∷ [];
  moment = more.1;
  follows = subst (λ t. Follows s limits opening t (had.run ++ pair_of told.worker more.0 ∷ []) more.1) (sym (up_to events i told at))
      (follows_more s limits opening had.moment more.1 (take i events) had.run told more.0 had.follows more.2);
  stands = more.3;
}

pub refused : (s : Setting) (limits : Limits) (events : List TrailEvent) (numbers : TrailNumbers) (i : ℕ) (told : TrailEvent) (checker : Checker)
    → slice_get events i ≡ Some told → (had : HasFollowed s limits (take i events) checker) → LeadsNowhere s limits had.moment told
    → IsVerdict s limits events numbers (bad_event (i + 1))
refused s limits events numbers i told checker at had nowhere =
    let inside = slice_get_within events i told at in let size = length-take-le i events (omega (arith, inside)) in
    let number : suc (length (take i events)) ≡ i + 1 = omega (arith, size) in
    subst (λ n. IsVerdict s limits events numbers (bad_event n)) number
    (is_bad (take i events) (drop (i + 1) events) told had.run had.moment (cut events i told at) had.follows nowhere)
