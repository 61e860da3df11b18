-- What a journal has written down after one action more.
use Rattle.std.proofs.Common.{◌<◌, ◌≡◌, Result, Ok, Err, MatchResult, ℕ, ◌≤◌, List, [], ◌∷◌, ◌++◌, length, ℤ, pos, ◌+ℤ◌, refl, sym, ◌∙◌, ap, subst, arith, append-nil, length-append}
use Rattle.std.proofs.lemmas.Slice.Zip.{AllZip-long}
use Rattle.std.specs.Int.{int_max}
use Rattle.std.specs.List.{AllZip}
use Rattle.containers.specs.BoundedList.{entries}
use Rattle.containers.specs.declared.bounded_list.BoundedList.{BoundedList}
use Rattle.dag_order.specs.Births.{HasLabel}
use Rattle.dag_order.specs.declared.birth.Birth.{Birth}
use Rattle.dag_order.specs.declared.action_id.ActionId.{ActionId}
use Rattle.dag_order.specs.declared.kind.Kind.TheVariants.{Fork}
use Rattle.depth_first_run.specs.Passed.Actions.{Deed, forks, Action, kind_of, weight_of, weight, live_words, peak}
use Rattle.serial_journal.specs.declared.action.Action.{Action as Shown}
use Rattle.serial_journal.specs.declared.journal.Journal.{Journal}
use Rattle.serial_journal.specs.Stops.{OnStop}
use Rattle.serial_journal.specs.declared.serial_stop.SerialStop.{SerialStop}
use Rattle.serial_journal.specs.declared.serial_stop.SerialStop.TheVariants.{StepsSpent, OutOfMemory}
use Rattle.serial_journal.specs.Telling.{ShowsAction, ShowsBirth, ForkOf, with_fork, forks_of, IsNoFork}
use Rattle.serial_journal.specs.Journals.{KeepsUp, Recorded, births_of, action_named}
use Rattle.serial_journal.proofs.Items.{forks_more, no_fork, live_more, peak_more}
use Rattle.serial_journal.proofs.Known.{zip_one_more, actions_stay, births_stay, labels_stay}

-- an action, with or without a birth
action_kept : (limit : ℕ) (actions : List Action) (a : Action) (shown : Shown) (births : List Birth) (added : BoundedList Birth) (j k : Journal)
    → Recorded shown j k → entries added ≡ births → KeepsUp limit actions j
    → AllZip (ShowsAction births) actions (entries j.actions) → ShowsAction births a shown
    → AllZip (ShowsBirth births) (forks_of actions ++ with_fork a.label a.deed []) births
    → KeepsUp limit (actions ++ a ∷ []) (record k { births = added })
action_kept limit actions a shown births added j k r same keeps old new born =
    let live : k.live ≡ live_words actions +ℤ weight a = r.live ∙ ap (λ z. z +ℤ shown.change) keeps.live_is ∙ ap (λ z. live_words actions +ℤ z) new.change in
    record {
      actions_are = subst (λ (bs : List Birth). AllZip (ShowsAction bs) (actions ++ a ∷ []) (entries k.actions)) (sym same)
          (subst (λ (xs : List Shown). AllZip (ShowsAction births) (actions ++ a ∷ []) xs) (sym r.actions)
          (zip_one_more (ShowsAction births) actions (entries j.actions) a shown old new));
      births_are = subst (λ (bs : List Birth). AllZip (ShowsBirth bs) (forks_of (actions ++ a ∷ [])) bs) (sym same)
          (subst (λ (fs : List ForkOf). AllZip (ShowsBirth births) fs births) (sym (forks_more actions (a ∷ []))) born);
      peak_is = r.high ∙ ap (λ z. int_max z k.live) keeps.peak_is ∙ ap (λ z. int_max (peak actions) z) live ∙ sym (peak_more actions a);
      live_is = live ∙ sym (live_more actions a);
      limit_is = r.limit ∙ keeps.limit_is;
      within =
          let long = AllZip-long (ShowsAction births) actions (entries j.actions) old in
          let room = r.room in let lim = keeps.limit_is in
          let more = length-append actions (a ∷ []) in omega (arith, long, room, lim, more);
    }

pub act_kept : (limit : ℕ) (actions : List Action) (label : List ℕ) (deed : Deed) (words : ℕ) (shown : Shown) (j k : Journal)
    → Recorded shown j k → k.births ≡ j.births → KeepsUp limit actions j → HasLabel (births_of j ∷ []) shown.name.by label
    → shown.kind ≡ kind_of deed → shown.change ≡ weight_of deed words → IsNoFork deed
    → KeepsUp limit (actions ++ action_named label shown.name.index deed words ∷ []) k
act_kept limit actions label deed words shown j k r same keeps labelled kind change plain =
    action_kept limit actions (action_named label shown.name.index deed words) shown (births_of j) k.births j k r (ap entries same) keeps
    keeps.actions_are record { label = labelled; index = refl; kind = kind; change = change }
    (subst (λ (fs : List ForkOf). AllZip (ShowsBirth (births_of j)) fs (births_of j))
    (sym (ap (λ (fs : List ForkOf). forks_of actions ++ fs) (no_fork label deed plain) ∙ append-nil (forks_of actions))) keeps.births_are)

-- how it is known that the peak is small is of no account
pub small_of_no_account : (limit : ℕ) (actions : List Action) (j : Journal) (small : j.peak < 9223372036854775808) → KeepsUp limit actions j
    → KeepsUp limit actions (record j { small = small })
small_of_no_account limit actions j small keeps = record {
  actions_are = keeps.actions_are;
  births_are = keeps.births_are;
  peak_is = keeps.peak_is;
  live_is = keeps.live_is;
  limit_is = keeps.limit_is;
  within = keeps.within;
}

-- room for births changes nothing
pub room_kept : (limit : ℕ) (actions : List Action) (j : Journal) (births : BoundedList Birth) → entries births ≡ entries j.births → KeepsUp limit actions j
    → KeepsUp limit actions (record j { births = births })
room_kept limit actions j births same keeps = record {
  actions_are = subst (λ (bs : List Birth). AllZip (ShowsAction bs) actions (entries j.actions)) (sym same) keeps.actions_are;
  births_are = subst (λ (bs : List Birth). AllZip (ShowsBirth bs) (forks_of actions) bs) (sym same) keeps.births_are;
  peak_is = keeps.peak_is;
  live_is = keeps.live_is;
  limit_is = keeps.limit_is;
  within = keeps.within;
}

pub fork_kept : (limit : ℕ) (actions : List Action) (label : List ℕ) (name : ActionId) (ordinal words : ℕ) (change : ℤ) (added : BoundedList Birth) (j k : Journal)
    → change ≡ pos words → Recorded (record { name = name; kind = Fork; change = change }) j k → entries added ≡ births_of j ++ record { parent = name.by; ordinal = ordinal } ∷ []
    → KeepsUp limit actions j → HasLabel (births_of j ∷ []) name.by label
    → KeepsUp limit (actions ++ action_named label name.index (forks ordinal) words ∷ []) (record k { births = added })
fork_kept limit actions label name ordinal words change added j k weighs r same keeps labelled =
    let birth : Birth = record { parent = name.by; ordinal = ordinal } in
    let births : List Birth = births_of j ++ birth ∷ [] in
    let still : HasLabel (births ∷ []) name.by label = labels_stay (births_of j) (birth ∷ []) name.by label labelled in
    action_kept limit actions (action_named label name.index (forks ordinal) words) (record { name = name; kind = Fork; change = change }) births added j k r same keeps
    (actions_stay (births_of j) (birth ∷ []) actions (entries j.actions) keeps.actions_are)
    record { label = still; index = refl; kind = refl; change = weighs }
    (zip_one_more (ShowsBirth births) (forks_of actions) (births_of j) (record { label = label; ordinal = ordinal }) birth
    (births_stay (births_of j) (birth ∷ []) (forks_of actions) (births_of j) keeps.births_are)
    record { parent = still; ordinal = refl })

-- what follows where a call ends well, or is stopped
pub ending : {T : Type 0} (P Q : T → Type 0) (S S' : Type 0) (r : Result T SerialStop) → ((x : T) → P x → Q x) → (S → S')
    → MatchResult r P (λ stop. OnStop stop S) → MatchResult r Q (λ stop. OnStop stop S')
ending P Q S S' (Ok x) well stopped h = well x h
ending P Q S S' (Err StepsSpent) well stopped h = stopped h
ending P Q S S' (Err OutOfMemory) well stopped h = tt

-- where the limit is reached
pub limit_reached : (limit : ℕ) (actions : List Action) (j : Journal) → KeepsUp limit actions j → j.limit ≤ length (entries j.actions) → limit ≤ length actions
limit_reached limit actions j keeps full =
    let long = AllZip-long (ShowsAction (births_of j)) actions (entries j.actions) keeps.actions_are in
    let lim = keeps.limit_is in omega (arith, long, lim, full)

pub stopping : (S S' : Type 0) (stop : SerialStop) → (S → S') → OnStop stop S → OnStop stop S'
stopping S S' StepsSpent more h = more h
stopping S S' OutOfMemory more h = tt
