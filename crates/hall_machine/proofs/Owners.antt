-- Each event of a seat at work leads from a running state to a running state.
use Rattle.std.proofs.Common.{◌≡◌, ℕ, ◌<◌, false, List, [], ◌∷◌, ◌++◌, refl, sym, ap, ◌∙◌, cond, arith, append-nil, ℤ, pos, ◌+ℤ◌}
use Rattle.std.proofs.lemmas.Int.{ints}
use Rattle.std.specs.Prelude.{None}
use Rattle.depth_first_list.specs.Passed.ActionId.{ActionId}
use Rattle.depth_first_list.specs.Actions.{Deed, joins, Action, weight_of}
use Rattle.depth_first_list.specs.Facts.{action_at, deed_at, words_at, weight_at}
use Rattle.depth_first_list.specs.Runs.{IsDepthFirst}
use Rattle.deque_machine.specs.Machine.{Setting, does, suspends, gives_up}
use Rattle.deque_machine.specs.Runs.{moves_words}
use Rattle.space_ledger.specs.declared.moved.Moved.{Moved}
use Rattle.moment_laws.specs.Passed.Tables.{noted, shut}
use Rattle.moment_laws.specs.Moves.{noted_if}
use Rattle.moment_laws.proofs.Told.{give_up_is_forced}
use Rattle.hall_machine.specs.Values.{PoolShown, no_lane, parts_of}
use Rattle.hall_machine.specs.Steps.{did, waited, gave_up}
use Rattle.hall_machine.specs.Writing.{lane_with, list_unowned, list_without, PoolTakes, joins_handed}
use Rattle.hall_machine.proofs.Own.{works}
use Rattle.hall_machine.proofs.LaneRows.{lane_actions_stand}
use Rattle.hall_machine.proofs.ListRows.{dummies_stand, giving_up_stands, suspending_stands, leaving_ends_stand}
use Rattle.hall_machine.proofs.HandedRows.{ends_above_stand, waking_ends_stand, kept_joins_stand}
use Rattle.hall_machine.specs.Events.{LaneActionsGoOn, OwnJoinsGoOn, DummiesGoOn, EndsAboveGoOn, WakingEndsGoOn, LeavingEndsGoOn, KeptJoinsGoOn, GivingUpGoesOn, ForcedGiveUpsGoOn, SuspendingGoesOn}
use Rattle.hall_machine.proofs.Owning.{no_give_up, wait_no_give_up, goes_on_owning, goes_on_idle, wider_unowned, owned_beside, its_period}

-- ---- a Join that releases nothing leaves the pool as it was

none_released : (deed : Deed) (words ordinal : ℕ) → deed ≡ joins ordinal → words ≡ 0 → weight_of deed words ≡ pos 0
none_released deed words ordinal is none = ap (λ d. weight_of d words) is ∙ ap (λ n. weight_of (joins ordinal) n) none

none_moved : (deed : Deed) (label : List ℕ) (words ordinal : ℕ) → deed ≡ joins ordinal → words ≡ 0 → moves_words deed label words ≡ false
none_moved deed label words ordinal is none = ap (λ d. moves_words d label words) is ∙ ap (λ n. moves_words (joins ordinal) label n) none

pool_stays : (l : List Action) (place ordinal : ℕ) (name : ActionId) (pool : PoolShown) → deed_at l place ≡ joins ordinal → words_at l place ≡ 0 → PoolTakes l place name pool pool
pool_stays l place ordinal name pool is none =
    let move : Moved = record { by = name; change = weight_at l place } in record {
      live = same (pos pool.live) (weight_at l place) (none_released (deed_at l place) (words_at l place) ordinal is none);
      move = move;
      by = refl;
      change = refl;
      moves = sym (append-nil pool.moves) ∙ ap (λ b. pool.moves ++ noted_if b move) (sym (none_moved (deed_at l place) (Action.label (action_at l place)) (words_at l place) ordinal is none));
    }
  where
    same : (x y : ℤ) → y ≡ pos 0 → x ≡ x +ℤ y
    same x y none = omega (arith, ints, none)

module _ (s : Setting) (some : 0 < s.quota) (list : IsDepthFirst s.quota s.list) where
  pub lane_actions_go_on : LaneActionsGoOn s
  lane_actions_go_on limits h steps m leads count views seat v w place name threads words births pool state here counting acts takes =
      goes_on_owning s limits h steps m leads count views seat v state here w h.list pool threads (noted w.period name words births) place name counting refl refl refl refl
      (lane_actions_stand s some list h steps m seat v.worker w place name threads words births pool state.stands acts takes)

  pub own_joins_go_on : OwnJoinsGoOn s
  own_joins_go_on limits h steps m leads count views seat v w place name new words state here counting join none =
      lane_actions_go_on limits h steps m leads count views seat v w place name (new ∷ w.under) words [] h.pool state here counting (joins_handed new words join)
      (pool_stays s.list place join.newest.ordinal name h.pool join.next.does none)

  pub dummies_go_on : DummiesGoOn s
  dummies_go_on limits h steps m leads count views seat v w place name new state here counting dummy =
      goes_on_idle s limits h steps m leads count views seat v state here w (list_unowned w (shut (noted w.period name 0 []))) h.pool (lane_with (new ∷ w.under) None)
      (does place) (did name) v.yielded (ap (λ b. cond b 1 0) counting) refl (its_period s limits h steps m leads count views seat v state here w) refl refl
      (wider_unowned s limits h steps m leads count views seat v state here w) (owned_beside s limits h steps m leads count views seat v state here w)
      (λ same. same) (λ yields is. absurd (no_give_up place is))
      (dummies_stand s some list h steps m seat v.worker w place name new state.stands dummy)

  pub ends_above_go_on : EndsAboveGoOn s
  ends_above_go_on limits h steps m leads count views seat v w place name parent handed below result pool state here counting under end is_handed takes =
      goes_on_owning s limits h steps m leads count views seat v state here w h.list pool (handed ∷ below) (noted w.period name 0 []) place name counting refl refl refl refl
      (ends_above_stand s some list h steps m seat v.worker w place name parent handed below result pool state.stands under end is_handed takes)

  pub waking_ends_go_on : WakingEndsGoOn s
  waking_ends_go_on limits h steps m leads count views seat v w place name before later waiting parent handed newest older result pool state here counting alone waits children is end
      is_handed takes same =
      goes_on_owning s limits h steps m leads count views seat v state here w (record h.list { waiting = waiting }) pool (handed ∷ []) (noted w.period name 0 []) place name counting
      refl refl refl refl
      (waking_ends_stand s some list h steps m seat v.worker w place name before later waiting parent handed newest older result pool state.stands alone waits children is end is_handed
      takes same)

  pub leaving_ends_go_on : LeavingEndsGoOn s
  leaving_ends_go_on limits h steps m leads count views seat v w place name result results pool state here counting alone unwaited end takes same =
      goes_on_idle s limits h steps m leads count views seat v state here w (record (list_without w (shut (noted w.period name 0 []))) { results = results }) pool no_lane
      (does place) (did name) v.yielded (ap (λ b. cond b 1 0) counting) refl (its_period s limits h steps m leads count views seat v state here w) refl refl
      (λ p there. there) (λ p owner is there. there) (λ yields. yields) (λ yields is. absurd (no_give_up place is))
      (leaving_ends_stand s some list h steps m seat v.worker w place name result results pool state.stands alone unwaited end takes same)

  pub kept_joins_go_on : KeptJoinsGoOn s
  kept_joins_go_on limits h steps m leads count views seat v w place name before later results result handed new words pool state here counting are is_handed join takes same =
      goes_on_owning s limits h steps m leads count views seat v state here w (record h.list { results = results }) pool (new ∷ w.under) (noted w.period name words []) place name
      counting refl refl refl refl
      (kept_joins_stand s some list h steps m seat v.worker w place name before later results result handed new words pool state.stands are is_handed join takes same)

  pub giving_up_goes_on : GivingUpGoesOn s
  giving_up_goes_on limits h steps m leads count views seat v w yielded state here counting yields forced =
      goes_on_idle s limits h steps m leads count views seat v state here w (list_unowned w (shut w.period)) h.pool (lane_with (w.top ∷ w.under) None)
      gives_up (gave_up w.id.0) yielded (ap (λ b. cond b 1 0) counting) refl (its_period s limits h steps m leads count views seat v state here w) refl refl
      (wider_unowned s limits h steps m leads count views seat v state here w) (owned_beside s limits h steps m leads count views seat v state here w)
      yields (λ none is. forced none)
      (giving_up_stands s some list h steps m seat v.worker w state.stands)

  pub forced_give_ups_go_on : ForcedGiveUpsGoOn s
  forced_give_ups_go_on limits h steps m leads count views seat v w place deed state here counting is_next full =
      giving_up_goes_on limits h steps m leads count views seat v w v.yielded state here counting (λ same. same)
      (λ no. give_up_is_forced s some list m (parts_of h) v.worker place deed state.stands.standing.lawful state.stands.standing.shows (works s h steps m state.stands w) is_next full)

  pub suspending_goes_on : SuspendingGoesOn s
  suspending_goes_on limits h steps m leads count views seat v w place newest older waiting state here counting is_next children open_child no_result alone same =
      goes_on_idle s limits h steps m leads count views seat v state here w (record (list_without w (shut w.period)) { waiting = waiting }) h.pool no_lane
      suspends (waited w.top.id) v.yielded (ap (λ b. cond b 1 0) counting) refl (its_period s limits h steps m leads count views seat v state here w) refl refl
      (λ p there. there) (λ p owner is there. there) (λ yields. yields) (λ yields is. absurd (wait_no_give_up is))
      (suspending_stands s some list h steps m seat v.worker w place newest older waiting state.stands is_next children open_child no_result alone same)
