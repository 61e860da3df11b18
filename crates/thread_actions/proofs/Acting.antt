-- Actions of threads on the parts.
use Rattle.std.proofs.Common.{◌≡◌, ℕ, suc, ◌+◌, ◌≤◌, true, false, List, [], ◌∷◌, length, map, refl, sym, ap, subst, ◌∙◌, arith, true≢false}
use Rattle.std.proofs.lemmas.Int.{ints}
use Rattle.std.specs.Prelude.{Option, None, Some, is_some, ℤ, pos, neg_ℤ, ◌+ℤ◌}
use Rattle.dag_order.specs.declared.action_id.ActionId.{ActionId}
use Rattle.dag_order.specs.declared.thread_id.ThreadId.{ThreadId}
use Rattle.depth_first_list.specs.Actions.{forks, allocates, releases, faults, joins, record_words, weight_of}
use Rattle.dag_order.specs.LabelOrder.{fork_of}
use Rattle.open_periods.specs.Names.{id_of}
use Rattle.thread_points.specs.Points.{words_at_end}
use Rattle.depth_first_list.specs.Facts.{words_at, weight_at}
use Rattle.thread_points.specs.Passed.States.{Setting}
use Rattle.open_periods.specs.Passed.Books.{charge}
use Rattle.open_periods.specs.Periods.{Period}
use Rattle.thread_frames.specs.Passed.Events.{MayDo, name_of}
use Rattle.thread_points.specs.Passed.Run.{list_of}
use Rattle.thread_frames.specs.Actions as frames
use Rattle.thread_frames.specs.Actions.{IsOfTheList, is_there}
use Rattle.thread_frames.specs.Views.{Child, child_shown as child_seen, children_of, done_of, thread_words, newest, ordinal_of, result_of, released_by, join_words_of, label_of, forks_of, ended_label, ended_words}
use Rattle.thread_frames.specs.declared.open_child.OpenChild.{OpenChild}
use Rattle.thread_frames.specs.declared.ended.Ended.{Ended}
use Rattle.thread_frames.specs.declared.next.Next.TheVariants as nexts
use Rattle.thread_frames.specs.declared.thread.Thread.{Thread}
use Rattle.thread_frames.specs.Passed.Parts as parts
use Rattle.thread_frames.specs.Shown.{child_shown, thread_shown, result_shown}
use Rattle.thread_frames.proofs.Threads.{next_actions_stand, actions_are_acted, joins_are_joined, forks_are_forked, newest_last}
use Rattle.list_changes.specs.Events.{DidAlone, DidDummy, DidJoin, DidEnd, DidFork}

-- the name of the next action of a thread
pub name_is : (x : Thread) (name : ActionId) → name.by ≡ x.id → name.index ≡ done_of x → name ≡ name_of (thread_shown x)
name_is x name by index = ap (λ i. record { by = i; index = name.index }) by ∙ ap (λ n. record { by = x.id; index = n }) index

module _ (c : Setting) (k : ℕ) (top after : Thread) (name : ActionId) (by : name.by ≡ top.id) (index : name.index ≡ done_of top) (acted : frames.HasActed top after) (period : Period) where
  pub alloc_did : (asked charged : ℕ) (is : IsOfTheList c top (nexts.Alloc asked)) → thread_words after ≡ thread_words top + asked
      → MayDo k period.used allocates (words_at (list_of c) is.place) → charged ≡ charge k allocates (words_at (list_of c) is.place)
      → DidAlone k (list_of c) period (thread_shown top) (thread_shown after) name charged is.place
  alloc_did asked charged is words may charge_is =
      let both = actions_are_acted top after acted in
      record {
        deed = allocates;
        next = next_actions_stand c top (nexts.Alloc asked) is;
        may = may;
        acted = both.0;
        children = both.1;
        weighs = sums (thread_words after) (thread_words top) asked (words_at (list_of c) is.place) (weight_at (list_of c) is.place) words is.words
            (ap (λ d. weight_of d (words_at (list_of c) is.place)) is.deed);
        named = name_is top name by index;
        charged = charge_is ∙ ap (λ d. charge k d (words_at (list_of c) is.place)) (sym is.deed);
      }
    where
      sums : (new old asked words : ℕ) (w : ℤ) → new ≡ old + asked → words ≡ asked → w ≡ pos words → pos new ≡ pos old +ℤ w
      sums new old asked words w a b d = omega (arith, ints, a, b, d)

  less : (new old given words : ℕ) (w : ℤ) → new + given ≡ old → words ≡ given → w ≡ neg_ℤ (pos words) → pos new ≡ pos old +ℤ w
  less new old given words w a b d = omega (arith, ints, a, b, d)

  pub release_did : (given : ℕ) (is : IsOfTheList c top (nexts.Release given)) → thread_words after + given ≡ thread_words top
      → DidAlone k (list_of c) period (thread_shown top) (thread_shown after) name 0 is.place
  release_did given is words =
      let both = actions_are_acted top after acted in
      record {
        deed = releases;
        next = next_actions_stand c top (nexts.Release given) is;
        may = tt;
        acted = both.0;
        children = both.1;
        weighs = less (thread_words after) (thread_words top) given (words_at (list_of c) is.place) (weight_at (list_of c) is.place) words is.words
            (ap (λ d. weight_of d (words_at (list_of c) is.place)) is.deed);
        named = name_is top name by index;
        charged = ap (λ d. charge k d (words_at (list_of c) is.place)) (sym is.deed);
      }

  pub fault_did : (fault : Rattle.dag_order.specs.declared.fault.FaultAt.FaultAt) (given : ℕ) (is : IsOfTheList c top (nexts.Fault fault)) → thread_words after + given ≡ thread_words top
      → words_at (list_of c) is.place ≡ given
      → DidAlone k (list_of c) period (thread_shown top) (thread_shown after) name 0 is.place
  fault_did fault given is words same =
      let both = actions_are_acted top after acted in
      record {
        deed = faults;
        next = next_actions_stand c top (nexts.Fault fault) is;
        may = tt;
        acted = both.0;
        children = both.1;
        weighs = less (thread_words after) (thread_words top) given (words_at (list_of c) is.place) (weight_at (list_of c) is.place) words same
            (ap (λ d. weight_of d (words_at (list_of c) is.place)) is.deed);
        named = name_is top name by index;
        charged = ap (λ d. charge k d (words_at (list_of c) is.place)) (sym is.deed);
      }

pub dummy_did : (c : Setting) (k : ℕ) (top after : Thread) (name : ActionId) → name.by ≡ top.id → name.index ≡ done_of top → frames.HasActed top after
    → (is : IsOfTheList c top nexts.Dummy) → thread_words after ≡ thread_words top → DidDummy k (list_of c) (thread_shown top) (thread_shown after) name 0 is.place
dummy_did c k top after name by index acted is words =
    let both = actions_are_acted top after acted in
    record {
      next = next_actions_stand c top nexts.Dummy is;
      acted = both.0;
      children = both.1;
      same_words = words;
      named = name_is top name by index;
      charged = ap (λ d. charge k d (words_at (list_of c) is.place)) (sym is.deed);
    }

-- the newest open child, whose result is there
pub record NewestIs (items : List OpenChild) : Type 0 where
  pub child : OpenChild
  pub result : Ended
  pub newest_is : newest items ≡ Some child
  pub there : child.ended ≡ Some result

pub newest_there : (items : List OpenChild) → is_there (newest (map child_seen items)) ≡ true → NewestIs items
newest_there [] there = absurd (true≢false (sym there))
newest_there (x ∷ []) there = by_result x.ended refl there
  where
    by_result : (e : Option Ended) → x.ended ≡ e → is_some x.ended ≡ true → NewestIs (x ∷ [])
    by_result None is there = absurd (true≢false (sym there ∙ ap is_some is))
    by_result (Some result) is there = record { child = x; result = result; newest_is = refl; there = is }
newest_there (x ∷ y ∷ items) there =
    let rest = newest_there (y ∷ items) there in
    record { child = rest.child; result = rest.result; newest_is = rest.newest_is; there = rest.there }

pub join_did : (c : Setting) (k : ℕ) (top after : Thread) (name : ActionId) → name.by ≡ top.id → name.index ≡ done_of top → (words : ℕ) → frames.HasJoined words top after
    → is_there (newest (children_of top)) ≡ true → words ≡ join_words_of top → (child : ThreadId) (is : IsOfTheList c top (nexts.Join child))
    → DidJoin k (list_of c) (thread_shown top) (thread_shown after) name 0 is.place
join_did c k top after name by index words joined there words_are child is =
    let known = joins_are_joined words top after joined there in
    let found = newest_there top.children.items there in
    let last : newest (children_of top) ≡ Some joined.joined = ap (λ cs. newest cs) joined.children ∙ newest_last (children_of after) joined.joined in
    let ordinal : ordinal_of (newest (children_of top)) ≡ Child.ordinal joined.joined = ap ordinal_of last in
    let result_is : result_of (newest top.children.items) ≡ Some found.result = ap result_of found.newest_is ∙ found.there in
    let told : words_at (list_of c) is.place ≡ words =
    subst (λ r. frames.TellsJoin top r (words_at (list_of c) is.place)) result_is is.words ∙ ap (released_by top) (sym result_is) ∙ sym words_are in
    record {
      newest = child_shown joined.joined;
      older = parts.Thread.children (thread_shown after);
      children_were = known.1;
      given = known.2;
      next = record { inside = is.inside; by = is.labelled; index = is.index; does = is.deed ∙ ap joins ordinal };
      acted = known.0;
      children = refl;
      weighs = less (thread_words after) (thread_words top) words (words_at (list_of c) is.place) (weight_at (list_of c) is.place) joined.words_left told
          (ap (λ d. weight_of d (words_at (list_of c) is.place)) is.deed);
      named = name_is top name by index;
      charged = ap (λ d. charge k d (words_at (list_of c) is.place)) (sym is.deed);
    }
  where
    less : (new old given words : ℕ) (w : ℤ) → new + given ≡ old → words ≡ given → w ≡ neg_ℤ (pos words) → pos new ≡ pos old +ℤ w
    less new old given words w a b d = omega (arith, ints, a, b, d)

pub end_did : (c : Setting) (top : Thread) (ended : Ended) (name : ActionId) → name.by ≡ top.id → name.index ≡ done_of top → ended.id ≡ top.id → ended.func ≡ top.func
    → ended_label ended ≡ label_of top → ended_words ended + words_at_end (label_of top) ≡ thread_words top → (is : IsOfTheList c top nexts.End)
    → DidEnd (list_of c) (thread_shown top) name is.place (result_shown ended)
end_did c top ended name by index id func label words is = record {
  next = next_actions_stand c top nexts.End is;
  left_by = record {
    same_id = id;
    same_label = label;
    same_func = func;
    words = ap (λ n. ended_words ended + n) is.words ∙ words;
  };
  named = name_is top name by index;
}

pub fork_did : (c : Setting) (k : ℕ) (period : Period) (top after child : Thread) (name : ActionId) → name.by ≡ top.id → name.index ≡ done_of top → (id : ThreadId)
    → frames.HasForked id top after child → id ≡ id_of period (length period.born) → (ordinal : ℕ) → ordinal ≡ forks_of top + 1 → (is : IsOfTheList c top nexts.Fork)
    → period.used + record_words ≤ k
    → DidFork k (list_of c) period (thread_shown top) (thread_shown after) (thread_shown child) name 16 is.place ordinal
fork_did c k period top after child name by index id forked id_is ordinal ordinal_is is fits =
    let known = forks_are_forked id top after child forked in
    let same : ordinal ≡ suc (forks_of top) = omega (arith, ordinal_is) in
    record {
      next = record { inside = is.inside; by = is.labelled; index = is.index; does = is.deed ∙ ap forks (sym same) };
      fits = fits;
      acted = known.0;
      child_id = forked.child_id ∙ id_is;
      child_parent = forked.child_parent;
      child_label = known.3 ∙ ap (fork_of (label_of top)) (sym same);
      child_done = forked.child_done;
      child_children = known.2;
      children = known.1 ∙ ap (λ n. record { id = child.id; ordinal = n; func = child.func; delivered = false } ∷ parts.Thread.children (thread_shown top)) (sym same);
      sum = forked.words;
      named = name_is top name by index;
      charged = ap (λ d. charge k d (words_at (list_of c) is.place)) (sym is.deed);
    }
