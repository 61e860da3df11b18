-- What holds of threads, children and results behind one more action of some thread.
use Rattle.std.proofs.Common.{◌≡◌, ◌≢◌, ℕ, suc, ◌+◌, ◌<◌, ◌≤◌, ◌⊎◌, List, length, map, inl, inr, refl, sym, ap, subst, ◌∙◌, arith}
use Rattle.std.proofs.lemmas.Bool.{cases_eq}
use Rattle.open_periods.specs.Passed.ThreadId.{ThreadId}
use Rattle.open_periods.specs.Passed.LabelOrder.{fork_of}
use Rattle.open_periods.specs.Passed.Actions.{forks, ends, Action}
use Rattle.open_periods.specs.Passed.DepthFirstListRuns.{IsDepthFirst}
use Rattle.open_periods.specs.Passed.Facts.{label_at, index_at, deed_at, HasDone}
use Rattle.open_periods.proofs.Passed.ThreadLaws.{names_differ, index_rises_law, forked_once, end_is_last}
use Rattle.deque_machine.specs.Lists.{Among, Each, Differ, one_if_same}
use Rattle.deque_machine.proofs.Lists.{one_cases, one_same, one_other, each_map}
use Rattle.deque_machine.proofs.Labels.{one_parent}
use Rattle.open_periods.specs.Names.{HasLabel}
use Rattle.moment_shown.specs.Parts.{Child, Thread, Result, Parts, IsIn, IsKept}
use Rattle.moment_shown.specs.Standing.{EndedIn, ChildStands, HasAllChildren, ThreadStands, ResultStands}
use Rattle.moment_shown.specs.Events.{HasActed}

-- a thread of the parts behind an event is one of those before, but for what it does
pub record Alike (old new : Thread) : Type 0 where
  pub same_id : new.id ≡ old.id
  pub same_parent : new.parent ≡ old.parent
  pub same_label : new.label ≡ old.label
  pub same_func : new.func ≡ old.func

pub alike_itself : (x : Thread) → Alike x x
alike_itself x = record { same_id = refl; same_parent = refl; same_label = refl; same_func = refl }

pub acted_alike : (old new : Thread) → HasActed old new → Alike old new
acted_alike old new acted = record {
  same_id = acted.same_id;
  same_parent = acted.same_parent;
  same_label = acted.same_label;
  same_func = acted.same_func;
}

-- Behind an action at a place by a thread `top` the parts are `next`.
pub record Behind (l : List Action) (parts next : Parts) (done after : ℕ → ℕ) (top : Thread) (place : ℕ) : Type 0 where
  pub more : (i : ℕ) → after i ≡ done i + one_if_same i place
  pub inside : place < length l
  pub by : label_at l place ≡ top.label
  pub index : index_at l place ≡ top.done
  pub missing : done place ≡ 0
  pub is_in : IsIn top parts
  pub stands : ThreadStands l done parts top
  pub one_name : (id : ThreadId) (a b : List ℕ) → HasLabel parts.periods id a → HasLabel parts.periods id b → a ≡ b
  pub stays : (id : ThreadId) (label : List ℕ) → HasLabel parts.periods id label → HasLabel next.periods id label
  pub threads : (y : Thread) → IsIn y next → ((z : Thread) × IsIn z parts × Alike z y) ⊎ ((c : ℕ) × (y.label ≡ fork_of top.label c) × (deed_at l place ≡ forks c))
  pub results : (r : Result) → Among r next.results → Among r parts.results ⊎ ((r.id ≡ top.id) × (r.label ≡ top.label) × (r.func ≡ top.func) × (deed_at l place ≡ ends))
  pub kept : (id : ThreadId) → IsKept parts.results id → IsKept next.results id
  pub keeps_end : deed_at l place ≡ ends → IsKept next.results top.id

module _ (k : ℕ) (l : List Action) (run : IsDepthFirst k l) (parts next : Parts) (done after : ℕ → ℕ) (top : Thread) (place : ℕ) (b : Behind l parts next done after top place) where
  pub up : (i : ℕ) → 0 < done i → 0 < after i
  up i did = let m = b.more i in omega (arith, m, did)

  pub down : (i : ℕ) → 0 < after i → (0 < done i) ⊎ (i ≡ place)
  down i did = let m = b.more i in elim (one_cases i place) [
    | inl here ↦ inr here.0
    | inr other ↦ let none = other.1 in inl (omega (arith, m, none, did))
  ]

  pub none_before : (i : ℕ) → after i ≡ 0 → done i ≡ 0
  none_before i none = let m = b.more i in omega (arith, m, none)

  pub elsewhere : (i : ℕ) → i ≢ place → after i ≡ done i
  elsewhere i other = let m = b.more i in let none = one_other i place other in omega (arith, m, none)

  pub not_done_there : 0 < done place → ⊥
  not_done_there did = let none = b.missing in omega (arith, none, did)

  -- a thread that had ended before is not the one that acts
  pub top_goes_on : EndedIn l done top.label → ⊥
  top_goes_on ended =
      let e = ended.0 in let label : label_at l e ≡ label_at l place = ended.2 ∙ sym b.by in
      let before : place ≤ e = end_is_last k l run place e b.inside ended.1 (sym label) ended.3 in
      let none : done e ≡ 0 = b.stands.has_done.no_more e ended.1 ended.2 (index_above e ended.1 before label) in
      let did = ended.4 in absurd (omega (arith, none, did))
    where
      index_above : (e : ℕ) → e < length l → place ≤ e → label_at l e ≡ label_at l place → top.done ≤ index_at l e
      index_above e inside before label = elim (cases_eq e place) [
        | inl same ↦ let at : index_at l e ≡ top.done = ap (index_at l) same ∙ b.index in omega (arith, at)
        | inr other ↦
            let risen = index_rises_law k l run place e inside (omega (arith, before, other)) (sym label) in let at = b.index in omega (arith, risen, at)
      ]

  pub ended_still : (label : List ℕ) → EndedIn l done label → EndedIn l after label
  ended_still label ended = (ended.0, ended.1, ended.2, ended.3, up ended.0 ended.4)

  pub ended_before : (label : List ℕ) → EndedIn l after label → EndedIn l done label ⊎ ((label ≡ top.label) × (deed_at l place ≡ ends))
  ended_before label ended = elim (down ended.0 ended.4) [
    | inl did ↦ inl (ended.0, ended.1, ended.2, ended.3, did)
    | inr here ↦ inr (sym ended.2 ∙ ap (label_at l) here ∙ b.by, sym (ap (deed_at l) here) ∙ ended.3)
  ]

  -- an open child of a thread stands as before, where it is not forked just now
  pub child_behind : (id : ThreadId) (label : List ℕ) (child : Child) → ((c : ℕ) → deed_at l place ≡ forks c → fork_of top.label c ≡ fork_of label child.ordinal → ⊥)
      → ChildStands l done parts id label child → ChildStands l after next id label child
  child_behind id label child not_new was = record {
    labelled = b.stays child.id (fork_of label child.ordinal) was.labelled;
    forked = (was.forked.0, was.forked.1, was.forked.2, was.forked.3, up was.forked.0 was.forked.4);
    ended = λ ended. elim (ended_before (fork_of label child.ordinal) ended) [
      | inl before ↦ elim (was.ended before) [ inl given ↦ inl given | inr kept ↦ inr (b.kept child.id kept) ]
      | inr now ↦ inr (subst (IsKept next.results) (was.is_thread top b.is_in (sym now.0)).0 (b.keeps_end now.1))
    ];
    delivered = λ given. (
      ended_still (fork_of label child.ordinal) (was.delivered given).0,
      λ kept. elim (b.results kept.0 kept.1) [
        | inl before ↦ (was.delivered given).1 (kept.0, before, kept.2)
        | inr now ↦
            let same : top.label ≡ fork_of label child.ordinal = b.one_name child.id top.label (fork_of label child.ordinal)
            (subst (λ i. HasLabel parts.periods i top.label) (sym now.0 ∙ kept.2) b.stands.labelled) was.labelled in
            top_goes_on (subst (EndedIn l done) (sym same) (was.delivered given).0)
      ],
    );
    is_thread = λ y there named. elim (b.threads y there) [
      | inl old ↦
          let like = old.2 in
          let known = was.is_thread old.0 old.1 (sym like.same_label ∙ named) in
          (like.same_id ∙ known.0, like.same_parent ∙ known.1, like.same_func ∙ known.2)
      | inr new ↦ absurd (not_new new.0 new.2 (sym new.1 ∙ named))
    ];
    is_result = λ r there named. elim (b.results r there) [
      | inl old ↦ was.is_result r old named
      | inr now ↦
          let known = was.is_thread top b.is_in (sym now.1 ∙ named) in (now.0 ∙ known.0, now.2 ∙ known.2)
    ];
  }

  -- the children of another thread, and the thread
  pub other_behind : (x : Thread) → x.label ≢ top.label → ThreadStands l done parts x → ThreadStands l after next x
  other_behind x other was = record {
    labelled = b.stays x.id x.label was.labelled;
    has_done = record {
      those = λ i inside label few. up i (was.has_done.those i inside label few);
      no_more = λ i inside label many. elsewhere i (λ here. other (sym label ∙ ap (label_at l) here ∙ b.by)) ∙ was.has_done.no_more i inside label many;
    };
    children = each_map (ChildStands l done parts x.id x.label) (ChildStands l after next x.id x.label) x.children
        (λ child there stands. child_behind x.id x.label child (λ c deed same. other (sym (one_parent top.label x.label c child.ordinal same).0)) stands) was.children;
    all_children = λ f ordinal inside label deed did unjoined. elim (down f did) [
      | inl before ↦ was.all_children f ordinal inside label deed before (λ j j_in j_label j_deed. none_before j (unjoined j j_in j_label j_deed))
      | inr here ↦ absurd (other (sym label ∙ ap (label_at l) here ∙ b.by))
    ];
    ordinals_differ = was.ordinals_differ;
  }

  pub result_behind : (r : Result) → ResultStands l done parts r → ResultStands l after next r
  result_behind r was = record { labelled = b.stays r.id r.label was.labelled; ended = ended_still r.label was.ended }

  -- the thread that acts has done one action more
  pub top_has_done : HasDone l after top.label (suc top.done)
  top_has_done = record {
    those = λ i inside label few. elim (cases_eq (index_at l i) top.done) [
      | inl same ↦
          let here : i ≡ place = names_differ k l run i place inside b.inside (label ∙ sym b.by) (same ∙ sym b.index) in
          let m = b.more i in let one = one_same i place here in omega (arith, m, one)
      | inr other ↦ up i (b.stands.has_done.those i inside label (omega (arith, few, other)))
    ];
    no_more = λ i inside label many.
        elsewhere i (λ here. let at : index_at l i ≡ top.done = ap (index_at l) here ∙ b.index in omega (arith, many, at))
        ∙ b.stands.has_done.no_more i inside label (omega (arith, many));
  }

  -- its children that were open before stand as they did
  pub own_child_behind : (child : Child) → ChildStands l done parts top.id top.label child → ChildStands l after next top.id top.label child
  own_child_behind child was = child_behind top.id top.label child not_new was
    where
      not_new : (c : ℕ) → deed_at l place ≡ forks c → fork_of top.label c ≡ fork_of top.label child.ordinal → ⊥
      not_new c deed same =
          let ordinal : c ≡ child.ordinal = (one_parent top.label top.label c child.ordinal same).1 in
          let f = was.forked in
          let here : f.0 ≡ place = forked_once k l run f.0 place child.ordinal f.1 b.inside (f.2 ∙ sym b.by) f.3 (deed ∙ ap forks ordinal) in
          not_done_there (subst (λ i. 0 < done i) here f.4)

  pub own_children_behind : (children : List Child) → Each (ChildStands l done parts top.id top.label) children → Each (ChildStands l after next top.id top.label) children
  own_children_behind children all =
      each_map (ChildStands l done parts top.id top.label) (ChildStands l after next top.id top.label) children (λ child there was. own_child_behind child was) all

-- what stands for a thread stands for one that is alike, where it has done as many actions and has the same children
pub as_alike : (l : List Action) (done : ℕ → ℕ) (parts : Parts) (old new : Thread) → Alike old new → HasLabel parts.periods old.id old.label → HasDone l done old.label new.done
    → Each (ChildStands l done parts old.id old.label) new.children → HasAllChildren l done old.label new.children
    → Differ (map (λ c. Child.ordinal c) new.children) → ThreadStands l done parts new
as_alike l done parts old new like labelled has_done children all_children differ = record {
  labelled = subst (λ i. HasLabel parts.periods i new.label) (sym like.same_id) (subst (HasLabel parts.periods old.id) (sym like.same_label) labelled);
  has_done = subst (λ label. HasDone l done label new.done) (sym like.same_label) has_done;
  children = subst (λ i. Each (ChildStands l done parts i new.label) new.children) (sym like.same_id)
      (subst (λ label. Each (ChildStands l done parts old.id label) new.children) (sym like.same_label) children);
  all_children = subst (λ label. HasAllChildren l done label new.children) (sym like.same_label) all_children;
  ordinals_differ = differ;
}
