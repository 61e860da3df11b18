-- What a thread has left since it began is told by its parts.
use Rattle.std.specs.Prelude.{◌≡◌, Bool, ℕ, suc, List, [], ◌∷◌, ◌++◌, length, refl}
use Rattle.std.proofs.Common.{sym, ◌∙◌, ap, subst, append_assoc, append-nil}
use Rattle.dag_order.specs.LabelOrder.{fork_of}
use Rattle.depth_first_run.specs.Passed.Actions as actions
use Rattle.depth_first_run.specs.Passed.Actions.{record_words}
use Rattle.depth_first_run.specs.Passed.Tree.{Name}
use Rattle.depth_first_run.specs.Passed.Ownership.{function_of, main_name}
use Rattle.depth_first_run.specs.States.{Setting, State, Item, began, acted, printed, failed, next_action, ended, joined, with_action}
use Rattle.depth_first_run.specs.Run.{whole, first_fault, lines_of, root_start}
use Rattle.depth_first_run.specs.Middle.{Frame, does, answers, rejoins, answers_main, allocates, awaits, joins, part_done, finish, run_start}
use Rattle.thread_points.specs.Points.{Each, IsPlain, IsAt, step_of, mark_of, StepsAlone, StepForks, child_start, child_end, parent_start, parent_frames, ActsNext}
use Rattle.thread_points.specs.Threads.{Begins, of_root, of_child, HasRun, OpenChild, open_children, Told, IsThread}
use Rattle.thread_points.specs.Laws.{fork_items, IsOutcome, join_words, joined_part, earlier_fault, unless_fault}
use Rattle.thread_points.proofs.Walking.{root_at, start_plain, plain_own, plain_step, child_at, parent_at, end_point}
use Rattle.thread_points.proofs.Alone.{joined_grown, joined_label, plain_alone}
use Rattle.thread_points.proofs.Placing.{acts_next}
use Rattle.thread_points.proofs.Single.{one_end, one_beginning, root_is_whole}
use Rattle.thread_points.proofs.Finishing.{finish_label}

-- ---- plain frames have no open child

open_plain : (f : Frame) (fs : List Frame) → IsPlain f → open_children (f ∷ fs) ≡ open_children fs
open_plain (does part) fs p = refl
open_plain (answers ret params args t) fs p = refl
open_plain (rejoins b l r) fs p = refl
open_plain (answers_main ret) fs p = refl
open_plain (allocates b n) fs p = refl
open_plain (awaits named assigned own parent) fs p = absurd p
open_plain (joins assigned child d) fs p = absurd p

open_behind : (fs gs : List Frame) → Each IsPlain fs → open_children (fs ++ gs) ≡ open_children gs
open_behind [] gs p = refl
open_behind (f ∷ fs) gs p = open_plain f (fs ++ gs) p.0 ∙ open_behind fs gs p.1

open_none : (fs : List Frame) → Each IsPlain fs → open_children fs ≡ []
open_none [] p = refl
open_none (f ∷ fs) p = open_plain f fs p.0 ∙ open_none fs p.1

-- ---- more items

told_more : (c : Setting) (label : List ℕ) (begun : List Item) (os : List OpenChild) (items more new part : List Item) (older : List (List Item)) → more ≡ items ++ new
    → Told c label begun os items (part ∷ older) → Told c label begun os more ((part ++ new) ∷ older)
told_more c label begun [] items more new part older e told = (told.0, e ∙ ap (λ is. is ++ new) told.1 ∙ append_assoc begun part new)
told_more c label begun (o ∷ os) items more new part older e told =
    (e ∙ ap (λ is. is ++ new) told.0 ∙ append_assoc o.outcome.items part new, told.1, told.2, told.3, told.4, told.5)

told_of : (c : Setting) (label other : List ℕ) (begun : List Item) (os us : List OpenChild) (items : List Item) (parts : List (List Item)) → label ≡ other → os ≡ us
    → Told c label begun os items parts → Told c other begun us items parts
told_of c label other begun os us items parts l o told =
    subst (λ x. Told c other begun x items parts) o (subst (λ x. Told c x begun os items parts) l told)

-- ---- a thread begins

begins_plain : (c : Setting) (own : List Frame) (s : State) → Begins c own s → Each IsPlain own
begins_plain c own s of_root = start_plain c (function_of c.program main_name)
begins_plain c own s (of_child f fs u at k) = (tt, tt)

begins_at : (c : Setting) (own : List Frame) (s : State) → Begins c own s → IsAt c own s
begins_at c own s of_root = root_at c
begins_at c own s (of_child f fs u at k) = child_at c f fs u at k

pub thread_begins : (c : Setting) (own : List Frame) (s : State) → Begins c own s → IsThread c own s ([] ∷ [])
thread_begins c own s b = record {
  at_point = begins_at c own s b;
  first = own;
  start = s;
  begins = b;
  labelled = refl;
  told = subst (λ os. Told c s.label s.items os s.items ([] ∷ [])) (sym (open_none own (begins_plain c own s b))) (refl, sym (append-nil s.items));
}

-- ---- a step

pub thread_steps : (c : Setting) (f : Frame) (own : List Frame) (s : State) (part : List Item) (older : List (List Item)) (new : List Item)
    → IsThread c (f ∷ own) s (part ∷ older) → IsPlain f → Each IsPlain (step_of c f s).frames → (step_of c f s).state.items ≡ s.items ++ new
    → IsThread c ((step_of c f s).frames ++ own) (step_of c f s).state ((part ++ new) ∷ older)
thread_steps c f own s part older new th plain put grown =
    let t : State = (step_of c f s).state in
    let k : StepsAlone c f s = plain_alone c f s (plain_own f plain) put in
    let os = open_plain f own plain ∙ sym (open_behind (step_of c f s).frames own put) in
    record {
      at_point = plain_step c f own s th.at_point put;
      first = th.first;
      start = th.start;
      begins = th.begins;
      labelled = th.labelled ∙ sym k.same_label;
      told = told_of c s.label t.label th.start.items (open_children (f ∷ own)) (open_children ((step_of c f s).frames ++ own)) t.items ((part ++ new) ∷ older) (sym k.same_label) os
          (told_more c s.label th.start.items (open_children (f ∷ own)) s.items t.items new part older grown th.told);
    }

-- ---- a Fork

child_runs : (c : Setting) (f : Frame) (own : List Frame) (s : State) → IsAt c (f ∷ own) s → (k : StepForks c f s)
    → HasRun c (fork_of s.label (suc s.forks)) (child_start c f s k) (part_done c k.work (child_start c f s k))
unfolding finish
child_runs c f own s at k =
    let p : IsAt c (does k.work ∷ []) (child_start c f s k) = child_at c f own s at k in
    record {
      first = does k.work ∷ [];
      begins = of_child f own s at k;
      starts_labelled = refl;
      at_end = end_point c (does k.work ∷ []) (child_start c f s k) p;
      ends_labelled = finish_label c (does k.work ∷ []) (child_start c f s k) (tt, tt);
    }

pub thread_forks : (c : Setting) (f : Frame) (own : List Frame) (s : State) (part : List Item) (older : List (List Item))
    → IsThread c (f ∷ own) s (part ∷ older) → IsPlain f → (k : StepForks c f s)
    → IsThread c (does k.work ∷ []) (child_start c f s k) ([] ∷ [])
    × IsThread c (parent_frames c f s k ++ own) (parent_start c f s k) ([] ∷ (part ++ fork_items f s) ∷ older)
thread_forks c f own s part older th plain k =
    let kid : State = child_start c f s k in
    let d : State = child_end c f s k in
    let os = open_plain f own plain ∙ sym (open_behind k.later own k.plain) in
    let grown : kid.items ≡ s.items ++ fork_items f s = append_assoc s.items (mark_of f) (next_action (actions.forks (suc s.forks)) record_words s ∷ []) in (
      thread_begins c (does k.work ∷ []) kid (of_child f own s th.at_point k),
      record {
        at_point = parent_at c f own s th.at_point k;
        first = th.first;
        start = th.start;
        begins = th.begins;
        labelled = th.labelled;
        told = (
          sym (append-nil d.items),
          kid,
          part_done c k.work kid,
          child_runs c f own s th.at_point k,
          refl,
          told_of c s.label s.label th.start.items (open_children (f ∷ own)) (open_children (k.later ++ own)) kid.items ((part ++ fork_items f s) ∷ older) refl os
              (told_more c s.label th.start.items (open_children (f ∷ own)) s.items kid.items (fork_items f s) part older grown th.told),
        );
      },
    )

-- ---- open children

told_outcomes : (c : Setting) (label : List ℕ) (begun : List Item) (os : List OpenChild) (items : List Item) (parts : List (List Item)) → Told c label begun os items parts
    → Each (IsOutcome c label) os
told_outcomes c label begun [] items parts told = tt
told_outcomes c label begun (o ∷ os) items [] told = absurd told
told_outcomes c label begun (o ∷ os) items (part ∷ parts) told =
    ((told.2, told.3.at_end, told.3.ends_labelled, told.4), told_outcomes c label begun os told.1.items parts told.5)

pub outcomes : (c : Setting) (own : List Frame) (s : State) (parts : List (List Item)) → IsThread c own s parts → Each (IsOutcome c s.label) (open_children own)
outcomes c own s parts th = told_outcomes c s.label th.start.items (open_children own) s.items parts th.told

told_length : (c : Setting) (label : List ℕ) (begun : List Item) (os : List OpenChild) (items : List Item) (parts : List (List Item)) → Told c label begun os items parts
    → length parts ≡ suc (length os)
told_length c label begun [] items [] told = absurd told
told_length c label begun [] items (part ∷ parts) told = ap (λ (ps : List (List Item)). suc (length ps)) told.0
told_length c label begun (o ∷ os) items [] told = absurd told
told_length c label begun (o ∷ os) items (part ∷ parts) told = ap suc (told_length c label begun os told.1.items parts told.5)

pub one_part_more : (c : Setting) (own : List Frame) (s : State) (parts : List (List Item)) → IsThread c own s parts → length parts ≡ suc (length (open_children own))
one_part_more c own s parts th = told_length c s.label th.start.items (open_children own) s.items parts th.told

-- ---- a Join

pub join_next : (c : Setting) (assigned : Name → Bool) (child : ℕ) (d : State) (own : List Frame) (s : State) → IsAt c (joins assigned child d ∷ own) s
    → ActsNext c s (record { label = s.label; index = s.done; deed = actions.joins child; words = join_words d s })
join_next c assigned child d own s at =
    acts_next c (joins assigned child d) own s at (next_action (actions.joins child) (join_words d s) s ∷ []) (record { label = s.label; index = s.done; deed = actions.joins child; words = join_words d s })
    (joined_grown assigned child d s) refl

-- the same lists in the other grouping
closed_up : (start z part : List Item) (end join : Item) → (((start ++ z) ++ end ∷ []) ++ part) ++ join ∷ [] ≡ start ++ (z ++ end ∷ (part ++ join ∷ []))
closed_up start z part end join =
    append_assoc ((start ++ z) ++ end ∷ []) part (join ∷ []) ∙ append_assoc (start ++ z) (end ∷ []) (part ++ join ∷ []) ∙ append_assoc start z (end ∷ (part ++ join ∷ []))

pub thread_joins : (c : Setting) (assigned : Name → Bool) (child : ℕ) (d : State) (own : List Frame) (s t : State) (part front of_child : List Item) (older : List (List Item))
    → IsThread c (joins assigned child d ∷ own) s (part ∷ front ∷ older) → IsThread c [] t (of_child ∷ []) → t.label ≡ fork_of s.label child
    → (d ≡ ended record_words t)
    × IsThread c own (joined assigned child d s) (joined_part front of_child (next_action actions.ends record_words t) part (next_action (actions.joins child) (join_words d s) s) ∷ older)
unfolding ended with_action
thread_joins c assigned child d own s t part front z older th kid l =
    let start : State = th.told.1 in
    let last : State = th.told.2 in
    let run : HasRun c (fork_of s.label child) start last = th.told.3 in
    let same : last ≡ t = one_end c last t run.at_end kid.at_point (run.ends_labelled ∙ sym l) in
    let is : d ≡ ended record_words t = th.told.4 ∙ ap (ended record_words) same in
    let begun : kid.start ≡ start = (one_beginning c kid.first run.first kid.start start kid.begins run.begins (kid.labelled ∙ l ∙ sym run.starts_labelled)).1 in
    let e : Item = next_action actions.ends record_words t in
    let j : Item = next_action (actions.joins child) (join_words d s) s in
    let u : State = joined assigned child d s in
    let d_items : d.items ≡ (start.items ++ z) ++ e ∷ [] =
    ap (λ x. x.items) is ∙ ap (λ is. is ++ e ∷ []) (kid.told.1 ∙ ap (λ (x : State). x.items ++ z) begun) in
    let grown : u.items ≡ start.items ++ (z ++ e ∷ (part ++ j ∷ [])) =
    joined_grown assigned child d s ∙ ap (λ is. is ++ j ∷ []) (th.told.0 ∙ ap (λ is. is ++ part) d_items) ∙ closed_up start.items z part e j in
    let label : u.label ≡ s.label = joined_label assigned child d s in (
      is,
      record {
        at_point = plain_step c (joins assigned child d) own s th.at_point tt;
        first = th.first;
        start = th.start;
        begins = th.begins;
        labelled = th.labelled ∙ sym label;
        told = told_of c s.label u.label th.start.items (open_children own) (open_children own) u.items (joined_part front z e part j ∷ older) (sym label) refl
            (told_more c s.label th.start.items (open_children own) start.items u.items (z ++ e ∷ (part ++ j ∷ [])) front older grown th.told.5);
      },
    )

-- ---- the whole run

pub tells_whole : (c : Setting) (s : State) (part : List Item) → IsThread c [] s (part ∷ []) → s.label ≡ []
    → (whole c ≡ ended 0 s) × (State.items (whole c) ≡ part ++ next_action actions.ends 0 s ∷ [])
unfolding ended with_action
tells_whole c s part th l =
    let is : whole c ≡ ended 0 s = root_is_whole c s th.at_point l in
    let begun : th.start ≡ root_start c =
    (one_beginning c th.first (run_start c (function_of c.program main_name)).frames th.start (root_start c) th.begins of_root (th.labelled ∙ l)).1 in
    (is, ap (λ x. State.items x) is ∙ ap (λ is. is ++ next_action actions.ends 0 s ∷ []) (th.told.1 ∙ ap (λ (x : State). x.items ++ part) begun))

-- ---- what two lists of items tell

pub tell_together : (xs ys : List Item)
    → (first_fault (xs ++ ys) ≡ earlier_fault (first_fault xs) (first_fault ys))
    × (lines_of (xs ++ ys) ≡ lines_of xs ++ unless_fault (first_fault xs) (lines_of ys))
tell_together [] ys = (refl, refl)
tell_together (began line ∷ xs) ys = tell_together xs ys
tell_together (acted a ∷ xs) ys = tell_together xs ys
tell_together (printed v ∷ xs) ys = let r = tell_together xs ys in (r.0, ap (λ ls. v ∷ ls) r.1)
tell_together (failed fault ∷ xs) ys = (refl, refl)
