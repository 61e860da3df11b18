-- The threads that wait, as a run goes on above them.
use Rattle.std.proofs.Common.{◌≡◌, ℕ, ◌≤◌, false, List, [], ◌∷◌, ◌++◌, length, sym, ◌∙◌, subst, arith}
use Rattle.dag_order.specs.Births.{HasLabel}
use Rattle.dag_order.specs.declared.birth.Birth.{Birth}
use Rattle.dag_order.specs.declared.thread_id.ThreadId.{ThreadId}
use Rattle.node_table.specs.Table.{Table}
use Rattle.thread_points.specs.Points.{Each}
use Rattle.thread_frames.specs.declared.thread.Thread.{Thread}
use Rattle.thread_frames.specs.Views.{children_of, label_of}
use Rattle.serial_journal.specs.Journals.{KeepsLabels}
use Rattle.serial_meaning.specs.Stacks.{IsBornWithin, IsMember, WaitsFor, AreWaiting}
use Rattle.serial_meaning.proofs.Lists.{each_more}

-- a thread that waits, some actions and births later
pub member_later : (t : Table) (k n m : ℕ) (births more : List Birth) (x : Thread) → n ≤ m → KeepsLabels births more → length births ≤ length more
    → IsMember t k n births x → IsMember t k m more x
member_later t k n m births more x on labels grown is = record {
  point = is.point;
  named = labels x.id (label_of x) is.named;
  few = let few = is.few in omega (arith, few, on);
  born = each_more (IsBornWithin (length births)) (IsBornWithin (length more)) (children_of x) (λ child at. omega (arith, at, grown)) is.born;
}

pub waiting_later : (t : Table) (k n m : ℕ) (births more : List Birth) (above : Thread) (xs : List Thread) → n ≤ m → KeepsLabels births more → length births ≤ length more
    → AreWaiting t k n births above xs → AreWaiting t k m more above xs
waiting_later t k n m births more above [] on labels grown h = h
waiting_later t k n m births more above (x ∷ xs) on labels grown h =
    (member_later t k n m births more x on labels grown h.0, h.1, waiting_later t k n m births more x xs on labels grown h.2)

-- they wait for a thread by its id, its function and its label
pub waits_so : (a b x : Thread) → b.id ≡ a.id → b.func ≡ a.func → label_of b ≡ label_of a → WaitsFor a x → WaitsFor b x
waits_so a b x id func label w = record {
  older = w.older;
  ordinal = w.ordinal;
  children = w.children ∙ (λ i. w.older ++ record { id = (sym id) i; ordinal = w.ordinal; func = (sym func) i; delivered = false } ∷ []);
  labelled = label ∙ w.labelled;
  delivered = w.delivered;
  earlier = subst (λ (y : ThreadId). Each (IsBornWithin y.nth) w.older) (sym id) w.earlier;
}

pub waiting_so : (t : Table) (k n : ℕ) (births : List Birth) (a b : Thread) (xs : List Thread) → b.id ≡ a.id → b.func ≡ a.func → label_of b ≡ label_of a
    → AreWaiting t k n births a xs → AreWaiting t k n births b xs
waiting_so t k n births a b [] id func label h = label ∙ h
waiting_so t k n births a b (x ∷ xs) id func label h = (h.0, waits_so a b x id func label h.1, h.2)

-- where no thread is born all labels stay
pub labels_same : (births more : List Birth) → more ≡ births → KeepsLabels births more
labels_same births more e id label is = subst (λ bs. HasLabel (bs ∷ []) id label) (sym e) is
