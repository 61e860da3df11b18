-- What flat code does to a longer row it does to the slots of the function in front.
use Rattle.std.proofs.Common.{◌≡◌, ℕ, zero, suc, ◌-◌, ◌<◌, ◌≤◌, List, [], ◌∷◌, ◌++◌, length, take, replicate, refl, sym, ap, ◌∙◌, subst, arith, length-append}
use Rattle.std.proofs.lemmas.List.{length-replicate}
use Rattle.node_table.specs.Table.{Table}
use Rattle.slot_store.specs.Rows.{Entry, blank, entry_at}
use Rattle.thread_stack.specs.declared.frame.Frame.{Frame}
use Rattle.flat_run.specs.Passed.Meanings.{HasInFront}
use Rattle.flat_code.specs.Passed.Flat.{FlatCode, frames_at, Point, Came, flat_step, IsEnd}
use Rattle.flat_code.specs.Passed.Threads.{Standing, standing, thread_step}
use Rattle.flat_code.specs.Passed.Follows.{StandsFor, IsWithin, Steps, IsSameEnd}
use Rattle.flat_code.proofs.Passed.Ending.{machine_ends}
use Rattle.flat_code.specs.Shown.{flat_shown}
use Rattle.flat_run.specs.declared.end.End.{End}
use Rattle.flat_run.specs.declared.end.End.TheVariants.{Leaves, Faults}
use Rattle.flat_run.specs.declared.stop.Stop.{Stop}
use Rattle.flat_run.specs.Ran.{at_point, point_of, came_to_end, RanTo}
use Rattle.flat_program.specs.declared.flat_list.FlatList.{FlatList}
use Rattle.flat_program.specs.Programs.{BeginsAt}
use Rattle.flat_program.specs.Running.{stands_at, RunsThread}

front_there : (own more : List Entry) (s : ℕ) → s < length own → entry_at (own ++ more) s ≡ entry_at own s
front_there [] more s low = absurd (omega (arith, low))
front_there (x ∷ own) more zero low = refl
front_there (x ∷ own) more (suc s) low = front_there own more s (omega (arith, low))

front_taken : (k : ℕ) (row own : List Entry) → length own ≡ k → k ≤ length row → ((s : ℕ) → s < k → entry_at row s ≡ entry_at own s) → take k row ≡ own
front_taken zero row [] long within same = refl
front_taken zero row (y ∷ own) long within same = absurd (omega (arith, long))
front_taken (suc k) [] own long within same = absurd (omega (arith, within))
front_taken (suc k) (x ∷ row) [] long within same = absurd (omega (arith, long))
front_taken (suc k) (x ∷ row) (y ∷ own) long within same =
    let rest = front_taken k row own (omega (arith, long)) (omega (arith, within)) (λ s low. same (suc s) (omega (arith, low))) in
    let first : x ≡ y = same 0 (omega arith) in
    ap (λ (e : Entry). e ∷ take k row) first ∙ ap (λ (es : List Entry). y ∷ es) rest

in_front : (k size : ℕ) (row : List Entry) → length row ≡ k → k ≤ size → HasInFront k size (row ++ replicate (size - length row) blank) row
in_front k size row long room = record {
  long =
      let both = length-append row (replicate (size - length row) blank) in
      let more = length-replicate (size - length row) blank in
      omega (arith, both, more, long, room);
  short = long;
  same = λ s low. front_there row (replicate (size - length row) blank) s (omega (arith, low, long));
}

is_end : (end : End) → IsEnd {A = Point} (came_to_end end)
is_end Leaves = tt
is_end (Faults kind) = tt

-- where the thread is, by what is in front
at_stop : (f : FlatCode) (k size : ℕ) (q : Point) (at : Standing) → k ≤ size → IsWithin f k size q at
    → at ≡ standing (frames_at f q.place) (take k q.row) q.turns
at_stop f k size q at room w =
    let long = w.front.long in
    let own = front_taken k q.row at.row w.front.short (omega (arith, long, room)) w.front.same in
    ap (λ (xs : List Frame). standing xs at.row at.turns) (sym w.mark)
    ∙ ap (λ (row : List Entry). standing (frames_at f q.place) row at.turns) (sym own)
    ∙ ap (λ (n : ℕ). standing (frames_at f q.place) (take k q.row) n) (sym w.turns)

pub runs_thread : (t : Table) (l : FlatList) (place : ℕ) (row : List Entry) (turns : ℕ) (stop : Stop) (after : List Entry) → BeginsAt t l place
    → length row ≡ l.slots
    → RanTo (flat_shown l.places.items) (at_point place (row ++ replicate (l.size - length row) blank) turns) stop after
    → RunsThread t l place row turns stop (take l.slots after)
runs_thread t l place row turns stop after begins long ran =
    let f = flat_shown l.places.items in
    let k = l.slots in
    let size = l.size in
    let p = at_point place (row ++ replicate (size - length row) blank) turns in
    let q = point_of stop after in
    let s = stands_at l place row turns in
    let stands : StandsFor t f k size p s = record { code = begins.code; front = in_front k size row long begins.room; turns = refl } in
    let end : IsEnd (flat_step f q) = subst (λ (c : Came Point). IsEnd c) (sym ran.ends) (is_end stop.end) in
    let h = machine_ends t f k size p q s stands ran.runs end in
    let at = at_stop f k size q h.at begins.room h.within in
    record {
      way = subst (λ (u : Standing). Steps t s u) at h.way;
      ends =
          subst (λ (u : Standing). IsSameEnd (came_to_end stop.end) (thread_step t u)) at
          (subst (λ (c : Came Point). IsSameEnd c (thread_step t h.at)) ran.ends h.same);
    }
