-- The deques of a list as the moment has them.
use Rattle.std.proofs.Common.{◌≡◌, ℕ, List, [], ◌∷◌, ◌++◌, map, refl, sym, ap}
use Rattle.deque_list.specs.Deques.{Deque}
use Rattle.list_changes.specs.Shown.{deque_shown}
use Rattle.deque_machine.specs.Moments as machine
use Rattle.deque_machine.specs.Lists.{Each}
use Rattle.deque_machine.proofs.Lists.{same_head, same_tail, cons_is_not_nil}
use Rattle.thread_frames.specs.Passed.Parts as parts
use Rattle.ready_machine.specs.Entries.{IsEntry}
use Rattle.ready_machine.specs.Standing.{HasOneThread}

-- a deque of the moment is one of the list at the same place
pub cut_of_shown : {T : Type 0} (shown : T → parts.Thread) (ds : List (Deque T)) (left : List machine.Deque) (d : machine.Deque) (right : List machine.Deque)
    → map parts.deque_shown (map (deque_shown shown) ds) ≡ left ++ d ∷ right
    → (l : List (Deque T)) × (x : Deque T) × (r : List (Deque T)) × (ds ≡ l ++ x ∷ r) × (parts.deque_shown (deque_shown shown x) ≡ d)
cut_of_shown shown [] [] d right is = absurd (cons_is_not_nil d right (sym is))
cut_of_shown shown [] (y ∷ left) d right is = absurd (cons_is_not_nil y (left ++ d ∷ right) (sym is))
cut_of_shown shown (x ∷ ds) [] d right is = ([], x, ds, refl, same_head (parts.deque_shown (deque_shown shown x)) d (map parts.deque_shown (map (deque_shown shown) ds)) right is)
cut_of_shown shown (x ∷ ds) (y ∷ left) d right is =
    let rest = cut_of_shown shown ds left d right
    (same_tail (parts.deque_shown (deque_shown shown x)) y (map parts.deque_shown (map (deque_shown shown) ds)) (left ++ d ∷ right) is) in
    (x ∷ rest.0, rest.1, rest.2, ap (λ t. x ∷ t) rest.3, rest.4)

-- two labels are those of two threads
pub two_items : {T : Type 0} (shown : T → parts.Thread) (items : List T) (upper lower : List ℕ) → map parts.label_of (map shown items) ≡ upper ∷ lower ∷ []
    → (top : T) × (bottom : T) × (items ≡ top ∷ bottom ∷ [])
two_items shown [] upper lower is = absurd (cons_is_not_nil upper (lower ∷ []) (sym is))
two_items shown (x ∷ []) upper lower is = absurd (cons_is_not_nil lower [] (sym (same_tail (parts.label_of (shown x)) upper [] (lower ∷ []) is)))
two_items shown (x ∷ y ∷ []) upper lower is = (x, y, refl)
two_items shown (x ∷ y ∷ z ∷ items) upper lower is = absurd (cons_is_not_nil (parts.label_of (shown z)) (map parts.label_of (map shown items))
    (same_tail (parts.label_of (shown y)) lower (parts.label_of (shown z) ∷ map parts.label_of (map shown items)) []
    (same_tail (parts.label_of (shown x)) upper (parts.label_of (shown y) ∷ parts.label_of (shown z) ∷ map parts.label_of (map shown items)) (lower ∷ []) is)))

one_thread : (threads : List parts.Thread) (label : List ℕ) → map parts.label_of threads ≡ label ∷ [] → (x : parts.Thread) × (threads ≡ x ∷ [])
one_thread [] label is = absurd (cons_is_not_nil label [] (sym is))
one_thread (x ∷ []) label is = (x, refl)
one_thread (x ∷ y ∷ threads) label is =
    absurd (cons_is_not_nil (parts.label_of y) (map parts.label_of threads) (same_tail (parts.label_of x) label (parts.label_of y ∷ map parts.label_of threads) [] is))

-- entries are deques of one thread
pub one_each : (ds : List parts.Deque) → Each IsEntry (map parts.deque_shown ds) → Each HasOneThread ds
one_each [] entries = tt
one_each (d ∷ ds) entries = (one_thread d.threads (entries.0).0 (entries.0).1, one_each ds entries.1)
