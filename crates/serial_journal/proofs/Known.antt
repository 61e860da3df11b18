-- One birth more: what was known of threads stays, and the child has its label.
use Rattle.std.proofs.Common.{◌≡◌, ℕ, zero, suc, List, [], ◌∷◌, ◌++◌, length, Some, refl, reverse}
use Rattle.std.specs.Prelude.{slice_get}
use Rattle.std.specs.List.{AllZip}
use Rattle.dag_order.specs.Births.{root, birth_in, Leads, HasLabel}
use Rattle.dag_order.proofs.BirthLaws.{label_of_fork}
use Rattle.dag_order.specs.LabelOrder.{fork_of}
use Rattle.dag_order.specs.declared.birth.Birth.{Birth}
use Rattle.dag_order.specs.declared.thread_id.ThreadId.{ThreadId}
use Rattle.depth_first_run.specs.Passed.Actions.{Action}
use Rattle.serial_journal.specs.declared.action.Action.{Action as Shown}
use Rattle.serial_journal.specs.Telling.{ShowsAction, ShowsBirth, ForkOf}
use Rattle.serial_journal.specs.Journals.{KeepsLabels}

-- a place of the front of a list
front_at : {A : Type 0} (xs ys : List A) (n : ℕ) (x : A) → slice_get xs n ≡ Some x → slice_get (xs ++ ys) n ≡ Some x
front_at [] ys n x is = cc
front_at (y ∷ xs) ys zero x is = is
front_at (y ∷ xs) ys (suc n) x is = front_at xs ys n x is

-- and the place behind it
seam_at : {A : Type 0} (xs : List A) (x : A) → slice_get (xs ++ x ∷ []) (length xs) ≡ Some x
seam_at [] x = refl
seam_at (y ∷ xs) x = seam_at xs x

born_still : (births more : List Birth) (period nth : ℕ) (birth : Birth) → birth_in (births ∷ []) period nth ≡ Some birth → birth_in ((births ++ more) ∷ []) period nth ≡ Some birth
born_still births more zero nth birth is = is
born_still births more (suc zero) nth birth is = front_at births more nth birth is
born_still births more (suc (suc n)) nth birth is = is

way_still : (births more : List Birth) (id : ThreadId) (way : List ℕ) (top : ThreadId) → Leads (births ∷ []) id way top → Leads ((births ++ more) ∷ []) id way top
way_still births more id [] top is = is
way_still births more id (ordinal ∷ above) top is =
    (is.0, born_still births more id.period id.nth is.0 is.1, is.2, way_still births more is.0.parent above top is.3)

pub labels_stay : (births more : List Birth) → KeepsLabels births (births ++ more)
labels_stay births more id label is = way_still births more id (reverse label) root is

pub child_has_label : (births : List Birth) (parent : ThreadId) (ordinal : ℕ) (label : List ℕ) → HasLabel (births ∷ []) parent label
    → HasLabel ((births ++ record { parent = parent; ordinal = ordinal } ∷ []) ∷ []) (record { period = 1; nth = length births }) (fork_of label ordinal)
child_has_label births parent ordinal label is =
    let birth : Birth = record { parent = parent; ordinal = ordinal } in
    label_of_fork ((births ++ birth ∷ []) ∷ []) (record { period = 1; nth = length births }) birth label
    (seam_at births birth) (labels_stay births (birth ∷ []) parent label is)

-- what holds place by place of two lists
pub zip_one_more : {A B : Type 0} (R : A → B → Type 0) (xs : List A) (ys : List B) (x : A) (y : B) → AllZip R xs ys → R x y → AllZip R (xs ++ x ∷ []) (ys ++ y ∷ [])
zip_one_more R [] [] x y is r = (r, tt)
zip_one_more R [] (b ∷ ys) x y is r = absurd is
zip_one_more R (a ∷ xs) [] x y is r = absurd is
zip_one_more R (a ∷ xs) (b ∷ ys) x y is r = (is.0, zip_one_more R xs ys x y is.1 r)

zip_weaker : {A B : Type 0} (R Q : A → B → Type 0) (xs : List A) (ys : List B) → ((a : A) (b : B) → R a b → Q a b) → AllZip R xs ys → AllZip Q xs ys
zip_weaker R Q [] [] more is = tt
zip_weaker R Q [] (b ∷ ys) more is = absurd is
zip_weaker R Q (a ∷ xs) [] more is = absurd is
zip_weaker R Q (a ∷ xs) (b ∷ ys) more is = (more a b is.0, zip_weaker R Q xs ys more is.1)

pub actions_stay : (births more : List Birth) (xs : List Action) (ys : List Shown) → AllZip (ShowsAction births) xs ys → AllZip (ShowsAction (births ++ more)) xs ys
actions_stay births more xs ys is =
    zip_weaker (ShowsAction births) (ShowsAction (births ++ more)) xs ys
    (λ a shown s. record { label = labels_stay births more shown.name.by a.label s.label; index = s.index; kind = s.kind; change = s.change }) is

pub births_stay : (births more : List Birth) (xs : List ForkOf) (ys : List Birth) → AllZip (ShowsBirth births) xs ys → AllZip (ShowsBirth (births ++ more)) xs ys
births_stay births more xs ys is =
    zip_weaker (ShowsBirth births) (ShowsBirth (births ++ more)) xs ys
    (λ f b s. record { parent = labels_stay births more b.parent f.label s.parent; ordinal = s.ordinal }) is
