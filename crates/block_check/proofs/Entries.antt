-- Entries of the code, and what they show.
use Rattle.std.proofs.Common.{◌≡◌, ◌≤◌, ◌++◌, ℕ, Bool, true, false, List, [], ◌∷◌, map, take, drop, length, min, Option, None, Ok, inl, inr, subst, refl, sym, ap, ◌∙◌, arith, append-nil}
use Rattle.std.proofs.lemmas.List.{drop_all, take_all, take-map}
use Rattle.std.proofs.lemmas.Bool.{cases_lt}
use Rattle.std.specs.Str.{bytes_eq}
use Rattle.std.specs.Prelude.{if◌then◌else◌}
use Rattle.par_ownership.specs.Environment.{Environment, has_name, marked, held_in_both}
use Rattle.par_ownership.specs.Environment
use Rattle.par_ownership.specs.Walk.{Refusal, guarded, ended, end_refusal, arms_refusal}
use Rattle.block_check.specs.Shown.{entry_shown, entries_shown, marked_entry}
use Rattle.block_check.specs.declared.entry.Entry.{Entry}

-- an entry's mark is the mark of what it shows
marked_shown : (name : List ℕ) (held : Bool) (e : Entry) (b : Bool) → entry_shown (if b then record e { held = held } else e) ≡ (if b then record (entry_shown e) { held = held } else entry_shown e)
marked_shown name held e true = refl
marked_shown name held e false = refl

pub marked-entries : (name : List ℕ) (held : Bool) (es : List Entry) → entries_shown (map (marked_entry name held) es) ≡ map (marked name held) (entries_shown es)
marked-entries name held [] = refl
marked-entries name held (e ∷ es) =
    ap (λ (v : Environment.Entry). v ∷ entries_shown (map (marked_entry name held) es)) (marked_shown name held e (bytes_eq e.name.now name))
    ∙ ap (λ (vs : Environment). marked name held (entry_shown e) ∷ vs) (marked-entries name held es)

-- behind the end of the shorter list nothing differs
arms_refusal-nil : (line : ℕ) (es : Environment) → arms_refusal line es [] ≡ None
arms_refusal-nil line [] = refl
arms_refusal-nil line (e ∷ es) = refl

at_end : {A : Type 0} (P : List A → List A → Type 0) → ((es : List A) → P es []) → ((fs : List A) → P [] fs) → (es fs : List A) (i : ℕ) → min (length es) (length fs) ≤ i → P (drop i es) (drop i fs)
at_end P left right es fs i h =
    elim (cases_lt i (length es)) [
      | inl lt ↦ let e : drop i fs ≡ [] = drop_all i fs (omega arith) in subst (λ v. P (drop i es) v) (sym e) (left (drop i es))
      | inr ge ↦ let e : drop i es ≡ [] = drop_all i es ge in subst (λ v. P v (drop i fs)) (sym e) (right (drop i fs))
    ]

pub arms_end : (line : ℕ) (es fs : List Entry) (i : ℕ) → min (length es) (length fs) ≤ i → arms_refusal line (entries_shown (drop i es)) (entries_shown (drop i fs)) ≡ None
arms_end line es fs i h = at_end (λ a b. arms_refusal line (entries_shown a) (entries_shown b) ≡ None) (λ a. arms_refusal-nil line (entries_shown a)) (λ b. refl) es fs i h

held_in_both-nil : (es : Environment) → held_in_both es [] ≡ []
held_in_both-nil [] = refl
held_in_both-nil (e ∷ es) = refl

pub both_end : (es fs : List Entry) (i : ℕ) → min (length es) (length fs) ≤ i → held_in_both (entries_shown (drop i es)) (entries_shown (drop i fs)) ≡ []
both_end es fs i h = at_end (λ a b. held_in_both (entries_shown a) (entries_shown b) ≡ []) (λ a. held_in_both-nil (entries_shown a)) (λ b. refl) es fs i h

-- the end of a list, seen in the code's entries
pub ended_shown : (n : ℕ) (es out : List Entry) → end_refusal (drop n (entries_shown es)) ≡ None → out ≡ take n es → ended n (Ok (entries_shown es)) ≡ Ok (entries_shown out)
ended_shown n es out g e =
    ap (λ (o : Option Refusal). guarded o (Ok (take n (entries_shown es)))) g
    ∙ ap (λ (v : Environment). Ok v) (take-map entry_shown n es ∙ ap entries_shown (sym e))

-- a list whose entries are marked from the first to the last
pub marked_all : (name : List ℕ) (held : Bool) (es out : List Entry) (i : ℕ) → length es ≤ i → out ≡ map (marked_entry name held) (take i es) ++ drop i es → entries_shown out ≡ map (marked name held) (entries_shown es)
marked_all name held es out i h e =
    ap entries_shown (e ∙ ap (λ v. map (marked_entry name held) (take i es) ++ v) (drop_all i es h) ∙ append-nil (map (marked_entry name held) (take i es)) ∙ ap (λ v. map (marked_entry name held) v) (take_all i es h))
    ∙ marked-entries name held es
