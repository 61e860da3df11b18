-- Each text comes to one thing, and to no other.
use Rattle.std.proofs.Common.{◌≡◌, ℕ, zero, suc, ◌<◌, ◌≤◌, Bool, true, false, List, [], ◌∷◌, length, map, drop, Result, Ok, Err, inl, inr, refl, sym, ap, ◌∙◌, subst, arith}
use Rattle.std.specs.Prelude.{◌⊎◌, Option, Some, None, IsTrue}
use Rattle.std.specs.Str.{bytes_eq}
use Rattle.std.proofs.lemmas.Bool.{false≢true, cases_lt}
use Rattle.std.proofs.lemmas.List.{append-nil}
use Rattle.std.proofs.lemmas.Slice.Eq.{bytes_eq-Decides}
use Rattle.par_text.specs.declared.kind.Kind.TheVariants.{Name}
use Rattle.par_text.specs.Kinds.{is}
use Rattle.par_text.specs.Rule.{Token}
use Rattle.par_text.specs.Lexing.{Lexed, text_tokens}
use Rattle.par_text.proofs.KindLemmas.{is-self, same_from_is}
use Rattle.par_lex.specs.declared.lexeme.Lexeme.{Lexeme}
use Rattle.loop_expand.specs.declared.expand_fail.ExpandFail.{ExpandFail}
use Rattle.loop_expand.specs.declared.expand_fail.ExpandFail.TheVariants.{Refused, BadLoop, NameTaken, OutOfMemory}
use Rattle.loop_expand.specs.Loops.{Loop, begins_call, AreLoops, no_token, no_call}
use Rattle.loop_expand.specs.Texts.{bytes_of, sum_name}
use Rattle.loop_expand.specs.Expansion.{StartsCall, IsBad, IsTaken, FirstAt, Nowhere, expansion, TokensExpand, lexeme_of, LexedExpand, Expands}
use Rattle.loop_expand.specs.Reading.{loops_of}
use Rattle.loop_expand.specs.Answers.{FindsFirst}
use Rattle.loop_expand.proofs.WholeLoops.{Reads, reads, are_read, bad_is_read}

-- whether a name is taken can be told

abbrev HasNumber : List ℕ → ℕ → Type 0
HasNumber bytes count = (j : ℕ) × (j < count) × (bytes ≡ sum_name j)

no_more : (bytes : List ℕ) (n : ℕ) → ¬ (HasNumber bytes n) → bytes_eq bytes (sum_name n) ≡ false → ¬ (HasNumber bytes (suc n))
no_more bytes n none other has = by_order (cases_lt has.0 n)
  where
    by_order : (has.0 < n) ⊎ (n ≤ has.0) → ⊥
    by_order (inl less) = none (has.0, less, has.2)
    by_order (inr least) =
        let same : has.0 ≡ n = omega (arith, has.1) in
        false≢true (sym other ∙ (bytes_eq-Decides bytes (sum_name n)).1 (has.2 ∙ ap sum_name same))

has_number : (bytes : List ℕ) (count : ℕ) → HasNumber bytes count ⊎ (¬ (HasNumber bytes count))
has_number bytes zero = inr (λ has. absurd (omega (arith, has.1)))
has_number bytes (suc n) = by_name (bytes_eq bytes (sum_name n)) refl (has_number bytes n)
  where
    by_name : (b : Bool) → bytes_eq bytes (sum_name n) ≡ b → HasNumber bytes n ⊎ (¬ (HasNumber bytes n)) → HasNumber bytes (suc n) ⊎ (¬ (HasNumber bytes (suc n)))
    by_name true same below = inl (n, omega arith, (bytes_eq-Decides bytes (sum_name n)).0 same)
    by_name false other (inl has) = inl (has.0, omega (arith, has.1), has.2)
    by_name false other (inr none) = inr (no_more bytes n none other)

taken_or_not : (text : List ℕ) (count : ℕ) (ts : List Lexeme) → IsTaken text count ts ⊎ (¬ (IsTaken text count ts))
taken_or_not text count [] = inr (λ none. none)
taken_or_not text count (t ∷ ts) = by_kind (is Name t.kind) refl (has_number (bytes_of text t) count)
  where
    by_kind : (b : Bool) → is Name t.kind ≡ b → HasNumber (bytes_of text t) count ⊎ (¬ (HasNumber (bytes_of text t) count)) → IsTaken text count (t ∷ ts) ⊎ (¬ (IsTaken text count (t ∷ ts)))
    by_kind true name (inl has) = inl (same_from_is Name t.kind name, has.0, has.1, has.2)
    by_kind true name (inr none) = inr (λ taken. none (taken.1, taken.2, taken.3))
    by_kind false other has = inr (λ taken. false≢true (sym other ∙ is-self Name t.kind taken.0))

-- the first token from which on something holds

record Found (P : List Lexeme → Type 0) (ts : List Lexeme) : Type 0 where
  place : Option ℕ
  finds : FindsFirst place P ts

find : (P : List Lexeme → Type 0) → ((ts : List Lexeme) → P ts ⊎ (¬ (P ts))) → (ts : List Lexeme) → Found P ts
find P tell [] = record { place = None; finds = tt }
find P tell (t ∷ ts) = here_or_behind (tell (t ∷ ts)) (find P tell ts)
  where
    behind : ¬ (P (t ∷ ts)) → (o : Option ℕ) → FindsFirst o P ts → FindsFirst o P (t ∷ ts)
    behind other None more = (other, more)
    behind other (Some at) more = inr (other, more)

    here_or_behind : P (t ∷ ts) ⊎ (¬ (P (t ∷ ts))) → Found P ts → Found P (t ∷ ts)
    here_or_behind (inl here) more = record { place = Some t.at; finds = inl (here, refl) }
    here_or_behind (inr other) more = record { place = more.place; finds = behind other more.place more.finds }

nowhere_none : (P : List Lexeme → Type 0) (ts : List Lexeme) (at : ℕ) → Nowhere P ts → FirstAt P ts at → ⊥
nowhere_none P [] at none first = first
nowhere_none P (t ∷ ts) at none (inl here) = none.0 here.0
nowhere_none P (t ∷ ts) at none (inr behind) = nowhere_none P ts at none.1 behind.1

first_once : (P : List Lexeme → Type 0) (ts : List Lexeme) (a b : ℕ) → FirstAt P ts a → FirstAt P ts b → a ≡ b
first_once P [] a b x y = absurd x
first_once P (t ∷ ts) a b (inl x) (inl y) = x.1 ∙ sym y.1
first_once P (t ∷ ts) a b (inl x) (inr y) = absurd (y.0 x.0)
first_once P (t ∷ ts) a b (inr x) (inl y) = absurd (x.0 y.0)
first_once P (t ∷ ts) a b (inr x) (inr y) = first_once P ts a b x.1 y.1

-- there is an answer

record Answered (text : List ℕ) (ts : List Lexeme) : Type 0 where
  answer : Result (List ℕ) ExpandFail
  comes : TokensExpand text ts answer

answered : (text : List ℕ) (ts : List Lexeme) → Answered text ts
answered text ts = by_loops (loops_of ts) (reads ts)
  where
    by_names : (ls : List Loop) → AreLoops ts ls → Found (IsTaken text (length ls)) ts → Answered text ts
    by_names ls are found = by_place found.place found.finds
      where
        by_place : (o : Option ℕ) → FindsFirst o (IsTaken text (length ls)) ts → Answered text ts
        by_place None nowhere = record { answer = Ok (expansion text ls); comes = (ls, are, nowhere, refl) }
        by_place (Some at) first = record { answer = Err (NameTaken at); comes = (ls, are, first) }

    by_loops : (r : Result (List Loop) ℕ) → Reads ts r → Answered text ts
    by_loops (Err at) bad = record { answer = Err (BadLoop at); comes = bad }
    by_loops (Ok ls) are = by_names ls are (find (IsTaken text (length ls)) (taken_or_not text (length ls)) ts)

pub has_answer : (text : List ℕ) → (answer : Result (List ℕ) ExpandFail) × Expands text answer
has_answer text = by_tokens (text_tokens text)
  where
    by_tokens : (l : Lexed) → (answer : Result (List ℕ) ExpandFail) × LexedExpand text l answer
    by_tokens (Err e) = (Err (Refused e), refl)
    by_tokens (Ok ts) = let a = answered text (map lexeme_of ts) in (a.answer, a.comes)

-- and only one

ok_or_none : Result (List Loop) ℕ → List Loop
ok_or_none (Ok ls) = ls
ok_or_none (Err at) = []

err_or_none : Result (List Loop) ℕ → ℕ
err_or_none (Ok ls) = 0
err_or_none (Err at) = at

same_loops : (ts : List Lexeme) (ls ms : List Loop) → AreLoops ts ls → AreLoops ts ms → ls ≡ ms
unfolding ok_or_none
same_loops ts ls ms x y = ap ok_or_none (sym (are_read ts ls x) ∙ are_read ts ms y)

no_loops : (ts : List Lexeme) (ls : List Loop) (at : ℕ) → AreLoops ts ls → FirstAt IsBad ts at → ⊥
no_loops ts ls at x y = let same = sym (are_read ts ls x) ∙ bad_is_read ts at y in cc

name_of_both : (text : List ℕ) (ts : List Lexeme) (ls ms : List Loop) (at : ℕ) → AreLoops ts ls → AreLoops ts ms → Nowhere (IsTaken text (length ls)) ts → FirstAt (IsTaken text (length ms)) ts at → ⊥
name_of_both text ts ls ms at x y none first =
    nowhere_none (IsTaken text (length ls)) ts at none (subst (λ (l : List Loop). FirstAt (IsTaken text (length l)) ts at) (sym (same_loops ts ls ms x y)) first)

one_of_tokens : (text : List ℕ) (ts : List Lexeme) (a b : Result (List ℕ) ExpandFail) → TokensExpand text ts a → TokensExpand text ts b → a ≡ b
one_of_tokens text ts (Ok a) (Ok b) x y = ap (λ (bytes : List ℕ). Ok bytes) (x.3 ∙ ap (λ (l : List Loop). expansion text l) (same_loops ts x.0 y.0 x.1 y.1) ∙ sym y.3)
one_of_tokens text ts (Ok a) (Err (BadLoop at)) x y = absurd (no_loops ts x.0 at x.1 y)
one_of_tokens text ts (Ok a) (Err (NameTaken at)) x y = absurd (name_of_both text ts x.0 y.0 at x.1 y.1 x.2 y.2)
one_of_tokens text ts (Err (BadLoop at)) (Ok b) x y = absurd (no_loops ts y.0 at y.1 x)
one_of_tokens text ts (Err (BadLoop at)) (Err (BadLoop place)) x y = ap (λ (n : ℕ). Err (BadLoop n)) (first_once IsBad ts at place x y)
one_of_tokens text ts (Err (BadLoop at)) (Err (NameTaken place)) x y = absurd (no_loops ts y.0 at y.1 x)
one_of_tokens text ts (Err (NameTaken at)) (Ok b) x y = absurd (name_of_both text ts y.0 x.0 at y.1 x.1 y.2 x.2)
one_of_tokens text ts (Err (NameTaken at)) (Err (BadLoop place)) x y = absurd (no_loops ts x.0 place x.1 y)
one_of_tokens text ts (Err (NameTaken at)) (Err (NameTaken place)) x y =
    ap (λ (n : ℕ). Err (NameTaken n)) (first_once (IsTaken text (length x.0)) ts at place x.2 (subst (λ (l : List Loop). FirstAt (IsTaken text (length l)) ts place) (same_loops ts y.0 x.0 y.1 x.1) y.2))
one_of_tokens text ts (Err (Refused e)) b x y = absurd x
one_of_tokens text ts (Err OutOfMemory) b x y = absurd x
one_of_tokens text ts (Ok a) (Err (Refused e)) x y = absurd y
one_of_tokens text ts (Ok a) (Err OutOfMemory) x y = absurd y
one_of_tokens text ts (Err (BadLoop at)) (Err (Refused e)) x y = absurd y
one_of_tokens text ts (Err (BadLoop at)) (Err OutOfMemory) x y = absurd y
one_of_tokens text ts (Err (NameTaken at)) (Err (Refused e)) x y = absurd y
one_of_tokens text ts (Err (NameTaken at)) (Err OutOfMemory) x y = absurd y

pub one_answer : (text : List ℕ) (a b : Result (List ℕ) ExpandFail) → Expands text a → Expands text b → a ≡ b
one_answer text a b = by_tokens (text_tokens text)
  where
    by_tokens : (l : Lexed) → LexedExpand text l a → LexedExpand text l b → a ≡ b
    by_tokens (Err e) x y = x ∙ sym y
    by_tokens (Ok ts) x y = one_of_tokens text (map lexeme_of ts) a b x y

-- a text without a loop

none_taken : (text : List ℕ) (ts : List Lexeme) → Nowhere (IsTaken text 0) ts
none_taken text [] = tt
none_taken text (t ∷ ts) = ((λ taken. omega (arith, taken.2)), none_taken text ts)

not_true : (b : Bool) → ¬ (IsTrue b) → b ≡ false
not_true true never = absurd (never refl)
not_true false never = refl

no_call_no_loop : (ts : List Lexeme) → Nowhere StartsCall ts → AreLoops ts []
no_call_no_loop [] none = no_token
no_call_no_loop (t ∷ ts) none = no_call t ts [] (not_true (begins_call (t ∷ ts)) none.0) (no_call_no_loop ts none.1)

pub own_expansion : (text : List ℕ) (ts : List Token) → text_tokens text ≡ Ok ts → Nowhere StartsCall (map lexeme_of ts) → Expands text (Ok text)
own_expansion text ts tokens none =
    subst (λ (l : Lexed). LexedExpand text l (Ok text)) (sym tokens)
    ([], no_call_no_loop (map lexeme_of ts) none, none_taken text (map lexeme_of ts), sym (append-nil (drop 0 text) ∙ whole text))
  where
    whole : (bytes : List ℕ) → drop 0 bytes ≡ bytes
    whole [] = refl
    whole (c ∷ cs) = refl
