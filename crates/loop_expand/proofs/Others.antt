-- Further arguments read by a loop: those that were read, and those that are still read.
use Rattle.std.proofs.Common.{◌≡◌, ℕ, zero, suc, ◌+◌, ◌-◌, ◌<◌, ◌≤◌, Bool, true, false, cond, List, [], ◌∷◌, ◌++◌, length, refl, sym, ap, ◌∙◌, arith, append_assoc}
use Rattle.std.specs.Prelude.{Some, None}
use Rattle.std.proofs.lemmas.List.{append-nil}
use Rattle.par_text.specs.declared.kind.Kind.TheVariants.{Comma}
use Rattle.par_lex.specs.declared.lexeme.Lexeme.{Lexeme}
use Rattle.loop_expand.specs.declared.read_fail.ReadFail.{ReadFail}
use Rattle.loop_expand.specs.declared.read_fail.ReadFail.TheVariants.{NoLoop, OutOfMemory}
use Rattle.loop_expand.specs.Loops.{next_is}
use Rattle.loop_expand.specs.Reading.{Answer, ◌>>=◌, read_other, read_others}
use Rattle.loop_expand.specs.Gives.{Fails}

abbrev pub with_front : List (List Lexeme) → Answer (List (List Lexeme)) → Answer (List (List Lexeme))
with_front front (Some x) = Some (front ++ x.0, x.1)
with_front front None = None

with_front-step : (front : List (List Lexeme)) (r : List Lexeme) (answer : Answer (List (List Lexeme))) → with_front front (answer >>= λ rs. Some (r ∷ rs.0, rs.1)) ≡ with_front (front ++ r ∷ []) answer
with_front-step front r (Some x) = ap (λ (l : List (List Lexeme)). Some (l, x.1)) (sym (append_assoc front (r ∷ []) x.0))
with_front-step front r None = refl

bare : (answer : Answer (List (List Lexeme))) → with_front [] answer ≡ answer
bare (Some x) = refl
bare None = refl

turned : (n : ℕ) (ts : List Lexeme) (b : Bool) → next_is Comma ts ≡ b
    → read_others (suc n) ts ≡ cond b (read_other ts >>= λ r. read_others n r.1 >>= λ rs. Some (r.0 ∷ rs.0, rs.1)) (Some ([], ts))
unfolding read_others
turned n ts b is = ap (λ (c : Bool). cond c (read_other ts >>= λ r. read_others n r.1 >>= λ rs. Some (r.0 ∷ rs.0, rs.1)) (Some ([], ts))) is

module _ (front : List (List Lexeme)) (ts : List Lexeme) (total : Answer (List (List Lexeme))) where
  more_turns : (turns i : ℕ) → i < turns → read_others (turns - i) ts ≡ read_others (suc (turns - (i + 1))) ts
  more_turns turns i lt = ap (λ (n : ℕ). read_others n ts) (let e : turns - i ≡ suc (turns - (i + 1)) = omega arith in e)

  pub goes_on_behind : (turns i : ℕ) (r behind : List Lexeme) → i < turns → next_is Comma ts ≡ true → read_other ts ≡ Some (r, behind)
      → with_front front (read_others (turns - i) ts) ≡ total → with_front (front ++ r ∷ []) (read_others (turns - (i + 1)) behind) ≡ total
  goes_on_behind turns i r behind lt b is so_far =
      sym (with_front-step front r (read_others (turns - (i + 1)) behind))
      ∙ sym (ap (λ (a : Answer (List (List Lexeme))). with_front front a) (more_turns turns i lt ∙ turned (turns - (i + 1)) ts true b ∙ ap (λ (a : Answer (List Lexeme)). a >>= λ r. read_others (turns - (i + 1)) r.1 >>= λ rs. Some (r.0 ∷ rs.0, rs.1)) is))
      ∙ so_far

  no_more : (n : ℕ) → next_is Comma ts ≡ false → read_others n ts ≡ Some ([], ts)
  unfolding read_others
  no_more zero b = refl
  no_more (suc n) b = turned n ts false b

  pub stops_at : (n : ℕ) → next_is Comma ts ≡ false → with_front front (read_others n ts) ≡ total → total ≡ Some (front, ts)
  stops_at n b so_far =
      sym so_far ∙ ap (λ (a : Answer (List (List Lexeme))). with_front front a) (no_more n b) ∙ ap (λ (l : List (List Lexeme)). Some (l, ts)) (append-nil front)

  pub runs_out : (turns i : ℕ) → turns ≤ i → with_front front (read_others (turns - i) ts) ≡ total → total ≡ Some (front, ts)
  unfolding read_others
  runs_out turns i le so_far =
      sym so_far ∙ ap (λ (n : ℕ). with_front front (read_others n ts)) (let e : turns - i ≡ 0 = omega arith in e) ∙ ap (λ (l : List (List Lexeme)). Some (l, ts)) (append-nil front)

  pub fails_behind : (turns i : ℕ) (e : ReadFail) → i < turns → next_is Comma ts ≡ true → Fails e (read_other ts) → with_front front (read_others (turns - i) ts) ≡ total → Fails e total
  fails_behind turns i OutOfMemory lt b h so_far = tt
  fails_behind turns i NoLoop lt b h so_far =
      sym so_far
      ∙ ap (λ (a : Answer (List (List Lexeme))). with_front front a) (more_turns turns i lt ∙ turned (turns - (i + 1)) ts true b ∙ ap (λ (a : Answer (List Lexeme)). a >>= λ r. read_others (turns - (i + 1)) r.1 >>= λ rs. Some (r.0 ∷ rs.0, rs.1)) h)

pub starts_none : (front : List (List Lexeme)) (ts : List Lexeme) (turns : ℕ) → front ≡ [] → turns ≡ length ts → with_front front (read_others (turns - 0) ts) ≡ read_others (length ts) ts
starts_none front ts turns none count =
    ap (λ (l : List (List Lexeme)). with_front l (read_others (turns - 0) ts)) none
    ∙ bare (read_others (turns - 0) ts)
    ∙ ap (λ (n : ℕ). read_others n ts) (let e : turns - 0 ≡ length ts = omega arith in e)
