-- How bytes begin with a number, and with the first two lines of a trail, and that they do in one way.
use Rattle.std.proofs.Common.{◌≡◌, ◌≢◌, ℕ, ◌<◌, ◌≤◌, ◌%◌, ◌^◌, List, [], ◌∷◌, ◌++◌, length, take, get_or, append_assoc, ap, sym, ◌∙◌, refl, arith, length-append}
use Rattle.std.specs.Prelude.{codes}
use Rattle.std.specs.Fmt.{decimal}
use Rattle.std.proofs.Math.Seq.{get_or-append_seam, take-append_seam}
use Rattle.std.proofs.lemmas.List.{append_cancel_left}
use Rattle.std.proofs.lemmas.Fmt.{decimal_injective}
use Rattle.byte_cuts.specs.Lacks.{Lacks}
use Rattle.byte_cuts.proofs.Cuts.{cut_once}
use Rattle.run_report.proofs.Digits.{no_other}
use Rattle.language_limits.specs.declared.TheConstants.{GREATEST_QUOTA, LEAST_QUOTA, LONGEST_TEXT, MOST_DEQUES, MOST_TRAIL_ACTIONS, MOST_WORDS, MOST_WORKERS}
use Rattle.trail_meaning.specs.Ranges.{IsWithin, FitSetting}
use Rattle.trail_text.specs.TrailText.{head_line, source_line}
use Rattle.trail_text.specs.Lines.{number_then, NoNumber, NoneWithin, NoneBelow, NoHead, NoSource}
use Rattle.trail_text.proofs.Joined.{after_source}

-- the number after a name is one number, and what follows it is the same
pub number_once :
    (name : List ℕ) (stop n m : ℕ) (x y : List ℕ) → stop < 48 → n < 2 ^ 64 → m < 2 ^ 64 →
    number_then name n stop x ≡ number_then name m stop y → (n ≡ m) × (x ≡ y)
number_once name stop n m x y low small small' e =
    let cut = cut_once stop (decimal n) (decimal m) x y (no_other stop low n small) (no_other stop low m small')
    (append_cancel_left name (decimal n ++ stop ∷ x) (decimal m ++ stop ∷ y) e) in
    (decimal_injective n m small small' cut.0, cut.1)

-- there is no number if the byte that ends it is missing, or if what is before this byte is none
pub no_stop :
    (name bytes after : List ℕ) (stop : ℕ) → bytes ≡ name ++ after → ((front back : List ℕ) → ¬ (after ≡ front ++ stop ∷ back)) →
    NoNumber name stop bytes
no_stop name bytes after stop begins none n more small e =
    none (decimal n) more (append_cancel_left name after (decimal n ++ stop ∷ more) (sym begins ∙ e))

pub no_digits :
    (name bytes after front rest : List ℕ) (stop : ℕ) → stop < 48 → bytes ≡ name ++ after → after ≡ front ++ stop ∷ rest → Lacks stop front →
    ((n : ℕ) → n < 2 ^ 64 → ¬ (front ≡ decimal n)) → NoNumber name stop bytes
no_digits name bytes after front rest stop low begins cut lacks none n more small e =
    none n small
    (cut_once stop front (decimal n) rest more lacks (no_other stop low n small)
    (sym cut ∙ append_cancel_left name after (decimal n ++ stop ∷ more) (sym begins ∙ e))).0

-- a number that is too small or too great is not within the bounds
module _ (name bytes rest : List ℕ) (stop v : ℕ) (low : stop < 48) (begins : bytes ≡ number_then name v stop rest) (small : v < 2 ^ 64) where
  pub too_small : (least most : ℕ) → most < 2 ^ 64 → v < least → NoneWithin name stop least most bytes
  too_small least most short under n more fits e =
      let same = number_once name stop v n rest more low small (omega (arith, fits.1)) (sym begins ∙ e) in
      omega (arith, same.0, fits.0)

  pub too_great : (least most : ℕ) → most < 2 ^ 64 → most < v → NoneWithin name stop least most bytes
  too_great least most short over n more fits e =
      let same = number_once name stop v n rest more low small (omega (arith, fits.1)) (sym begins ∙ e) in
      omega (arith, same.0, fits.1)

  pub not_below : (bound : ℕ) → bound < 2 ^ 64 → bound ≤ v → NoneBelow name stop bound bytes
  not_below bound short over n more fits e =
      let same = number_once name stop v n rest more low small (omega arith) (sym begins ∙ e) in
      omega (arith, same.0)

-- a name and a number at the front of what goes on
pub then_more :
    (name : List ℕ) (n : ℕ) (u more v : List ℕ) → u ++ more ≡ v → (name ++ (decimal n ++ u)) ++ more ≡ name ++ (decimal n ++ v)
then_more name n u more v e =
    append_assoc name (decimal n ++ u) more ∙ ap (λ (t : List ℕ). name ++ t) (append_assoc (decimal n) u more ∙ ap (λ (t : List ℕ). decimal n ++ t) e)

-- the first line, number by number
abbrev pub from_deques : ℕ → List ℕ → List ℕ
from_deques d more = number_then (codes "deques ") d 10 more

abbrev pub from_steps : ℕ → ℕ → List ℕ → List ℕ
from_steps s d more = number_then (codes "steps ") s 32 (from_deques d more)

abbrev pub from_arena : ℕ → ℕ → ℕ → List ℕ → List ℕ
from_arena a s d more = number_then (codes "arena ") a 32 (from_steps s d more)

abbrev pub from_workers : ℕ → ℕ → ℕ → ℕ → List ℕ → List ℕ
from_workers p a s d more = number_then (codes "p ") p 32 (from_arena a s d more)

pub head_is : (k p a s d : ℕ) (more : List ℕ) → head_line k p a s d ++ more ≡ number_then (codes "trail k ") k 32 (from_workers p a s d more)
head_is k p a s d more =
    then_more (codes "trail k ") k _ more _
    (then_more (codes " p ") p _ more _
    (then_more (codes " arena ") a _ more _
    (then_more (codes " steps ") s _ more _
    (then_more (codes " deques ") d (codes "\n") more (10 ∷ more) refl))))

module _ (k : ℕ) (at_p : List ℕ) (in_k : IsWithin LEAST_QUOTA GREATEST_QUOTA k) where
  k_once :
      (k' p' a' s' d' : ℕ) (more : List ℕ) → FitSetting k' p' a' s' d' →
      number_then (codes "trail k ") k 32 at_p ≡ head_line k' p' a' s' d' ++ more → (k ≡ k') × (at_p ≡ from_workers p' a' s' d' more)
  k_once k' p' a' s' d' more fits e =
      number_once (codes "trail k ") 32 k k' at_p (from_workers p' a' s' d' more) (omega arith) (omega (arith, in_k.1)) (omega (arith, fits.quota.1))
      (e ∙ head_is k' p' a' s' d' more)

  module _ (p : ℕ) (at_arena : List ℕ) (in_p : IsWithin 1 MOST_WORKERS p) (e2 : at_p ≡ number_then (codes "p ") p 32 at_arena) where
    p_once :
        (k' p' a' s' d' : ℕ) (more : List ℕ) → FitSetting k' p' a' s' d' →
        number_then (codes "trail k ") k 32 at_p ≡ head_line k' p' a' s' d' ++ more → (p ≡ p') × (at_arena ≡ from_arena a' s' d' more)
    p_once k' p' a' s' d' more fits e =
        number_once (codes "p ") 32 p p' at_arena (from_arena a' s' d' more) (omega arith) (omega (arith, in_p.1)) (omega (arith, fits.workers.1))
        (sym e2 ∙ (k_once k' p' a' s' d' more fits e).1)

    module _ (a : ℕ) (at_steps : List ℕ) (in_a : IsWithin LEAST_QUOTA MOST_WORDS a) (e3 : at_arena ≡ number_then (codes "arena ") a 32 at_steps) where
      a_once :
          (k' p' a' s' d' : ℕ) (more : List ℕ) → FitSetting k' p' a' s' d' →
          number_then (codes "trail k ") k 32 at_p ≡ head_line k' p' a' s' d' ++ more → (a ≡ a') × (at_steps ≡ from_steps s' d' more)
      a_once k' p' a' s' d' more fits e =
          number_once (codes "arena ") 32 a a' at_steps (from_steps s' d' more) (omega arith) (omega (arith, in_a.1)) (omega (arith, fits.arena.1))
          (sym e3 ∙ (p_once k' p' a' s' d' more fits e).1)

      module _ (s : ℕ) (at_deques : List ℕ) (in_s : IsWithin 1 MOST_TRAIL_ACTIONS s) (e4 : at_steps ≡ number_then (codes "steps ") s 32 at_deques) where
        s_once :
            (k' p' a' s' d' : ℕ) (more : List ℕ) → FitSetting k' p' a' s' d' →
            number_then (codes "trail k ") k 32 at_p ≡ head_line k' p' a' s' d' ++ more → (s ≡ s') × (at_deques ≡ from_deques d' more)
        s_once k' p' a' s' d' more fits e =
            number_once (codes "steps ") 32 s s' at_deques (from_deques d' more) (omega arith) (omega (arith, in_s.1)) (omega (arith, fits.steps.1))
            (sym e4 ∙ (a_once k' p' a' s' d' more fits e).1)

-- the first line is one line
pub head_once :
    (k p a s d k' p' a' s' d' : ℕ) (x y : List ℕ) → FitSetting k p a s d → FitSetting k' p' a' s' d' →
    head_line k p a s d ++ x ≡ head_line k' p' a' s' d' ++ y → (k ≡ k') × (p ≡ p') × (a ≡ a') × (s ≡ s') × (d ≡ d') × (x ≡ y)
head_once k p a s d k' p' a' s' d' x y fits fits' e =
    let e' : number_then (codes "trail k ") k 32 (from_workers p a s d x) ≡ head_line k' p' a' s' d' ++ y = sym (head_is k p a s d x) ∙ e in
    let is_k = k_once k (from_workers p a s d x) fits.quota k' p' a' s' d' y fits' e' in
    let is_p = p_once k (from_workers p a s d x) fits.quota p (from_arena a s d x) fits.workers refl k' p' a' s' d' y fits' e' in
    let is_a = a_once k (from_workers p a s d x) fits.quota p (from_arena a s d x) fits.workers refl a (from_steps s d x) fits.arena refl k' p' a' s' d' y fits' e' in
    let is_s =
    s_once k (from_workers p a s d x) fits.quota p (from_arena a s d x) fits.workers refl a (from_steps s d x) fits.arena refl s (from_deques d x) fits.steps refl k' p' a' s' d' y
    fits' e' in
    let is_d = number_once (codes "deques ") 10 d d' x y (omega arith) (omega (arith, fits.deques.1)) (omega (arith, fits'.deques.1)) is_s.1 in
    (is_k.0, is_p.0, is_a.0, is_s.0, is_d.0, is_d.1)

-- there is no first line if a number is missing, or if the quota or the arena is not of whole pieces
module _ (bytes : List ℕ) (k : ℕ) (at_p : List ℕ) (e1 : bytes ≡ number_then (codes "trail k ") k 32 at_p) (in_k : IsWithin LEAST_QUOTA GREATEST_QUOTA k) where
  pub no_workers : NoneWithin (codes "p ") 32 1 MOST_WORKERS at_p → NoHead bytes
  no_workers none k' p' a' s' d' more fits e =
      none p' (from_arena a' s' d' more) fits.workers (k_once k at_p in_k k' p' a' s' d' more fits (sym e1 ∙ e)).1

  pub no_whole_quota : k % LEAST_QUOTA ≢ 0 → NoHead bytes
  no_whole_quota none k' p' a' s' d' more fits e =
      none (ap (λ (n : ℕ). n % LEAST_QUOTA) (k_once k at_p in_k k' p' a' s' d' more fits (sym e1 ∙ e)).0 ∙ fits.quota_whole)

  module _ (p : ℕ) (at_arena : List ℕ) (in_p : IsWithin 1 MOST_WORKERS p) (e2 : at_p ≡ number_then (codes "p ") p 32 at_arena) where
    pub no_arena : NoneWithin (codes "arena ") 32 LEAST_QUOTA MOST_WORDS at_arena → NoHead bytes
    no_arena none k' p' a' s' d' more fits e =
        none a' (from_steps s' d' more) fits.arena (p_once k at_p in_k p at_arena in_p e2 k' p' a' s' d' more fits (sym e1 ∙ e)).1

    module _ (a : ℕ) (at_steps : List ℕ) (in_a : IsWithin LEAST_QUOTA MOST_WORDS a) (e3 : at_arena ≡ number_then (codes "arena ") a 32 at_steps) where
      pub no_steps : NoneWithin (codes "steps ") 32 1 MOST_TRAIL_ACTIONS at_steps → NoHead bytes
      no_steps none k' p' a' s' d' more fits e =
          none s' (from_deques d' more) fits.steps (a_once k at_p in_k p at_arena in_p e2 a at_steps in_a e3 k' p' a' s' d' more fits (sym e1 ∙ e)).1

      pub no_whole_arena : a % LEAST_QUOTA ≢ 0 → NoHead bytes
      no_whole_arena none k' p' a' s' d' more fits e =
          none
          (ap (λ (n : ℕ). n % LEAST_QUOTA) (a_once k at_p in_k p at_arena in_p e2 a at_steps in_a e3 k' p' a' s' d' more fits (sym e1 ∙ e)).0 ∙ fits.arena_whole)

      module _ (s : ℕ) (at_deques : List ℕ) (in_s : IsWithin 1 MOST_TRAIL_ACTIONS s) (e4 : at_steps ≡ number_then (codes "steps ") s 32 at_deques) where
        pub no_deques : NoneWithin (codes "deques ") 10 1 MOST_DEQUES at_deques → NoHead bytes
        no_deques none k' p' a' s' d' more fits e =
            none d' more fits.deques
            (s_once k at_p in_k p at_arena in_p e2 a at_steps in_a e3 s at_deques in_s e4 k' p' a' s' d' more fits (sym e1 ∙ e)).1

-- the second line
pub source_is : (source more : List ℕ) → source_line source ++ more ≡ number_then (codes "source ") (length source) 10 (source ++ 10 ∷ more)
source_is source more =
    after_source source more
    ∙ then_more (codes "source ") (length source) (codes "\n") (source ++ 10 ∷ more) (10 ∷ (source ++ 10 ∷ more)) refl

module _ (bytes : List ℕ) (n : ℕ) (rest : List ℕ) (begins : bytes ≡ number_then (codes "source ") n 10 rest) (short : n ≤ LONGEST_TEXT) where
  size_once :
      (source more : List ℕ) → length source ≤ LONGEST_TEXT → bytes ≡ source_line source ++ more → (n ≡ length source) × (rest ≡ source ++ 10 ∷ more)
  size_once source more fits e =
      number_once (codes "source ") 10 n (length source) rest (source ++ 10 ∷ more) (omega arith) (omega arith) (omega arith)
      (sym begins ∙ e ∙ source_is source more)

  pub too_few_bytes : length rest ≤ n → NoSource bytes
  too_few_bytes few source more fits e =
      let same = size_once source more fits e in
      omega (arith, few, same.0, ap length same.1, length-append source (10 ∷ more))

  pub no_last_byte : get_or rest n 0 ≢ 10 → NoSource bytes
  no_last_byte other source more fits e =
      let same = size_once source more fits e in
      other (ap (λ (i : ℕ). get_or rest i 0) same.0 ∙ ap (λ (l : List ℕ). get_or l (length source) 0) same.1 ∙ get_or-append_seam source 10 more 0)

pub source_once :
    (source other x y : List ℕ) → length source ≤ LONGEST_TEXT → length other ≤ LONGEST_TEXT → source_line source ++ x ≡ source_line other ++ y →
    (source ≡ other) × (x ≡ y)
source_once source other x y short short' e =
    let same = size_once (source_line source ++ x) (length source) (source ++ 10 ∷ x) (source_is source x) short other y short' e in
    let bytes : source ≡ other =
    sym (take-append_seam source (10 ∷ x))
    ∙ ap (λ (n : ℕ). take n (source ++ 10 ∷ x)) same.0
    ∙ ap (λ (l : List ℕ). take (length other) l) same.1
    ∙ take-append_seam other (10 ∷ y) in (
      bytes,
      append_cancel_left (source ++ 10 ∷ []) x y
          (append_assoc source (10 ∷ []) x ∙ same.1 ∙ ap (λ (s : List ℕ). s ++ 10 ∷ y) (sym bytes) ∙ sym (append_assoc source (10 ∷ []) y)),
    )
