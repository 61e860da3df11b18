-- A token that opens a construct is a token, and then there is room or not.
use Rattle.std.proofs.Common.{◌≡◌, ℕ, suc, ◌-◌, ◌<◌, Bool, true, false, List, [], ◌∷◌, length, Ok, Err, refl, ap, arith, ◌∙◌}
use Rattle.std.specs.Prelude.{if◌then◌else◌}
use Rattle.par_text.specs.declared.kind.Kind.{Kind}
use Rattle.par_text.specs.declared.stop.Stop.TheVariants.{Expected, TooDeep}
use Rattle.par_text.specs.Kinds.{is}
use Rattle.par_text.specs.Rule.{Token}
use Rattle.par_text.specs.Reading.{Answer, ◌>>=◌, opened, read_token, read_open}
use Rattle.par_parse.specs.declared.parse_error.ParseError.{ParseError}
use Rattle.par_parse.specs.declared.parse_error.ParseError.TheVariants.{Memory, Stopped}
use Rattle.par_parse.specs.Gives.{Fails}

open_is : (n : ℕ) (k : Kind) (ts : List Token) → read_open n k ts ≡ (read_token k ts >>= λ x. opened n ts x.1)
open_is n k [] = refl
open_is n k (t ∷ ts) = chosen (is k t.kind)
  where
    chosen : (b : Bool) → (if b then opened n (t ∷ ts) ts else Err (Expected, length (t ∷ ts))) ≡ ((if b then Ok (t, ts) else Err (Expected, length (t ∷ ts))) >>= λ x. opened n (t ∷ ts) x.1)
    chosen true = refl
    chosen false = refl

pub no_token : (e : ParseError) (n : ℕ) (k : Kind) (ts : List Token) → Fails e (read_token k ts) → Fails e (read_open n k ts)
no_token Memory n k ts h = tt
no_token (Stopped stop left) n k ts h = open_is n k ts ∙ ap (λ (a : Answer Token). a >>= λ x. opened n ts x.1) h

pub no_room : (n : ℕ) (k : Kind) (ts : List Token) (t : Token) (rest : List Token) → n ≡ 0 → read_token k ts ≡ Ok (t, rest) → read_open n k ts ≡ Err (TooDeep, length ts)
no_room n k ts t rest none h =
    open_is n k ts
    ∙ ap (λ (a : Answer Token). a >>= λ x. opened n ts x.1) h
    ∙ ap (λ m. opened m ts rest) none

pub some_room : (n : ℕ) (k : Kind) (ts : List Token) (t : Token) (rest : List Token) → 0 < n → read_token k ts ≡ Ok (t, rest) → read_open n k ts ≡ Ok (n - 1, rest)
some_room n k ts t rest some h =
    let more : n ≡ suc (n - 1) = omega arith in
    open_is n k ts
    ∙ ap (λ (a : Answer Token). a >>= λ x. opened n ts x.1) h
    ∙ ap (λ m. opened m ts rest) more
