-- How long the text of a trail is.
use Rattle.std.proofs.Common.{◌≡◌, ℕ, ◌+◌, ◌*◌, ◌≤◌, ◌<◌, ◌^◌, List, [], ◌∷◌, ◌++◌, length, map, arith, length-append}
use Rattle.std.specs.Prelude.{codes}
use Rattle.std.specs.List.{concat}
use Rattle.std.specs.Fmt.{decimal}
use Rattle.std.proofs.lemmas.Fmt.{length-decimal-le}
use Rattle.language_limits.specs.declared.TheConstants.{MOST_TRAIL, MOST_WORKERS}
use Rattle.trail_meaning.specs.Ranges.{HasTrailRanges, FitsKind, FitEvents, FitNumbers, FitSetting}
use Rattle.trail_meaning.specs.Shown.{TrailShown}
use Rattle.trail_meaning.specs.declared.trail_event.TrailEvent.{TrailEvent}
use Rattle.trail_meaning.specs.declared.trail_kind.TrailKind.{TrailKind}
use Rattle.trail_meaning.specs.declared.trail_kind.TrailKind.TheVariants.{Steal, Act, Suspend, GiveUp}
use Rattle.trail_meaning.specs.declared.trail_numbers.TrailNumbers.{TrailNumbers}
use Rattle.trail_text.specs.TrailText.{head_line, source_front, source_line, kind_words, event_line, end_line, trail_text}

-- a number of 64 bits has at most 20 digits
digits : (n : ℕ) → n < 2 ^ 64 → length (decimal n) ≤ 20
digits n small = length-decimal-le 20 n (omega arith) (omega arith) small

kind_length : (kind : TrailKind) → FitsKind kind → length (kind_words kind) ≤ 10
kind_length (Steal place) fits =
    let size = length-append (codes "steal ") (decimal place) in
    let few = length-decimal-le 4 place (omega arith) (omega arith) (omega (arith, fits)) in omega (arith, size, few)
kind_length Act fits = omega arith
kind_length Suspend fits = omega arith
kind_length GiveUp fits = omega arith

event_length : (p : ℕ) (event : TrailEvent) → p ≤ MOST_WORKERS → (event.worker < p) → FitsKind event.kind → length (event_line event) ≤ 14
event_length p event few below fits =
    let worker = length-decimal-le 2 event.worker (omega arith) (omega arith) (omega (arith, below, few)) in
    let kind = kind_length event.kind fits in
    let a = length-append (decimal event.worker) (32 ∷ (kind_words event.kind ++ 10 ∷ [])) in
    let b = length-append (kind_words event.kind) (10 ∷ []) in omega (arith, worker, kind, a, b)

events_length : (p : ℕ) (events : List TrailEvent) → p ≤ MOST_WORKERS → FitEvents p events → length (concat (map event_line events)) ≤ 14 * length events
events_length p [] few fit = omega arith
events_length p (event ∷ events) few fit =
    let one = event_length p event few fit.0.0 fit.0.1 in let rest = events_length p events few fit.1 in
    let size = length-append (event_line event) (concat (map event_line events)) in omega (arith, one, rest, size)

head_length : (k p words actions lists : ℕ) → FitSetting k p words actions lists → length (head_line k p words actions lists) ≤ 200
head_length k p words actions lists fits =
    let a = digits k (let h = fits.quota.1 in omega (arith, h)) in let b = digits p (let h = fits.workers.1 in omega (arith, h)) in
    let c = digits words (let h = fits.arena.1 in omega (arith, h)) in let d = digits actions (let h = fits.steps.1 in omega (arith, h)) in
    let e = digits lists (let h = fits.deques.1 in omega (arith, h)) in
    let t5 = codes " deques " ++ (decimal lists ++ codes "\n") in
    let t4 = codes " steps " ++ (decimal actions ++ t5) in
    let t3 = codes " arena " ++ (decimal words ++ t4) in
    let t2 = codes " p " ++ (decimal p ++ t3) in
    let s1 = length-append (codes "trail k ") (decimal k ++ t2) in let s2 = length-append (decimal k) t2 in
    let s3 = length-append (codes " p ") (decimal p ++ t3) in let s4 = length-append (decimal p) t3 in
    let s5 = length-append (codes " arena ") (decimal words ++ t4) in let s6 = length-append (decimal words) t4 in
    let s7 = length-append (codes " steps ") (decimal actions ++ t5) in let s8 = length-append (decimal actions) t5 in
    let s9 = length-append (codes " deques ") (decimal lists ++ codes "\n") in let s10 = length-append (decimal lists) (codes "\n") in
    omega (arith, a, b, c, d, e, s1, s2, s3, s4, s5, s6, s7, s8, s9, s10)

source_length : (source : List ℕ) → length source < 2 ^ 64 → length (source_line source) ≤ length source + 40
source_length source small =
    let few = digits (length source) small in
    let front = length-append (codes "source ") (decimal (length source) ++ codes "\n") in
    let digit = length-append (decimal (length source)) (codes "\n") in
    let whole = length-append (source_front (length source)) (source ++ codes "\n") in
    let rest = length-append source (codes "\n") in omega (arith, few, front, digit, whole, rest)

end_length : (n : TrailNumbers) → FitNumbers n → length (end_line n) ≤ 100
end_length n fits =
    let a = digits n.periods fits.0 in let b = digits n.ahead fits.1 in let c = digits n.high fits.2 in
    let t3 = codes " high " ++ (decimal n.high ++ codes "\n") in
    let t2 = codes " ahead " ++ (decimal n.ahead ++ t3) in
    let s1 = length-append (codes "end periods ") (decimal n.periods ++ t2) in let s2 = length-append (decimal n.periods) t2 in
    let s3 = length-append (codes " ahead ") (decimal n.ahead ++ t3) in let s4 = length-append (decimal n.ahead) t3 in
    let s5 = length-append (codes " high ") (decimal n.high ++ codes "\n") in let s6 = length-append (decimal n.high) (codes "\n") in
    omega (arith, a, b, c, s1, s2, s3, s4, s5, s6)

concat_append : (xs ys : List (List ℕ)) → length (concat (xs ++ ys)) ≡ length (concat xs) + length (concat ys)
concat_append [] ys = omega arith
concat_append (x ∷ xs) ys =
    let rest = concat_append xs ys in let a = length-append x (concat (xs ++ ys)) in let b = length-append x (concat xs) in omega (arith, rest, a, b)

-- the text of a trail with so few events has at most the bytes of one
pub trail_is_short : (t : TrailShown) → HasTrailRanges t → length t.events ≤ 2000128 → length (trail_text t) ≤ MOST_TRAIL
trail_is_short t ranges few =
    let head = head_length t.k t.p t.arena t.steps t.deques ranges.setting in
    let source = source_length t.source (let h = ranges.source in omega (arith, h)) in
    let long = ranges.source in
    let events = events_length t.p t.events ranges.setting.workers.1 ranges.events in
    let end = end_length t.numbers ranges.numbers in
    let lines = map event_line t.events in
    let tail = lines ++ end_line t.numbers ∷ [] in
    let a = length-append (head_line t.k t.p t.arena t.steps t.deques) (source_line t.source ++ concat tail) in
    let b = length-append (source_line t.source) (concat tail) in
    let c = concat_append lines (end_line t.numbers ∷ []) in
    let d = length-append (end_line t.numbers) [] in
    omega (arith, head, source, long, events, end, a, b, c, d, few)
