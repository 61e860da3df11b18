-- A loop is read exactly where the tokens begin with one, and as that one.
use Rattle.std.proofs.Common.{◌≡◌, ℕ, Bool, true, false, cond, inl, inr, List, [], ◌∷◌, ◌++◌, length, Result, Ok, Err, refl, sym, ap, ◌∙◌}
use Rattle.std.specs.Prelude.{◌&&◌, Some, None}
use Rattle.par_text.specs.declared.kind.Kind.{Kind}
use Rattle.par_text.specs.declared.kind.Kind.TheVariants.{Name, LeftParen, RightParen, Comma, Semicolon, Assign, Par, Call}
use Rattle.par_text.specs.Kinds.{is}
use Rattle.par_text.proofs.KindLemmas.{is-self}
use Rattle.par_lex.specs.declared.lexeme.Lexeme.{Lexeme}
use Rattle.loop_expand.specs.Loops.{Loop, Element, sign, word, StandFirst, range_form, others_form, loop_form, BeginsLoop, next_is, begins_call, AreLoops, no_token, no_call, one_loop}
use Rattle.loop_expand.specs.Expansion.{IsBad, FirstAt}
use Rattle.loop_expand.specs.Reading.{Answer, ◌>>=◌, read_one, read_range, read_others, Head, read_target, read_head, read_closing, whole, read_loop, with_loop, loops_of}
use Rattle.loop_expand.proofs.Nesting.{some_same, Stops}
use Rattle.loop_expand.proofs.Elements.{step_of, behind_step, at_same, one_found, one_read, stand_join, stand_cut, stops_before, range_found, range_read, others_found, others_stop, others_short, others_read}

-- `par call X = F (`

abbrev target_form : Lexeme × Lexeme → List Element
target_form x = word Par x.0 ∷ sign Call ∷ word Name x.1 ∷ sign Assign ∷ []

abbrev head_form : Head → List Element
head_form h = word Par h.opening ∷ sign Call ∷ word Name h.target ∷ sign Assign ∷ word Name h.function ∷ sign LeftParen ∷ []

abbrev closing_form : Lexeme → List Element
closing_form z = sign RightParen ∷ word Semicolon z ∷ []

target_found : (ts : List Lexeme) (x : (Lexeme × Lexeme) × List Lexeme) → read_target ts ≡ Some x → StandFirst (target_form x.0) ts x.1
unfolding read_target
target_found ts x e =
    let a = step_of (read_one Par ts) (λ p. read_one Call p.1 >>= λ c. read_one Name c.1 >>= λ x. read_one Assign x.1 >>= λ e. Some ((p.0, x.0), e.1)) x e in
    let b = step_of (read_one Call a.middle.1) (λ c. read_one Name c.1 >>= λ x. read_one Assign x.1 >>= λ e. Some ((a.middle.0, x.0), e.1)) x a.second in
    let c = step_of (read_one Name b.middle.1) (λ x. read_one Assign x.1 >>= λ e. Some ((a.middle.0, x.0), e.1)) x b.second in
    let d = step_of (read_one Assign c.middle.1) (λ e. Some ((a.middle.0, c.middle.0), e.1)) x c.second in
    let is_call = one_found Call a.middle.1 b.middle b.first in
    let is_assign = one_found Assign c.middle.1 d.middle d.first in
    at_same (λ v l. StandFirst (target_form v) ts l) ((a.middle.0, c.middle.0), d.middle.1) x (some_same ((a.middle.0, c.middle.0), d.middle.1) x d.second) (
      a.middle.1,
      one_found Par ts a.middle a.first,
      (b.middle.1, (b.middle.0, is_call.0, is_call.1), (c.middle.1, one_found Name b.middle.1 c.middle c.first, (d.middle.1, (d.middle.0, is_assign.0, is_assign.1), refl))),
    )

target_read : (x : Lexeme × Lexeme) (ts behind : List Lexeme) → StandFirst (target_form x) ts behind → read_target ts ≡ Some (x, behind)
unfolding read_target
target_read x ts behind here =
    let called = here.2 in
    let named = called.2 in
    let assigned = named.2 in
    behind_step (read_one Par ts) (λ p. read_one Call p.1 >>= λ c. read_one Name c.1 >>= λ x. read_one Assign x.1 >>= λ e. Some ((p.0, x.0), e.1)) (x.0, here.0) (one_read Par ts x.0 here.0 here.1.0 here.1.1)
    ∙ behind_step (read_one Call here.0) (λ c. read_one Name c.1 >>= λ y. read_one Assign y.1 >>= λ e. Some ((x.0, y.0), e.1)) (called.1.0, called.0) (one_read Call here.0 called.1.0 called.0 called.1.1 called.1.2)
    ∙ behind_step (read_one Name called.0) (λ y. read_one Assign y.1 >>= λ e. Some ((x.0, y.0), e.1)) (x.1, named.0) (one_read Name called.0 x.1 named.0 named.1.0 named.1.1)
    ∙ behind_step (read_one Assign named.0) (λ e. Some ((x.0, x.1), e.1)) (assigned.1.0, assigned.0) (one_read Assign named.0 assigned.1.0 assigned.0 assigned.1.1 assigned.1.2)
    ∙ ap (λ (l : List Lexeme). Some (x, l)) assigned.2

abbrev head_of : Lexeme × Lexeme → Lexeme → Head
head_of x f = record { opening = x.0; target = x.1; function = f }

head_found : (ts : List Lexeme) (x : Head × List Lexeme) → read_head ts ≡ Some x → StandFirst (head_form x.0) ts x.1
unfolding read_head
head_found ts x e =
    let a = step_of (read_target ts) (λ x. read_one Name x.1 >>= λ f. read_one LeftParen f.1 >>= λ o. Some (head_of x.0 f.0, o.1)) x e in
    let b = step_of (read_one Name a.middle.1) (λ f. read_one LeftParen f.1 >>= λ o. Some (head_of a.middle.0 f.0, o.1)) x a.second in
    let c = step_of (read_one LeftParen b.middle.1) (λ o. Some (head_of a.middle.0 b.middle.0, o.1)) x b.second in
    let is_open = one_found LeftParen b.middle.1 c.middle c.first in
    at_same (λ v l. StandFirst (head_form v) ts l) (head_of a.middle.0 b.middle.0, c.middle.1) x (some_same (head_of a.middle.0 b.middle.0, c.middle.1) x c.second)
    (stand_join (target_form a.middle.0) (word Name b.middle.0 ∷ sign LeftParen ∷ []) ts a.middle.1 c.middle.1 (target_found ts a.middle a.first)
    (b.middle.1, one_found Name a.middle.1 b.middle b.first, (c.middle.1, (c.middle.0, is_open.0, is_open.1), refl)))

head_read : (h : Head) (ts behind : List Lexeme) → StandFirst (head_form h) ts behind → read_head ts ≡ Some (h, behind)
unfolding read_head
head_read h ts behind here =
    let cut = stand_cut (target_form (h.opening, h.target)) (word Name h.function ∷ sign LeftParen ∷ []) ts behind here in
    let called = cut.back in
    let opened = called.2 in
    behind_step (read_target ts) (λ x. read_one Name x.1 >>= λ f. read_one LeftParen f.1 >>= λ o. Some (head_of x.0 f.0, o.1)) ((h.opening, h.target), cut.middle) (target_read (h.opening, h.target) ts cut.middle cut.front)
    ∙ behind_step (read_one Name cut.middle) (λ f. read_one LeftParen f.1 >>= λ o. Some (head_of (h.opening, h.target) f.0, o.1)) (h.function, called.0) (one_read Name cut.middle h.function called.0 called.1.0 called.1.1)
    ∙ behind_step (read_one LeftParen called.0) (λ o. Some (h, o.1)) (opened.1.0, opened.0) (one_read LeftParen called.0 opened.1.0 opened.0 opened.1.1 opened.1.2)
    ∙ ap (λ (l : List Lexeme). Some (h, l)) opened.2

closing_found : (ts : List Lexeme) (x : Lexeme × List Lexeme) → read_closing ts ≡ Some x → StandFirst (closing_form x.0) ts x.1
unfolding read_closing
closing_found ts x e =
    let a = step_of (read_one RightParen ts) (λ z. read_one Semicolon z.1) x e in
    let is_closing = one_found RightParen ts a.middle a.first in
    (a.middle.1, (a.middle.0, is_closing.0, is_closing.1), (x.1, one_found Semicolon a.middle.1 x a.second, refl))

closing_read : (z : Lexeme) (ts behind : List Lexeme) → StandFirst (closing_form z) ts behind → read_closing ts ≡ Some (z, behind)
unfolding read_closing
closing_read z ts behind here =
    let ended = here.2 in
    behind_step (read_one RightParen ts) (λ z. read_one Semicolon z.1) (here.1.0, here.0) (one_read RightParen ts here.1.0 here.0 here.1.1 here.1.2)
    ∙ one_read Semicolon here.0 z ended.0 ended.1.0 ended.1.1
    ∙ ap (λ (l : List Lexeme). Some (z, l)) ended.2

-- whole loops

pub loop_found : (ts : List Lexeme) (x : Loop × List Lexeme) → read_loop ts ≡ Some x → StandFirst (loop_form x.0) ts x.1
unfolding read_loop
loop_found ts x e =
    let a = step_of (read_head ts) (λ h. read_range h.1 >>= λ r. read_others (length r.1) r.1 >>= λ rs. read_closing rs.1 >>= λ z. Some (whole h.0 r.0 rs.0 z.0, z.1)) x e in
    let b = step_of (read_range a.middle.1) (λ r. read_others (length r.1) r.1 >>= λ rs. read_closing rs.1 >>= λ z. Some (whole a.middle.0 r.0 rs.0 z.0, z.1)) x a.second in
    let c = step_of (read_others (length b.middle.1) b.middle.1) (λ rs. read_closing rs.1 >>= λ z. Some (whole a.middle.0 b.middle.0 rs.0 z.0, z.1)) x b.second in
    let d = step_of (read_closing c.middle.1) (λ z. Some (whole a.middle.0 b.middle.0 c.middle.0 z.0, z.1)) x c.second in
    at_same (λ v l. StandFirst (loop_form v) ts l) (whole a.middle.0 b.middle.0 c.middle.0 d.middle.0, d.middle.1) x (some_same (whole a.middle.0 b.middle.0 c.middle.0 d.middle.0, d.middle.1) x d.second)
    (stand_join (head_form a.middle.0) (range_form b.middle.0 ++ (others_form c.middle.0 ++ closing_form d.middle.0)) ts a.middle.1 d.middle.1 (head_found ts a.middle a.first)
    (stand_join (range_form b.middle.0) (others_form c.middle.0 ++ closing_form d.middle.0) a.middle.1 b.middle.1 d.middle.1 (range_found a.middle.1 b.middle b.first)
    (stand_join (others_form c.middle.0) (closing_form d.middle.0) b.middle.1 c.middle.1 d.middle.1 (others_found (length b.middle.1) b.middle.1 c.middle c.first)
    (closing_found c.middle.1 d.middle d.first))))

abbrev head_in : Loop → Head
head_in l = record { opening = l.opening; target = l.target; function = l.function }

closing_stops : (z : Lexeme) (ts behind : List Lexeme) → StandFirst (closing_form z) ts behind → Stops ts × (next_is Comma ts ≡ false)
closing_stops z ts behind here =
    (stops_before RightParen ts here.1.0 here.0 refl here.1.1 here.1.2, ap (λ (l : List Lexeme). next_is Comma l) here.1.1 ∙ ap (λ (k : Kind). is Comma k) here.1.2)

pub loop_read : (l : Loop) (ts behind : List Lexeme) → StandFirst (loop_form l) ts behind → read_loop ts ≡ Some (l, behind)
unfolding read_loop
loop_read l ts behind here =
    let a = stand_cut (head_form (head_in l)) (range_form l.range ++ (others_form l.others ++ closing_form l.closing)) ts behind here in
    let b = stand_cut (range_form l.range) (others_form l.others ++ closing_form l.closing) a.middle behind a.back in
    let c = stand_cut (others_form l.others) (closing_form l.closing) b.middle behind b.back in
    let stops = closing_stops l.closing c.middle behind c.back in
    let others_stopped : Stops b.middle = others_stop l.others b.middle c.middle c.front stops.0 in
    behind_step (read_head ts) (λ h. read_range h.1 >>= λ r. read_others (length r.1) r.1 >>= λ rs. read_closing rs.1 >>= λ z. Some (whole h.0 r.0 rs.0 z.0, z.1)) (head_in l, a.middle) (head_read (head_in l) ts a.middle a.front)
    ∙ behind_step (read_range a.middle) (λ r. read_others (length r.1) r.1 >>= λ rs. read_closing rs.1 >>= λ z. Some (whole (head_in l) r.0 rs.0 z.0, z.1)) (l.range, b.middle) (range_read l.range a.middle b.middle b.front others_stopped)
    ∙ behind_step (read_others (length b.middle) b.middle) (λ rs. read_closing rs.1 >>= λ z. Some (whole (head_in l) l.range rs.0 z.0, z.1)) (l.others, c.middle)
    (others_read l.others (length b.middle) b.middle c.middle (others_short l.others b.middle c.middle c.front) c.front stops.0 stops.1)
    ∙ behind_step (read_closing c.middle) (λ z. Some (whole (head_in l) l.range l.others z.0, z.1)) (l.closing, behind) (closing_read l.closing c.middle behind c.back)

-- a loop begins with `par call`
pub loop_begins : (l : Loop) (ts : List Lexeme) → BeginsLoop l ts → begins_call ts ≡ true
loop_begins l ts here =
    let first = here.1 in
    let second = first.2 in
    let is_par : is Par l.opening.kind ≡ true = is-self Par l.opening.kind first.1.1 in
    let is_call : next_is Call first.0 ≡ true = ap (λ (r : List Lexeme). next_is Call r) second.1.1 ∙ is-self Call second.1.0.kind second.1.2 in
    ap begins_call first.1.0 ∙ (λ i. is_par i && is_call i)

-- all loops

pub no_loop : (ts : List Lexeme) → read_loop ts ≡ None → (l : Loop) → ¬ (BeginsLoop l ts)
no_loop ts none l here = let same = sym none ∙ loop_read l ts here.0 here.1 in cc

by_test : (t : Lexeme) (ts : List Lexeme) (b : Bool) → begins_call (t ∷ ts) ≡ b → loops_of (t ∷ ts) ≡ cond b (with_loop (read_loop (t ∷ ts)) t.at (loops_of ts)) (loops_of ts)
unfolding loops_of
by_test t ts b is = ap (λ (c : Bool). cond c (with_loop (read_loop (t ∷ ts)) t.at (loops_of ts)) (loops_of ts)) is

-- what is read of a list of tokens
abbrev pub Reads : List Lexeme → Result (List Loop) ℕ → Type 0
Reads ts (Ok ls) = AreLoops ts ls
Reads ts (Err at) = FirstAt IsBad ts at

reads_other : (t : Lexeme) (ts : List Lexeme) (r : Result (List Loop) ℕ) → begins_call (t ∷ ts) ≡ false → Reads ts r → Reads (t ∷ ts) r
reads_other t ts (Ok ls) other more = no_call t ts ls other more
reads_other t ts (Err at) other more = inr ((λ bad. let same = sym other ∙ bad.0 in cc), more)

reads_loop : (t : Lexeme) (ts : List Lexeme) (x : Answer Loop) (r : Result (List Loop) ℕ) → begins_call (t ∷ ts) ≡ true → read_loop (t ∷ ts) ≡ x → Reads ts r → Reads (t ∷ ts) (with_loop x t.at r)
reads_loop t ts None r call none more = inl ((call, no_loop (t ∷ ts) none), refl)
reads_loop t ts (Some l) (Ok ls) call found more = one_loop t ts l.0 ls (l.1, loop_found (t ∷ ts) l found) more
reads_loop t ts (Some l) (Err at) call found more = inr ((λ bad. bad.1 l.0 (l.1, loop_found (t ∷ ts) l found)), more)

pub reads : (ts : List Lexeme) → Reads ts (loops_of ts)
unfolding loops_of
reads [] = no_token
reads (t ∷ ts) = by_call (begins_call (t ∷ ts)) refl (reads ts)
  where
    by_call : (b : Bool) → begins_call (t ∷ ts) ≡ b → Reads ts (loops_of ts) → Reads (t ∷ ts) (cond b (with_loop (read_loop (t ∷ ts)) t.at (loops_of ts)) (loops_of ts))
    by_call true call more = reads_loop t ts (read_loop (t ∷ ts)) (loops_of ts) call refl more
    by_call false other more = reads_other t ts (loops_of ts) other more

-- and nothing else
pub are_read : (ts : List Lexeme) (ls : List Loop) → AreLoops ts ls → loops_of ts ≡ Ok ls
unfolding loops_of
are_read ts ls no_token = refl
are_read ts ls (no_call t us ms other rest) = by_test t us false other ∙ are_read us ms rest
are_read ts ls (one_loop t us l ms here rest) =
    by_test t us true (loop_begins l (t ∷ us) here)
    ∙ (λ i. with_loop (loop_read l (t ∷ us) here.0 here.1 i) t.at (are_read us ms rest i))

pub bad_is_read : (ts : List Lexeme) (at : ℕ) → FirstAt IsBad ts at → loops_of ts ≡ Err at
unfolding loops_of
bad_is_read [] at none = absurd none
bad_is_read (t ∷ ts) at (inl here) =
    by_test t ts true here.0.0 ∙ by_answer (read_loop (t ∷ ts)) refl
  where
    by_answer : (x : Answer Loop) → read_loop (t ∷ ts) ≡ x → with_loop x t.at (loops_of ts) ≡ Err at
    by_answer None is = ap (λ (n : ℕ). Err n) (sym here.1)
    by_answer (Some l) is = absurd (here.0.1 l.0 (l.1, loop_found (t ∷ ts) l is))
bad_is_read (t ∷ ts) at (inr behind) =
    by_test t ts (begins_call (t ∷ ts)) refl ∙ by_call (begins_call (t ∷ ts)) refl (bad_is_read ts at behind.1)
  where
    by_answer : (x : Answer Loop) → begins_call (t ∷ ts) ≡ true → read_loop (t ∷ ts) ≡ x → loops_of ts ≡ Err at → with_loop x t.at (loops_of ts) ≡ Err at
    by_answer None call is more = absurd (behind.0 (call, no_loop (t ∷ ts) is))
    by_answer (Some l) call is more = ap (λ (r : Result (List Loop) ℕ). with_loop (Some l) t.at r) more

    by_call : (b : Bool) → begins_call (t ∷ ts) ≡ b → loops_of ts ≡ Err at → cond b (with_loop (read_loop (t ∷ ts)) t.at (loops_of ts)) (loops_of ts) ≡ Err at
    by_call true call more = by_answer (read_loop (t ∷ ts)) call refl more
    by_call false other more = more
