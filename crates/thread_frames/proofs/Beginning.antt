-- The beginning of the root.
use Rattle.std.proofs.Common.{◌≡◌, ℕ, zero, suc, List, [], ◌∷◌, map, length, Option, Some, None, Vec, append-nil, refl, sym, ◌∙◌, ap, subst, arith}
use Rattle.std.specs.Prelude.{slice_get, reverse}
use Rattle.std.proofs.Math.Logic.{∥∥₁_elim, ∥∥₁_map}
use denote.Struct.Props.{props}
use Rattle.std.specs.declared.alloc.Global.{Global}
use Rattle.language_limits.specs.declared.TheConstants.{MOST_CALLS, MOST_TURNS, MOST_FORKS}
use Rattle.thread_run.specs.Passed.Tree.{Name, Func, Program}
use Rattle.thread_run.specs.Passed.Ownership.{Ownership, function_of, main_name}
use Rattle.thread_run.proofs.Passed.NewNames.{first_of_its_name}
use Rattle.thread_state.specs.Passed.States.{Setting}
use Rattle.thread_state.specs.Passed.Run.{root_start}
use Rattle.thread_state.specs.Passed.Middle.{run_start}
use Rattle.node_table.specs.Names.{IsSlot, slot_names}
use Rattle.node_table.specs.Table.{Table, Function}
use Rattle.node_table.specs.Programs.{name_of, IsTableOf, IsAcceptedTable}
use Rattle.node_table.proofs.Distinct.{names_differ}
use Rattle.thread_state.specs.Passed.Agreement.{AreDistinct}
use Rattle.thread_stack.specs.declared.frame.Frame.{Frame}
use Rattle.thread_stack.specs.Frames.{AreFrames, IsFunctionOf}
use Rattle.thread_stack.proofs.Functions.{numbered}
use Rattle.thread_run.specs.Passed.Threads.{of_root, open_children}
use Rattle.thread_run.proofs.Passed.Telling.{thread_begins}
use Rattle.thread_run.proofs.Passed.Walking.{start_plain}
use Rattle.thread_output.specs.Telling.{Tells}
use Rattle.thread_output.specs.declared.told.Told.{Told}
use Rattle.thread_state.specs.States.{IsState}
use Rattle.thread_state.specs.declared.state.ThreadState.{ThreadState}
use Rattle.thread_state.proofs.Held.{holdings_are}
use Rattle.thread_state.specs.Settings.{IsSettingOf}
use Rattle.thread_run.specs.Going.{IsGoing}
use Rattle.thread_run.specs.declared.run.ThreadRun.{ThreadRun}
use Rattle.thread_frames.specs.Preparing.{BeginsMain, AreMainFrames}
use Rattle.thread_frames.specs.Points.{At, AreChildren, IsOfProgram}
use Rattle.thread_frames.specs.declared.prepared.Prepared.TheVariants.{Nothing}
use Rattle.thread_frames.proofs.Acting.{open_behind}

some_same : {A : Type 0} (x y : A) → Some x ≡ Some y → x ≡ y
some_same x y e = cc

pub same_slots : (f g : Function) → Some f ≡ Some g → f.slots ≡ g.slots
same_slots f g e = ap (λ (x : Function). x.slots) (some_same f g e)

pub no_function_there : {P : Type 0} (f : Function) → None ≡ Some f → P
no_function_there f e = let never : ⊥ = cc in absurd never

-- the setting of a program with a quota
setting_of : Program → ℕ → Setting
setting_of p k = record { program = p; quota = k; most_calls = MOST_CALLS; most_turns = MOST_TURNS; most_forks = MOST_FORKS }

pub of_program : (t : Table) (k : ℕ) → IsAcceptedTable t → IsOfProgram t k
unfolding setting_of
of_program t k accepted = ∥∥₁_map accepted (λ x.
    (setting_of x.0 k, record { owned = x.1; table = x.2; quota = refl; calls = refl; turns = refl; forks = refl }))

-- `main` is the function of its number
slot_at : (p : List Func) (n : ℕ) (x : Name) → IsSlot (map name_of p) n x → (g : Func) × (slice_get p n ≡ Some g) × (g.name ≡ x)
slot_at [] n x h = let b = h.below in absurd (omega (arith, b))
slot_at (f ∷ fs) zero x h = (f, refl, h.reads)
slot_at (f ∷ fs) (suc n) x h = slot_at fs n x (record { reads = h.reads; below = let b = h.below in omega (arith, b) })

pub record MainIs (p : Program) (t : Table) : Type 0 where
  pub main : Func
  pub found : function_of p main_name ≡ Some main
  pub is : IsFunctionOf p t t.main main

pub main_is : (p : Program) (t : Table) → Ownership p → IsTableOf p t → MainIs p t
main_is p t owned table =
    let here = slot_at p t.main main_name table.main in
    record {
      main = here.0;
      found = subst (λ (x : Name). function_of p x ≡ Some here.0) here.2 (first_of_its_name p owned t.main here.0 here.1);
      is = numbered p t t.main here.0 table here.1;
    }

-- the root before its first statement
goes : (c : Setting) (t : Table) (k : ℕ) (main count : ℕ) (state : ThreadState) (frames : Vec Frame Global) (told : Told) → main ≡ t.main
    → ((f : Function) → slice_get t.funcs main ≡ Some f → count ≡ f.slots)
    → ((c : Setting) (names : List Name) → c.most_turns ≡ MOST_TURNS → AreDistinct names → length names ≡ count → IsState (names ∷ []) state (root_start c))
    → AreMainFrames t main frames.items → Tells told [] → IsSettingOf t k c
    → (g : Func) × IsGoing c t (g ∷ []) (record { func = Some main; state = state; frames = frames; told = told }) (run_start c (function_of c.program main_name)).frames (root_start c) []
goes c t k main count state frames told same slots begins main_frames nothing of =
    let m = main_is c.program t of.owned of.table in
    let is : IsFunctionOf c.program t main m.main = subst (λ (n : ℕ). IsFunctionOf c.program t n m.main) (sym same) m.is in (
      m.main,
      record {
        runs = is;
        frames = subst (λ (o : Option Func). AreFrames c.program t (m.main ∷ []) (reverse frames.items) (run_start c o).frames) (sym m.found) (main_frames.0 c.program m.main is (sym same));
        state = begins c (slot_names m.main) of.turns (names_differ m.main) (sym (slots is.code is.there ∙ is.is.slots));
        tells = nothing;
      },
    )

pub begins_main : (t : Table) (main count : ℕ) (state : ThreadState) (frames : Vec Frame Global) (told : Told) → IsAcceptedTable t → main ≡ t.main
    → ((f : Function) → slice_get t.funcs main ≡ Some f → count ≡ f.slots)
    → ((c : Setting) (names : List Name) → c.most_turns ≡ MOST_TURNS → AreDistinct names → length names ≡ count → IsState (names ∷ []) state (root_start c))
    → AreMainFrames t main frames.items → Tells told []
    → BeginsMain t (record { func = Some main; state = state; frames = frames; told = told })
begins_main t main count state frames told accepted same slots begins main_frames nothing =
    let known = of_program t 0 accepted in
    record {
      label = ∥∥₁_elim known (search props) (λ x. (goes x.0 t 0 main count state frames told same slots begins main_frames nothing x.1).1.state.label);
      done = ∥∥₁_elim known (search props) (λ x. (goes x.0 t 0 main count state frames told same slots begins main_frames nothing x.1).1.state.done);
      held = ∥∥₁_elim known (search props) (λ x.
          (let g = goes x.0 t 0 main count state frames told same slots begins main_frames nothing x.1 in
          holdings_are (slot_names g.0 ∷ []) state (root_start x.0) g.1.state));
      func = ap Some same;
      only = main_frames.1;
      goes = λ c k of. goes c t k main count state frames told same slots begins main_frames nothing of;
    }

-- it is at its point
pub root_at : (c : Setting) (t : Table) (k : ℕ) (run : ThreadRun) → BeginsMain t run → IsSettingOf t k c → At c t run.func run [] None Nothing
root_at c t k run h of =
    let g = h.goes c k of in
    let own = (run_start c (function_of c.program main_name)).frames in
    let none : open_children own ≡ [] =
    sym (ap open_children (append-nil own)) ∙ open_behind own [] (start_plain c (function_of c.program main_name)) in
    record {
      functions = g.0 ∷ [];
      own = own;
      at = root_start c;
      part = [];
      older = [];
      point = thread_begins c own (root_start c) of_root;
      stands = g.1;
      children = subst (λ os. AreChildren c t [] os [] []) (sym none) tt;
      run_in = h.only;
      record_block = refl;
    }
