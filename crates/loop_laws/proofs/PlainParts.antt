-- The call by which a loop over the parts of a block is written out means the plain loop.
use Rattle.std.specs.Prelude.{◌≡◌, ℕ, ◌<◌, ◌≤◌, ◌^◌, Bool, true, false, List, [], ◌∷◌, map, length, drop, ℤ, Result, Ok, Err, Some, refl}
use Rattle.std.proofs.Common.{sym, ◌∙◌, ap, arith, subst}
use Rattle.std.proofs.lemmas.Bool.{not-true}
use Rattle.std.proofs.lemmas.List.{length-map}
use Rattle.dag_order.specs.declared.fault.FaultKind.{FaultKind}
use Rattle.language_limits.specs.declared.TheConstants.{LONGEST_BLOCK}
use Rattle.par_tree.specs.Tree
use Rattle.par_tree.specs.Tree.{Name, Expr, Arg, lend, call_stmt, integer, Param, Func}
use Rattle.par_tree.specs.Names.{param_names}
use Rattle.par_ownership.specs.Environment.{Environment, with_entry, param_entry}
use Rattle.par_ownership.specs.Ownership.{Passes, function_of, hands_back}
use Rattle.depth_first_run.specs.Stores.{Store, block_of, with_integer}
use Rattle.depth_first_run.specs.States.{Setting, State, Item, with_fault}
use Rattle.depth_first_run.specs.Run.{on_store, open_call, run}
use Rattle.loop_laws.specs.Outcomes.{added, KeepsLimits}
use Rattle.ownership_laws.proofs.Passing.{function_owned}
use Rattle.loop_laws.specs.HelperTrees.{integer_param, further_names, block_name, parts_helper}
use Rattle.loop_laws.specs.PlainLoop.{numbers_of, MeansTheSame}
use Rattle.loop_laws.proofs.Faulting.{Tells, tells_trans, unless_faulted_tells, call_told}
use Rattle.loop_laws.proofs.Readings.{ReadTheSame, longer, limits_split}
use Rattle.loop_laws.proofs.Arguments.{HaveNumbers, expressions_have, AllDiffer, integers_differ}
use Rattle.loop_laws.proofs.Bodies.{skipped_none, skipped_all}
use Rattle.loop_laws.proofs.PlainLoops.{after}
use Rattle.loop_laws.proofs.TwoRuns.{both_faulted, read_at, one_meaning, means_at}
use Rattle.loop_laws.proofs.Halving.{further_length}
use Rattle.loop_laws.proofs.Plain.{length_numbers}
use Rattle.loop_laws.specs.Parts.{parts_of}
use Rattle.loop_laws.specs.PartsLoop.{hold_again, sum_calls_on, parts_loop_with, plain_parts_loop, written_out_on}
use Rattle.loop_laws.specs.PartLoopLaws.{PartsLoopsArePlain}
use Rattle.loop_laws.proofs.Cutting.{first_part}
use Rattle.loop_laws.proofs.Blocks.{NoOther, one_held, again_twice, block_passed, call_opens_on, fault_called_on}
use Rattle.loop_laws.proofs.Through.{Reached, finish, on_store_told, through, sum_through, through_told}
use Rattle.loop_laws.proofs.HalvedBlocks.{loop_of_parts}

-- a function to which a block is lent has a first parameter
first_param : (env : Environment) (b : Name) (args : List Arg) (ps : List Param) → Passes env [] ps (lend b ∷ args) → (q : Param) × (qs : List Param) × (ps ≡ q ∷ qs)
first_param env b args [] h = absurd h
first_param env b args (q ∷ qs) h = (q, qs, refl)

-- the end of the loop leaves no item
finish_items : (b : Name) (r : Reached) → ((finish b r).items ≡ r.state.items) × ((finish b r).faulted ≡ r.state.faulted)
finish_items b r = by r.state.faulted refl
  where
    by : (t : Bool) → r.state.faulted ≡ t → ((finish b r).items ≡ r.state.items) × ((finish b r).faulted ≡ r.state.faulted)
    by true e = let same = skipped_all (on_store (hold_again b r.become)) r.state e in (ap (λ (z : State). z.items) same, ap (λ (z : State). z.faulted) same)
    by false e = let same = skipped_none (on_store (hold_again b r.become)) r.state e in (ap (λ (z : State). z.items) same, ap (λ (z : State). z.faulted) same)

module _ (c : Setting) (sum f : Name) (most k helper_line line : ℕ) (x b : Name) (g : Func) (q : Param) (qs : List Param)
    (is_f : function_of c.program f ≡ Some g) (lends : g.params ≡ q ∷ qs) (number_back : hands_back g.ret ≡ false)
    (is_sum : function_of c.program sum ≡ Some (parts_helper sum f most k helper_line)) (big : 16 ≤ most) (differ : AllDiffer (further_names k))
    (cs : List Expr) (as_many : length cs ≡ k) (s : State) (sf : s.faulted ≡ false) (alone : NoOther b s.store) (small : length (block_of s.store.blocks b) < 2 ^ 63) where
  abbrev helper : Func
  helper = parts_helper sum f most k helper_line

  abbrev integer_params : List Param
  integer_params = map integer_param (further_names k)

  abbrev items : List ℤ
  items = block_of s.store.blocks b

  abbrev written : State
  written = written_out_on c line sum x b cs s

  abbrev plain : State
  plain = plain_parts_loop c line f most x b cs s

  abbrev helper_called : List ℤ → State
  helper_called vs =
      open_call c (run c) line (integer x) (lend b ∷ map Tree.value cs) helper (block_passed b items block_name (param_names integer_params) vs s.store) s

  abbrev all_through : List ℤ → Reached
  all_through vs = through c line f x b vs true (parts_of most items) [] s

  -- a fault of an expression is the fault of both
  fault_means : (kind : FaultKind) → numbers_of s.store cs ≡ Err kind → MeansTheSame s written plain
  fault_means kind e =
      let many : length integer_params ≡ length cs = let a = length-map (further_names k) integer_param in let l = further_length k in omega (arith, a, l, as_many) in
      one_meaning s written plain (with_fault kind line s)
      (fault_called_on c line (integer x) sum b cs helper (record { name = block_name; kind = Tree.lent }) integer_params kind s is_sum refl many e)
      (ap (λ r. parts_loop_with c line f most x b r s) e)

  plain_through : (vs : List ℤ) → numbers_of s.store cs ≡ Ok vs → plain ≡ finish b (all_through vs)
  plain_through vs e =
      let some = first_part (length items) most items in
      ap (λ r. parts_loop_with c line f most x b r s) e
      ∙ ap (λ (ps : List (List ℤ)). sum_calls_on c line f x b vs ps s) some.2
      ∙ sum_through c line f x b vs some.0 some.1 s
      ∙ ap (λ (ps : List (List ℤ)). finish b (through c line f x b vs true ps [] s)) (sym some.2)

  parts_mean : (vs : List ℤ) → numbers_of s.store cs ≡ Ok vs → HaveNumbers s.store (map Tree.value cs) vs → KeepsLimits (added s (helper_called vs)) → KeepsLimits (added s (finish b (all_through vs)))
      → MeansTheSame s (helper_called vs) (finish b (all_through vs))
  unfolding after
  parts_mean vs e have ku kw =
      let u : State = helper_called vs in
      let r : Reached = all_through vs in
      let w : State = finish b r in
      let told_r : Tells s r.state = through_told c line f x b vs true (parts_of most items) [] s in
      let told_end : Tells r.state w = unless_faulted_tells (on_store (hold_again b r.become)) r.state (on_store_told (hold_again b r.become) r.state) in
      let kr = (limits_split s r.state w (longer s r.state told_r) (longer r.state w told_end) kw).0 in
      let same = loop_of_parts c sum f most k helper_line line x b vs g q qs is_f lends number_back is_sum big (length_numbers s.store cs vs e ∙ as_many) differ
      items small x b line (map Tree.value cs) s.store s s have alone sf sf ku kr in
      let ends = finish_items b r in
      let reading : ReadTheSame (added s u) (added s w) =
      read_at (added s u) (added s u) (added s w) (added s r.state) refl (ap (λ (is : List Item). drop (length s.items) is) ends.0) same.reading in
      let faults : u.faulted ≡ w.faulted =
      both_faulted s s u w (call_told c line (integer x) (lend b ∷ map Tree.value cs) helper (block_passed b items block_name (param_names integer_params) vs s.store) s)
      (tells_trans s r.state w told_r told_end) sf sf reading in
      record {
        lines = reading.lines;
        fault = reading.fault;
        faulted = faults;
        store = λ z.
            let a = same.left z in
            let rf : r.state.faulted ≡ false = sym ends.1 ∙ sym faults ∙ z in
            let w_is : w.store ≡ with_integer x a.total (hold_again b a.result s.store) =
            ap (λ (v : State). v.store) (skipped_none (on_store (hold_again b r.become)) r.state rf)
            ∙ (λ i. hold_again b (a.become i) (a.plain i))
            ∙ ap (λ (st : Store). with_integer x a.total st) (again_twice b a.last_part a.result s.store alone) in
            a.store ∙ sym w_is;
      }

  loop_means : KeepsLimits (added s written) → KeepsLimits (added s plain) → MeansTheSame s written plain
  loop_means ku kw = by (numbers_of s.store cs) refl
    where
      by : (r : Result (List ℤ) FaultKind) → numbers_of s.store cs ≡ r → MeansTheSame s written plain
      by (Err kind) e = fault_means kind e
      by (Ok vs) e =
          let have : HaveNumbers s.store (map Tree.value cs) vs = expressions_have s.store cs vs e in
          let u : written ≡ helper_called vs =
          call_opens_on c line (integer x) sum b (map Tree.value cs) helper (record { name = block_name; kind = Tree.lent }) integer_params vs s is_sum refl have in
          let w : plain ≡ finish b (all_through vs) = plain_through vs e in
          means_at s written plain (helper_called vs) (finish b (all_through vs)) u w
          (parts_mean vs e have (subst (λ (z : State). KeepsLimits (added s z)) u ku) (subst (λ (z : State). KeepsLimits (added s z)) w kw))

pub parts_loops : PartsLoopsArePlain
parts_loops c sum f most k helper_line own is big line x b cs s as_many sf one short ku kw =
    let helper : Func = parts_helper sum f most k helper_line in
    let owns = function_owned c.program c.program sum helper is own.functions in
    let called = owns.2.1.2.2.1.1.1.1.1 in
    let lends = first_param _ block_name _ called.0.params called.3 in
    let longest : LONGEST_BLOCK ≡ 1048576 = refl in
    loop_means c sum f most k helper_line line x b called.0 lends.0 lends.1 called.1 lends.2 (not-true (hands_back called.0.ret) called.2) is big
    (integers_differ helper_line (further_names k) (with_entry [] (param_entry (record { name = block_name; kind = Tree.lent }) helper_line)) owns.0 owns.1.1)
    cs as_many s sf (one_held b s.store one) (omega (arith, short, longest)) ku kw
