-- Functions of a program, one after the other in a table that grows.
use Rattle.std.proofs.Common.{◌≡◌, ℕ, List, [], ◌∷◌, ◌++◌, length, refl, sym, ap, ◌∙◌, subst, arith, append_assoc, append-nil}
use Rattle.std.specs.Prelude.{Option}
use Rattle.par_tree.specs.Tree
use Rattle.par_tree.specs.Tree.{Name}
use Rattle.par_tree.specs.View.{func_tree, params_tree, body_tree, ret_tree, program_tree}
use Rattle.par_tree.specs.declared.func.Func.{Func}
use Rattle.par_tree.specs.declared.param.Param.{Param}
use Rattle.par_tree.specs.declared.stmt.Stmt.{Stmt}
use Rattle.par_tree.specs.declared.program.Program.{Program as RustProgram}
use Rattle.par_ownership.specs.Ownership.{main_name}
use Rattle.par_tree.specs.Names.{param_names}
use Rattle.block_check.specs.Shown.{funcs_tree}
use Rattle.node_table.specs.Table.{Ret, Node, Function, Table}
use Rattle.node_table.specs.Names.{slot_names, IsSlot}
use Rattle.node_table.specs.Reading.{AreSlots, IsReturn}
use Rattle.node_table.specs.Programs.{IsBody, IsFunc, AreFuncs, function_names, IsTableOf}
use Rattle.frame_code.specs.Growing.{Grown}
use Rattle.frame_code.specs.Numbers.{func_names}
use Rattle.frame_code.proofs.Tables.{body_kept, keeps_grown, grown_same, grown_trans}

pub names_are : (fs : List Func) → func_names fs ≡ function_names (funcs_tree fs)
names_are [] = refl
names_are (f ∷ fs) = ap (λ (v : List Name). (func_tree f).name ∷ v) (names_are fs)

func_kept : (t u : List Node) (functions : List Name) (f : Tree.Func) (c : Function) → Grown t u → IsFunc t functions f c → IsFunc u functions f c
func_kept t u functions f c g h = record {
  slots = h.slots;
  params = h.params;
  body = body_kept functions (slot_names f) t u f.body 0 0 c.body (omega arith) (keeps_grown 0 t u g) h.body;
  ret = h.ret;
}

-- the functions so far, with those of what is left in a longer table, are all functions
pub record Gathered (functions : List Name) (now : List Node) (whole rest : List Tree.Func) (codes : List Function) : Type 0 where
  pub continues : (u : List Node) → Grown now u → (more : List Function) → AreFuncs u functions rest more → AreFuncs u functions whole (codes ++ more)

pub gathered_first : (functions : List Name) (now : List Node) (whole : List Tree.Func) → Gathered functions now whole whole []
gathered_first functions now whole = record { continues = λ u g more h. h }

pub gathered_next : (functions : List Name) (now new : List Node) (whole rest : List Tree.Func) (f : Tree.Func) (c : Function) (codes found : List Function) → Gathered functions now whole (f ∷ rest) codes → Grown now new → IsFunc new functions f c → found ≡ codes ++ c ∷ [] → Gathered functions new whole rest found
gathered_next functions now new whole rest f c codes found w g h e = record {
  continues = λ u k more q.
      subst (λ v. AreFuncs u functions whole v) (sym (ap (λ v. v ++ more) e ∙ append_assoc codes (c ∷ []) more))
      (w.continues u (grown_trans now new u g k) (c ∷ more) (func_kept new u functions f c k h, q));
}

pub gathered_end : (functions : List Name) (now : List Node) (whole : List Tree.Func) (codes : List Function) → Gathered functions now whole [] codes → AreFuncs now functions whole codes
gathered_end functions now whole codes w = subst (λ v. AreFuncs now functions whole v) (append-nil codes) (w.continues now (grown_same now) [] tt)

-- the table of a program, from its functions and the number of `main`
pub table_made : (p : RustProgram) (fs : List Func) (t : Table) → fs ≡ p.funcs.items → AreFuncs t.nodes (func_names fs) (funcs_tree fs) t.funcs → IsSlot (func_names fs) t.main main_name → IsTableOf (program_tree p) t
table_made p fs t same funcs main = record {
  functions =
      subst (λ names. AreFuncs t.nodes names (funcs_tree p.funcs.items) t.funcs) (names_are p.funcs.items)
      (subst (λ (gs : List Func). AreFuncs t.nodes (func_names gs) (funcs_tree gs) t.funcs) same funcs);
  main =
      subst (λ names. IsSlot names t.main main_name) (names_are p.funcs.items)
      (subst (λ (gs : List Func). IsSlot (func_names gs) t.main main_name) same main);
}

-- a function, from its parts
pub func_made : (functions : List Name) (f : Func) (start new : List Node) (fs ns : List Name) (slots : ℕ) (ps : List Param) (bs : List Stmt) (params body : List ℕ) (ret : Option Ret)
    → fs ≡ functions → ns ≡ slot_names (func_tree f) → ps ≡ f.params.items → bs ≡ f.body.items
    → slots ≡ length ns → AreSlots ns params (param_names (params_tree ps)) → IsReturn ns ret (ret_tree f.ret)
    → Grown start new × IsBody new fs ns (body_tree bs) (length start) body
    → Grown start new × IsFunc new functions (func_tree f) (record { slots = slots; params = params; body = body; ret = ret })
func_made functions f start new fs ns slots ps bs params body ret ef en ep eb count p r g =
    let low = body_kept fs ns new new (body_tree bs) (length start) 0 body (omega arith) (keeps_grown (length start) new new (grown_same new)) g.1 in (
      g.0,
      record {
        slots = count ∙ ap length en;
        params = subst (λ (v : List Name). AreSlots v params (param_names (params_tree f.params.items))) en (subst (λ (v : List Param). AreSlots ns params (param_names (params_tree v))) ep p);
        body =
            subst (λ (v : List Name). IsBody new v (slot_names (func_tree f)) (body_tree f.body.items) 0 body) ef
            (subst (λ (v : List Name). IsBody new fs v (body_tree f.body.items) 0 body) en
            (subst (λ (v : List Stmt). IsBody new fs ns (body_tree v) 0 body) eb low));
        ret = subst (λ (v : List Name). IsReturn v ret (ret_tree f.ret)) en r;
      },
    )
