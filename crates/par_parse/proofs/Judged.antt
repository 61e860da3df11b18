-- Bytes have one verdict, so the answer is it.
use Rattle.std.proofs.Common.{◌≡◌, ℕ, List, Result, Ok, Err, ap}
use Rattle.par_tree.specs.Tree.{Program}
use Rattle.par_tree.specs.View.{program_tree}
use Rattle.par_tree.specs.declared.program.Program.{Program as RustProgram}
use Rattle.par_text.specs.declared.syntax_error.SyntaxError.{SyntaxError}
use Rattle.par_text.specs.Judging.{IsText, IsRefused, Verdict, tree, refusal}
use Rattle.par_text.proofs.Verdicts.{one_verdict}
use Rattle.par_lex.specs.declared.parse_fail.ParseFail.{ParseFail}
use Rattle.par_lex.specs.declared.parse_fail.ParseFail.TheVariants.{Refused, OutOfMemory}
use Rattle.par_parse.specs.Answers.{IsTreeOrMemory, IsRefusalOrMemory, IsJudged}

abbrev tree_or : Program → Verdict → Program
tree_or p (tree q) = q
tree_or p (refusal e) = p

abbrev error_or : SyntaxError → Verdict → SyntaxError
error_or e (tree q) = e
error_or e (refusal g) = g

apart : (p : Program) (e : SyntaxError) → tree p ≡ refusal e → ⊥
apart p e h = cc

pub one_tree : (result : Result RustProgram ParseFail) (text : List ℕ) → IsJudged result text → (p : Program) → IsText text p → IsTreeOrMemory result p
one_tree (Ok q) text h p t = ap (tree_or p) (one_verdict text (tree (program_tree q)) (tree p) h t)
one_tree (Err OutOfMemory) text h p t = tt
one_tree (Err (Refused e)) text h p t = apart p e (one_verdict text (tree p) (refusal e) t h)

pub one_refusal : (result : Result RustProgram ParseFail) (text : List ℕ) → IsJudged result text → (e : SyntaxError) → IsRefused text e → IsRefusalOrMemory result e
one_refusal (Ok q) text h e r = apart (program_tree q) e (one_verdict text (tree (program_tree q)) (refusal e) h r)
one_refusal (Err OutOfMemory) text h e r = tt
one_refusal (Err (Refused g)) text h e r = ap (error_or e) (one_verdict text (refusal g) (refusal e) h r)
