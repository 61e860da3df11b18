-- No pair of parentheses of a canonical text can be left out.
use Rattle.std.proofs.Common.{ℕ, ◌≤◌, List, ◌++◌, ap, arith}
use Rattle.std.specs.Prelude.{codes}
use Rattle.par_tree.specs.Tree.{Program}
use Rattle.par_text.specs.Text.{program_spelling}
use Rattle.par_text.specs.Judging.{IsText}
use Rattle.canonical_text.specs.Canonical.{canonical}
use Rattle.canonical_text.specs.Laws.{LinesDoNotMatter}
use Rattle.canonical_text.specs.ParenthesisLaws.{ParenthesesAreNeeded}
use Rattle.canonical_text.proofs.Openings.{opened, opened-append}
use Rattle.canonical_text.proofs.Weights.{weight-tokens, tokens_weight}
use Rattle.canonical_text.proofs.ParenthesisFunctions.{program_weighs}
use Rattle.canonical_text.proofs.Lexing.{text_weighs}

-- a text has at least as many `(` as the canonical text of its tree
no_fewer : (text : List ℕ) (p : Program) → IsText text p → opened (canonical p) ≤ opened text
no_fewer text p t =
    let size = t.parsed.size in
    let form = t.parsed.form in
    let tree = program_weighs size form in
    let marks = weight-tokens (program_spelling size form) in
    let same = ap tokens_weight t.parsed.spelled in
    let bytes = text_weighs text t.tokens t.lexed in
    let means = ap (λ (x : Program). opened (canonical x)) t.parsed.means in
    omega (arith, tree, marks, same, bytes, means)

pub parentheses : LinesDoNotMatter → ParenthesesAreNeeded
parentheses lines p q before inside behind is text same =
    let least = no_fewer (before ++ inside ++ behind) q text in
    let bare = ap opened (lines q p same) in
    let whole = ap opened is in
    let a = opened-append (before ++ codes "(" ++ inside ++ codes ")") behind in
    let b = opened-append (before ++ codes "(" ++ inside) (codes ")") in
    let c = opened-append (before ++ codes "(") inside in
    let d = opened-append before (codes "(") in
    let e = opened-append (before ++ inside) behind in
    let f = opened-append before inside in
    omega (arith, least, bare, whole, a, b, c, d, e, f)
