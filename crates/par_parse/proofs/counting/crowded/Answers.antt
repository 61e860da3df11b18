use Rattle.std.proofs.Common.{sym, ◌∙◌, arith}
use Rattle.par_text.specs.Counts.{crowded}
use Rattle.par_lex.specs.Words.{words, word_of}
use Rattle.par_parse.specs.Counting.{counts_of}
use Rattle.par_parse.proofs.CountingLemmas.{words-cons, words-end, crowded-here, crowded-later, crowded-end, allows_more}
use Rattle.par_parse.proofs.counting.crowded.Goals as goal

pub returns-then-is_too_many : goal.returns-then-is_too_many
returns-then-is_too_many c = λ text.
    crowded-here c.tokens.index (counts_of c.tokens.before) (counts_of c.after-before.result) (word_of text c.in-Some.first.now) (words text c.tokens.rest.now) (words text c.in-Some.behind.now) (crowded (words text c.args.lexemes.now))
    (words-cons text c.tokens.rest.now c.in-Some.first.now c.in-Some.behind.now c.in-Some.ensures.cases.0) c.after-before.ensures (sym c.is_too_many.ensures ∙ c.if-is_too_many.true) (c.tokens.invariant.so_far text)

pub tokens-preserved : goal.tokens-preserved
tokens-preserved c = record {
  count = omega (arith, c.in-Some.ensures.cases.1, c.tokens.invariant.count);
  allows = allows_more (counts_of c.after-before.result) (sym c.is_too_many.ensures ∙ c.if-is_too_many.false);
  so_far = λ text.
      crowded-later c.tokens.index (counts_of c.tokens.before) (counts_of c.after-before.result) (word_of text c.in-Some.first.now) (words text c.tokens.rest.now) (words text c.in-Some.behind.now) (crowded (words text c.args.lexemes.now))
      (words-cons text c.tokens.rest.now c.in-Some.first.now c.in-Some.behind.now c.in-Some.ensures.cases.0) c.after-before.ensures (sym c.is_too_many.ensures ∙ c.if-is_too_many.false) (c.tokens.invariant.so_far text);
}

pub returns : goal.returns
returns c = λ text.
    crowded-end c.tokens.index (counts_of c.tokens.before) (words text c.tokens.rest.now) (crowded (words text c.args.lexemes.now)) (words-end text c.tokens.rest.now c.in_default.ensures.cases) (c.tokens.invariant.so_far text)
