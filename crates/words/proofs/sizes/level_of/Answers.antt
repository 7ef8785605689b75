-- `words::sizes::level_of` meets its contract. Each count of words has its level, and any other none. Assumes nothing.
use Rattle.std.proofs.Common.{arith}
use Rattle.words.specs.Sizes.{words}
use Rattle.words.proofs.Levels.{level-found, level-missing}
use Rattle.words.proofs.sizes.level_of.Goals as goal

pub returns-then-n-eq-WORDS : goal.returns-then-n-eq-WORDS
unfolding words
returns-then-n-eq-WORDS c = level-found 2 c.if-n-eq-WORDS.true (omega arith)

pub returns-then-n-eq-WORDS-2 : goal.returns-then-n-eq-WORDS-2
unfolding words
returns-then-n-eq-WORDS-2 c = level-found 3 c.if-n-eq-WORDS-2.true (omega arith)

pub returns-in-1 : goal.returns-in-1
unfolding words
returns-in-1 c = level-found 0 c.in-1.is (omega arith)

pub returns-in-17 : goal.returns-in-17
unfolding words
returns-in-17 c = level-found 1 c.in-17.is (omega arith)

pub returns-in-69905 : goal.returns-in-69905
unfolding words
returns-in-69905 c = level-found 4 c.in-69905.is (omega arith)

pub returns-in-1118481 : goal.returns-in-1118481
unfolding words
returns-in-1118481 c = level-found 5 c.in-1118481.is (omega arith)

pub returns-in-17895697 : goal.returns-in-17895697
unfolding words
returns-in-17895697 c = level-found 6 c.in-17895697.is (omega arith)

pub returns-in_default : goal.returns-in_default
returns-in_default c = level-missing _ (λ e. omega arith) (λ e. omega arith) (λ e. omega arith) (λ e. omega arith) (λ e. omega arith) (λ e. omega arith) (λ e. omega arith)

pub returns-then-n-lt-WORDS-2 : goal.returns-then-n-lt-WORDS-2
returns-then-n-lt-WORDS-2 c = level-missing _ (λ e. omega arith) (λ e. omega arith) (λ e. omega arith) (λ e. omega arith) (λ e. omega arith) (λ e. omega arith) (λ e. omega arith)

pub returns-in_default-n : goal.returns-in_default-n
returns-in_default-n c = level-missing _ (λ e. omega arith) (λ e. omega arith) (λ e. omega arith) (λ e. omega arith) (λ e. omega arith) (λ e. omega arith) (λ e. omega arith)
