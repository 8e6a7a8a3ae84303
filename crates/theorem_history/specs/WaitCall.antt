-- What the wait call answers for a text (rule 5.8).
-- Assumes nothing.
use Rattle.std.specs.Prelude.{◌≡◌, List, ℕ, drop}
use Rattle.wait.specs.Answers.{spelled, wait_refusal, wait_output}

-- it is taken, the first 8 bytes that it leaves spell `clocks`, and the next 8 `longest`
pub record WaitAnswered (text : List ℕ) (m s clocks longest : ℕ) (out : List ℕ) : Type 0 where
  pub number : wait_refusal text m s out ≡ 0
  pub wait : spelled (wait_output text m s out) ≡ clocks
  pub serve : spelled (drop 8 (wait_output text m s out)) ≡ longest
