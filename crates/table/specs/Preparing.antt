-- What the table program has read, and the page that it is to print of it.
-- Assumes nothing.
use Rattle.std.specs.Prelude.{List, ◌⊎◌, ◌≢◌, ◌≡◌, ℕ, ◌<◌, length, take, MatchResult}
use Rattle.io.specs.Counts.{IsPrefixLen}
use Rattle.program_streams.specs.Reading.{Answer, gathered, ended, standing, Says}
use Rattle.program_streams.specs.declared.Outcome.TheVariants.{Failed}
use Rattle.description.specs.Reader.{most_bytes}
use Rattle.wait_table.specs.Tables.{printed}
use Rattle.table.specs.declared.Prepared.{Prepared}

-- Where no read failed, the input was read to its end, or over the length at which a text is refused by its length alone, and the
-- page is the one of all that the reads gave.
pub record Whole (answers : List Answer) (page : List ℕ) (n : ℕ) : Type 0 where
  pub all : (standing answers ≡ ended) ⊎ (most_bytes < length (gathered answers))
  pub front : take n page ≡ printed (gathered answers)

-- r tells of a reading into `text` and of the page made of it, or of the error with which it failed, as `Says` has it. An input that
-- was read to its end has not failed.
pub record Reads (text page : List ℕ) (r : Prepared) : Type 0 where
  pub answers : List Answer
  pub bytes : take r.read text ≡ gathered answers
  pub made :
      MatchResult
      r.page
      (λ n. Whole answers page n × IsPrefixLen n page)
      (λ error. (standing answers ≢ ended) × Says (Failed error) (standing answers) (length answers) r.read (length text))
  pub kept : IsPrefixLen r.read text
